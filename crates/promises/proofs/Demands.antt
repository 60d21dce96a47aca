-- THE THREE DEMANDS, of the definitions that the contracts cite. What each rests on stands in the modules that it
-- names.
use Rattle.std.specs.Prelude.{Ok, Err}
use mathlib.Core.Path.{◌≡◌, refl, ap}
use mathlib.Core.Bool.{Bool}
use mathlib.Core.Logic.{◌⊎◌, inl, inr, ⊎_elim}
use mathlib.Core.List.{List, [], ◌∷◌, ◌++◌}
use Prim.Native.Nat.{ℕ, ◌+◌, ◌-◌, ◌*◌, ◌≤◌, ◌<◌}
use lib.Dec.{T, lit<}
use lib.IntN.{pos}
use lib.ListN.{length}
use lib.Ieee as Ieee
use Rattle.types.specs.Answers.{HeaderAnswer}
use Rattle.types.specs.Counters.{no_places}
use Rattle.types.specs.Ways.{unnamed_way}
use Rattle.types.specs.declared.Way.{Way}
use Rattle.types.specs.declared.Way.TheVariants as W
use Rattle.types.specs.declared.Place.{Place}
use Rattle.types.specs.declared.Places.{Places}
use Rattle.types.specs.declared.Atom.{Atom}
use Rattle.types.specs.declared.Budget.{Budget}
use Rattle.types.specs.declared.Kind.{Kind}
use Rattle.types.specs.declared.Kind.TheVariants as K
use Rattle.types.specs.declared.Integer.{Integer}
use Rattle.types.specs.declared.Float.{Float}
use Rattle.types.specs.declared.Refusal.{Refusal}
use Rattle.types.specs.declared.Refusal.TheVariants as R
use Rattle.types.specs.declared.TallyAnswer.TheVariants as TA
use Rattle.header.specs.Header.{header_read, header_length}
use Rattle.binary.specs.Formats.{half, single, double}
use Rattle.binary.proofs.Values.{of_bits_means}
use Rattle.binary.proofs.Widths.{half-single, single-double}
use Rattle.binary.proofs.Laws.{widened_keeps, widened-nan}
use Rattle.atom.specs.Atoms.{atom_read, atom_scratch}
use Rattle.dictionary.specs.Runs.{run_all, tally_all, most_bytes}
use Rattle.dictionary.specs.Wholes.{Atoms, total, price, body_bytes, letters_in, places_at, last_from, last_places}
use Rattle.dictionary.specs.Prices.{priced, Passing, asked, Barred, Made, Broken}
use Rattle.dictionary.proofs.Price as Price
use Rattle.shortest.specs.Meanings.{Meant, meanings, Bytes, AllProper}
use Rattle.shortest.specs.Forms.{Accepted, shortest_atoms, joined}
use Rattle.shortest.specs.Checks.{check_all}
use Rattle.shortest.proofs.Lists as Lists
use Rattle.promises.specs.Told.{Told, told, refused, places_told, told_atom, told_ran, told_tally, told_narrowed16}
use Rattle.promises.specs.Told.{told_checked, told_narrowed32}
use Rattle.promises.specs.Held.{copied}
use Rattle.promises.specs.Rows.{Row, Good, room_of, taking}
use Rattle.promises.specs.Entries.{KindRows, SpecialRows, HeaderRows, SignatureRows, BudgetRows, IntegerRows}
use Rattle.promises.specs.Entries.{FloatRows, StringRows, RawRows, WriterRows, HeldRows, LengthRows}
use Rattle.promises.specs.Casts.{EveryCast, WholeFloatRows, IntegralRows, NarrowedRows, IntegerZeroRows}
use Rattle.promises.specs.Casts.{FloatZeroRows, EqualIntegerRows, EqualFloatRows}
use Rattle.promises.specs.Floats.{Ieee754}
use Rattle.promises.specs.Runs.{RunRow}
use Rattle.promises.specs.Placed.{Stands, between, earlier, moved, Chain, AnyWay, exactly, Each, Level, Ahead}
use Rattle.promises.specs.Values.{Value, written, room_for, ReadBack}
use Rattle.promises.specs.Deliveries.{CheckRow, written_all, meant_all, AllStorable, AllWritable}
use Rattle.promises.specs.Migration.{AtomChanges, HeaderChanges, SignatureChanges, TrimmedReads}
use Rattle.promises.proofs.Demand1 as Demand1
use Rattle.promises.proofs.Entries as Entries
use Rattle.promises.proofs.Runs as Runs
use Rattle.promises.proofs.Stands as Stands
use Rattle.promises.proofs.Alone as Alone
use Rattle.promises.proofs.Demand2 as Demand2
use Rattle.promises.proofs.Deliveries as Deliveries
use Rattle.promises.proofs.Migration as Migration
use Rattle.promises.proofs.Trimmed as Trimmed
use Rattle.promises.proofs.IntegerCasts as IntegerCasts
use Rattle.promises.proofs.Integrals as Integrals
use Rattle.promises.proofs.FloatCasts as FloatCasts
use Rattle.promises.proofs.Compared as Compared

-- 1: AN ATOM IS READ, OR REFUSED BY A ROW of document 01's table, by its number, with the place, the budget and the
-- scratch that the row says; if it is read, with its three places and what its bytes hold.
pub demand1 : (way : Way) (s : List ℕ) (place : ℕ) (budget : Budget) (scratch : List ℕ) →
    Row way s place budget scratch (header_read way s place)
    (told_atom (atom_read way s place budget scratch)) (atom_scratch way s place budget scratch)
demand1 = Demand1.by_the_table

-- At most one row fits: the table leaves one answer and one scratch.
pub demand1_one : {way : Way} {s : List ℕ} {place : ℕ} {budget : Budget} {scratch : List ℕ}
    {header : HeaderAnswer}
    {a b : Told} {t u : List ℕ} →
    Row way s place budget scratch header a t →
    Row way s place budget scratch header b u →
    (a ≡ b) × (t ≡ u)
demand1_one = Demand1.one_row

-- Bad input is refused: what is read has a header, and is good past it;
pub demand1_bad : (way : Way) (s : List ℕ) (place : ℕ) (budget : Budget) (scratch : List ℕ) →
    (told_atom (atom_read way s place budget scratch)).number ≡ 0 →
    (next : Place) × (kind : Kind) × (arg : ℕ)
    × (header_read way s place ≡ Ok (next, kind, arg)) × Good way s budget scratch next kind arg
demand1_bad way s place budget scratch e = Demand1.good_row (demand1 way s place budget scratch) e

-- and nothing else is: what is good past its header is read.
pub demand1_good : (way : Way) (s : List ℕ) (place : ℕ) (budget : Budget) (scratch : List ℕ) (next : Place)
    (kind : Kind) (arg : ℕ) →
    header_read way s place ≡ Ok (next, kind, arg) →
    Good way s budget scratch next kind arg →
    (told_atom (atom_read way s place budget scratch) ≡ taking way s place next budget kind arg)
    × (atom_scratch way s place budget scratch ≡ copied s next.0 (room_of way kind arg) scratch)
demand1_good way s place budget scratch next kind arg e g =
    Demand1.good_read e (demand1 way s place budget scratch) g

-- THE OTHER ENTRIES, each by its rows.
pub demand1_kind : (code : ℕ) → KindRows code
demand1_kind = Entries.kinds

pub demand1_special : (arg : ℕ) → SpecialRows arg
demand1_special = Entries.specials

pub demand1_header : (way : Way) (s : List ℕ) (place : ℕ) → HeaderRows way s place
demand1_header = Entries.headers

pub demand1_signature : (way : Way) (s : List ℕ) (place : ℕ) → SignatureRows way s place
demand1_signature = Entries.signatures

pub demand1_budget : (budget : Budget) (charge : ℕ) → BudgetRows budget charge
demand1_budget = Entries.budgets

pub demand1_integer : (way : Way) (s : List ℕ) (place : ℕ) (kind : Kind) (count : ℕ) →
    IntegerRows way s place kind count
demand1_integer = Entries.integers

pub demand1_float : (way : Way) (s : List ℕ) (place : ℕ) (kind : Kind) (count : ℕ) →
    FloatRows way s place kind count
demand1_float = Entries.floats

pub demand1_string : (way : Way) (s : List ℕ) (place n : ℕ) (scratch : List ℕ) →
    StringRows way s place n scratch
demand1_string = Entries.strings

pub demand1_raw : (way : Way) (s : List ℕ) (place : ℕ) (buffer : List ℕ) → RawRows way s place buffer
demand1_raw = Entries.raws

pub demand1_writer : (bytes old : List ℕ) → WriterRows bytes old
demand1_writer = Entries.writers

pub demand1_held : (held : Bool) (bytes old : List ℕ) → HeldRows held bytes old
demand1_held = Entries.helds

pub demand1_length : (s : List ℕ) → LengthRows s
demand1_length = Entries.lengths

-- THE RUN, of every file and every budget, has a row of its own,
pub demand1_run : (s : List ℕ) (budget : Budget) → RunRow s budget.0 (told_ran (run_all s budget))
demand1_run s budget = Runs.every_run s budget.0

-- and the row that fits is its answer.
pub demand1_run_one : (s : List ℕ) (budget : Budget) {answer : Told} →
    RunRow s budget.0 answer →
    answer ≡ told_ran (run_all s budget)
demand1_run_one s budget = Runs.one_run s budget.0

-- What it stops by is the atom's own refusal: that of the atom there, read by itself with what is left of the budget.
pub demand1_run_atom : (s front rest : List ℕ) (left : ℕ) {why : Refusal} {past charge : ℕ} →
    s ≡ front ++ rest →
    Barred rest left why past charge →
    told_atom (atom_read W.ExactLent s (length front) (record { 0 = left }) [])
    ≡ refused (pos (length front + past) ∷ pos (left - charge) ∷ []) why
demand1_run_atom = Runs.barred_atom

-- THE PLACES OF AN ATOM (document 02, K1): every atom that is read stands where it says, whatever the way,
pub demand1_places : (way : Way) (s : List ℕ) (place : ℕ) (budget : Budget) (scratch : List ℕ) (after : Place)
    (left : Budget) (atom : Atom) →
    atom_read way s place budget scratch ≡ Ok (after, left, atom) →
    Stands way s place after atom
demand1_places = Stands.stands

-- its bytes read alone, from place 0, as the same atom moved by its first place,
pub demand1_alone : (way : Way) (s : List ℕ) (place : ℕ) (budget : Budget) (scratch : List ℕ) (after : Place)
    (left : Budget) (atom : Atom) →
    atom_read way s place budget scratch ≡ Ok (after, left, atom) →
    atom_read way (between s atom.places.first.0 atom.places.after.0) 0 budget scratch
    ≡ Ok (earlier atom.places.first.0 atom.places.after, left, moved atom.places.first.0 atom)
demand1_alone = Alone.alone

-- and of any chain of reads, each from the place after the one before, all three rise or stay level; under exact
-- reading the first place rises.
pub demand1_chain : {s : List ℕ} {place : ℕ} {places : List Places} →
    Chain AnyWay s place places →
    Each Level places
demand1_chain = Stands.rises

pub demand1_chain_exact : {s : List ℕ} {place : ℕ} {places : List Places} →
    Chain exactly s place places →
    Each Ahead places
demand1_chain_exact = Stands.rises_exactly

-- 2: WHAT WAS WRITTEN READS BACK as the value written, with the places where it stands: every value, every way,
-- anything before and after it, any budget of at least the price, any scratch with room.
pub demand2 : (way : Way) (before after : List ℕ) (budget : Budget) (scratch : List ℕ) (value : Value) →
    price (written value) ≤ budget.0 →
    room_for way value ≤ length scratch →
    ReadBack way before after budget scratch value
demand2 = Demand2.read_back

-- FLOATS ARE THOSE OF IEEE 754.
pub demand2_floats : Ieee754
demand2_floats = record {
  valued = of_bits_means;
  number_read = λ way s place count allowed there. (demand1_float way s place K.Float count).taken refl allowed there;
  atom_read_row = λ way s place budget scratch next arg header good.
      (demand1_good way s place budget scratch next K.Float arg header good).0;
  widens_half = widened_keeps half-single;
  widens_single = widened_keeps single-double;
  nan-half = λ bits s t e. widened-nan half single bits s t (lit< tt) e;
  nan-single = λ bits s t e. widened-nan single double bits s t (lit< tt) e;
  narrows_single = FloatCasts.narrowing_rows single half (λ n. told_narrowed16 (n)) (λ q. refl) refl;
  narrows_double = FloatCasts.narrowing_rows double single (λ n. told_narrowed32 (n)) (λ q. refl) refl;
  whole = FloatCasts.whole_floats;
}

-- THE CASTS, the tests for zero and the equalities, by document 01's words.
pub demand2_casts : EveryCast
demand2_casts = IntegerCasts.every_cast

pub demand2_whole_floats : (x : Integer) → WholeFloatRows x
demand2_whole_floats = FloatCasts.whole_floats

pub demand2_integrals : (x : Float) → IntegralRows x
demand2_integrals = Integrals.integral_rows

pub demand2_narrowed : (x : Ieee.Float) → T (Ieee.fits Ieee.binary64 x) → NarrowedRows x
demand2_narrowed = FloatCasts.narrowed_rows

pub demand2_integer_zero : (x : Integer) → IntegerZeroRows x
demand2_integer_zero = Compared.integer_zeros

pub demand2_float_zero : (x : Float) → FloatZeroRows x
demand2_float_zero = Compared.float_zeros

pub demand2_equal_integers : (a b : Integer) → EqualIntegerRows a b
demand2_equal_integers = Compared.equal_integers_lem

pub demand2_equal_floats : (a b : Float) → EqualFloatRows a b
demand2_equal_floats = Compared.equal_floats_lem

-- 3: THE PRICE OF A FILE IS EXACT. Of whole, known atoms whose charges sum to C:
pub record Priced (s : List ℕ) (atoms : List (List ℕ)) : Type 0 where
  -- the tally reports the places of the last atom, the atoms, their body bytes, C and their letters
  pub reported : length s ≤ most_bytes →
      told_tally (tally_all s)
      ≡ told 0
      (places_told (last_places atoms)
      (pos (length atoms) ∷ pos (total body_bytes atoms) ∷ pos (total price atoms) ∷
      pos (total letters_in atoms) ∷ []))
  -- any budget of at least C reads all and leaves the budget less C
  pub afforded : (budget : ℕ) → total price atoms ≤ budget →
      told_ran (run_all s (record { 0 = budget }))
      ≡ told 0
      (pos (length s) ∷ pos (budget - total price atoms) ∷ pos (length atoms) ∷
      places_told (last_places atoms) [])
  -- a smaller one is refused with 5 at the first atom whose running sum passes it: past its header, with the budget
  -- less the charges of the atoms before it, their number, the places of the last of them, and where it starts
  pub refused_at : (budget : ℕ) → budget < total price atoms →
      (p : Passing budget atoms) × (told_ran (run_all s (record { 0 = budget }))
      ≡ told 5
      (pos (total length p.before + header_length p.atom) ∷ pos (budget - total price p.before)
      ∷ pos (length p.before) ∷ places_told (last_places p.before) (pos (total length p.before) ∷ [])))
  -- atoms never outnumber bytes
  pub atoms_bound : length atoms ≤ length s
  -- 3C is at most 4 times the body bytes
  pub charge_bound : 3 * total price atoms ≤ 4 * total body_bytes atoms

pub demand3 : (s : List ℕ) (atoms : List (List ℕ)) → Atoms s atoms → Priced s atoms
demand3 s atoms w = record {
  reported = λ short. ap told_tally (Price.tally_priced s atoms short w);
  afforded = λ budget enough. ap told_ran (Price.run_priced s atoms budget w enough);
  refused_at = λ budget few. let r = Price.run_short s atoms budget w few in (r.0, ap told_ran r.1);
  atoms_bound = Price.atoms_most w;
  charge_bound = Price.price_body atoms;
}

-- Where the last of them stands: after all that stand before it, "its first place, the place where its body starts and
-- the place after it"; "all 0 if there was none".
pub demand3_last : (before : List (List ℕ)) (atom : List ℕ) →
    last_places (before ++ (atom ∷ [])) ≡ places_at (total length before) atom
demand3_last = Price.last_is_last

pub demand3_no_last : last_places [] ≡ no_places
unfolding last_from
demand3_no_last = refl

-- Every other file is refused at the first atom that is not whole or not known, with the places of the last atom before
-- it, its own refusal and where it starts: by the tally, and by a run whose budget suffices for what is asked up to
-- there.
pub record Stopped (s : List ℕ) (broken : Broken s) : Type 0 where
  pub reported : length s ≤ most_bytes →
      told_tally (tally_all s)
      ≡ refused (places_told (last_places broken.atoms) (pos (length broken.front_bytes) ∷ [])) broken.why
  pub afforded : (budget : ℕ) → total price broken.atoms + asked broken.rest ≤ budget →
      (past : ℕ) × (charge : ℕ)
      × Barred broken.rest (budget - total price broken.atoms) broken.why past charge
      × (told_ran (run_all s (record { 0 = budget }))
      ≡ refused
      (pos (length broken.front_bytes + past) ∷ pos (budget - total price broken.atoms - charge)
      ∷ pos (length broken.atoms)
      ∷ places_told (last_places broken.atoms) (pos (length broken.front_bytes) ∷ [])) broken.why)

pub demand3_otherwise : (s : List ℕ) → Made s ⊎ ((broken : Broken s) × Stopped s broken)
demand3_otherwise s = ⊎_elim inl (λ broken. inr (broken, stops broken)) (Price.judged s)
  where
    stops : (broken : Broken s) → Stopped s broken
    stops broken = record {
      reported = λ short. ap told_tally (Price.tally_broken s broken short);
      afforded = λ budget enough. Runs.broken_run s broken budget enough;
    }

-- DELIVERIES IN SHORTEST FORM (document 02, K3). Every list has its row of the check: accepted, or refused at the
-- first atom that is not whole, not known or not in shortest form, by 3, 4 or 6, and only then 11, with the place where
-- that atom starts;
pub shortest_check : (s : List ℕ) → CheckRow s (told_checked (check_all s))
shortest_check = Deliveries.every_check

-- and the row that fits is its answer.
pub shortest_check_one : (s : List ℕ) {answer : Told} → CheckRow s answer → answer ≡ told_checked (check_all s)
shortest_check_one = Deliveries.one_check

-- What is accepted, the tally counts; what is refused by 3, 4 or 6, it refuses alike, at the same place.
pub shortest_tally : (s : List ℕ) → length s ≤ most_bytes → check_all s ≡ Ok tt →
    (atoms : List (List ℕ)) × (tally_all s ≡ TA.Done (last_places atoms) (priced atoms))
shortest_tally = Deliveries.accepted_tally

pub shortest_tally_refused : (s : List ℕ) → length s ≤ most_bytes → (why : Refusal) (start : Place) →
    check_all s ≡ Err (why, start) →
    (why ≡ R.NotShortest → ⊥) →
    (last : Places) × (tally_all s ≡ TA.Stopped last why start)
shortest_tally_refused = Deliveries.refused_tally

-- Bytes are a list of whole, known atoms in at most one way, so that a list of bytes has one list of meanings.
pub shortest_way : {s : List ℕ} {atoms others : List (List ℕ)} →
    Atoms s atoms →
    Atoms s others →
    atoms ≡ others
shortest_way = Lists.one_way

-- ONE FORM FOR EACH MEANING: two accepted lists with equal meanings have equal bytes.
pub shortest_one : {s t : List ℕ} {atoms others : List (List ℕ)} →
    Accepted s atoms →
    Accepted t others →
    Bytes s →
    Bytes t →
    meanings atoms ≡ meanings others →
    s ≡ t
shortest_one = Lists.one_form

-- EACH MEANING HAS ONE: the shortest bytes of a list of meanings are accepted, and have those meanings;
pub shortest_each : {ms : List Meant} →
    AllProper ms →
    Accepted (joined (shortest_atoms ms)) (shortest_atoms ms)
    × (meanings (shortest_atoms ms) ≡ ms)
    × Bytes (joined (shortest_atoms ms))
shortest_each ps = (Lists.each_accepted ps, Lists.each_means ps, Lists.each_bytes ps)

-- and back: an accepted list has such meanings, and is their shortest bytes. So the two are the same thing, both ways.
pub shortest_back : {s : List ℕ} {atoms : List (List ℕ)} →
    Accepted s atoms →
    Bytes s →
    AllProper (meanings atoms) × (shortest_atoms (meanings atoms) ≡ atoms) × (joined atoms ≡ s)
shortest_back a B = (Lists.list_proper a.wholes B, Lists.accepted_is a B, Lists.atoms-joined a.wholes)

-- NONE IS SHORTER: no accepted list is longer than another whole, known list with the same meanings.
pub shortest_least : {s t : List ℕ} {atoms others : List (List ℕ)} →
    Accepted s atoms →
    Atoms t others →
    Bytes s →
    Bytes t →
    meanings atoms ≡ meanings others →
    length s ≤ length t
shortest_least = Lists.none_shorter

-- WHAT OUR WRITERS OF VALUES WRITE IS ACCEPTED, each writer, every value, and lists of it, with the meanings of what
-- was given;
pub shortest_written : {vs : List Value} →
    AllStorable vs →
    Accepted (joined (written_all vs)) (written_all vs) × (meanings (written_all vs) ≡ meant_all vs)
shortest_written = Deliveries.written_accepted

-- and an accepted list is what our writers write, but for a NaN of 2 bytes.
pub shortest_writes : {s : List ℕ} {atoms : List (List ℕ)} →
    Accepted s atoms →
    Bytes s →
    AllWritable (meanings atoms) →
    (vs : List Value) × (written_all vs ≡ atoms)
shortest_writes = Deliveries.accepted_written

-- EXACT READING IS THE DEFAULT (document 02, K4): the entry that names no way reads exactly, strings lent.
pub default_way : unnamed_way ≡ W.ExactLent
default_way = refl

-- WHAT CHANGES FOR AN IMPORTER: where exact reading reads, filled reading reads the same; where filled reading reads
-- and exact refuses, it is by 4, and the source ends within that atom. So of an atom,
pub default_atom : (s : List ℕ) (place : ℕ) (budget : Budget) (scratch : List ℕ) →
    AtomChanges s place budget scratch
default_atom = Migration.atom_changes

-- of its header,
pub default_header : (s : List ℕ) (place : ℕ) → HeaderChanges s place
default_header = Migration.header_changes

-- and of a signature.
pub default_signature : (s : List ℕ) (place : ℕ) → SignatureChanges s place
default_signature = Migration.signature_changes

-- WHY IT NAMES FILLED READING: what exact reading reads of a file, filled reading reads of what is left of it when
-- zeros at its end were trimmed; a string has to be whole in what is left.
pub default_trimmed : (s : List ℕ) (zeros place : ℕ) → place ≤ length s → TrimmedReads s zeros place
default_trimmed = Trimmed.trimmed_reads
