-- A file whose trailing zeros were trimmed, read filled: `promises.Migration.TrimmedReads`. It rests on the laws of
-- zeros after a source, `header.Zeros` and `little.Zeros`, and goes over the definition of one atom, kind by kind.
use Rattle.std.specs.Prelude.{Result, Ok, Err}
use mathlib.Core.Path.{◌≡◌, refl, ◌∙◌, sym, ap}
use mathlib.Core.Bool.{Bool, true, false, false≢true}
use mathlib.Core.List.{List, [], ◌∷◌, ◌++◌}
use Prim.Native.Nat.{ℕ, zero, suc, ◌+◌, ◌%◌, ◌≤◌}
use native.Mathlib.Omega.{arith}
use lib.Dec.{ltb, leb}
use lib.ListN.{length, drop, replicate, drop_of_length-le, length-append}
use borrow.Author.Tests.{ltb-true, ltb-false}
use Rattle.types.proofs.Answers.{ok_two, ok_three}
use Rattle.types.specs.Answers.{AtomAnswer, HeaderAnswer, VersionAnswer}
use Rattle.types.specs.Choice.{pick}
use Rattle.types.specs.Counters.{place_in}
use Rattle.types.specs.Forms.{known, body_length, charge_of, is_string, unknown}
use Rattle.types.specs.declared.Way.TheVariants as W
use Rattle.types.specs.declared.Kind.{Kind}
use Rattle.types.specs.declared.Kind.TheVariants as K
use Rattle.types.specs.declared.Place.{Place}
use Rattle.types.specs.declared.Budget.{Budget}
use Rattle.types.specs.declared.Nucleus.{Nucleus}
use Rattle.types.specs.declared.Nucleus.TheVariants as N
use Rattle.types.specs.declared.Atom.{Atom}
use Rattle.types.specs.declared.Refusal.{Refusal}
use Rattle.types.specs.declared.Refusal.TheVariants as R
use Rattle.types.proofs.Counters.{place_same}
use Rattle.header.specs.Header.{header_read, header_kind, header_argument, header_length}
use Rattle.header.specs.Signature.{version_read, version_from, judged, big_endian, every_bit, signature}
use Rattle.header.proofs.Places.{header_place, header_place_lem}
use Rattle.header.proofs.Zeros.{kind_zeros, argument_zeros, length_zeros}
use Rattle.reader.specs.Strings.{start_of, lent_mark}
use Rattle.reader.proofs.Strings.{start_within, start_same, lent_read, lent_eof}
use Rattle.little.specs.Le.{number_at}
use Rattle.little.proofs.Zeros.{byte_zeros, number_zeros}
use Rattle.atom.specs.Charges.{budget_after}
use Rattle.atom.specs.Atoms.{atom_read, atom_from, atom_taken, bytes_atom, bytes_taken, body_taken, charged}
use Rattle.atom.specs.Atoms as Atoms
use Rattle.atom.proofs.Forward.{atom_place}
use Rattle.atom.proofs.Numbers.{NumberForm, integers, floats, number_taken, integer_taken_lem, float_taken_lem}
use Rattle.promises.specs.Entries.{onward, header_end}
use Rattle.promises.specs.Migration.{left_of, left_atom, TrimmedReads}
use Rattle.promises.proofs.Migration.{up_to_left, place_again, header_filled, header_exact}

-- the bytes from a place on, with zeros after them
onward_zeros : (s : List ℕ) (zeros place : ℕ) → place ≤ length s →
    drop place (s ++ replicate zeros 0) ≡ drop place s ++ replicate zeros 0
onward_zeros s zeros zero h = refl
onward_zeros [] zeros (suc place) h = absurd (omega arith)
onward_zeros (b ∷ s) zeros (suc place) h = onward_zeros s zeros place (omega arith)

-- a number from a place on, or from the end if that is past it: past the end there are no bytes
bits_left : (count : ℕ) (s : List ℕ) (place : ℕ) (t : Bool) → ltb (length s) place ≡ t →
    number_at count s (pick t (length s) place) ≡ number_at count s place
unfolding number_at
bits_left count s place true h =
    let past = ltb-true (length s) place h in
    rw (drop_of_length-le s {i = length s} (omega arith), drop_of_length-le s {i = place} (omega arith)) refl
bits_left count s place false h = refl

-- what is left of an answer
abbrev trimmed : List ℕ → AtomAnswer → AtomAnswer
trimmed s (Ok (after, left, atom)) = Ok (left_of s after, left, left_atom s atom)
trimmed s (Err (stop, left, why)) = Err (stop, left, why)

-- what is read is whole
read_whole : (t : Bool) (all : AtomAnswer) (end : Place) (rest : Budget) (p : Place) (b : Budget) (x : Atom) →
    pick t all (Err (end, rest, R.Eof)) ≡ Ok (p, b, x) → all ≡ Ok (p, b, x)
read_whole true all end rest p b x e = e
read_whole false all end rest p b x e = absurd (false≢true cc)

-- WHAT FOLLOWS A HEADER that ends at a place of the whole file, and in what is left at the same place or at the end
module _ (s : List ℕ) (zeros : ℕ) (scratch : List ℕ) (arg : ℕ) (first next : Place) (from : first.0 ≤ length s)
    (rest : Budget) where
  -- the answer of an atom with a number's bits
  abbrev built : NumberForm → Place → ℕ → ℕ → AtomAnswer
  built n start end bits =
      atom_taken n.kind arg start (left_of s next) rest (record { 0 = end })
      (n.nucleus (body_length n.kind arg) bits)

  same_first : first ≡ left_of s first
  same_first = ap (λ (n : ℕ). record { 0 = n }) (sym (place_same (length s) first.0 from))

  -- an atom that ends with its header
  header_left : (kind : Kind) (nucleus : Nucleus) →
      atom_taken kind arg first (left_of s next) rest (left_of s next) nucleus
      ≡ trimmed s (atom_taken kind arg first next rest next nucleus)
  header_left kind nucleus =
      ap (λ (f : Place). atom_taken kind arg f (left_of s next) rest (left_of s next) nucleus) same_first

  -- a number: the bytes that it lost are zeros
  number_left : (n : NumberForm) →
      number_taken n W.Filled s arg first (left_of s next) rest
      ≡ trimmed s
      (atom_taken n.kind arg first next rest (record { 0 = next.0 + body_length n.kind arg })
      (n.nucleus (body_length n.kind arg)
      (number_at (body_length n.kind arg) (s ++ replicate zeros 0) next.0)))
  number_left n =
      let count = body_length n.kind arg in
      let from_end = place_in (length s) next.0 in
      let end = place_in (length s) (next.0 + count) in
      let bits = number_at count s from_end in
      let all = number_at count (s ++ replicate zeros 0) next.0 in
      let same_bits : bits ≡ all =
      bits_left count s next.0 (ltb (length s) next.0) refl ∙ sym (number_zeros count s zeros next.0)
      in
      up_to_left (length s) (from_end + count) (λ e. built n first e bits) (Err (record { 0 = length s }, rest, R.Eof))
      ∙ ap (λ (e : ℕ). built n first e bits) (place_again (length s) next.0 count)
      ∙ ap (λ (b : ℕ). built n first end b) same_bits
      ∙ ap (λ (f : Place). built n f end all) same_first

  number_trimmed : (n : NumberForm) (all left : AtomAnswer) (p : Place) (b : Budget) (x : Atom) →
      all ≡ number_taken n W.ExactLent (s ++ replicate zeros 0) arg first next rest →
      left ≡ number_taken n W.Filled s arg first (left_of s next) rest → all ≡ Ok (p, b, x) →
      left ≡ trimmed s (Ok (p, b, x))
  number_trimmed n all left p b x f g e =
      g ∙ number_left n
      ∙ ap (trimmed s) (read_whole (leb (next.0 + body_length n.kind arg) (length (s ++ replicate zeros 0))) _ _ _ p b x
      (sym f ∙ e))

  -- a string that is whole in what is left
  string_trimmed : (p : Place) (b : Budget) (x : Atom) → next.0 ≤ length (s ++ replicate zeros 0) →
      bytes_taken W.ExactLent (s ++ replicate zeros 0) arg first next scratch rest ≡ Ok (p, b, x) →
      (is_string x.kind ≡ true → p.0 ≤ length s) →
      bytes_taken W.Filled s arg first (left_of s next) scratch rest ≡ trimmed s (Ok (p, b, x))
  string_trimmed p b x there e fits =
      by (ltb (length (s ++ replicate zeros 0)) (start_of (s ++ replicate zeros 0) next.0 + arg)) refl
    where
      by : (t : Bool) →
          ltb (length (s ++ replicate zeros 0)) (start_of (s ++ replicate zeros 0) next.0 + arg) ≡ t →
          bytes_taken W.Filled s arg first (left_of s next) scratch rest ≡ trimmed s (Ok (p, b, x))
      by true h =
          let out = ltb-true (length (s ++ replicate zeros 0)) _ h in
          let refused = lent_eof (s ++ replicate zeros 0) next.0 arg out in
          absurd (false≢true cc)
      by false h =
          let in_all = ltb-false (length (s ++ replicate zeros 0)) _ h in
          let read = lent_read (s ++ replicate zeros 0) next.0 arg in_all in
          let at = start_same (s ++ replicate zeros 0) next.0 there in
          let found : atom_taken K.Bytes arg first next rest (record { 0 = next.0 + arg })
          (N.Bytes (lent_mark next.0 arg)) ≡ Ok (p, b, x) = cc (read, at, e)
          in
          let string : x.kind ≡ K.Bytes = ap (λ (y : Atom). y.kind) (sym (ok_three found).2) in
          let short : next.0 + arg ≡ p.0 = ap atom_place found in
          let fit : p.0 ≤ length s = fits (ap is_string string) in
          let here : start_of s next.0 ≡ next.0 = start_same s next.0 (omega arith) in
          let again : start_of s (start_of s next.0) ≡ next.0 = rw (here, here) refl in
          let left-read = lent_read s (start_of s next.0) arg (rw again (omega arith)) in
          let end = place_same (length s) (next.0 + arg) (omega arith) in
          let taken : Place → ℕ → ℕ → AtomAnswer =
          λ f at end. atom_taken K.Bytes arg f (left_of s next) rest (record { 0 = end }) (N.Bytes (lent_mark at arg))
          in
          ap (bytes_atom arg first (left_of s next) rest) left-read
          ∙ ap (λ (at : ℕ). taken first at (at + arg)) again
          ∙ ap (λ (e : ℕ). taken first next.0 e) (sym end)
          ∙ ap (λ (f : Place). taken f next.0 (place_in (length s) (next.0 + arg))) same_first
          ∙ ap (trimmed s) found

  -- by its kind
  body_trimmed : (kind : Kind) (p : Place) (b : Budget) (x : Atom) → next.0 ≤ length (s ++ replicate zeros 0) →
      (is_string x.kind ≡ true → p.0 ≤ length s) →
      body_taken W.ExactLent (s ++ replicate zeros 0) kind arg first next scratch rest ≡ Ok (p, b, x) →
      body_taken W.Filled s kind arg first (left_of s next) scratch rest ≡ trimmed s (Ok (p, b, x))
  body_trimmed K.Special p b x there fits e = header_left K.Special _ ∙ ap (trimmed s) e
  body_trimmed K.Int p b x there fits e =
      number_trimmed (integers K.Int) _ _ p b x (integer_taken_lem W.ExactLent _ arg first next K.Int rest)
      (integer_taken_lem W.Filled s arg first (left_of s next) K.Int rest) e
  body_trimmed K.UInt p b x there fits e =
      number_trimmed (integers K.UInt) _ _ p b x (integer_taken_lem W.ExactLent _ arg first next K.UInt rest)
      (integer_taken_lem W.Filled s arg first (left_of s next) K.UInt rest) e
  body_trimmed K.Float p b x there fits e =
      number_trimmed floats _ _ p b x (float_taken_lem W.ExactLent _ arg first next rest)
      (float_taken_lem W.Filled s arg first (left_of s next) rest) e
  body_trimmed K.Sequence p b x there fits e = header_left K.Sequence _ ∙ ap (trimmed s) e
  body_trimmed K.Map p b x there fits e = header_left K.Map _ ∙ ap (trimmed s) e
  body_trimmed K.Symbol p b x there fits e = header_left K.Symbol _ ∙ ap (trimmed s) e
  body_trimmed K.Bytes p b x there fits e = string_trimmed p b x there e fits

-- the charge, and whether it is known, are the same
judged_trimmed : (next other : Place) (budget : Budget) (a : Result Budget Refusal) (k : Bool) (r : Refusal)
    (f g : Budget → AtomAnswer) (p : Place) (b : Budget) (x : Atom) (answer : AtomAnswer) →
    ((rest : Budget) → f rest ≡ Ok (p, b, x) → g rest ≡ answer) →
    charged next budget a (λ rest. pick k (f rest) (Err (next, rest, r))) ≡ Ok (p, b, x) →
    charged other budget a (λ rest. pick k (g rest) (Err (other, rest, r))) ≡ answer
judged_trimmed next other budget (Ok rest) true r f g p b x answer h e = h rest e
judged_trimmed next other budget (Ok rest) false r f g p b x answer h e = absurd (false≢true cc)
judged_trimmed next other budget (Err q) k r f g p b x answer h e = absurd (false≢true cc)

-- THE HEADER before it, and so the atom
module _ (s : List ℕ) (zeros place : ℕ) (within : place ≤ length s) where
  more : length s ≤ length (s ++ replicate zeros 0)
  more = rw (length-append s (replicate zeros 0)) (omega arith)

  start_left : start_of s place ≡ place
  start_left = start_same s place within

  start_all : start_of (s ++ replicate zeros 0) place ≡ place
  start_all = start_same (s ++ replicate zeros 0) place (omega (arith, more))

  onward_left : onward (s ++ replicate zeros 0) place ≡ onward s place ++ replicate zeros 0
  onward_left = rw (start_all, start_left) (onward_zeros s zeros place within)

  header_left_of : (next : Place) (kind : Kind) (arg : ℕ) →
      header_read W.ExactLent (s ++ replicate zeros 0) place ≡ Ok (next, kind, arg) →
      header_read W.Filled s place ≡ Ok (left_of s next, kind, arg)
  header_left_of next kind arg e =
      let h = header_exact (s ++ replicate zeros 0) place next kind arg e in
      let l = onward s place in
      let same_kind : kind ≡ header_kind l = h.1 ∙ ap header_kind onward_left ∙ kind_zeros l zeros in
      let same-arg : arg ≡ header_argument l = h.2 ∙ ap header_argument onward_left ∙ argument_zeros l zeros in
      let long : header_length (onward (s ++ replicate zeros 0) place) ≡ header_length l =
      ap header_length onward_left ∙ length_zeros l zeros
      in
      let same_end : next.0 ≡ header_end s place = h.0 ∙ rw (long, start_all, start_left) refl in
      header_filled s place ∙ rw (← same_kind, ← same-arg, ← same_end) refl

  module _ (budget : Budget) (scratch : List ℕ) (after : Place) (left : Budget) (atom : Atom)
      (fits : is_string atom.kind ≡ true → after.0 ≤ length s) where
    by_header : (h : HeaderAnswer) → header_read W.ExactLent (s ++ replicate zeros 0) place ≡ h →
        header_place h ≤ length (s ++ replicate zeros 0) →
        atom_from W.ExactLent (s ++ replicate zeros 0) (record { 0 = place }) budget scratch h
        ≡ Ok (after, left, atom) →
        atom_from W.Filled s (record { 0 = place }) budget scratch (header_read W.Filled s place)
        ≡ trimmed s (Ok (after, left, atom))
    unfolding Atoms.judged
    by_header (Ok (next, kind, arg)) h there e =
        ap (atom_from W.Filled s (record { 0 = place }) budget scratch) (header_left_of next kind arg h)
        ∙ judged_trimmed next (left_of s next) budget (budget_after budget (charge_of kind arg)) (known kind arg)
        (unknown kind arg)
        (body_taken W.ExactLent (s ++ replicate zeros 0) kind arg (record { 0 = place }) next scratch)
        (body_taken W.Filled s kind arg (record { 0 = place }) (left_of s next) scratch) after left atom _
        (λ rest. body_trimmed s zeros scratch arg (record { 0 = place }) next within rest kind after left atom there fits) e
    by_header (Err (stop, why)) h there e = absurd (false≢true cc)

    atom_trimmed : atom_read W.ExactLent (s ++ replicate zeros 0) place budget scratch ≡ Ok (after, left, atom) →
        atom_read W.Filled s place budget scratch ≡ trimmed s (Ok (after, left, atom))
    unfolding atom_read
    atom_trimmed e =
        let at_all = start_within (s ++ replicate zeros 0) place in
        let there = (header_place_lem W.ExactLent (s ++ replicate zeros 0) _ at_all).1 in
        ap (λ (n : ℕ). atom_from W.Filled s (record { 0 = n }) budget scratch (header_read W.Filled s place)) start_left
        ∙ by_header (header_read W.ExactLent (s ++ replicate zeros 0) place) refl there
        (ap
        (λ (n : ℕ). atom_from W.ExactLent (s ++ replicate zeros 0) (record { 0 = n }) budget scratch
        (header_read W.ExactLent (s ++ replicate zeros 0) place)) (sym start_all) ∙ e)

  -- a signature
  word_left : big_endian (drop place (s ++ replicate zeros 0)) ≡ big_endian (drop place s)
  unfolding big_endian
  word_left =
      let l = drop place s in
      rw (onward_zeros s zeros place within, byte_zeros l zeros 0, byte_zeros l zeros 1, byte_zeros l zeros 2, byte_zeros l zeros 3) refl

  judged_left : (t : Bool) (end : ℕ) (word : ℕ) (after : Place) (version : ℕ) →
      pick {X = VersionAnswer} t (judged word (record { 0 = end }))
      (Err (record { 0 = length (s ++ replicate zeros 0) }, R.Eof))
      ≡ Ok (after, version) →
      judged word (left_of s (record { 0 = end })) ≡ Ok (left_of s after, version)
  judged_left false end word after version e = absurd (false≢true cc)
  judged_left true end word after version e = taken (every_bit 32 signature word) e
    where
      taken : (t : Bool) →
          pick {X = VersionAnswer} t (Ok (record { 0 = end }, word % 256))
          (Err (record { 0 = end }, R.IncompatibleVersion))
          ≡ Ok (after, version) →
          pick {X = VersionAnswer} t (Ok (left_of s (record { 0 = end }), word % 256))
          (Err (left_of s (record { 0 = end }), R.IncompatibleVersion)) ≡ Ok (left_of s after, version)
      taken true f = let parts = ok_two f in cc (parts.0, parts.1)
      taken false f = absurd (false≢true cc)

  signature_trimmed : (after : Place) (version : ℕ) →
      version_read W.ExactLent (s ++ replicate zeros 0) place ≡ Ok (after, version) →
      version_read W.Filled s place ≡ Ok (left_of s after, version)
  unfolding version_from
  signature_trimmed after version e =
      rw start_left
      (up_to_left (length s) (place + 4) (λ p. judged (big_endian (drop place s)) (record { 0 = p }))
      (Err (record { 0 = length s }, R.Eof))
      ∙ judged_left (leb (place + 4) (length (s ++ replicate zeros 0))) (place + 4) (big_endian (drop place s)) after
      version (rw (start_all, word_left) at e))

  pub trimmed_reads : TrimmedReads s zeros place
  trimmed_reads = record {
    an_atom = λ budget scratch {after} {left} {atom} e fits. atom_trimmed budget scratch after left atom fits e;
    a_signature = λ {after} {version} e. signature_trimmed after version e;
  }
