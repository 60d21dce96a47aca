-- Deliveries in shortest form, for the promises of document 02, K3: every list has its row of the check; what our
-- writers of values write is the shortest bytes of what was given, and so accepted; and every accepted list is so
-- written, but for a NaN of 2 bytes. A refusal 3, 4 or 6 is the tally's own.
use Rattle.std.specs.Prelude.{Ok, Err}
use mathlib.Core.Path.{◌≡◌, refl, ◌∙◌, sym, ap, subst}
use mathlib.Core.Bool.{Bool, true, false≢true}
use mathlib.Core.List.{List, [], ◌∷◌, ◌++◌, append-nil}
use mathlib.Core.Logic.{⊎_elim}
use Prim.Native.Nat.{ℕ, ◌-◌, ◌^◌, ◌≤◌, ◌<◌}
use native.Mathlib.Omega.{arith}
use native.Mathlib.Nat.{le_of_lt, le_refl}
use lib.Dec.{lit<}
use lib.IntN.{ℤ}
use lib.ListN.{length}
use lib.Ieee.{binary32, binary64, to_bits}
use lib.Ieee.Bits.{to_bits-lt}
use Rattle.types.proofs.Answers.{err_two}
use Rattle.types.specs.Answers.{Checked}
use Rattle.types.specs.Forms.{listed, allowed_count, allowed_float}
use Rattle.types.specs.Values.{value, joined, joined_signed}
use Rattle.types.specs.declared.Kind.{Kind}
use Rattle.types.specs.declared.Kind.TheVariants as K
use Rattle.types.specs.declared.Integer.{Integer}
use Rattle.types.specs.declared.Integer.TheVariants as I
use Rattle.types.specs.declared.Places.{Places}
use Rattle.types.specs.declared.Place.{Place}
use Rattle.types.specs.declared.Refusal.{Refusal}
use Rattle.types.specs.declared.Refusal.TheVariants as R
use Rattle.types.specs.declared.TallyAnswer.TheVariants as TA
use Rattle.cast.specs.Variants.{sign, width, in_range}
use Rattle.header.specs.Header.{header_bytes}
use Rattle.little.specs.Le.{to_le}
use Rattle.little.specs.Counts.{holds_s}
use Rattle.little.proofs.Two.{holds_u_more, holds_s_more}
use Rattle.integer.proofs.Counts.{allowed_bounds}
use Rattle.binary.specs.Formats.{half, single, double, Meaning, finite, infinite, meaning, NotNan}
use Rattle.binary.specs.Formats as Formats
use Rattle.binary.specs.Conversions.{with_sign, candidate}
use Rattle.binary.specs.Conversions as Binary
use Rattle.binary.proofs.Patterns.{one_pattern}
use Rattle.binary.proofs.Narrowing.{infinite_here, infinity_lt}
use Rattle.float.specs.Floats.{layout_at}
use Rattle.float.specs.Bytes.{float_bytes, f32_bytes, f64_bytes}
use Rattle.float.specs.Bytes as Floats
use Rattle.float.proofs.Counts.{Allowed, two, four, eight, allowed_is, is_allowed}
use Rattle.float.proofs.Stored.{Stored, stored_single, stored_double}
use Rattle.writers.specs.Bytes.{integer_bytes, signed_bytes, unsigned_bytes, special_bytes}
use Rattle.writers.specs.Bytes as Writers
use Rattle.dictionary.specs.Wholes.{last_places}
use Rattle.dictionary.specs.Prices.{priced, Broken}
use Rattle.dictionary.specs.Runs.{tally_all, most_bytes}
use Rattle.dictionary.proofs.Price as Price
use Rattle.shortest.specs.Meanings.{Meant, float_meant, meanings, Bytes, HeldBy, Proper, AllProper}
use Rattle.shortest.specs.Meanings as M
use Rattle.shortest.specs.Forms.{shortest_f, form_at, shortest_bytes, shortest_atoms, Accepted}
use Rattle.shortest.specs.Forms as Forms
use Rattle.shortest.specs.Checks.{check_all, Unfit, Refused}
use Rattle.shortest.specs.Checks as Checks
use Rattle.shortest.proofs.Floats.{float_range, pattern_lt, pattern_means, infinity_low, has_more, finite-has, width_patterns}
use Rattle.shortest.proofs.Forms.{held_lt, fewest_held}
use Rattle.shortest.proofs.Meanings.{lt_held, float_most}
use Rattle.shortest.proofs.Answers as Answers
use Rattle.shortest.proofs.Lists.{each_accepted, each_means, accepted_is, list_proper}
use Rattle.promises.specs.Told.{Told, told_checked}
use Rattle.promises.specs.Values.{Value, written}
use Rattle.promises.specs.Values as Given
use Rattle.promises.specs.Deliveries.{CheckRow, accepted, refused_at, integer_meant, header_meant, value_meant}
use Rattle.promises.specs.Deliveries.{Storable, written_all, meant_all, AllStorable, Writable, AllWritable}
use Rattle.promises.specs.Deliveries as Deliveries
use Rattle.promises.proofs.Demand2.{held_by_lem, natural_by}

-- ---- the rows

pub every_check : (s : List ℕ) → CheckRow s (told_checked (check_all s))
every_check s =
    ⊎_elim (λ a. as_checked (Ok tt) (Answers.accepted_answer s a.0 a.1) (accepted a.1))
    (λ r. as_checked (Err (r.why, record { 0 = length r.front_bytes })) (Answers.refused_answer s r)
    (refused_at r.joined r.some r.accepted r.unfit)) (Answers.either s)
  where
    as_checked : (c : Checked) → check_all s ≡ c → CheckRow s (told_checked c) → CheckRow s (told_checked (check_all s))
    as_checked c e row = subst (λ (x : Checked). CheckRow s (told_checked x)) (sym e) row

pub one_check : (s : List ℕ) {answer : Told} → CheckRow s answer → answer ≡ told_checked (check_all s)
one_check s (accepted {atoms} a) = ap told_checked (sym (Answers.accepted_answer s atoms a))
one_check s (refused_at {front} {rest} {atoms} {why} e some a bad) =
    ap told_checked (sym (Answers.refused_at s front rest atoms a e some why bad))

-- ---- and the tally

pub accepted_tally : (s : List ℕ) → length s ≤ most_bytes → check_all s ≡ Ok tt →
    (atoms : List (List ℕ)) × (tally_all s ≡ TA.Done (last_places atoms) (priced atoms))
accepted_tally s short e =
    let a = Answers.answer_accepted s e in (a.0, Price.tally_priced s a.0 short a.1.wholes)

-- of a list that is refused, by what its atom is
tally_at : (s front rest : List ℕ) (atoms : List (List ℕ)) (why : Refusal) → length s ≤ most_bytes →
    Accepted front atoms → s ≡ front ++ rest → 1 ≤ length rest → Unfit rest why → (why ≡ R.NotShortest → ⊥) →
    tally_all s ≡ TA.Stopped (last_places atoms) why (record { 0 = length front })
tally_at s front rest atoms why short a e some (Checks.spoilt bad) other =
    let b : Broken s = record {
      front_bytes = front;
      rest = rest;
      atoms = atoms;
      why = why;
      wholes = a.wholes;
      joined = e;
      some = some;
      spoilt = bad;
    } in
    Price.tally_broken s b short
tally_at s front rest atoms why short a e some (Checks.longer atom later split w long) other = absurd (other refl)

pub refused_tally : (s : List ℕ) → length s ≤ most_bytes → (why : Refusal) (start : Place) →
    check_all s ≡ Err (why, start) → (why ≡ R.NotShortest → ⊥) →
    (last : Places) × (tally_all s ≡ TA.Stopped last why start)
refused_tally s short why start e other =
    ⊎_elim (λ a. absurd (taken (Answers.accepted_answer s a.0 a.1))) (λ r. stops r (same r)) (Answers.either s)
  where
    taken : check_all s ≡ Ok tt → ⊥
    taken q = let x = sym e ∙ q in false≢true cc

    same : (r : Refused s) → (r.why ≡ why) × (record { 0 = length r.front_bytes } ≡ start)
    same r = err_two (sym (Answers.refused_answer s r) ∙ e)

    stops : (r : Refused s) → (r.why ≡ why) × (record { 0 = length r.front_bytes } ≡ start) →
        (last : Places) × (tally_all s ≡ TA.Stopped last why start)
    stops r q = (
      last_places r.atoms,
      tally_at s r.front_bytes r.rest r.atoms r.why short r.accepted r.joined r.some r.unfit
          (λ x. other (sym q.0 ∙ x))
          ∙ ap (λ (x : Refusal). TA.Stopped (last_places r.atoms) x (record { 0 = length r.front_bytes })) q.0
          ∙ ap (TA.Stopped (last_places r.atoms) why) q.1,
    )

-- ---- what the writers of values write

-- a float's bytes, as any float writer stores them, are the shortest of what the pattern means
module _ (own bits : ℕ) (bytes : List ℕ) (a : allowed_float own ≡ true) (B : bits < 256 ^ own) (S : Stored own bits bytes)
  where
    abbrev c : ℕ
    c = S.count

    its_width : allowed_float c ≡ true
    its_width = S.its_count

    -- no wider than another width that has the meaning, and that is the first of them
    width_of : (x : Meaning) → meaning (layout_at own) bits ≡ x → (n q : ℕ) → allowed_float n ≡ true → q < 256 ^ n →
        NotNan x → meaning (layout_at n) q ≡ x → c ≤ n
    width_of x e n q w low number m =
        S.fewest n q (allowed_is n w) low (subst NotNan (sym e) number) (m ∙ sym e)

    stored_as : (x : Meaning) → meaning (layout_at own) bits ≡ x →
        float_bytes c S.stored ≡ shortest_bytes (float_meant own bits x)
    unfolding float_bytes shortest_bytes form_at
    stored_as (finite s m) e =
        let h = finite-has (layout_at own) bits s m (subst (λ (n : ℕ). bits < n) (sym (width_patterns own a)) B) e in
        let held : HeldBy (shortest_f m) (M.float s m) = fewest_held own (M.float s m) (a, h) in
        let there : meaning (layout_at c) S.stored ≡ finite s m = S.number (subst NotNan (sym e) tt) ∙ e in
        let own-low = subst (λ (n : ℕ). S.stored < n) (sym (width_patterns c its_width)) S.its_room in
        let most = float_most c m its_width (finite-has (layout_at c) S.stored s m own-low there) in
        let least = width_of (finite s m) e (shortest_f m) _ held.0 (pattern_lt (shortest_f m) s m held.0 held.1) tt
        (pattern_means (layout_at (shortest_f m)) s m held.1) in
        let same : c ≡ shortest_f m = omega arith in
        let pattern : S.stored ≡ with_sign (layout_at c) s (candidate (layout_at c) m) =
        one_pattern (layout_at c) S.stored (with_sign (layout_at c) s (candidate (layout_at c) m)) own-low
        (subst (λ (n : ℕ). with_sign (layout_at c) s (candidate (layout_at c) m) < n) (sym (width_patterns c its_width))
        (pattern_lt c s m its_width (finite-has (layout_at c) S.stored s m own-low there)))
        (there ∙ sym (pattern_means (layout_at c) s m (finite-has (layout_at c) S.stored s m own-low there))) in
        ap (λ (q : ℕ). header_bytes K.Float (c - 1) ++ to_le c q) pattern
        ∙ ap (λ (n : ℕ). header_bytes K.Float (n - 1) ++ to_le n (with_sign (layout_at n) s (candidate (layout_at n) m))) same
    stored_as (infinite s) e =
        let there : meaning (layout_at c) S.stored ≡ infinite s = S.number (subst NotNan (sym e) tt) ∙ e in
        let own-low = subst (λ (n : ℕ). S.stored < n) (sym (width_patterns c its_width)) S.its_room in
        let least = width_of (infinite s) e 2 _ (is_allowed 2 (two refl)) (infinity_low 2 s (is_allowed 2 (two refl))) tt
        (infinite_here half s) in
        let most = (float_range c its_width).0 in
        let same : c ≡ 2 = omega arith in
        let pattern : S.stored ≡ with_sign (layout_at c) s (Binary.infinity (layout_at c)) =
        one_pattern (layout_at c) S.stored (with_sign (layout_at c) s (Binary.infinity (layout_at c))) own-low
        (infinity_lt (layout_at c) s) (there ∙ sym (infinite_here (layout_at c) s)) in
        ap (λ (q : ℕ). header_bytes K.Float (c - 1) ++ to_le c q) pattern
        ∙ ap (λ (n : ℕ). header_bytes K.Float (n - 1) ++ to_le n (with_sign (layout_at n) s (Binary.infinity (layout_at n))))
        same
    stored_as (Formats.nan s t) e =
        let k = S.nan_kept s t e in
        ap (λ (n : ℕ). header_bytes K.Float (n - 1) ++ to_le n S.stored) k.0
        ∙ ap (λ (q : ℕ). header_bytes K.Float (own - 1) ++ to_le own q) k.1

    pub stored_shortest : bytes ≡ shortest_bytes (float_meant own bits (meaning (layout_at own) bits))
    stored_shortest = S.its_bytes ∙ stored_as (meaning (layout_at own) bits) refl

    -- and it is a meaning that an atom has
    proper_as : (x : Meaning) → meaning (layout_at own) bits ≡ x → HeldBy own (float_meant own bits x)
    proper_as (finite s m) e =
        (a, finite-has (layout_at own) bits s m (subst (λ (n : ℕ). bits < n) (sym (width_patterns own a)) B) e)
    proper_as (infinite s) e = a
    proper_as (Formats.nan s t) e = (a, B, (s, t, e))

    pub stored_proper : Proper (float_meant own bits (meaning (layout_at own) bits))
    stored_proper = (own, proper_as (meaning (layout_at own) bits) refl)

-- EACH WRITER: what is written of a value is the shortest bytes of what it means
sixteen : allowed_count 16 ≡ true
unfolding listed
sixteen = refl

integer_shortest : (x : Integer) → Writers.value_bytes x ≡ shortest_bytes (integer_meant x)
unfolding Writers.value_bytes signed_bytes unsigned_bytes integer_bytes shortest_bytes form_at
integer_shortest (I.I8 z) = refl
integer_shortest (I.I16 z) = refl
integer_shortest (I.I32 z) = refl
integer_shortest (I.I64 z) = refl
integer_shortest (I.I128 w) = refl
integer_shortest (I.U8 k) = refl
integer_shortest (I.U16 k) = refl
integer_shortest (I.U32 k) = refl
integer_shortest (I.U64 k) = refl
integer_shortest (I.U128 w) = refl

header_shortest : (kind : Kind) (w : Given.HeaderOnly kind) (arg : ℕ) →
    header_bytes kind arg ≡ shortest_bytes (header_meant kind w arg)
unfolding shortest_bytes form_at
header_shortest kind Given.sequence arg = sym (append-nil (header_bytes K.Sequence arg))
header_shortest kind Given.map arg = sym (append-nil (header_bytes K.Map arg))
header_shortest kind Given.symbol arg = sym (append-nil (header_bytes K.Symbol arg))

single_shortest : (bits : ℕ) → bits < 256 ^ 4 → f32_bytes bits ≡ shortest_bytes (float_meant 4 bits (meaning single bits))
single_shortest bits h = stored_shortest 4 bits (f32_bytes bits) (is_allowed 4 (four refl)) h (stored_single bits h)

double_shortest : (bits : ℕ) → bits < 256 ^ 8 → f64_bytes bits ≡ shortest_bytes (float_meant 8 bits (meaning double bits))
double_shortest bits h = stored_shortest 8 bits (f64_bytes bits) (is_allowed 8 (eight refl)) h (stored_double bits h)

pub written_shortest : (v : Value) → written v ≡ shortest_bytes (value_meant v)
unfolding signed_bytes unsigned_bytes integer_bytes Floats.value_bytes shortest_bytes form_at
written_shortest (Given.number z h) = refl
written_shortest (Given.natural k h) = refl
written_shortest (Given.integer x h) = integer_shortest x
written_shortest (Given.f32_bits bits h) = single_shortest bits h
written_shortest (Given.f64_bits bits h) = double_shortest bits h
written_shortest (Given.f32 x h) = single_shortest (to_bits binary32 x) (to_bits-lt binary32 x h)
written_shortest (Given.f64 x h) = double_shortest (to_bits binary64 x) (to_bits-lt binary64 x h)
written_shortest (Given.special s) = sym (append-nil (special_bytes s))
written_shortest (Given.string l h) = refl
written_shortest (Given.header kind w arg h) = header_shortest kind w arg

-- and it means what atoms can mean
signed_proper : (z : ℤ) → holds_s 16 z ≡ true → Proper (M.int z)
signed_proper z h = (16, (sixteen, h))

unsigned_proper : (k : ℕ) → k < 256 ^ 16 → Proper (M.uint k)
unsigned_proper k h = (16, (sixteen, lt_held 16 k h))

integer_proper : (x : Integer) → in_range (sign x) (width x) (value x) ≡ true → Proper (integer_meant x)
integer_proper (I.I8 z) h = signed_proper z (held_by_lem (2 ^ 7) z (le_of_lt (lit< tt)) h)
integer_proper (I.I16 z) h = signed_proper z (held_by_lem (2 ^ 15) z (le_of_lt (lit< tt)) h)
integer_proper (I.I32 z) h = signed_proper z (held_by_lem (2 ^ 31) z (le_of_lt (lit< tt)) h)
integer_proper (I.I64 z) h = signed_proper z (held_by_lem (2 ^ 63) z (le_of_lt (lit< tt)) h)
integer_proper (I.I128 w) h = signed_proper (joined_signed w) (held_by_lem (2 ^ 127) (joined_signed w) (le_refl (2 ^ 127)) h)
integer_proper (I.U8 k) h = unsigned_proper k (natural_by (2 ^ 8) k (le_of_lt (lit< tt)) h)
integer_proper (I.U16 k) h = unsigned_proper k (natural_by (2 ^ 16) k (le_of_lt (lit< tt)) h)
integer_proper (I.U32 k) h = unsigned_proper k (natural_by (2 ^ 32) k (le_of_lt (lit< tt)) h)
integer_proper (I.U64 k) h = unsigned_proper k (natural_by (2 ^ 64) k (le_of_lt (lit< tt)) h)
integer_proper (I.U128 w) h = unsigned_proper (joined w) (natural_by (2 ^ 128) (joined w) (le_refl (2 ^ 128)) h)

header_proper : (kind : Kind) (w : Given.HeaderOnly kind) (arg : ℕ) → arg < 2 ^ 64 → Proper (header_meant kind w arg)
header_proper kind Given.sequence arg h = (0, h)
header_proper kind Given.map arg h = (0, h)
header_proper kind Given.symbol arg h = (0, h)

single_proper : (bits : ℕ) → bits < 256 ^ 4 → Proper (float_meant 4 bits (meaning single bits))
single_proper bits h = stored_proper 4 bits (f32_bytes bits) (is_allowed 4 (four refl)) h (stored_single bits h)

double_proper : (bits : ℕ) → bits < 256 ^ 8 → Proper (float_meant 8 bits (meaning double bits))
double_proper bits h = stored_proper 8 bits (f64_bytes bits) (is_allowed 8 (eight refl)) h (stored_double bits h)

pub value_proper : (v : Value) → Storable v → Proper (value_meant v)
value_proper (Given.number z h) b = signed_proper z h
value_proper (Given.natural k h) b = unsigned_proper k h
value_proper (Given.integer x h) b = integer_proper x h
value_proper (Given.f32_bits bits h) b = single_proper bits h
value_proper (Given.f64_bits bits h) b = double_proper bits h
value_proper (Given.f32 x h) b = single_proper (to_bits binary32 x) (to_bits-lt binary32 x h)
value_proper (Given.f64 x h) b = double_proper (to_bits binary64 x) (to_bits-lt binary64 x h)
value_proper (Given.special s) b = (0, tt)
value_proper (Given.string l h) b = (0, (h, b))
value_proper (Given.header kind w arg h) b = header_proper kind w arg h

-- LISTS OF IT
all_proper : {vs : List Value} → AllStorable vs → AllProper (meant_all vs)
unfolding meant_all
all_proper Deliveries.none = M.none
all_proper (Deliveries.more {v} b bs) = M.more (value_proper v b) (all_proper bs)

all_shortest_lem : (vs : List Value) → written_all vs ≡ shortest_atoms (meant_all vs)
unfolding written_all meant_all shortest_atoms
all_shortest_lem [] = refl
all_shortest_lem (v ∷ vs) =
    ap (λ (l : List ℕ). l ∷ written_all vs) (written_shortest v)
    ∙ ap (λ (l : List (List ℕ)). shortest_bytes (value_meant v) ∷ l) (all_shortest_lem vs)

pub written_accepted : {vs : List Value} → AllStorable vs →
    Accepted (Forms.joined (written_all vs)) (written_all vs) × (meanings (written_all vs) ≡ meant_all vs)
written_accepted {vs} bs =
    let p = all_proper bs in
    let e = all_shortest_lem vs in (
      subst (λ (l : List (List ℕ)). Accepted (Forms.joined l) l) (sym e) (each_accepted p),
      ap meanings e ∙ each_means p,
    )

-- ---- AN ACCEPTED LIST IS WHAT OUR WRITERS WRITE, but for a NaN of 2 bytes

-- a value for each meaning
nan_value : (n b : ℕ) → Allowed n → (n ≡ 2 → ⊥) → b < 256 ^ n →
    ((s : Bool) × (t : ℕ) × (meaning (layout_at n) b ≡ Formats.nan s t)) →
    (v : Value) × (value_meant v ≡ M.nan n b)
nan_value n b (two e) other low x = absurd (other e)
nan_value n b (four e) other low x =
    let m : meaning single b ≡ Formats.nan x.0 x.1 =
    subst (λ (k : ℕ). meaning (layout_at k) b ≡ Formats.nan x.0 x.1) e x.2 in
    (Given.f32_bits b (rw e at low), ap (float_meant 4 b) m ∙ ap (λ (k : ℕ). M.nan k b) (sym e))
nan_value n b (eight e) other low x =
    let m : meaning double b ≡ Formats.nan x.0 x.1 =
    subst (λ (k : ℕ). meaning (layout_at k) b ≡ Formats.nan x.0 x.1) e x.2 in
    (Given.f64_bits b (rw e at low), ap (float_meant 8 b) m ∙ ap (λ (k : ℕ). M.nan k b) (sym e))

value_for : (c : ℕ) (m : Meant) → HeldBy c m → Writable m → (v : Value) × (value_meant v ≡ m)
value_for c (M.special s) h w = (Given.special s, refl)
value_for c (M.int z) h w = (Given.number z (holds_s_more c 16 z (allowed_bounds c h.0).1 h.1), refl)
value_for c (M.uint k) h w =
    (Given.natural k (held_lt 16 k (holds_u_more c 16 k (allowed_bounds c h.0).1 h.1)), refl)
value_for c (M.float s m) h w =
    let bits : ℕ = with_sign double s (candidate double m) in
    let has-double = has_more m c 8 h.0 (is_allowed 8 (eight refl)) (float_range c h.0).1 h.1 in (
      Given.f64_bits bits (pattern_lt 8 s m (is_allowed 8 (eight refl)) has-double),
      ap (float_meant 8 bits) (pattern_means double s m has-double),
    )
value_for c (M.infinity s) h w =
    let bits : ℕ = with_sign double s (Binary.infinity double) in (
      Given.f64_bits bits (infinity_low 8 s (is_allowed 8 (eight refl))),
      ap (float_meant 8 bits) (infinite_here double s),
    )
value_for c (M.nan n b) h w = nan_value n b (allowed_is n h.0) w h.1 h.2
value_for c (M.sequence n) h w = (Given.header K.Sequence Given.sequence n h, refl)
value_for c (M.map n) h w = (Given.header K.Map Given.map n h, refl)
value_for c (M.symbol n) h w = (Given.header K.Symbol Given.symbol n h, refl)
value_for c (M.bytes l) h w = (Given.string l h.0, refl)

values_for : {ms : List Meant} → AllProper ms → AllWritable ms → (vs : List Value) × (meant_all vs ≡ ms)
unfolding meant_all
values_for M.none Deliveries.none = ([], refl)
values_for (M.more {m} {ms} p ps) (Deliveries.more w ws) =
    let one = value_for p.0 m p.1 w in
    let others = values_for ps ws in (
      one.0 ∷ others.0,
      ap (λ (x : Meant). x ∷ meant_all others.0) one.1 ∙ ap (λ (l : List Meant). m ∷ l) others.1,
    )

pub accepted_written : {s : List ℕ} {atoms : List (List ℕ)} → Accepted s atoms → Bytes s →
    AllWritable (meanings atoms) → (vs : List Value) × (written_all vs ≡ atoms)
accepted_written a B w =
    let v = values_for (list_proper a.wholes B) w in
    (v.0, all_shortest_lem v.0 ∙ ap shortest_atoms v.1 ∙ accepted_is a B)
