-- The words of a float that the exports answer mean that float's value, by IEEE 754: both the value's bits, at the
-- width that is said beside them, and the stored bits, at the width of the atom's own count.
use Rattle.std.specs.Prelude.{Result, Ok, Err}
use mathlib.Core.Path.{◌≡◌, refl, ◌∙◌, sym, ap, subst}
use mathlib.Core.Bool.{Bool, true, false}
use mathlib.Core.List.{List}
use Prim.Native.Nat.{ℕ, ◌+◌, ◌%◌, ◌^◌, ◌<◌}
use native.Mathlib.Omega.{arith}
use lib.Dec.{leb}
use lib.ListN.{length, get_or}
use lib.Ieee.{binary32, binary64, of_bits}
use Rattle.types.specs.Answers.{AtomAnswer, BytesAnswer, HeaderAnswer, IntegerAnswer}
use Rattle.types.specs.Choice.{pick}
use Rattle.types.specs.Kinds.{kind_code, special_from, special_known}
use Rattle.types.specs.Forms.{count_of, allowed_float, known, charge_of, unknown}
use Rattle.types.specs.Ways.{exact}
use Rattle.types.specs.declared.Way.{Way}
use Rattle.types.specs.declared.Kind.{Kind}
use Rattle.types.specs.declared.Kind.TheVariants as K
use Rattle.types.specs.declared.Place.{Place}
use Rattle.types.specs.declared.Places.{Places}
use Rattle.types.specs.declared.Budget.{Budget}
use Rattle.types.specs.declared.Float.{Float}
use Rattle.types.specs.declared.Float.TheVariants as F
use Rattle.types.specs.declared.Nucleus.{Nucleus}
use Rattle.types.specs.declared.Nucleus.TheVariants as N
use Rattle.types.specs.declared.Special.{Special}
use Rattle.types.specs.declared.Special.TheVariants as S
use Rattle.types.specs.declared.Refusal.{Refusal}
use Rattle.types.specs.declared.Refusal.TheVariants as R
use Rattle.header.specs.Header.{header_read}
use Rattle.reader.specs.Strings.{string_answer}
use Rattle.little.specs.Le.{number_at}
use Rattle.little.proofs.At.{number_lt}
use Rattle.integer.specs.Integers.{integer_body}
use Rattle.binary.specs.Formats.{half, single, meaning}
use Rattle.binary.specs.Conversions.{widened}
use Rattle.binary.specs.Floats.{plain}
use Rattle.binary.proofs.Values.{of_bits_means}
use Rattle.float.specs.Floats.{layout_at, float_of, float_body}
use Rattle.float.specs.Values.{float_means}
use Rattle.float.proofs.Counts.{Allowed, two, four, eight, allowed_is}
use Rattle.float.proofs.Stored.{float_means_lem}
use Rattle.atom.specs.Charges.{budget_after}
use Rattle.atom.specs.Atoms.{atom_of, special_nucleus, charged, judged, integer_atom, float_atom, bytes_atom, header_taken}
use Rattle.atom.specs.Atoms.{body_taken, atom_from, first_place, atom_read}
use Rattle.words.specs.declared.NucleusWords.{NucleusWords}
use Rattle.words.specs.Layout.{atom_said, said_atom, float_words, value_bits}

-- ---- what is known of a float that an atom of that argument holds: the value of its stored bits

abbrev Known : ℕ → Nucleus → Type 0
Known arg (N.Float x stored) =
    Allowed (count_of arg) × (stored < 256 ^ count_of arg) × (x ≡ float_of (count_of arg) stored)
Known arg N.None = Unit {0}
Known arg (N.Boolean b) = Unit {0}
Known arg (N.Integer x) = Unit {0}
Known arg (N.Bytes m) = Unit {0}
Known arg N.Unit = Unit {0}
Known arg N.Named = Unit {0}
Known arg N.DynamicMap = Unit {0}
Known arg N.DynamicEnd = Unit {0}

abbrev AllKnown : AtomAnswer → Type 0
AllKnown (Ok (p, b, a)) = Known a.arg a.nucleus
AllKnown (Err (p, b, r)) = Unit {0}

special_known_lem : (arg : ℕ) (first next : Place) (rest : Budget) (special : Special) →
    AllKnown (header_taken K.Special arg first next (special_nucleus special) rest)
special_known_lem arg first next rest S.None = tt
special_known_lem arg first next rest S.Unit = tt
special_known_lem arg first next rest S.False = tt
special_known_lem arg first next rest S.True = tt
special_known_lem arg first next rest S.Named = tt
special_known_lem arg first next rest S.DynamicMap = tt
special_known_lem arg first next rest S.DynamicEnd = tt

charged_known : (next : Place) (budget : Budget) (b : Result Budget Refusal) (body : Budget → AtomAnswer) →
    ((rest : Budget) → AllKnown (body rest)) → AllKnown (charged next budget b body)
charged_known next budget (Ok rest) body h = h rest
charged_known next budget (Err r) body h = tt

picked_known : (k : Bool) (a : AtomAnswer) (p : Place) (rest : Budget) (r : Refusal) → (k ≡ true → AllKnown a) →
    AllKnown (pick k a (Err (p, rest, r)))
picked_known true a p rest r h = h refl
picked_known false a p rest r h = tt

module _ (arg : ℕ) (first next : Place) (rest : Budget) where
  integer_known : (kind : Kind) (a : IntegerAnswer) → AllKnown (integer_atom kind arg first next rest a)
  integer_known kind (Ok (p, x)) = tt
  integer_known kind (Err (p, r)) = tt

  bytes_known : (a : BytesAnswer) → AllKnown (bytes_atom arg first next rest a)
  bytes_known (Ok (p, m)) = tt
  bytes_known (Err (p, r)) = tt

module _ (s : List ℕ) (fits : (i : ℕ) → get_or s i 0 < 256) where
  module _ (arg : ℕ) (first next : Place) (rest : Budget) where
    read_known : (p : Place) → Allowed (count_of arg) →
        AllKnown (float_atom arg first next rest
        (Ok (p, float_of (count_of arg) (number_at (count_of arg) s next.0), number_at (count_of arg) s next.0)))
    read_known p a = (a, number_lt (count_of arg) s next.0 fits, refl)

    body_known : (p q end : Place) (t u : Bool) → Allowed (count_of arg) →
        AllKnown (float_atom arg first next rest
        (pick t
        (Ok (p, float_of (count_of arg) (number_at (count_of arg) s next.0), number_at (count_of arg) s next.0))
        (pick u (Err (end, R.Eof))
        (Ok (q, float_of (count_of arg) (number_at (count_of arg) s next.0), number_at (count_of arg) s next.0)))))
    body_known p q end true u a = read_known p a
    body_known p q end false true a = tt
    body_known p q end false false a = read_known q a

    float_known : (way : Way) → allowed_float (count_of arg) ≡ true →
        AllKnown (float_atom arg first next rest (float_body way s next.0 (count_of arg)))
    unfolding float_body
    float_known way e =
        body_known (record { 0 = next.0 + count_of arg }) (record { 0 = length s }) (record { 0 = length s })
        (leb (next.0 + count_of arg) (length s)) (exact way) (allowed_is (count_of arg) e)

  module _ (way : Way) (first : Place) (budget : Budget) (scratch : List ℕ) where
    taken_known : (kind : Kind) (arg : ℕ) (next : Place) (rest : Budget) → known kind arg ≡ true →
        AllKnown (body_taken way s kind arg first next scratch rest)
    taken_known K.Special arg next rest e = special_known_lem arg first next rest (special_known (special_from arg))
    taken_known K.Int arg next rest e =
        integer_known arg first next rest K.Int (integer_body way s next.0 K.Int (count_of arg))
    taken_known K.UInt arg next rest e =
        integer_known arg first next rest K.UInt (integer_body way s next.0 K.UInt (count_of arg))
    taken_known K.Float arg next rest e = float_known arg first next rest way e
    taken_known K.Sequence arg next rest e = tt
    taken_known K.Map arg next rest e = tt
    taken_known K.Symbol arg next rest e = tt
    taken_known K.Bytes arg next rest e =
        bytes_known arg first next rest (string_answer way s next.0 arg scratch)

    after_known : (h : HeaderAnswer) → AllKnown (atom_from way s first budget scratch h)
    unfolding judged
    after_known (Err (p, r)) = tt
    after_known (Ok (next, kind, arg)) =
        charged_known next budget (budget_after budget (charge_of kind arg))
        (λ rest. pick (known kind arg) (body_taken way s kind arg first next scratch rest)
        (Err (next, rest, unknown kind arg)))
        (λ rest. picked_known (known kind arg) (body_taken way s kind arg first next scratch rest) next rest
        (unknown kind arg) (taken_known kind arg next rest))

  atom_known : (way : Way) (place : ℕ) (budget : Budget) (scratch : List ℕ) →
      AllKnown (atom_read way s place budget scratch)
  unfolding atom_read
  atom_known way place budget scratch =
      after_known way (first_place s place) budget scratch (header_read way s place)

-- ---- the words

-- the three words of a float, beside an atom's argument, mean its value
pub record Means (arg : ℕ) (x : Float) (w : NucleusWords) : Type 0 where
  pub is_float : w.case ≡ 3
  pub value_means : plain (meaning (layout_at w.first) w.second) ≡ float_means x
  pub stored_means : plain (meaning (layout_at (count_of arg)) w.third) ≡ float_means x

module _ (arg stored : ℕ) (word : arg < 2 ^ 64) (lt : stored < 256 ^ count_of arg) where
  -- the bits of the value, of an F32: widened of two bytes, else as they are stored
  bits_two : count_of arg ≡ 2 → value_bits arg stored ≡ widened half single stored
  bits_two e =
      let one : arg ≡ 1 = omega arith in
      let small : stored < 65_536 = rw e at lt in
      let same : stored % 2 ^ 16 ≡ stored = omega arith in
      ap (λ (a : ℕ). value_bits a stored) one ∙ ap (widened half single) same

  bits_four : count_of arg ≡ 4 → value_bits arg stored ≡ stored
  bits_four e = let three : arg ≡ 3 = omega arith in ap (λ (a : ℕ). value_bits a stored) three

  stored_of : Allowed (count_of arg) → (x : Float) → x ≡ float_of (count_of arg) stored →
      plain (meaning (layout_at (count_of arg)) stored) ≡ float_means x
  stored_of a x is = sym (float_means_lem (count_of arg) stored a) ∙ ap float_means (sym is)

  means_by : Allowed (count_of arg) → (x : Float) → x ≡ float_of (count_of arg) stored →
      Means arg x (float_words arg x stored)
  unfolding float_of
  means_by (two e) x is =
      let own : x ≡ F.F32 (of_bits binary32 (widened half single stored)) = is ∙ ap (λ (c : ℕ). float_of c stored) e in
      subst (λ (z : Float). Means arg z (float_words arg z stored)) (sym own) (record {
        is_float = refl;
        value_means =
            ap (λ (b : ℕ). plain (meaning single b)) (bits_two e)
            ∙ sym (of_bits_means binary32 (widened half single stored));
        stored_means = stored_of (two e) x is ∙ ap float_means own;
      })
  means_by (four e) x is =
      let own : x ≡ F.F32 (of_bits binary32 stored) = is ∙ ap (λ (c : ℕ). float_of c stored) e in
      subst (λ (z : Float). Means arg z (float_words arg z stored)) (sym own) (record {
        is_float = refl;
        value_means =
            ap (λ (b : ℕ). plain (meaning single b)) (bits_four e) ∙ sym (of_bits_means binary32 stored);
        stored_means = stored_of (four e) x is ∙ ap float_means own;
      })
  means_by (eight e) x is =
      let own : x ≡ F.F64 (of_bits binary64 stored) = is ∙ ap (λ (c : ℕ). float_of c stored) e in
      subst (λ (z : Float). Means arg z (float_words arg z stored)) (sym own) (record {
        is_float = refl;
        value_means = sym (of_bits_means binary64 stored);
        stored_means = stored_of (eight e) x is ∙ ap float_means own;
      })

-- EVERY FLOAT THAT AN EXPORT READS: the words that are said of the atom have its value, whatever the way
pub float_words_lem : (way : Way) (s : List ℕ) (place : ℕ) (budget : Budget) (scratch : List ℕ) →
    ((i : ℕ) → get_or s i 0 < 256) →
    (p : Place) (b : Budget) (kind : Kind) (arg : ℕ) (places : Places) (x : Float) (stored : ℕ) →
    arg < 2 ^ 64 → atom_read way s place budget scratch ≡ Ok (p, b, atom_of kind arg places (N.Float x stored)) →
    (said_atom (atom_read way s place budget scratch)
    ≡ atom_said p.0 b.0 (kind_code kind) arg (float_words arg x stored) places.first.0 places.body.0)
    × Means arg x (float_words arg x stored)
unfolding said_atom
float_words_lem way s place budget scratch fits p b kind arg places x stored word e =
    let held : Known arg (N.Float x stored) = subst AllKnown e (atom_known s fits way place budget scratch) in
    (ap said_atom e, means_by arg stored word held.1 held.0 x held.2)
