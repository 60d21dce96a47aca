-- The ends of the readers of a header and of a signature, and of the functions that they call: what each has in hand at
-- a return, and what it answers there.
use Rattle.std.specs.Prelude.{Ok, Err}
use mathlib.Core.Path.{◌≡◌, refl, ◌∙◌, sym, ap}
use mathlib.Core.Bool.{Bool, true, false}
use mathlib.Core.List.{List, [], ◌∷◌}
use Prim.Native.Nat.{ℕ, ◌+◌, ◌-◌, ◌*◌, ◌/◌, ◌%◌, ◌≤◌, ◌<◌}
use native.Mathlib.Numerals.{add-one}
use native.Mathlib.Omega.{arith}
use borrow.Author.Rules.{rules}
use borrow.Author.Tests.{le-leb, lt-leb, eq-eqb, ne_eqb}
use lib.Bits.{bit_and}
use lib.Dec.{lit<}
use lib.ListN.{length, drop, get_or, drop_of_length-le}
use lib.Seq.{drop-cons, get_or-drop}
use Rattle.types.specs.Answers.{HeaderAnswer, VersionAnswer}
use Rattle.types.specs.Counters.{place_in}
use Rattle.types.specs.Kinds.{kind_from, kind_known}
use Rattle.types.specs.Ways.{exact}
use Rattle.types.specs.declared.Way.{Way}
use Rattle.types.specs.declared.Kind.{Kind}
use Rattle.types.specs.declared.Kind.TheVariants as K
use Rattle.types.specs.declared.Place.{Place}
use Rattle.types.specs.declared.Refusal.TheVariants as R
use Rattle.types.proofs.Ways.{at_way}
use Rattle.header.specs.Header.{later_count, later_value, later_from, argument_from}
use Rattle.header.specs.Header.{header_kind, header_length, header_argument, header_from, header_read}
use Rattle.header.specs.Signature.{signature, big_endian, judged, version_from, version_read}
use Rattle.header.proofs.Answers.{none_follow, one_length, one_argument, more_length, more_argument}
use Rattle.header.proofs.Bits.{every}

-- a header at a place
module _ (way : Way) (s : List ℕ) (place at : ℕ) (w : at ≡ place_in (length s) place) where
  -- that has a byte: no other follows it, or others do
  module _ (kind : Kind) (low : ℕ) (h : at < length s) (k : kind ≡ kind_known (kind_from (get_or s at 0 / 32)))
      (l : low ≡ get_or s at 0 % 16) where
    first : drop at s ≡ get_or s at 0 ∷ drop (at + 1) s
    first = drop-cons s at 0 h ∙ ap (λ (n : ℕ). get_or s at 0 ∷ drop n s) (sym (add-one at))

    kind_of_lem : header_kind (drop at s) ≡ kind
    kind_of_lem = rw (first, k) refl

    pub header_short : get_or s at 0 / 16 % 2 ≡ 0 → Ok (record { 0 = at + 1 }, kind, low) ≡ header_read way s place
    unfolding header_from
    header_short e =
        let n : header_length (drop at s) ≡ 1 = rw first (one_length _ _ (none_follow _ e)) in
        let a : header_argument (drop at s) ≡ low = rw (first, l) (one_argument _ _ (none_follow _ e)) in
        cc (n, a, kind_of_lem, le-leb (at + header_length (drop at s)) (length s) (omega arith))

    pub header_long : (r : HeaderAnswer) → (get_or s at 0 / 16 % 2 ≡ 0 → ⊥) → r ≡ later_from way s (at + 1) kind low →
        r ≡ header_read way s place
    unfolding header_from later_from
    header_long r f e =
        let o : get_or s at 0 / 16 % 2 ≡ 1 = omega arith in
        let n : at + header_length (drop at s) ≡ at + 1 + later_count 9 (drop (at + 1) s) =
        rw (first, more_length (get_or s at 0) (drop (at + 1) s) o) (omega arith)
        in
        let a : header_argument (drop at s) ≡ argument_from low (later_value 9 (drop (at + 1) s)) =
        rw (first, l) (more_argument _ _ o)
        in
        e ∙ rw (← w, n, a, kind_of_lem) refl

  -- that has none, in exact reading and in filled
  module _ (exactly : Bool) (m : at ≤ length s) (h : length s ≤ at) (x : exactly ≡ exact way) where
    none : drop at s ≡ []
    none = drop_of_length-le s {i = at} h

    past : length s < at + header_length (drop at s)
    unfolding header_length
    past = rw none (omega arith)

    pub header_eof : exactly ≡ true → Err (record { 0 = at }, R.Eof) ≡ header_read way s place
    unfolding header_from
    header_eof y =
        let e : at ≡ length s = omega arith in
        cc (e, lt-leb (at + header_length (drop at s)) (length s) past)

    pub header_past : exactly ≡ false → Ok (record { 0 = at }, K.Special, 0) ≡ header_read way s place
    unfolding header_from header_argument
    header_past y =
        let e : at ≡ length s = omega arith in
        let a : header_argument (drop at s) ≡ 0 = rw none refl in
        let k : header_kind (drop at s) ≡ K.Special = rw none refl in
        cc (e, a, k, lt-leb (at + header_length (drop at s)) (length s) past)

-- the entry that names no way
pub header_unnamed : (way named : Way) (s : List ℕ) (place : ℕ) (answer : HeaderAnswer) →
    way ≡ named → answer ≡ header_read way s place → answer ≡ header_read named s place
header_unnamed way named s place answer = at_way (λ w. header_read w s place)

pub ruleset header_ends = (header_short, header_long, header_eof, header_past, header_unnamed, rules)

-- a signature's word: it has every bit of 'Pot', or not
module _ (word : ℕ) (place : Place) where
  pub word_taken : bit_and word 0x506F7400 ≡ 0x506F7400 → Ok (place, word % 256) ≡ judged word place
  word_taken h = simp (sym (every 32 signature word (lit< tt)), eq-eqb _ _ h)

  pub word_refused : (bit_and word 0x506F7400 ≡ 0x506F7400 → ⊥) →
      Err (place, R.IncompatibleVersion) ≡ judged word place
  word_refused h = simp (sym (every 32 signature word (lit< tt)), ne_eqb _ _ h)

pub ruleset judge_ends = (word_taken, word_refused, rules)

-- a signature at a place
module _ (way : Way) (s : List ℕ) (place at : ℕ) (w : at ≡ place_in (length s) place) (m : at ≤ length s) where
  -- its four bytes are there: their word is judged
  module _ (first second third fourth : ℕ) (a : first ≡ get_or s (at + 0) 0) (b : second ≡ get_or s (at + 1) 0)
      (c : third ≡ get_or s (at + 2) 0) (d : fourth ≡ get_or s (at + 3) 0) (r : VersionAnswer) where
    word_of : first * 0x1000000 + second * 0x10000 + third * 0x100 + fourth ≡ big_endian (drop at s)
    unfolding big_endian
    word_of = cc (a, b, c, d, get_or-drop at s 0 0, get_or-drop at s 1 0, get_or-drop at s 2 0, get_or-drop at s 3 0)

    pub version_whole : 4 ≤ length s - at →
        r ≡ judged (first * 0x1000000 + second * 0x10000 + third * 0x100 + fourth) (record { 0 = at + 4 }) →
        r ≡ version_read way s place
    unfolding version_from
    version_whole h e = cc (word_of, le-leb (at + 4) (length s) (omega arith))

    -- they are not, in filled reading
    pub version_filled : (exactly : Bool) → length s - at < 4 → exactly ≡ exact way → exactly ≡ false →
        r ≡ judged (first * 0x1000000 + second * 0x10000 + third * 0x100 + fourth) (record { 0 = length s }) →
        r ≡ version_read way s place
    unfolding version_from
    version_filled exactly h x y e = cc (word_of, lt-leb (at + 4) (length s) (omega arith))

  -- and in exact
  pub version_eof : (exactly : Bool) → length s - at < 4 → exactly ≡ exact way → exactly ≡ true →
      Err (record { 0 = length s }, R.Eof) ≡ version_read way s place
  unfolding version_from
  version_eof exactly h x y = cc (lt-leb (at + 4) (length s) (omega arith))

-- the entry that names no way
pub version_unnamed : (way named : Way) (s : List ℕ) (place : ℕ) (answer : VersionAnswer) →
    way ≡ named → answer ≡ version_read way s place → answer ≡ version_read named s place
version_unnamed way named s place answer = at_way (λ w. version_read w s place)

pub ruleset version_ends = (version_whole, version_filled, version_eof, version_unnamed, rules)
