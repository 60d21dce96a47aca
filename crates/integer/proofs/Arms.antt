-- The arms of the readers of an integer of a known count: the variant that each makes, by the count that led to it.
use mathlib.Core.Path.{◌≡◌, refl}
use mathlib.Core.Bool.{Bool, true, false, false≢true}
use mathlib.Core.List.{List}
use mathlib.Core.Logic.{◌⊎◌, inl, inr}
use Prim.Native.Nat.{ℕ, ◌+◌, ◌*◌, ◌/◌, ◌%◌, ◌^◌, ◌≤◌, ◌<◌}
use native.Mathlib.Omega.{arith}
use borrow.Author.Rules.{rules}
use borrow.Author.Tests.{ne_eqb, eqb-true, eqb-false}
use lib.Dec.{eqb, leb}
use lib.IntN.{ℤ}
use mir.Syntax.{w8, w16, w32, w64}
use mir.Val.{SFits, to_z, of_z}
use mir.ValLaws.{to_z-of_z}
use Rattle.types.specs.Choice.{pick}
use Rattle.types.specs.Values.{words}
use Rattle.types.specs.Forms.{listed, allowed_count}
use Rattle.types.specs.declared.Integer.TheVariants as I
use Rattle.types.specs.declared.Wide.{Wide}
use Rattle.little.specs.Le.{number_at}
use Rattle.little.specs.Twos.{twos}
use Rattle.little.proofs.At.{number_add}
use Rattle.integer.specs.Integers.{int_of, uint_of}

-- a count that a reader has found to be n, and the bits that it has read there
module _ (s : List ℕ) (at count n bits : ℕ) (e : count ≡ n) (f : bits ≡ number_at n s at) where
  -- one byte
  module _ (one : eqb n 1 ≡ true) where
    pub signed_one : (z : ℤ) → z ≡ twos n bits → SFits w8 z →
        I.I8 (to_z w8 (of_z w8 z)) ≡ int_of count (number_at count s at)
    unfolding int_of
    signed_one z g h = cc (to_z-of_z w8 z h)

    pub unsigned_one : I.U8 bits ≡ uint_of count (number_at count s at)
    unfolding uint_of
    unsigned_one = cc

  module _ (not_one : eqb n 1 ≡ false) where
    -- two
    module _ (two : eqb n 2 ≡ true) where
      pub signed_two : (z : ℤ) → z ≡ twos n bits → SFits w16 z →
          I.I16 (to_z w16 (of_z w16 z)) ≡ int_of count (number_at count s at)
      unfolding int_of
      signed_two z g h = cc (to_z-of_z w16 z h)

      pub unsigned_two : I.U16 bits ≡ uint_of count (number_at count s at)
      unfolding uint_of
      unsigned_two = cc

    module _ (not-two : eqb n 2 ≡ false) where
      -- three or four
      module _ (four : leb n 4 ≡ true) where
        pub signed_four : (z : ℤ) → z ≡ twos n bits → SFits w32 z →
            I.I32 (to_z w32 (of_z w32 z)) ≡ int_of count (number_at count s at)
        unfolding int_of
        signed_four z g h = cc (to_z-of_z w32 z h)

        pub unsigned_four : I.U32 bits ≡ uint_of count (number_at count s at)
        unfolding uint_of
        unsigned_four = cc

      -- six or eight
      module _ (more : leb n 4 ≡ false) (eight : leb n 8 ≡ true) where
        pub signed_eight : (z : ℤ) → z ≡ twos n bits → SFits w64 z →
            I.I64 (to_z w64 (of_z w64 z)) ≡ int_of count (number_at count s at)
        unfolding int_of
        signed_eight z g h = cc (to_z-of_z w64 z h)

        pub unsigned_eight : I.U64 bits ≡ uint_of count (number_at count s at)
        unfolding uint_of
        unsigned_eight = cc

-- the last arm has the counts that none of the others has
abbrev pub NotSmaller : ℕ → Type 0
NotSmaller count =
    (((((Unit × (count ≡ 1 → ⊥)) × (count ≡ 2 → ⊥)) × (count ≡ 3 → ⊥)) × (count ≡ 4 → ⊥)) × (count ≡ 6 → ⊥)) ×
    (count ≡ 8 → ⊥)

sixteen_alone : (count : ℕ) → NotSmaller count → allowed_count count ≡ pick (eqb count 16) true false
unfolding listed
sixteen_alone count n =
    simp (
      ne_eqb count 1 n.0.0.0.0.0.1,
      ne_eqb count 2 n.0.0.0.0.1,
      ne_eqb count 3 n.0.0.0.1,
      ne_eqb count 4 n.0.0.1,
      ne_eqb count 6 n.0.1,
      ne_eqb count 8 n.1,
    )

-- of which 16 is allowed
sixteen : (count : ℕ) → allowed_count count ≡ true → NotSmaller count → (t : Bool) → eqb count 16 ≡ t → count ≡ 16
sixteen count a n true e = eqb-true count 16 e
sixteen count a n false e = let s = sixteen_alone count n in absurd (false≢true cc)

module _ (at count : ℕ) (a : allowed_count count ≡ true) (n : NotSmaller count) where
  pub sixteen_there : (long : ℕ) → at + count ≤ long → at + 16 ≤ long
  sixteen_there long h = let e = sixteen count a n (eqb count 16) refl in omega arith

  module _ (s : List ℕ) (wide : Wide) (f : wide ≡ words (number_at 16 s at)) where
    pub signed_sixteen : I.I128 wide ≡ int_of count (number_at count s at)
    unfolding int_of
    signed_sixteen = cc (sixteen count a n (eqb count 16) refl)

    pub unsigned_sixteen : I.U128 wide ≡ uint_of count (number_at count s at)
    unfolding uint_of
    unsigned_sixteen = cc (sixteen count a n (eqb count 16) refl)

-- two words of 8 bytes are those of the number of 16
pub two_words : (s : List ℕ) (at low high : ℕ) → low ≡ number_at 8 s at → high ≡ number_at 8 s (at + 8) →
    low < 256 ^ 8 → ◌≡◌ {A = Wide} record { lo = low; hi = high } (words (number_at 16 s at))
two_words s at low high e f h =
    let whole : number_at 16 s at ≡ number_at 8 s at + 256 ^ 8 * number_at 8 s (at + 8) = number_add 8 8 s at in
    let l : low ≡ number_at 16 s at % 2 ^ 64 = omega arith in
    let u : high ≡ number_at 16 s at / 2 ^ 64 = omega arith in
    rw (l, u) refl

pub ruleset signed_arms = (signed_one, signed_two, signed_four, signed_eight, signed_sixteen)

pub ruleset unsigned_arms = (unsigned_one, unsigned_two, unsigned_four, unsigned_eight, unsigned_sixteen)

pub ruleset arms = (signed_arms, unsigned_arms, sixteen_there, two_words, rules)

-- a count that is one of the list, by where it lies (below 1, at most 4, or one of three), and one that is not
module _ (count : ℕ) where
  pub none_unlisted : count < 1 → false ≡ allowed_count count
  unfolding listed
  none_unlisted h = let e : count ≡ 0 = omega arith in cc e

  pub low_listed : 1 ≤ count → count ≤ 4 → true ≡ allowed_count count
  unfolding listed
  low_listed l h = go (eqb count 1) (eqb count 2) (eqb count 3) refl refl refl
    where
      go : (t u v : Bool) → eqb count 1 ≡ t → eqb count 2 ≡ u → eqb count 3 ≡ v → true ≡ allowed_count count
      go true u v a b c = cc
      go false true v a b c = cc
      go false false true a b c = cc
      go false false false a b c =
          let m = eqb-false count 1 a in
          let n = eqb-false count 2 b in
          let o = eqb-false count 3 c in
          let e : count ≡ 4 = omega arith in
          cc e

  pub high_listed : (count ≡ 6) ⊎ ((count ≡ 8) ⊎ (count ≡ 16)) → true ≡ allowed_count count
  unfolding listed
  high_listed (inl e) = cc e
  high_listed (inr (inl e)) = cc e
  high_listed (inr (inr e)) = cc e

  pub high_unlisted : 4 < count → (count ≡ 6 → ⊥) → (count ≡ 8 → ⊥) → (count ≡ 16 → ⊥) → false ≡ allowed_count count
  unfolding listed
  high_unlisted h a b c =
      cc (
        ne_eqb count 1 (omega arith),
        ne_eqb count 2 (omega arith),
        ne_eqb count 3 (omega arith),
        ne_eqb count 4 (omega arith),
        ne_eqb count 6 a,
        ne_eqb count 8 b,
        ne_eqb count 16 c,
      )

pub ruleset counts_ends = (none_unlisted, low_listed, high_listed, high_unlisted, rules)
