-- The codes of the specials, there and back: each code is its special's, and from 7 on there is none.
use Rattle.std.specs.Prelude.{Ok, Err}
use mathlib.Core.Path.{◌≡◌, refl, ◌∙◌, sym}
use mathlib.Core.Bool.{Bool, true, false, false≢true}
use Prim.Native.Nat.{ℕ, zero, suc, ◌≤◌, ◌<◌}
use native.Mathlib.Omega.{arith}
use lib.Dec.{ltb}
use borrow.Author.Tests.{ne_eqb, ltb-true, ltb-false}
use Rattle.types.specs.Kinds.{special_code, special_from, special_known}
use Rattle.types.specs.declared.Special.{Special}
use Rattle.types.specs.declared.Special.TheVariants as S
use Rattle.types.specs.declared.Refusal.{Refusal}
use Rattle.types.specs.declared.Refusal.TheVariants as R

pub special_known_lem : (special : Special) → special_from (special_code special) ≡ Ok special
special_known_lem S.None = refl
special_known_lem S.Unit = refl
special_known_lem S.False = refl
special_known_lem S.True = refl
special_known_lem S.Named = refl
special_known_lem S.DynamicMap = refl
special_known_lem S.DynamicEnd = refl

pub special_small : (special : Special) → special_code special < 7
special_small S.None = omega arith
special_small S.Unit = omega arith
special_small S.False = omega arith
special_small S.True = omega arith
special_small S.Named = omega arith
special_small S.DynamicMap = omega arith
special_small S.DynamicEnd = omega arith

differs : (n i : ℕ) → i < 7 → 7 ≤ n → n ≡ i → ⊥
differs n i h k e = omega arith

pub special_unknown : (n : ℕ) → 7 ≤ n → special_from n ≡ Err (R.UnknownSpecial n)
special_unknown n k =
    simp (
      ne_eqb n 0 (differs n 0 (omega arith) k),
      ne_eqb n 1 (differs n 1 (omega arith) k),
      ne_eqb n 2 (differs n 2 (omega arith) k),
      ne_eqb n 3 (differs n 3 (omega arith) k),
      ne_eqb n 4 (differs n 4 (omega arith) k),
      ne_eqb n 5 (differs n 5 (omega arith) k),
      ne_eqb n 6 (differs n 6 (omega arith) k),
    )

-- below 7 each argument has its special
pub special_found : (n : ℕ) → n < 7 → special_from n ≡ Ok (special_known (special_from n))
special_found zero h = refl
special_found (suc zero) h = refl
special_found (suc (suc zero)) h = refl
special_found (suc (suc (suc zero))) h = refl
special_found (suc (suc (suc (suc zero)))) h = refl
special_found (suc (suc (suc (suc (suc zero))))) h = refl
special_found (suc (suc (suc (suc (suc (suc zero)))))) h = refl
special_found (suc (suc (suc (suc (suc (suc (suc n))))))) h = absurd (none n h)
  where
    none : (n : ℕ) → suc (suc (suc (suc (suc (suc (suc n)))))) < 7 → ⊥
    none n h = omega arith

-- so an argument that has a special is known, and one that has none is not
found_below : (n : ℕ) (special : Special) (t : Bool) → ltb n 7 ≡ t → special_from n ≡ Ok special → ltb n 7 ≡ true
found_below n special true e h = e
found_below n special false e h =
    let x = sym (special_unknown n (ltb-false n 7 e)) ∙ h in
    absurd (false≢true cc)

pub special_below : (n : ℕ) (special : Special) → special_from n ≡ Ok special → ltb n 7 ≡ true
special_below n special h = found_below n special (ltb n 7) refl h

refused_above : (n : ℕ) (r : Refusal) (t : Bool) → ltb n 7 ≡ t → special_from n ≡ Err r →
    (ltb n 7 ≡ false) × (r ≡ R.UnknownSpecial n)
refused_above n r true e h =
    let x = sym (special_found n (ltb-true n 7 e)) ∙ h in
    absurd (false≢true cc)
refused_above n r false e h =
    let x = sym (special_unknown n (ltb-false n 7 e)) ∙ h in
    (e, cc)

pub special_above : (n : ℕ) (r : Refusal) → special_from n ≡ Err r → (ltb n 7 ≡ false) × (r ≡ R.UnknownSpecial n)
special_above n r h = refused_above n r (ltb n 7) refl h
