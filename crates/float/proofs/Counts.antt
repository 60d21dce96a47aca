-- The three counts of a float.
use mathlib.Core.Path.{◌≡◌, refl, ap}
use mathlib.Core.Bool.{Bool, true, false, false≢true}
use Prim.Native.Nat.{ℕ, ◌≤◌}
use native.Mathlib.Omega.{arith}
use lib.Dec.{eqb}
use borrow.Author.Tests.{eqb-true}
use Rattle.types.specs.Choice.{pick}
use Rattle.types.specs.Forms.{listed, allowed_float}

pub data Allowed (count : ℕ) : Type 0 where
  two : count ≡ 2 → Allowed count
  four : count ≡ 4 → Allowed count
  eight : count ≡ 8 → Allowed count

listed_case : (c : ℕ) (a b d : Bool) → eqb c 2 ≡ a → eqb c 4 ≡ b → eqb c 8 ≡ d →
    pick a true (pick b true (pick d true false)) ≡ true → Allowed c
listed_case c true b d p q r h = two (eqb-true c 2 p)
listed_case c false true d p q r h = four (eqb-true c 4 q)
listed_case c false false true p q r h = eight (eqb-true c 8 r)
listed_case c false false false p q r h = absurd (false≢true h)

pub allowed_is : (c : ℕ) → allowed_float c ≡ true → Allowed c
unfolding listed
allowed_is c h = listed_case c (eqb c 2) (eqb c 4) (eqb c 8) refl refl refl h

pub is_allowed : (c : ℕ) → Allowed c → allowed_float c ≡ true
unfolding listed
is_allowed c (two e) = ap allowed_float e
is_allowed c (four e) = ap allowed_float e
is_allowed c (eight e) = ap allowed_float e

pub allowed_most : (c : ℕ) → allowed_float c ≡ true → c ≤ 8
allowed_most c h = go (allowed_is c h)
  where
    go : Allowed c → c ≤ 8
    go (two e) = omega arith
    go (four e) = omega arith
    go (eight e) = omega arith

pub allowed_last : (c : ℕ) → allowed_float c ≡ true → (c ≡ 2 → ⊥) → (c ≡ 4 → ⊥) → c ≡ 8
allowed_last c h p q = go (allowed_is c h)
  where
    go : Allowed c → c ≡ 8
    go (two e) = absurd (p e)
    go (four e) = absurd (q e)
    go (eight e) = e
