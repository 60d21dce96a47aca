-- What holds of each of a list's numbers holds of any number that is one of them; so of every allowed count.
use mathlib.Core.Path.{◌≡◌, refl, sym, subst}
use mathlib.Core.Bool.{Bool, true, false, false≢true}
use mathlib.Core.List.{List, [], ◌∷◌}
use Prim.Native.Nat.{ℕ, ◌<◌, ◌≤◌}
use lib.Dec.{eqb, lit<, lit≤}
use borrow.Author.Tests.{eqb-true}
use Rattle.types.specs.Forms.{integers_read, listed, allowed_count}

-- it holds of each
abbrev pub Each : (ℕ → Type 0) → List ℕ → Type 0
Each P [] = Unit
Each P (d ∷ ds) = P d × Each P ds

each_at : (P : ℕ → Type 0) (d : ℕ) (ds : List ℕ) (n : ℕ) (t : Bool) → eqb n d ≡ t → P d → (listed n ds ≡ true → P n) →
    listed n (d ∷ ds) ≡ true → P n
unfolding listed
each_at P d ds n true e p rest h = subst P (sym (eqb-true n d e)) p
each_at P d ds n false e p rest h = rest (rw e at h)

pub each : (P : ℕ → Type 0) (l : List ℕ) → Each P l → (n : ℕ) → listed n l ≡ true → P n
unfolding listed
each P [] h n e = absurd (false≢true e)
each P (d ∷ ds) h n e = each_at P d ds n (eqb n d) refl h.0 (each P ds h.1 n) e

-- an allowed count is 1 to 16
pub allowed_bounds : (n : ℕ) → allowed_count n ≡ true → (0 < n) × (n ≤ 16)
allowed_bounds n h =
    each (λ m. (0 < m) × (m ≤ 16)) integers_read (
      (lit< tt, lit≤ tt),
      (
        (lit< tt, lit≤ tt),
        (
          (lit< tt, lit≤ tt),
          ((lit< tt, lit≤ tt), ((lit< tt, lit≤ tt), ((lit< tt, lit≤ tt), ((lit< tt, lit≤ tt), tt)))),
        ),
      ),
    ) n
    h
