-- The place that a read starts from: within the source, and the given one if that is within it.
use mathlib.Core.Path.{◌≡◌, refl}
use mathlib.Core.Bool.{Bool, true, false}
use Prim.Native.Nat.{ℕ, ◌≤◌}
use native.Mathlib.Omega.{arith}
use lib.Dec.{ltb}
use borrow.Author.Tests.{ltb-false, le-ltb}
use Rattle.types.specs.Choice.{pick}
use Rattle.types.specs.Counters.{place_in}

most_at : (n at : ℕ) (t : Bool) → ltb n at ≡ t → pick t n at ≤ n
most_at n at true e = omega arith
most_at n at false e = omega (arith, ltb-false n at e)

pub place_within : (n at : ℕ) → place_in n at ≤ n
place_within n at = most_at n at (ltb n at) refl

pub place_same : (n at : ℕ) → at ≤ n → place_in n at ≡ at
place_same n at h = simp (le-ltb n at h)
