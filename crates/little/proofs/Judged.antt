-- What a reader of a number has judged before it reads: a callee's answer whose opposite was tested, and the room.
use mathlib.Core.Path.{◌≡◌, ◌∙◌, sym}
use mathlib.Core.Bool.{Bool, true, false, not}
use Prim.Native.Nat.{ℕ, ◌+◌, ◌-◌, ◌≤◌}
use native.Mathlib.Omega.{arith}
use borrow.Author.Tests.{not-true, not-false}

module _ (ok said : Bool) where
  pub passed : not ok ≡ false → ok ≡ said → said ≡ true
  passed f s = sym s ∙ not-false ok f

  pub failed : not ok ≡ true → ok ≡ said → said ≡ false
  failed f s = sym s ∙ not-true ok f

-- the bytes that the room was judged for are there
pub bytes_there : (at count long : ℕ) → at ≤ long → count ≤ long - at → at + count ≤ long
bytes_there at count long h l = omega arith

pub ruleset judged_laws = (passed, failed, bytes_there)
