-- The part that a mark says, where it lies within its slice.
use mathlib.Core.Path.{◌≡◌, refl}
use mathlib.Core.Bool.{true, false}
use mathlib.Core.List.{List}
use Prim.Native.Nat.{ℕ, ◌+◌, ◌≤◌}
use lib.ListN.{length, take, drop}
use borrow.Author.Tests.{le-ltb}
use Rattle.reader.specs.Parts.{part_of, marked_bytes}

pub part_within : (s : List ℕ) (start len : ℕ) → start + len ≤ length s → part_of s start len ≡ take len (drop start s)
part_within s start len h = simp (le-ltb (length s) (start + len) h)

-- the mark names the slice
module _ (start len : ℕ) (source scratch : List ℕ) where
  pub marked_lent :
      marked_bytes (record { start = start; len = len; lent = true }) source scratch ≡ part_of source start len
  unfolding marked_bytes
  marked_lent = refl

  pub marked_copied :
      marked_bytes (record { start = start; len = len; lent = false }) source scratch ≡ part_of scratch start len
  unfolding marked_bytes
  marked_copied = refl
