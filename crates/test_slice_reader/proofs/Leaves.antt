-- What an integer read that is taken leaves of a slice: what stands after it.
use mathlib.Core.Path.{◌≡◌, refl, ◌∙◌, ap}
use mathlib.Core.Bool.{true}
use mathlib.Core.List.{List, ◌∷◌}
use Prim.Native.Nat.{ℕ, ◌+◌, ◌≤◌}
use native.Mathlib.Omega.{arith}
use lib.ListN.{length, drop}
use borrow.Author.Tests.{le-leb}
use Rattle.types.specs.Counters.{place_in}
use Rattle.types.specs.Forms.{listed, allowed_count}
use Rattle.types.proofs.Counters.{place_same}
use Rattle.types.specs.declared.Kind.{Kind}
use Rattle.types.specs.declared.Kind.TheVariants as K
use Rattle.integer.specs.Integers.{integer_kind, integer_from, integer_body}
use Rattle.slice_reader.specs.Left.{left_bytes}
use Rattle.slice_reader.specs.Given.{integer_given, integer_place}

-- a read starts at the first byte
starts : (s : List ℕ) → place_in (length s) 0 ≡ 0
starts s = place_same (length s) 0 (omega arith)

-- an integer that stands whole in the slice
integer_leaves : (s : List ℕ) (kind : Kind) (count : ℕ) → integer_kind kind ≡ true → allowed_count count ≡ true →
    count ≤ length s → left_bytes s (integer_place (integer_given s kind count)) ≡ drop count s
unfolding integer_given integer_from integer_body
integer_leaves s kind count e f h =
    let m : 0 + count ≤ length s = omega arith in
    let z : 0 + count ≡ count = omega arith in
    simp (e, f, starts s, le-leb (0 + count) (length s) m)
    (ap (λ (k : ℕ). drop k s) (place_same (length s) (0 + count) m ∙ z))

-- one byte, read as an integer of one byte
pub byte_leaves : (b : ℕ) (s : List ℕ) → left_bytes (b ∷ s) (integer_place (integer_given (b ∷ s) K.UInt 1)) ≡ s
unfolding listed
byte_leaves b s = integer_leaves (b ∷ s) K.UInt 1 refl refl (omega arith)
