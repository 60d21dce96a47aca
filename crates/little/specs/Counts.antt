-- The smallest byte count that holds a value. Document 01, "Bytes of an atom".
use Rattle.std.specs.Prelude.{ℕ, ◌/◌, ◌^◌, Bool, List, [], ◌∷◌, ltb, ℤ, pos, negsuc}
use Rattle.types.specs.Choice.{pick}
use Rattle.types.specs.Forms.{integers_written}

-- whether n bytes hold an unsigned value
unfoldable pub holds_u : ℕ → ℕ → Bool
holds_u n k = ltb k (256 ^ n)

-- whether n bytes hold a signed value: -(256 ^ n / 2) ≤ z < 256 ^ n / 2
unfoldable pub holds_s : ℕ → ℤ → Bool
holds_s n (pos k) = ltb k (256 ^ n / 2)
holds_s n (negsuc k) = ltb k (256 ^ n / 2)

-- the first number of a list that passes a test; 0 if none does
unfoldable pub first_that : (ℕ → Bool) → List ℕ → ℕ
first_that p [] = 0
first_that p (c ∷ cs) = pick (p c) c (first_that p cs)

-- "Writers use the smallest count that holds the value."
unfoldable pub shortest_u : ℕ → ℕ
shortest_u k = first_that (λ n. holds_u n k) integers_written

unfoldable pub shortest_s : ℤ → ℕ
shortest_s z = first_that (λ n. holds_s n z) integers_written
