-- Two's complement over the byte count. Document 01, "Bytes of an atom": "Int in two's complement".
use Rattle.std.specs.Prelude.{ℕ, ◌-◌, ◌/◌, ◌^◌, ltb, ℤ, pos, negsuc}
use Rattle.types.specs.Choice.{pick}

-- the value of n bytes that hold v: v below the half, else v - 256 ^ n (`negsuc k` is -(k + 1))
unfoldable pub twos : ℕ → ℕ → ℤ
twos n v = pick (ltb v (256 ^ n / 2)) (pos v) (negsuc (256 ^ n - 1 - v))

-- what n bytes hold for a value: the value, or the value + 256 ^ n if it is negative
unfoldable pub twos_bits : ℕ → ℤ → ℕ
twos_bits n (pos k) = k
twos_bits n (negsuc k) = 256 ^ n - 1 - k
