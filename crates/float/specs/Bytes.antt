-- What the float writers write. Document 01, "Bytes of an atom": "`write_f32` uses 2 bytes exactly if the value is a
-- binary16 value, else 4; `write_f64` uses 2, else 4, else 8. Both zeros and both infinities take 2 bytes. A NaN is
-- written at its own width with its own bits." `narrowed` answers the narrower pattern of the same sign and magnitude,
-- if there is one, and none of a NaN; that these are the fewest bytes is proved in `proofs/Stored.antt`.
use Rattle.std.specs.Prelude.{ℕ, ◌-◌, List, ◌++◌, Option, Some, None}
use Rattle.std.specs.Float.{binary32, binary64}
use Rattle.std.specs.Float.Ieee.{to_bits}
use Rattle.types.specs.declared.Kind.TheVariants as K
use Rattle.types.specs.declared.Float.{Float}
use Rattle.types.specs.declared.Float.TheVariants as F
use Rattle.header.specs.Header.{header_bytes}
use Rattle.little.specs.Le.{to_le}
use Rattle.binary.specs.Formats.{half, single, double}
use Rattle.binary.specs.Conversions.{narrowed}

-- a float of that many bytes that hold the bits: its header, whose argument is the count less 1, and then the bytes
unfoldable pub float_bytes : ℕ → ℕ → List ℕ
float_bytes count bits = header_bytes K.Float (count - 1) ++ to_le count bits

-- the narrower form if there is one, else the wider
abbrev pub narrowest : Option ℕ → (ℕ → List ℕ) → List ℕ → List ℕ
narrowest (Some q) narrower wider = narrower q
narrowest None narrower wider = wider

-- "`write_f32` uses 2 bytes exactly if the value is a binary16 value, else 4": of a binary32 pattern
unfoldable pub f32_bytes : ℕ → List ℕ
f32_bytes bits = narrowest (narrowed single half bits) (float_bytes 2) (float_bytes 4 bits)

-- "`write_f64` uses 2, else 4, else 8": of a binary64 pattern
unfoldable pub f64_bytes : ℕ → List ℕ
f64_bytes bits = narrowest (narrowed double single bits) f32_bytes (float_bytes 8 bits)

-- a float's value; of the one NaN that a value can be, the pattern is the one with the quiet bit alone
unfoldable pub value_bytes : Float → List ℕ
value_bytes (F.F32 x) = f32_bytes (to_bits binary32 x)
value_bytes (F.F64 x) = f64_bytes (to_bits binary64 x)
