-- The number that an integer carries, the one home of it: casts, reads and writes go by it. Document 01, "Bytes of an
-- atom" and "Casts". `to_z` and `of_z` are the machine's own two's complement, of 128 bits here.
use Rattle.std.specs.Prelude.{ℕ, ◌+◌, ◌*◌, ◌/◌, ◌%◌, ◌^◌, ℤ, pos}
use Rattle.std.specs.Int.{w128}
use Rattle.std.proofs.Common.{to_z, of_z}
use Rattle.types.specs.declared.Wide.{Wide}
use Rattle.types.specs.declared.Integer.{Integer}
use Rattle.types.specs.declared.Integer.TheVariants as I

-- "128-bit values become two 64-bit words": the number that the words stand for, and the words of a number
abbrev pub joined : Wide → ℕ
joined w = w.hi * 2 ^ 64 + w.lo

abbrev pub words : ℕ → Wide
words n = record { lo = n % 2 ^ 64; hi = n / 2 ^ 64 }

-- "Int in two's complement": the signed number that the words stand for, and the words of a value of either sign
abbrev pub joined_signed : Wide → ℤ
joined_signed w = to_z w128 (joined w)

abbrev pub wide_of : ℤ → Wide
wide_of z = words (of_z w128 z)

-- the value of an integer, whatever its variant
abbrev pub value : Integer → ℤ
value (I.I8 v) = v
value (I.I16 v) = v
value (I.I32 v) = v
value (I.I64 v) = v
value (I.I128 v) = joined_signed v
value (I.U8 v) = pos v
value (I.U16 v) = pos v
value (I.U32 v) = pos v
value (I.U64 v) = pos v
value (I.U128 v) = pos (joined v)
