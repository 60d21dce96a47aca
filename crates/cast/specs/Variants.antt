-- An integer taken apart: the sign and the width of its variant; its value is `types.Values.value`. Document 01,
-- "Casts". `Sign` and `Width` are the machine's own; `bits w` and `bytes w` are a width's size.
use Rattle.std.specs.Prelude.{◌^◌, Bool, true, false, ◌&&◌, ltb, eqb, ℤ, pos, negsuc, nat_abs}
use Rattle.std.specs.Int.Signed.{mag}
use mir.Syntax.{Sign, unsigned, signed, Width, w8, w16, w32, w64, w128}
use mir.Val.{bits, hbits, bytes}
use Rattle.types.specs.Values.{wide_of, value}
use Rattle.types.specs.declared.Integer.{Integer}
use Rattle.types.specs.declared.Integer.TheVariants as I

abbrev pub sign : Integer → Sign
sign (I.I8 v) = signed
sign (I.I16 v) = signed
sign (I.I32 v) = signed
sign (I.I64 v) = signed
sign (I.I128 v) = signed
sign (I.U8 v) = unsigned
sign (I.U16 v) = unsigned
sign (I.U32 v) = unsigned
sign (I.U64 v) = unsigned
sign (I.U128 v) = unsigned

abbrev pub width : Integer → Width
width (I.I8 v) = w8
width (I.I16 v) = w16
width (I.I32 v) = w32
width (I.I64 v) = w64
width (I.I128 v) = w128
width (I.U8 v) = w8
width (I.U16 v) = w16
width (I.U32 v) = w32
width (I.U64 v) = w64
width (I.U128 v) = w128

-- the variant of a sign and a width that holds a value
abbrev pub variant : Sign → Width → ℤ → Integer
variant signed w8 z = I.I8 z
variant signed w16 z = I.I16 z
variant signed w32 z = I.I32 z
variant signed w64 z = I.I64 z
variant signed w128 z = I.I128 (wide_of z)
variant unsigned w8 z = I.U8 (nat_abs z)
variant unsigned w16 z = I.U16 (nat_abs z)
variant unsigned w32 z = I.U32 (nat_abs z)
variant unsigned w64 z = I.U64 (nat_abs z)
variant unsigned w128 z = I.U128 (wide_of z)

-- the values of a sign and a width: from -2 ^ (b - 1) to 2 ^ (b - 1) - 1 in b bits if signed, from 0 to 2 ^ b - 1 if
-- not (`mag z` is n for n and for -(n + 1))
abbrev pub in_range : Sign → Width → ℤ → Bool
in_range signed w z = ltb (mag z) (2 ^ hbits w)
in_range unsigned w (pos n) = ltb n (2 ^ bits w)
in_range unsigned w (negsuc n) = false

-- whether a value is 0
abbrev pub is_zero : Integer → Bool
is_zero x = eqb (nat_abs (value x)) 0

-- the same sign
abbrev pub same_sign : Sign → Sign → Bool
same_sign signed signed = true
same_sign signed unsigned = false
same_sign unsigned signed = false
same_sign unsigned unsigned = true

-- the same value
abbrev pub same_value : ℤ → ℤ → Bool
same_value (pos m) (pos n) = eqb m n
same_value (pos m) (negsuc n) = false
same_value (negsuc m) (pos n) = false
same_value (negsuc m) (negsuc n) = eqb m n

-- "Integers are equal only if variant and value are."
unfoldable pub equal_integers : Integer → Integer → Bool
equal_integers a b =
    same_sign (sign a) (sign b) && eqb (bytes (width a)) (bytes (width b)) && same_value (value a) (value b)
