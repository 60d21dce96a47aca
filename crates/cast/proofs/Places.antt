-- The places of the variants in the enum, by sign and width, and what a check of all widths shows of each.
use mathlib.Core.Path.{◌≡◌, refl}
use mathlib.Core.Bool.{Bool, ◌&&◌}
use Prim.Native.Nat.{ℕ}
use lib.Dec.{T}
use lib.Ieee.Fits.{and_l, and_r}
use mir.Syntax.{Sign, signed, unsigned, Width, w8, w16, w32, w64, w128}
use denote.Enum.Declared
use Rattle.types.specs.declared.Integer.{Integer}
use Rattle.types.specs.declared.Integer.TheVariants as I
use Rattle.types.specs.contracts.Integer as Made
use Rattle.cast.specs.Variants.{sign, width}

abbrev pub every_width : (Width → Bool) → Bool
every_width p = p w8 && p w16 && p w32 && p w64 && p w128

pub every : (p : Width → Bool) → T (every_width p) → (w : Width) → T (p w)
every p t w8 = search (and_l, and_r)
every p t w16 = search (and_l, and_r)
every p t w32 = search (and_l, and_r)
every p t w64 = search (and_l, and_r)
every p t w128 = search (and_l, and_r)

-- an integer's place, which is that of its sign and its width
abbrev pub tag : Integer → ℕ
tag = Declared.tag_of Made.the_type

abbrev pub place : Sign → Width → ℕ
place signed w8 = 0
place signed w16 = 1
place signed w32 = 2
place signed w64 = 3
place signed w128 = 4
place unsigned w8 = 5
place unsigned w16 = 6
place unsigned w32 = 7
place unsigned w64 = 8
place unsigned w128 = 9

pub placed : (x : Integer) → tag x ≡ place (sign x) (width x)
placed (I.I8 v) = refl
placed (I.I16 v) = refl
placed (I.I32 v) = refl
placed (I.I64 v) = refl
placed (I.I128 v) = refl
placed (I.U8 v) = refl
placed (I.U16 v) = refl
placed (I.U32 v) = refl
placed (I.U64 v) = refl
placed (I.U128 v) = refl
