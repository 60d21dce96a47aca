-- The starred examples of document 01, "Examples at the edges": one table, under a single theorem over the definitions.
-- An example that names no way is read by the entry that names none.
use mathlib.Core.Path.{◌≡◌, refl}
use mathlib.Core.Bool.{true, false}
use mathlib.Core.List.{[], ◌∷◌, ◌++◌}
use Prim.Native.Nat.{◌-◌, ◌*◌, ◌^◌}
use lib.IntN.{pos, negsuc}
use lib.ListN.{replicate}
use lib.Ieee.{of_int, size}
use Rattle.types.specs.Kinds.{kind_code}
use Rattle.types.specs.Forms.{listed}
use Rattle.types.specs.Ways.{unnamed_way}
use Rattle.types.specs.declared.Way.TheVariants as W
use Rattle.types.specs.declared.Kind.TheVariants as K
use Rattle.types.specs.declared.Integer.TheVariants as I
use Rattle.types.specs.declared.Nucleus.TheVariants as N
use Rattle.header.specs.Header.{header_bytes, later_bytes, header_read, header_from, header_length, header_argument}
use Rattle.header.specs.Header.{later_count, later_value}
use Rattle.header.specs.Signature.{version_read, version_from, big_endian, every_bit}
use Rattle.little.specs.Le.{to_le, from_le, number_at}
use Rattle.little.specs.Twos.{twos, twos_bits}
use Rattle.little.specs.Counts.{holds_s, holds_u, first_that, shortest_s, shortest_u}
use Rattle.integer.specs.Integers.{integer_body, int_of, uint_of}
use Rattle.writers.specs.Bytes.{signed_bytes, integer_bytes}
use Rattle.binary.specs.Formats.{single, finite, meaning, smallests}
use Rattle.binary.specs.Floats.{float_meaning}
use Rattle.binary.specs.Conversions.{packed, narrowed}
use Rattle.float.specs.Bytes.{float_bytes, f32_bytes}
use Rattle.cast.specs.Casts.{as_f32, cast}
use Rattle.atom.specs.Atoms.{atom_read, judged}
use Rattle.promises.specs.Told.{told, told_header, told_version, told_atom, told_as_f32, nucleus_told, meaning_told}

pub record Starred : Type 0 where
  -- "UInt 15 writes `4F`; UInt 16 `50 01`; Bytes 2047 `FF 7F`, 2048 `F0 80 01`"
  pub uint_15 : header_bytes K.UInt 15 ≡ 0x4F ∷ []
  pub uint_16 : header_bytes K.UInt 16 ≡ 0x50 ∷ 0x01 ∷ []
  pub bytes_2047 : header_bytes K.Bytes 2047 ≡ 0xFF ∷ 0x7F ∷ []
  pub bytes_2048 : header_bytes K.Bytes 2048 ≡ 0xF0 ∷ 0x80 ∷ 0x01 ∷ []
  -- "Header Special, 2^64 - 1: `1F`, eight `FF`, `0F`. `1F` and nine `FF` read the same."
  pub longest : header_bytes K.Special (2 ^ 64 - 1) ≡ 0x1F ∷ (replicate 8 0xFF ++ (0x0F ∷ []))
  pub nine :
      told_header (header_read unnamed_way (0x1F ∷ replicate 9 0xFF) 0)
      ≡ told 0 (pos 10 ∷ pos (kind_code K.Special) ∷ pos (2 ^ 64 - 1) ∷ [])
  -- "write_i16(-129) `21 7F FF`; write_i32(-8388608) `22 00 00 80`; 8388608 `23 00 00 80 00`"
  pub i16 : signed_bytes (negsuc 128) ≡ 0x21 ∷ 0x7F ∷ 0xFF ∷ []
  pub i32_low : signed_bytes (negsuc 8388607) ≡ 0x22 ∷ 0x00 ∷ 0x00 ∷ 0x80 ∷ []
  pub i32_high : signed_bytes (pos 8388608) ≡ 0x23 ∷ 0x00 ∷ 0x00 ∷ 0x80 ∷ 0x00 ∷ []
  -- "65504 `61 FF 7B`; 65520 as f32 `63 00 F0 7F 47`": by the binary32 patterns that mean them, in units of 2^-1074
  pub means_65504 : meaning single 0x477FE000 ≡ finite false (65504 * 2 ^ 1074)
  pub f65504 : f32_bytes 0x477FE000 ≡ 0x61 ∷ 0xFF ∷ 0x7B ∷ []
  pub means_65520 : meaning single 0x477FF000 ≡ finite false (65520 * 2 ^ 1074)
  pub f65520 : f32_bytes 0x477FF000 ≡ 0x63 ∷ 0x00 ∷ 0xF0 ∷ 0x7F ∷ 0x47 ∷ []
  -- "`22 00 00 80`: budget 3 gives 5, budget 3, place 1; budget 4 reads, 0 left": place, budget; the kind Int with
  -- argument 2, at 0, 1 and 4, holds an integer, signed, of 32 bits
  pub budget_3 :
      told_atom (atom_read unnamed_way (0x22 ∷ 0x00 ∷ 0x00 ∷ 0x80 ∷ []) 0 (record { 0 = 3 }) [])
      ≡ told 5 (pos 1 ∷ pos 3 ∷ [])
  pub budget_4 :
      told_atom (atom_read unnamed_way (0x22 ∷ 0x00 ∷ 0x00 ∷ 0x80 ∷ []) 0 (record { 0 = 4 }) [])
      ≡ told 0
      (pos 4 ∷ pos 0 ∷ pos (kind_code K.Int) ∷ pos 2 ∷ pos 0 ∷ pos 1 ∷ pos 4
      ∷ nucleus_told (N.Integer (I.I32 (negsuc 8388607))))
  -- "`24`: budget 9 gives 6(Int, 5), budget 4; budget 4 gives 5"
  pub width_5 :
      told_atom (atom_read unnamed_way (0x24 ∷ []) 0 (record { 0 = 9 }) [])
      ≡ told 6 (pos 1 ∷ pos 4 ∷ pos (kind_code K.Int) ∷ pos 5 ∷ [])
  pub charge_5 : told_atom (atom_read unnamed_way (0x24 ∷ []) 0 (record { 0 = 4 }) []) ≡ told 5 (pos 1 ∷ pos 4 ∷ [])
  -- "`41 2C` filled: U16(44), place 2; exact: 4"
  pub filled_44 :
      told_atom (atom_read W.Filled (0x41 ∷ 0x2C ∷ []) 0 (record { 0 = 2 }) [])
      ≡ told 0
      (pos 2 ∷ pos 0 ∷ pos (kind_code K.UInt) ∷ pos 1 ∷ pos 0 ∷ pos 1 ∷ pos 2 ∷ nucleus_told (N.Integer (I.U16 44)))
  pub exact_44 :
      told_atom (atom_read W.ExactLent (0x41 ∷ 0x2C ∷ []) 0 (record { 0 = 2 }) []) ≡ told 4 (pos 2 ∷ pos 0 ∷ [])
  -- and by the entry that names no way, since document 02, K4
  pub unnamed_44 :
      told_atom (atom_read unnamed_way (0x41 ∷ 0x2C ∷ []) 0 (record { 0 = 2 }) []) ≡ told 4 (pos 2 ∷ pos 0 ∷ [])
  -- "`70 6F 74 01` is taken, version 1"
  pub taken : told_version (version_read unnamed_way (0x70 ∷ 0x6F ∷ 0x74 ∷ 0x01 ∷ []) 0) ≡ told 0 (pos 4 ∷ pos 1 ∷ [])
  -- "Integer -2^24 passes `as_f32`, 2^24 doesn't"
  pub as_f32_rows : told_as_f32 (as_f32 (I.I32 (negsuc 16777215))) ≡ told 0 (meaning_told (finite true (2 ^ 24 * 2 ^ 1074)))
  pub as_f32_not : told_as_f32 (as_f32 (I.I32 (pos 16777216))) ≡ told 8 []

pub starred : Starred
unfolding header_bytes later_bytes header_from header_length header_argument later_count later_value version_from big_endian
    every_bit to_le from_le number_at twos twos_bits holds_s holds_u first_that shortest_s shortest_u listed integer_body int_of
    uint_of signed_bytes integer_bytes meaning smallests packed narrowed float_bytes f32_bytes cast atom_read judged of_int
    size float_meaning
starred = record {
  uint_15 = refl;
  uint_16 = refl;
  bytes_2047 = refl;
  bytes_2048 = refl;
  longest = refl;
  nine = refl;
  i16 = refl;
  i32_low = refl;
  i32_high = refl;
  means_65504 = refl;
  f65504 = refl;
  means_65520 = refl;
  f65520 = refl;
  budget_3 = refl;
  budget_4 = refl;
  width_5 = refl;
  charge_5 = refl;
  filled_44 = refl;
  exact_44 = refl;
  unnamed_44 = refl;
  taken = refl;
  as_f32_rows = refl;
  as_f32_not = refl;
}
