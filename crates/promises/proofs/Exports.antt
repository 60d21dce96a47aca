-- One result for each contract of `exports`, and one content of each lent buffer.
use Rattle.exports.specs.contracts.pot_check as pot-check
use Rattle.exports.proofs.pot_check.Reads as pot-check-reads
use Rattle.exports.specs.contracts.pot_f32_as_f64 as pot-f32-as-f64
use Rattle.exports.proofs.pot_f32_as_f64.Reads as pot-f32-as-f64-reads
use Rattle.exports.specs.contracts.pot_f32_as_integer as pot-f32-as-integer
use Rattle.exports.proofs.pot_f32_as_integer.Reads as pot-f32-as-integer-reads
use Rattle.exports.specs.contracts.pot_f64_as_f32 as pot-f64-as-f32
use Rattle.exports.proofs.pot_f64_as_f32.Reads as pot-f64-as-f32-reads
use Rattle.exports.specs.contracts.pot_f64_as_integer as pot-f64-as-integer
use Rattle.exports.proofs.pot_f64_as_integer.Reads as pot-f64-as-integer-reads
use Rattle.exports.specs.contracts.pot_integer_as_f32 as pot-integer-as-f32
use Rattle.exports.proofs.pot_integer_as_f32.Reads as pot-integer-as-f32-reads
use Rattle.exports.specs.contracts.pot_integer_as_f64 as pot-integer-as-f64
use Rattle.exports.proofs.pot_integer_as_f64.Reads as pot-integer-as-f64-reads
use Rattle.exports.specs.contracts.pot_integer_cast as pot-integer-cast
use Rattle.exports.proofs.pot_integer_cast.Reads as pot-integer-cast-reads
use Rattle.exports.specs.contracts.pot_read_atom as pot-read-atom
use Rattle.exports.proofs.pot_read_atom.Reads as pot-read-atom-reads
use Rattle.exports.specs.contracts.pot_read_atom_copied as pot-read-atom-copied
use Rattle.exports.proofs.pot_read_atom_copied.Reads as pot-read-atom-copied-reads
use Rattle.exports.specs.contracts.pot_read_atom_exact as pot-read-atom-exact
use Rattle.exports.proofs.pot_read_atom_exact.Reads as pot-read-atom-exact-reads
use Rattle.exports.specs.contracts.pot_read_atom_filled as pot-read-atom-filled
use Rattle.exports.proofs.pot_read_atom_filled.Reads as pot-read-atom-filled-reads
use Rattle.exports.specs.contracts.pot_read_header as pot-read-header
use Rattle.exports.proofs.pot_read_header.Reads as pot-read-header-reads
use Rattle.exports.specs.contracts.pot_read_header_exact as pot-read-header-exact
use Rattle.exports.proofs.pot_read_header_exact.Reads as pot-read-header-exact-reads
use Rattle.exports.specs.contracts.pot_read_header_filled as pot-read-header-filled
use Rattle.exports.proofs.pot_read_header_filled.Reads as pot-read-header-filled-reads
use Rattle.exports.specs.contracts.pot_run as pot-run
use Rattle.exports.proofs.pot_run.Reads as pot-run-reads
use Rattle.exports.specs.contracts.pot_skip_atom as pot-skip-atom
use Rattle.exports.proofs.pot_skip_atom.Reads as pot-skip-atom-reads
use Rattle.exports.specs.contracts.pot_tally as pot-tally
use Rattle.exports.proofs.pot_tally.Reads as pot-tally-reads
use Rattle.exports.specs.contracts.pot_write_atom_header as pot-write-atom-header
use Rattle.exports.proofs.pot_write_atom_header.Reads as pot-write-atom-header-reads
use Rattle.exports.specs.contracts.pot_write_bool as pot-write-bool
use Rattle.exports.proofs.pot_write_bool.Reads as pot-write-bool-reads
use Rattle.exports.specs.contracts.pot_write_bytes as pot-write-bytes
use Rattle.exports.proofs.pot_write_bytes.Reads as pot-write-bytes-reads
use Rattle.exports.specs.contracts.pot_write_f32 as pot-write-f32
use Rattle.exports.proofs.pot_write_f32.Reads as pot-write-f32-reads
use Rattle.exports.specs.contracts.pot_write_f64 as pot-write-f64
use Rattle.exports.proofs.pot_write_f64.Reads as pot-write-f64-reads
use Rattle.exports.specs.contracts.pot_write_header as pot-write-header
use Rattle.exports.proofs.pot_write_header.Reads as pot-write-header-reads
use Rattle.exports.specs.contracts.pot_write_i128 as pot-write-i128
use Rattle.exports.proofs.pot_write_i128.Reads as pot-write-i128-reads
use Rattle.exports.specs.contracts.pot_write_i16 as pot-write-i16
use Rattle.exports.proofs.pot_write_i16.Reads as pot-write-i16-reads
use Rattle.exports.specs.contracts.pot_write_i24 as pot-write-i24
use Rattle.exports.proofs.pot_write_i24.Reads as pot-write-i24-reads
use Rattle.exports.specs.contracts.pot_write_i32 as pot-write-i32
use Rattle.exports.proofs.pot_write_i32.Reads as pot-write-i32-reads
use Rattle.exports.specs.contracts.pot_write_i48 as pot-write-i48
use Rattle.exports.proofs.pot_write_i48.Reads as pot-write-i48-reads
use Rattle.exports.specs.contracts.pot_write_i64 as pot-write-i64
use Rattle.exports.proofs.pot_write_i64.Reads as pot-write-i64-reads
use Rattle.exports.specs.contracts.pot_write_i8 as pot-write-i8
use Rattle.exports.proofs.pot_write_i8.Reads as pot-write-i8-reads
use Rattle.exports.specs.contracts.pot_write_integer as pot-write-integer
use Rattle.exports.proofs.pot_write_integer.Reads as pot-write-integer-reads
use Rattle.exports.specs.contracts.pot_write_named as pot-write-named
use Rattle.exports.proofs.pot_write_named.Reads as pot-write-named-reads
use Rattle.exports.specs.contracts.pot_write_none as pot-write-none
use Rattle.exports.proofs.pot_write_none.Reads as pot-write-none-reads
use Rattle.exports.specs.contracts.pot_write_special as pot-write-special
use Rattle.exports.proofs.pot_write_special.Reads as pot-write-special-reads
use Rattle.exports.specs.contracts.pot_write_u128 as pot-write-u128
use Rattle.exports.proofs.pot_write_u128.Reads as pot-write-u128-reads
use Rattle.exports.specs.contracts.pot_write_u16 as pot-write-u16
use Rattle.exports.proofs.pot_write_u16.Reads as pot-write-u16-reads
use Rattle.exports.specs.contracts.pot_write_u24 as pot-write-u24
use Rattle.exports.proofs.pot_write_u24.Reads as pot-write-u24-reads
use Rattle.exports.specs.contracts.pot_write_u32 as pot-write-u32
use Rattle.exports.proofs.pot_write_u32.Reads as pot-write-u32-reads
use Rattle.exports.specs.contracts.pot_write_u48 as pot-write-u48
use Rattle.exports.proofs.pot_write_u48.Reads as pot-write-u48-reads
use Rattle.exports.specs.contracts.pot_write_u64 as pot-write-u64
use Rattle.exports.proofs.pot_write_u64.Reads as pot-write-u64-reads
use Rattle.exports.specs.contracts.pot_write_u8 as pot-write-u8
use Rattle.exports.proofs.pot_write_u8.Reads as pot-write-u8-reads
use Rattle.exports.specs.contracts.pot_write_unit as pot-write-unit
use Rattle.exports.proofs.pot_write_unit.Reads as pot-write-unit-reads
use Rattle.promises.proofs.One.{One}
use Prim.Native.Nat.{ℕ}
use mathlib.Core.List.{List}
use mathlib.Core.Path.{◌∙◌, sym}

pub pot_read_atom_one : One pot-read-atom.ended pot-read-atom-reads.Post (λ κs s. s.1.1.1.0.now)
pot_read_atom_one κs a r₁ r₂ s₁ s₂ p q = (p.0 ∙ sym q.0, p.1 ∙ sym q.1)

pub pot_read_atom_filled_one :
    One pot-read-atom-filled.ended pot-read-atom-filled-reads.Post (λ κs s. s.1.1.1.0.now)
pot_read_atom_filled_one κs a r₁ r₂ s₁ s₂ p q = (p.0 ∙ sym q.0, p.1 ∙ sym q.1)

pub pot_read_atom_exact_one : One pot-read-atom-exact.ended pot-read-atom-exact-reads.Post (λ κs s. s.1.1.1.0.now)
pot_read_atom_exact_one κs a r₁ r₂ s₁ s₂ p q = (p.0 ∙ sym q.0, p.1 ∙ sym q.1)

pub pot_read_atom_copied_one :
    One pot-read-atom-copied.ended {X = List ℕ × List ℕ} pot-read-atom-copied-reads.Post
    (λ κs s. (s.1.1.1.1.0.now, s.1.1.1.0.now))
pot_read_atom_copied_one κs a r₁ r₂ s₁ s₂ p q =
    (p.0 ∙ sym q.0, λ i. ((p.1.0 ∙ sym q.1.0) i, (p.1.1 ∙ sym q.1.1) i))

pub pot_skip_atom_one : One pot-skip-atom.ended pot-skip-atom-reads.Post (λ κs s. s.1.1.1.0.now)
pot_skip_atom_one κs a r₁ r₂ s₁ s₂ p q = (p.0 ∙ sym q.0, p.1 ∙ sym q.1)

pub pot_run_one : One pot-run.ended pot-run-reads.Post (λ κs s. s.1.1.0.now)
pot_run_one κs a r₁ r₂ s₁ s₂ p q = (p.0 ∙ sym q.0, p.1 ∙ sym q.1)

pub pot_tally_one : One pot-tally.ended pot-tally-reads.Post (λ κs s. s.1.0.now)
pot_tally_one κs a r₁ r₂ s₁ s₂ p q = (p.0 ∙ sym q.0, p.1 ∙ sym q.1)

pub pot_check_one : One pot-check.ended pot-check-reads.Post (λ κs s. s.1.0.now)
pot_check_one κs a r₁ r₂ s₁ s₂ p q = (p.0 ∙ sym q.0, p.1 ∙ sym q.1)

pub pot_read_header_one : One pot-read-header.ended pot-read-header-reads.Post (λ κs s. s.1.1.0.now)
pot_read_header_one κs a r₁ r₂ s₁ s₂ p q = (p.0 ∙ sym q.0, p.1 ∙ sym q.1)

pub pot_read_header_filled_one :
    One pot-read-header-filled.ended pot-read-header-filled-reads.Post (λ κs s. s.1.1.0.now)
pot_read_header_filled_one κs a r₁ r₂ s₁ s₂ p q = (p.0 ∙ sym q.0, p.1 ∙ sym q.1)

pub pot_read_header_exact_one :
    One pot-read-header-exact.ended pot-read-header-exact-reads.Post (λ κs s. s.1.1.0.now)
pot_read_header_exact_one κs a r₁ r₂ s₁ s₂ p q = (p.0 ∙ sym q.0, p.1 ∙ sym q.1)

pub pot_write_header_one :
    One pot-write-header.ended {X = List ℕ × List ℕ} pot-write-header-reads.Post
    (λ κs s. (s.1.1.0.now, s.0.now))
pot_write_header_one κs a r₁ r₂ s₁ s₂ p q =
    (p.0 ∙ sym q.0, λ i. ((p.1.0 ∙ sym q.1.0) i, (p.1.1 ∙ sym q.1.1) i))

pub pot_write_none_one :
    One pot-write-none.ended {X = List ℕ × List ℕ} pot-write-none-reads.Post (λ κs s. (s.1.0.now, s.0.now))
pot_write_none_one κs a r₁ r₂ s₁ s₂ p q =
    (p.0 ∙ sym q.0, λ i. ((p.1.0 ∙ sym q.1.0) i, (p.1.1 ∙ sym q.1.1) i))

pub pot_write_unit_one :
    One pot-write-unit.ended {X = List ℕ × List ℕ} pot-write-unit-reads.Post (λ κs s. (s.1.0.now, s.0.now))
pot_write_unit_one κs a r₁ r₂ s₁ s₂ p q =
    (p.0 ∙ sym q.0, λ i. ((p.1.0 ∙ sym q.1.0) i, (p.1.1 ∙ sym q.1.1) i))

pub pot_write_named_one :
    One pot-write-named.ended {X = List ℕ × List ℕ} pot-write-named-reads.Post (λ κs s. (s.1.0.now, s.0.now))
pot_write_named_one κs a r₁ r₂ s₁ s₂ p q =
    (p.0 ∙ sym q.0, λ i. ((p.1.0 ∙ sym q.1.0) i, (p.1.1 ∙ sym q.1.1) i))

pub pot_write_i8_one :
    One pot-write-i8.ended {X = List ℕ × List ℕ} pot-write-i8-reads.Post (λ κs s. (s.1.1.0.now, s.0.now))
pot_write_i8_one κs a r₁ r₂ s₁ s₂ p q =
    (p.0 ∙ sym q.0, λ i. ((p.1.0 ∙ sym q.1.0) i, (p.1.1 ∙ sym q.1.1) i))

pub pot_write_u8_one :
    One pot-write-u8.ended {X = List ℕ × List ℕ} pot-write-u8-reads.Post (λ κs s. (s.1.1.0.now, s.0.now))
pot_write_u8_one κs a r₁ r₂ s₁ s₂ p q =
    (p.0 ∙ sym q.0, λ i. ((p.1.0 ∙ sym q.1.0) i, (p.1.1 ∙ sym q.1.1) i))

pub pot_write_i16_one :
    One pot-write-i16.ended {X = List ℕ × List ℕ} pot-write-i16-reads.Post (λ κs s. (s.1.1.0.now, s.0.now))
pot_write_i16_one κs a r₁ r₂ s₁ s₂ p q =
    (p.0 ∙ sym q.0, λ i. ((p.1.0 ∙ sym q.1.0) i, (p.1.1 ∙ sym q.1.1) i))

pub pot_write_u16_one :
    One pot-write-u16.ended {X = List ℕ × List ℕ} pot-write-u16-reads.Post (λ κs s. (s.1.1.0.now, s.0.now))
pot_write_u16_one κs a r₁ r₂ s₁ s₂ p q =
    (p.0 ∙ sym q.0, λ i. ((p.1.0 ∙ sym q.1.0) i, (p.1.1 ∙ sym q.1.1) i))

pub pot_write_i24_one :
    One pot-write-i24.ended {X = List ℕ × List ℕ} pot-write-i24-reads.Post (λ κs s. (s.1.1.0.now, s.0.now))
pot_write_i24_one κs a r₁ r₂ s₁ s₂ p q =
    (p.0 ∙ sym q.0, λ i. ((p.1.0 ∙ sym q.1.0) i, (p.1.1 ∙ sym q.1.1) i))

pub pot_write_u24_one :
    One pot-write-u24.ended {X = List ℕ × List ℕ} pot-write-u24-reads.Post (λ κs s. (s.1.1.0.now, s.0.now))
pot_write_u24_one κs a r₁ r₂ s₁ s₂ p q =
    (p.0 ∙ sym q.0, λ i. ((p.1.0 ∙ sym q.1.0) i, (p.1.1 ∙ sym q.1.1) i))

pub pot_write_i32_one :
    One pot-write-i32.ended {X = List ℕ × List ℕ} pot-write-i32-reads.Post (λ κs s. (s.1.1.0.now, s.0.now))
pot_write_i32_one κs a r₁ r₂ s₁ s₂ p q =
    (p.0 ∙ sym q.0, λ i. ((p.1.0 ∙ sym q.1.0) i, (p.1.1 ∙ sym q.1.1) i))

pub pot_write_u32_one :
    One pot-write-u32.ended {X = List ℕ × List ℕ} pot-write-u32-reads.Post (λ κs s. (s.1.1.0.now, s.0.now))
pot_write_u32_one κs a r₁ r₂ s₁ s₂ p q =
    (p.0 ∙ sym q.0, λ i. ((p.1.0 ∙ sym q.1.0) i, (p.1.1 ∙ sym q.1.1) i))

pub pot_write_i48_one :
    One pot-write-i48.ended {X = List ℕ × List ℕ} pot-write-i48-reads.Post (λ κs s. (s.1.1.0.now, s.0.now))
pot_write_i48_one κs a r₁ r₂ s₁ s₂ p q =
    (p.0 ∙ sym q.0, λ i. ((p.1.0 ∙ sym q.1.0) i, (p.1.1 ∙ sym q.1.1) i))

pub pot_write_u48_one :
    One pot-write-u48.ended {X = List ℕ × List ℕ} pot-write-u48-reads.Post (λ κs s. (s.1.1.0.now, s.0.now))
pot_write_u48_one κs a r₁ r₂ s₁ s₂ p q =
    (p.0 ∙ sym q.0, λ i. ((p.1.0 ∙ sym q.1.0) i, (p.1.1 ∙ sym q.1.1) i))

pub pot_write_i64_one :
    One pot-write-i64.ended {X = List ℕ × List ℕ} pot-write-i64-reads.Post (λ κs s. (s.1.1.0.now, s.0.now))
pot_write_i64_one κs a r₁ r₂ s₁ s₂ p q =
    (p.0 ∙ sym q.0, λ i. ((p.1.0 ∙ sym q.1.0) i, (p.1.1 ∙ sym q.1.1) i))

pub pot_write_u64_one :
    One pot-write-u64.ended {X = List ℕ × List ℕ} pot-write-u64-reads.Post (λ κs s. (s.1.1.0.now, s.0.now))
pot_write_u64_one κs a r₁ r₂ s₁ s₂ p q =
    (p.0 ∙ sym q.0, λ i. ((p.1.0 ∙ sym q.1.0) i, (p.1.1 ∙ sym q.1.1) i))

pub pot_write_i128_one :
    One pot-write-i128.ended {X = List ℕ × List ℕ} pot-write-i128-reads.Post (λ κs s. (s.1.1.1.0.now, s.0.now))
pot_write_i128_one κs a r₁ r₂ s₁ s₂ p q =
    (p.0 ∙ sym q.0, λ i. ((p.1.0 ∙ sym q.1.0) i, (p.1.1 ∙ sym q.1.1) i))

pub pot_write_u128_one :
    One pot-write-u128.ended {X = List ℕ × List ℕ} pot-write-u128-reads.Post (λ κs s. (s.1.1.1.0.now, s.0.now))
pot_write_u128_one κs a r₁ r₂ s₁ s₂ p q =
    (p.0 ∙ sym q.0, λ i. ((p.1.0 ∙ sym q.1.0) i, (p.1.1 ∙ sym q.1.1) i))

pub pot_write_bytes_one :
    One pot-write-bytes.ended {X = List ℕ × List ℕ} pot-write-bytes-reads.Post (λ κs s. (s.1.1.0.now, s.0.now))
pot_write_bytes_one κs a r₁ r₂ s₁ s₂ p q =
    (p.0 ∙ sym q.0, λ i. ((p.1.0 ∙ sym q.1.0) i, (p.1.1 ∙ sym q.1.1) i))

pub pot_write_f32_one :
    One pot-write-f32.ended {X = List ℕ × List ℕ} pot-write-f32-reads.Post (λ κs s. (s.1.1.0.now, s.0.now))
pot_write_f32_one κs a r₁ r₂ s₁ s₂ p q =
    (p.0 ∙ sym q.0, λ i. ((p.1.0 ∙ sym q.1.0) i, (p.1.1 ∙ sym q.1.1) i))

pub pot_write_f64_one :
    One pot-write-f64.ended {X = List ℕ × List ℕ} pot-write-f64-reads.Post (λ κs s. (s.1.1.0.now, s.0.now))
pot_write_f64_one κs a r₁ r₂ s₁ s₂ p q =
    (p.0 ∙ sym q.0, λ i. ((p.1.0 ∙ sym q.1.0) i, (p.1.1 ∙ sym q.1.1) i))

pub pot_write_atom_header_one :
    One pot-write-atom-header.ended {X = List ℕ × List ℕ} pot-write-atom-header-reads.Post
    (λ κs s. (s.1.1.1.0.now, s.0.now))
pot_write_atom_header_one κs a r₁ r₂ s₁ s₂ p q =
    (p.0 ∙ sym q.0, λ i. ((p.1.0 ∙ sym q.1.0) i, (p.1.1 ∙ sym q.1.1) i))

pub pot_write_special_one :
    One pot-write-special.ended {X = List ℕ × List ℕ} pot-write-special-reads.Post
    (λ κs s. (s.1.1.0.now, s.0.now))
pot_write_special_one κs a r₁ r₂ s₁ s₂ p q =
    (p.0 ∙ sym q.0, λ i. ((p.1.0 ∙ sym q.1.0) i, (p.1.1 ∙ sym q.1.1) i))

pub pot_write_integer_one :
    One pot-write-integer.ended {X = List ℕ × List ℕ} pot-write-integer-reads.Post
    (λ κs s. (s.1.1.1.1.0.now, s.0.now))
pot_write_integer_one κs a r₁ r₂ s₁ s₂ p q =
    (p.0 ∙ sym q.0, λ i. ((p.1.0 ∙ sym q.1.0) i, (p.1.1 ∙ sym q.1.1) i))

pub pot_write_bool_one :
    One pot-write-bool.ended {X = List ℕ × List ℕ} pot-write-bool-reads.Post (λ κs s. (s.1.1.0.now, s.0.now))
pot_write_bool_one κs a r₁ r₂ s₁ s₂ p q =
    (p.0 ∙ sym q.0, λ i. ((p.1.0 ∙ sym q.1.0) i, (p.1.1 ∙ sym q.1.1) i))

pub pot_integer_cast_one : One pot-integer-cast.ended pot-integer-cast-reads.Post (λ κs s. s.1.1.1.1.0.now)
pot_integer_cast_one κs a r₁ r₂ s₁ s₂ p q = (p.0 ∙ sym q.0, p.1 ∙ sym q.1)

pub pot_integer_as_f32_one : One pot-integer-as-f32.ended pot-integer-as-f32-reads.Post (λ κs s. s.1.1.1.0.now)
pot_integer_as_f32_one κs a r₁ r₂ s₁ s₂ p q = (p.0 ∙ sym q.0, p.1 ∙ sym q.1)

pub pot_integer_as_f64_one : One pot-integer-as-f64.ended pot-integer-as-f64-reads.Post (λ κs s. s.1.1.1.0.now)
pot_integer_as_f64_one κs a r₁ r₂ s₁ s₂ p q = (p.0 ∙ sym q.0, p.1 ∙ sym q.1)

pub pot_f32_as_f64_one : One pot-f32-as-f64.ended pot-f32-as-f64-reads.Post (λ κs s. s.1.0.now)
pot_f32_as_f64_one κs a r₁ r₂ s₁ s₂ p q = (p.0 ∙ sym q.0, p.1 ∙ sym q.1)

pub pot_f64_as_f32_one : One pot-f64-as-f32.ended pot-f64-as-f32-reads.Post (λ κs s. s.1.0.now)
pot_f64_as_f32_one κs a r₁ r₂ s₁ s₂ p q = (p.0 ∙ sym q.0, p.1 ∙ sym q.1)

pub pot_f32_as_integer_one : One pot-f32-as-integer.ended pot-f32-as-integer-reads.Post (λ κs s. s.1.0.now)
pot_f32_as_integer_one κs a r₁ r₂ s₁ s₂ p q = (p.0 ∙ sym q.0, p.1 ∙ sym q.1)

pub pot_f64_as_integer_one : One pot-f64-as-integer.ended pot-f64-as-integer-reads.Post (λ κs s. s.1.0.now)
pot_f64_as_integer_one κs a r₁ r₂ s₁ s₂ p q = (p.0 ∙ sym q.0, p.1 ∙ sym q.1)
