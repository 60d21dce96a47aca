-- The cases of the definitions of a header and of a signature.
use mathlib.Core.Path.{◌≡◌, refl, ap}
use mathlib.Core.Bool.{false}
use mathlib.Core.List.{List, [], ◌∷◌}
use Prim.Native.Nat.{ℕ, suc, ◌+◌, ◌*◌, ◌/◌, ◌%◌, ◌^◌, ◌≤◌, ◌<◌}
use native.Mathlib.Omega.{arith}
use borrow.Author.Tests.{lt-ltb, le-ltb}
use lib.Dec.{eqb}
use Rattle.types.specs.Kinds.{kind_code}
use Rattle.types.specs.declared.Kind.{Kind}
use Rattle.header.specs.Header.{more_follow, later_count, later_value, argument_from, header_argument, header_length}
use Rattle.header.specs.Header.{header_bytes, later_bytes}
use Rattle.header.specs.Signature.{signature_bytes}

-- the four bytes of a signature
pub pot : (version : ℕ) → version < 256 → signature_bytes version ≡ 0x50 ∷ 0x6F ∷ 0x74 ∷ version ∷ []
unfolding signature_bytes
pot version h =
    let a : (0x506F7400 + version) / 0x1000000 % 256 ≡ 0x50 = omega arith in
    let b : (0x506F7400 + version) / 0x10000 % 256 ≡ 0x6F = omega arith in
    let c : (0x506F7400 + version) / 0x100 % 256 ≡ 0x74 = omega arith in
    let d : (0x506F7400 + version) % 256 ≡ version = omega arith in
    rw (a, b, c, d) refl

-- a header where no byte follows the first, and where more do
pub none_follow : (b : ℕ) → b / 16 % 2 ≡ 0 → more_follow b ≡ false
none_follow b e = ap (λ (n : ℕ). eqb n 1) e

pub one_length : (b : ℕ) (l : List ℕ) → more_follow b ≡ false → header_length (b ∷ l) ≡ 1
unfolding header_length
one_length b l e = simp e

pub one_argument : (b : ℕ) (l : List ℕ) → more_follow b ≡ false → header_argument (b ∷ l) ≡ b % 16
unfolding header_argument
one_argument b l e = rw e (small b)
  where
    small : (b : ℕ) → (b % 16 + 16 * 0) % 2 ^ 64 ≡ b % 16
    small b = omega arith

pub more_length : (b : ℕ) (l : List ℕ) → b / 16 % 2 ≡ 1 → header_length (b ∷ l) ≡ suc (later_count 9 l)
unfolding header_length
more_length b l e = simp e

pub more_argument : (b : ℕ) (l : List ℕ) → b / 16 % 2 ≡ 1 →
    header_argument (b ∷ l) ≡ argument_from (b % 16) (later_value 9 l)
unfolding header_argument
more_argument b l e = simp e

-- a header written: in one byte, and in more
pub bytes_one : (kind : Kind) (arg : ℕ) → arg < 16 → header_bytes kind arg ≡ (kind_code kind * 32 + arg) ∷ []
unfolding header_bytes
bytes_one kind arg h = simp (lt-ltb arg 16 h)

pub bytes_more : (kind : Kind) (arg : ℕ) → 16 ≤ arg →
    header_bytes kind arg ≡ (kind_code kind * 32 + 16 + arg % 16) ∷ later_bytes 9 (arg / 16)
unfolding header_bytes
bytes_more kind arg h = simp (le-ltb arg 16 h)
