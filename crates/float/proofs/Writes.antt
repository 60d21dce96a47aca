-- What the writers write, by what the narrowing answers: the bytes of each form.
use Rattle.std.specs.Prelude.{Option, Some, None}
use mathlib.Core.Path.{◌≡◌, sym, ap}
use Prim.Native.Nat.{ℕ}
use Rattle.binary.specs.Formats.{half, single, double}
use Rattle.binary.specs.Conversions.{narrowed}
use Rattle.float.specs.Bytes.{float_bytes, narrowest, f32_bytes, f64_bytes}

pub f32_short : (b q : ℕ) → narrowed single half b ≡ Some q → float_bytes 2 q ≡ f32_bytes b
unfolding f32_bytes
f32_short b q h = ap (λ (n : Option ℕ). narrowest n (float_bytes 2) (float_bytes 4 b)) (sym h)

pub f32_own : (b : ℕ) → narrowed single half b ≡ None → float_bytes 4 b ≡ f32_bytes b
unfolding f32_bytes
f32_own b h = ap (λ (n : Option ℕ). narrowest n (float_bytes 2) (float_bytes 4 b)) (sym h)

pub f64_short : (b q : ℕ) → narrowed double single b ≡ Some q → f32_bytes q ≡ f64_bytes b
unfolding f64_bytes
f64_short b q h = ap (λ (n : Option ℕ). narrowest n f32_bytes (float_bytes 8 b)) (sym h)

pub f64_own : (b : ℕ) → narrowed double single b ≡ None → float_bytes 8 b ≡ f64_bytes b
unfolding f64_bytes
f64_own b h = ap (λ (n : Option ℕ). narrowest n f32_bytes (float_bytes 8 b)) (sym h)
