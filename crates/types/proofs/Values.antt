-- Two words and the number that they stand for: the number of a number's words, and the sum with the low word first.
use mathlib.Core.Path.{◌≡◌, ◌∙◌, ap}
use Prim.Native.Nat.{ℕ, ◌+◌, ◌*◌, ◌^◌}
use native.Mathlib.Nat.{div-add-mod', add_comm, mul_comm}
use Rattle.types.specs.declared.Wide.{Wide}
use Rattle.types.specs.Values.{joined, words}

pub joined_words : (n : ℕ) → joined (words n) ≡ n
joined_words n = div-add-mod' n (2 ^ 64)

pub low_first : (w : Wide) → joined w ≡ w.lo + 2 ^ 64 * w.hi
low_first w = add_comm (w.hi * 2 ^ 64) w.lo ∙ ap (λ (n : ℕ). w.lo + n) (mul_comm w.hi (2 ^ 64))
