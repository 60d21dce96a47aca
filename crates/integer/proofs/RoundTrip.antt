-- The bytes of a number, where they stand, read back under every way as the integer that has its value, just past them,
-- whatever follows. One law over the count.
use Rattle.std.specs.Prelude.{Ok}
use mathlib.Core.Path.{◌≡◌, refl, ◌∙◌, ap}
use mathlib.Core.Bool.{true}
use mathlib.Core.List.{List, ◌++◌}
use Prim.Native.Nat.{ℕ, ◌+◌, ◌^◌, ◌<◌}
use native.Mathlib.Omega.{arith}
use native.Mathlib.Nat.{mod-eq_of_lt}
use lib.IntN.{ℤ, pos}
use lib.ListN.{length, length-append}
use mir.Syntax.{w128}
use mir.Val.{to_z}
use Rattle.types.specs.Values.{value}
use Rattle.types.specs.Forms.{integers_read, allowed_count}
use Rattle.types.specs.declared.Way.{Way}
use Rattle.types.specs.declared.Kind.{Kind}
use Rattle.types.proofs.Values.{joined_words}
use Rattle.little.specs.Le.{to_le, number_at}
use Rattle.little.specs.Twos.{twos, twos_bits}
use Rattle.little.specs.Counts.{holds_s}
use Rattle.little.proofs.Width.{to_length}
use Rattle.little.proofs.At.{number_reads}
use Rattle.little.proofs.Two.{twos_bits_lem, machine_twos}
use Rattle.integer.specs.Integers.{int_of, uint_of, integer_of, integer_body}
use Rattle.integer.proofs.Counts.{each}
use Rattle.integer.proofs.Answers.{body_whole}

-- the value of what is read: two's complement, and the number itself
pub int_value : (n : ℕ) → allowed_count n ≡ true → (v : ℕ) → value (int_of n v) ≡ twos n v
unfolding int_of
int_value n h v =
    let wide = ap (to_z w128) (joined_words v) ∙ machine_twos v in
    each (λ m. value (int_of m v) ≡ twos m v) integers_read (refl, (refl, (refl, (refl, (refl, (refl, (wide, tt))))))) n h

pub uint_value : (n : ℕ) → allowed_count n ≡ true → (v : ℕ) → value (uint_of n v) ≡ pos v
unfolding uint_of
uint_value n h v =
    let wide = ap pos (joined_words v) in
    each (λ m. value (uint_of m v) ≡ pos v) integers_read (refl, (refl, (refl, (refl, (refl, (refl, (wide, tt))))))) n h

-- a held value comes back
pub int_value_back : (n : ℕ) (z : ℤ) → allowed_count n ≡ true → holds_s n z ≡ true → value (int_of n (twos_bits n z)) ≡ z
int_value_back n z h held = int_value n h (twos_bits n z) ∙ twos_bits_lem n z held

-- the bytes of a number that they hold
pub body_back : (way : Way) (kind : Kind) (n bits : ℕ) (before after s : List ℕ) →
    s ≡ before ++ (to_le n bits ++ after) → bits < 256 ^ n →
    integer_body way s (length before) kind n ≡ Ok (record { 0 = length before + n }, integer_of kind n bits)
body_back way kind n bits before after s e h =
    let written : List ℕ = to_le n bits in
    let wide : length written ≡ n = to_length n bits in
    let follows : length (written ++ after) ≡ length written + length after = length-append written after in
    let long : length s ≡ length before + length (written ++ after) =
    ap length e ∙ length-append before (written ++ after) in
    let number : number_at n s (length before) ≡ bits =
    number_reads n bits s (length before) before after e refl ∙ mod-eq_of_lt h in
    body_whole way s (length before) kind n (omega arith)
    ∙ ap (λ (v : ℕ). Ok (record { 0 = length before + n }, integer_of kind n v)) number
