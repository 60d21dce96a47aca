-- One law over the byte count: the n lowest bytes of a number and the number of n bytes are inverse.
use mathlib.Core.Path.{◌≡◌, refl, ◌∙◌, sym, ap}
use mathlib.Core.List.{List, [], ◌∷◌, ◌++◌}
use Prim.Native.Nat.{ℕ, zero, suc, ◌+◌, ◌-◌, ◌*◌, ◌/◌, ◌%◌, ◌^◌, ◌<◌, ◌≤◌}
use native.Mathlib.Omega.{arith}
use native.Mathlib.Nat.{zero-add, suc-add, pow-suc, pow-succ', mul_assoc, div-one, div-eq_of_lt, mod-eq_of_lt}
use native.Mathlib.Nat.{add-mul-div_left, add-mul-mod_self_left, div-div-eq-div-mul}
use lib.Arith.{mod-mul}
use lib.Pow.{pow-add}
use lib.Dec.{lit<}
use lib.ListN.{length, get_or, length-append}
use Rattle.little.specs.Le.{from_le, to_le}

pub byte_pow_pos : (n : ℕ) → 0 < 256 ^ n
byte_pow_pos zero = lit< tt
byte_pow_pos (suc n) = rw (pow-suc 256 n) (omega (arith, byte_pow_pos n))

-- a byte and more, taken apart: the remainder by 256 ^ (n + 1), by its lowest byte
remainder : (n k : ℕ) → k % 256 ^ suc n ≡ k / 256 % 256 ^ n * 256 + k % 256
remainder n k = rw (pow-suc 256 n) (mod-mul k {m = 256 ^ n} {c = 256} (byte_pow_pos n) (lit< tt))

-- written, then read: the number modulo 256 ^ n
pub from_to : (n k : ℕ) → from_le (to_le n k) ≡ k % 256 ^ n
unfolding from_le to_le
from_to zero k = omega arith
from_to (suc n) k = rw (from_to n (k / 256), remainder n k) (omega arith)

-- so nothing is lost where it fits
pub from_to_fits : (n k : ℕ) → k < 256 ^ n → from_le (to_le n k) ≡ k
from_to_fits n k h = from_to n k ∙ mod-eq_of_lt h

pub to_length : (n k : ℕ) → length (to_le n k) ≡ n
unfolding to_le
to_length zero k = refl
to_length (suc n) k = ap suc (to_length n (k / 256))

-- read, then written: the bytes
pub to_from : (l : List ℕ) → ((i : ℕ) → get_or l i 0 < 256) → to_le (length l) (from_le l) ≡ l
unfolding from_le to_le
to_from [] h = refl
to_from (b ∷ bs) h =
    let low : (b + 256 * from_le bs) % 256 ≡ b = omega (arith, h 0) in
    let high : (b + 256 * from_le bs) / 256 ≡ from_le bs = omega (arith, h 0) in
    rw (low, high, to_from bs (λ i. h (suc i)))

-- the n lowest bytes are those of the remainder
pub to_mod : (n k : ℕ) → to_le n (k % 256 ^ n) ≡ to_le n k
unfolding to_le
to_mod zero k = refl
to_mod (suc n) k =
    let low : k % 256 ^ suc n % 256 ≡ k % 256 = omega (arith, remainder n k) in
    let high : k % 256 ^ suc n / 256 ≡ k / 256 % 256 ^ n = omega (arith, remainder n k) in
    rw (low, high, to_mod n (k / 256))

pub to_same : (n k l : ℕ) → k % 256 ^ n ≡ l % 256 ^ n → to_le n k ≡ to_le n l
to_same n k l e = sym (to_mod n k) ∙ ap (to_le n) e ∙ to_mod n l

-- n + m bytes: the n lowest, then m of the rest
pub to_add : (n m k : ℕ) → to_le (n + m) k ≡ to_le n k ++ to_le m (k / 256 ^ n)
unfolding to_le
to_add zero m k = rw (zero-add m, div-one k)
to_add (suc n) m k = rw (suc-add n m, to_add n m (k / 256), div-div-eq-div-mul k 256 (256 ^ n), pow-succ' 256 n)

-- two words, low and high
pub to_words : (n m low high : ℕ) → low < 256 ^ n → to_le (n + m) (low + 256 ^ n * high) ≡ to_le n low ++ to_le m high
to_words n m low high h =
    let above : (low + 256 ^ n * high) / 256 ^ n ≡ high =
    add-mul-div_left low high {y = 256 ^ n} (byte_pow_pos n) ∙ ap (λ (q : ℕ). q + high) (div-eq_of_lt h) ∙ zero-add high
    in
    rw (to_add n m, above, to_same n (low + 256 ^ n * high) low (add-mul-mod_self_left low (256 ^ n) high))

-- the low word alone holds the lowest bytes
pub to_low : (n m low high : ℕ) → n ≤ m → to_le n (low + 256 ^ m * high) ≡ to_le n low
to_low n m low high h =
    let e : n + (m - n) ≡ m = omega arith in
    let parts : 256 ^ m ≡ 256 ^ n * 256 ^ (m - n) = ap (λ (k : ℕ). 256 ^ k) (sym e) ∙ pow-add 256 n (m - n) in
    to_same n (low + 256 ^ m * high) low (rw (parts, mul_assoc)
    (add-mul-mod_self_left low (256 ^ n) (256 ^ (m - n) * high)))

-- straight-line code: the bytes of v from byte i on, each by one quotient and one remainder
abbrev pub spread : ℕ → ℕ → ℕ → List ℕ
spread zero v i = []
spread (suc n) v i = v / 256 ^ i % 256 ∷ spread n v (suc i)

spread_to : (n v i : ℕ) → spread n v i ≡ to_le n (v / 256 ^ i)
unfolding to_le
spread_to zero v i = refl
spread_to (suc n) v i = rw (spread_to n v (suc i), div-div-eq-div-mul v (256 ^ i) 256, pow-suc 256 i)

pub to_spread : (n v : ℕ) → v % 256 ∷ spread n v 1 ≡ to_le (suc n) v
unfolding to_le
to_spread n v = rw (spread_to n v 1)

-- so many bytes of two words
pub words_length : (n m low high : ℕ) → length (to_le n low ++ to_le m high) ≡ n + m
words_length n m low high = rw (length-append (to_le n low) (to_le m high), to_length n low, to_length m high)
