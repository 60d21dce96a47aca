-- What is meant by a number in decimal: its digits give the number back, each is a digit, the first is no zero but of 0
-- itself, and there are as few as hold it. And the digits that std prints are these.
use mathlib.Core.Path.{◌≡◌, refl, ◌∙◌, sym, ap}
use mathlib.Core.Bool.{Bool, true, false, ◌&&◌}
use mathlib.Core.List.{List, [], ◌∷◌, ◌++◌}
use Prim.Native.Nat.{ℕ, zero, suc, ◌+◌, ◌-◌, ◌*◌, ◌/◌, ◌%◌, ◌^◌, ◌≤◌, ◌<◌}
use native.Mathlib.Nat.{pow-suc}
use native.Mathlib.Omega.{arith}
use lib.Dec.{ltb, leb}
use lib.ListN.{length, length-append}
use borrow.Author.Tests.{lt-ltb, le-ltb, le-leb, ltb-true, ltb-false}
use Rattle.std.specs.Fmt as std
use Rattle.std.proofs.lemmas.Fmt.{decimal_digit, decimal_step}
use Rattle.report_text.specs.Texts.{digit, digits_from, decimal}

-- the two cases of the definition
one_digit : (fuel n : ℕ) → n < 10 → digits_from (suc fuel) n ≡ digit n ∷ []
unfolding digits_from
one_digit fuel n h = simp (lt-ltb n 10 h)

more_digits : (fuel n : ℕ) → 10 ≤ n → digits_from (suc fuel) n ≡ digits_from fuel (n / 10) ++ (digit (n % 10) ∷ [])
unfolding digits_from
more_digits fuel n h = simp (le-ltb n 10 h)

-- the number that digits read as, from left to right, after a number that was read before them
unfoldable pub read_from : ℕ → List ℕ → ℕ
read_from n [] = n
read_from n (d ∷ l) = read_from (n * 10 + (d - 48)) l

read_append : (n : ℕ) (xs ys : List ℕ) → read_from n (xs ++ ys) ≡ read_from (read_from n xs) ys
unfolding read_from
read_append n [] ys = refl
read_append n (d ∷ xs) ys = read_append (n * 10 + (d - 48)) xs ys

back_at : (fuel n : ℕ) → (10 ≤ n → read_from 0 (digits_from fuel (n / 10)) ≡ n / 10) → (t : Bool) → ltb n 10 ≡ t →
    read_from 0 (digits_from (suc fuel) n) ≡ n
unfolding read_from
back_at fuel n ih true e = ap (read_from 0) (one_digit fuel n (ltb-true n 10 e)) ∙ omega arith
back_at fuel n ih false e =
    let h : 10 ≤ n = ltb-false n 10 e in
    ap (read_from 0) (more_digits fuel n h)
    ∙ read_append 0 (digits_from fuel (n / 10)) (digit (n % 10) ∷ [])
    ∙ ap (λ (m : ℕ). m * 10 + (digit (n % 10) - 48)) (ih h)
    ∙ omega arith

back : (fuel n : ℕ) → n < fuel → read_from 0 (digits_from fuel n) ≡ n
back zero n h = absurd (omega arith)
back (suc fuel) n h = back_at fuel n (λ ten. back fuel (n / 10) (omega arith)) (ltb n 10) refl

-- THE DIGITS GIVE THE NUMBER BACK
pub decimal_back : (n : ℕ) → read_from 0 (decimal n) ≡ n
decimal_back n = back (suc n) n (omega arith)

-- whether each byte is `0` to `9`
unfoldable pub only_digits : List ℕ → Bool
only_digits [] = true
only_digits (d ∷ l) = leb 48 d && (leb d 57 && only_digits l)

kept : (a b c : Bool) → (b ≡ true → c ≡ true) → (a && b) ≡ true → (a && c) ≡ true
kept true b c h e = h e
kept false b c h e = e

only_last : (xs : List ℕ) (d : ℕ) → d < 10 → only_digits xs ≡ true → only_digits (xs ++ (digit d ∷ [])) ≡ true
unfolding only_digits
only_last [] d h e = simp (le-leb 48 (digit d) (omega arith), le-leb (digit d) 57 (omega arith))
only_last (x ∷ xs) d h e =
    kept (leb 48 x) (leb x 57 && only_digits xs) (leb x 57 && only_digits (xs ++ (digit d ∷ [])))
    (kept (leb x 57) (only_digits xs) (only_digits (xs ++ (digit d ∷ []))) (only_last xs d h))
    e

only_at : (fuel n : ℕ) → (10 ≤ n → only_digits (digits_from fuel (n / 10)) ≡ true) → (t : Bool) → ltb n 10 ≡ t →
    only_digits (digits_from (suc fuel) n) ≡ true
unfolding only_digits
only_at fuel n ih true e = let h : n < 10 = ltb-true n 10 e in rw (one_digit fuel n h) (only_last [] n h refl)
only_at fuel n ih false e =
    let h : 10 ≤ n = ltb-false n 10 e in
    rw (more_digits fuel n h) (only_last (digits_from fuel (n / 10)) (n % 10) (omega arith) (ih h))

only : (fuel n : ℕ) → n < fuel → only_digits (digits_from fuel n) ≡ true
only zero n h = absurd (omega arith)
only (suc fuel) n h = only_at fuel n (λ ten. only fuel (n / 10) (omega arith)) (ltb n 10) refl

-- EACH BYTE IS A DIGIT
pub decimal_digits : (n : ℕ) → only_digits (decimal n) ≡ true
decimal_digits n = only (suc n) n (omega arith)

-- the first byte, 0 of none
unfoldable pub first : List ℕ → ℕ
first [] = 0
first (d ∷ l) = d

first_append : (xs ys : List ℕ) → 1 ≤ first xs → first (xs ++ ys) ≡ first xs
unfolding first
first_append [] ys h = absurd (omega arith)
first_append (d ∷ xs) ys h = refl

leads_at : (fuel n : ℕ) → 1 ≤ n → (10 ≤ n → 49 ≤ first (digits_from fuel (n / 10))) → (t : Bool) → ltb n 10 ≡ t →
    49 ≤ first (digits_from (suc fuel) n)
unfolding first
leads_at fuel n some ih true e = rw (one_digit fuel n (ltb-true n 10 e)) (omega arith)
leads_at fuel n some ih false e =
    let h : 10 ≤ n = ltb-false n 10 e in
    let l = ih h in
    rw (more_digits fuel n h, first_append (digits_from fuel (n / 10)) (digit (n % 10) ∷ []) (omega arith)) l

leads : (fuel n : ℕ) → n < fuel → 1 ≤ n → 49 ≤ first (digits_from fuel n)
leads zero n h some = absurd (omega arith)
leads (suc fuel) n h some =
    leads_at fuel n some (λ ten. leads fuel (n / 10) (omega arith) (omega arith)) (ltb n 10) refl

-- NO ZERO LEADS, but for 0, which is `0`
pub decimal_leads : (n : ℕ) → 1 ≤ n → 49 ≤ first (decimal n)
decimal_leads n = leads (suc n) n (omega arith)

pub decimal_zero : decimal 0 ≡ 48 ∷ []
decimal_zero = one_digit 0 0 (omega arith)

most_at : (k fuel n : ℕ) → (10 ≤ n → length (digits_from fuel (n / 10)) ≤ k) → (t : Bool) → ltb n 10 ≡ t →
    length (digits_from (suc fuel) n) ≤ suc k
most_at k fuel n ih true e = rw (one_digit fuel n (ltb-true n 10 e)) (omega arith)
most_at k fuel n ih false e =
    let h : 10 ≤ n = ltb-false n 10 e in
    let l = ih h in
    rw (more_digits fuel n h, length-append (digits_from fuel (n / 10)) (digit (n % 10) ∷ [])) (omega arith)

most : (k fuel n : ℕ) → n < fuel → n < 10 ^ suc k → length (digits_from fuel n) ≤ suc k
most k zero n h l = absurd (omega arith)
most zero (suc fuel) n h l = let z : n < 10 = l in most_at 0 fuel n (λ ten. absurd (omega arith)) (ltb n 10) refl
most (suc k) (suc fuel) n h l =
    let z : n < 10 ^ suc k * 10 = rw (pow-suc 10 (suc k)) at l in
    most_at (suc k) fuel n (λ ten. most k fuel (n / 10) (omega arith) (omega arith)) (ltb n 10) refl

-- A NUMBER BELOW 10 ^ k HAS AT MOST k DIGITS
pub decimal-most : (k n : ℕ) → n < 10 ^ suc k → length (decimal n) ≤ suc k
decimal-most k n = most k (suc n) n (omega arith)

-- the digits that std prints, one by one from the right, are these
printed_at : (fuel n : ℕ) → n < 2 ^ 64 → (10 ≤ n → digits_from fuel (n / 10) ≡ std.decimal (n / 10)) → (t : Bool) →
    ltb n 10 ≡ t → digits_from (suc fuel) n ≡ std.decimal n
printed_at fuel n w ih true e =
    let h : n < 10 = ltb-true n 10 e in
    one_digit fuel n h ∙ sym (decimal_digit n h)
printed_at fuel n w ih false e =
    let h : 10 ≤ n = ltb-false n 10 e in
    more_digits fuel n h ∙ ap (λ (l : List ℕ). l ++ (digit (n % 10) ∷ [])) (ih h) ∙ sym (decimal_step n h w)

printed_from : (fuel n : ℕ) → n < fuel → n < 2 ^ 64 → digits_from fuel n ≡ std.decimal n
printed_from zero n h w = absurd (omega arith)
printed_from (suc fuel) n h w =
    printed_at fuel n w (λ ten. printed_from fuel (n / 10) (omega arith) (omega arith)) (ltb n 10) refl

-- THE DIGITS THAT std PRINTS ARE THESE, and so are those of `itoa`
pub printed : (n : ℕ) → n < 2 ^ 64 → std.decimal n ≡ decimal n
printed n w = sym (printed_from (suc n) n (omega arith) w)
