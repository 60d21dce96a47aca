-- Short strings of ASCII alone: the largest byte of a few is at most 0x7F, so each is a letter. And the largest
-- byte of two parts that meet.
use mathlib.Core.Path.{◌≡◌, refl}
use mathlib.Core.Bool.{Bool, true, false}
use mathlib.Core.List.{List, [], ◌∷◌}
use Prim.Native.Nat.{ℕ, suc, ◌≤◌, ◌<◌}
use native.Mathlib.Omega.{arith}
use borrow.Author.Rules.{rules}
use borrow.Author.Tests.{ltb-true, ltb-false, ne_eqb}
use lib.Dec.{ltb}
use lib.ListN.{length, get_or}
use Rattle.letters.specs.Letters.{letter, letters}
use Rattle.letters.specs.Parts.{AtMost}
use Rattle.letters.proofs.Letters.{below, alone}

-- two parts that meet or overlap
pub over_both : (s : List ℕ) (a b r x y u z : ℕ) → AtMost a s x y → AtMost b s u z → u ≤ y → a ≤ r → b ≤ r →
    AtMost r s x z
over_both s a b r x y u z f g meet l m i from to = by_test (ltb i y) refl
  where
    by_test : (t : Bool) → ltb i y ≡ t → get_or s i 0 ≤ r
    by_test true e = let h = ltb-true i y e in let k = f i from h in omega arith
    by_test false e = let h = ltb-false i y e in let k = g i (omega arith) to in omega arith

-- of ASCII alone each byte is a letter
pub ascii_letters : (a : List ℕ) (most : ℕ) → AtMost most a 0 (length a) → most < 0x80 → length a ≡ letters a
unfolding letters
ascii_letters [] most f h = refl
ascii_letters (b ∷ rest) most f h =
    let here : b ≤ most = f 0 (omega arith) (omega arith) in
    let later = ascii_letters rest most (λ i from to. f (suc i) (omega arith) (omega arith)) h in
    let by_itself = alone b rest (rw (ne_eqb b 0xCC (λ e. omega arith), ne_eqb b 0xCD (λ e. omega arith)) refl) in
    let one-letter : letter b ≡ 1 = rw (below 0x80 b 0xBF (omega arith)) refl in
    omega arith

pub ruleset ascii_ends = (ascii_letters, rules)
