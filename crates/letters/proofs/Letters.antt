-- Laws of letters: what a mark is, of a byte and the one after it; what a join changes; that letters are at most the
-- bytes; and that of bytes without 0xCC and 0xCD the count is document 01's old one.
use mathlib.Core.Path.{◌≡◌, refl, sym}
use mathlib.Core.Bool.{Bool, true, false, false≢true}
use mathlib.Core.List.{List, [], ◌∷◌, ◌++◌}
use Prim.Native.Nat.{ℕ, zero, suc, ◌+◌, ◌≤◌, ◌<◌}
use native.Mathlib.Omega.{arith}
use borrow.Author.Tests.{leb-true, lt-leb, le-leb, eqb-true, ne_eqb}
use lib.Dec.{leb, eqb}
use lib.ListN.{length, drop, get_or}
use Rattle.types.specs.Choice.{pick}
use Rattle.letters.specs.Letters.{between, letter, mark, counts, letters}
use Rattle.letters.specs.Joins.{lead, leadless, letters_before, first, splits}
use Rattle.letters.specs.Parts.{one}

-- a byte that is in a range, and one that is not
module _ (low b high : ℕ) where
  pub in_between : between low b high ≡ true → (low ≤ b) × (b ≤ high)
  in_between = by_test (leb low b) refl
    where
      by_test : (t : Bool) → leb low b ≡ t → pick t (leb b high) false ≡ true → (low ≤ b) × (b ≤ high)
      by_test true e k = (leb-true low b e, leb-true b high k)
      by_test false e k = absurd (false≢true k)

  pub inside : low ≤ b → b ≤ high → between low b high ≡ true
  inside h k = rw (le-leb low b h, le-leb b high k) refl

  pub below : b < low → between low b high ≡ false
  below h = rw (lt-leb low b h) refl

  pub above : low ≤ b → high < b → between low b high ≡ false
  above h k = rw (le-leb low b h, lt-leb b high k) refl

-- a mark's first byte is a letter by itself, and its second none
module _ (b c : ℕ) where
  pub mark_bytes : mark b c ≡ true → (0xBF < b) × (0x80 ≤ c) × (c ≤ 0xBF)
  mark_bytes = by_tests (eqb b 0xCC) (eqb b 0xCD) refl refl
    where
      by_tests : (t u : Bool) → eqb b 0xCC ≡ t → eqb b 0xCD ≡ u →
          pick t (between 0x80 c 0xBF) (pick u (between 0x80 c 0xAF) false) ≡ true →
          (0xBF < b) × (0x80 ≤ c) × (c ≤ 0xBF)
      by_tests true u e f h =
          let i = in_between 0x80 c 0xBF h in let k = eqb-true b 0xCC e in (omega arith, i.0, i.1)
      by_tests false true e f h =
          let i = in_between 0x80 c 0xAF h in let k = eqb-true b 0xCD f in (omega arith, i.0, omega arith)
      by_tests false false e f h = absurd (false≢true h)

  pub mark_begins : mark b c ≡ true → letter b ≡ 1
  mark_begins h = let m = mark_bytes h in rw (above 0x80 b 0xBF (omega arith) m.0) refl

  pub mark_ends : mark b c ≡ true → letter c ≡ 0
  mark_ends h = let m = mark_bytes h in rw (inside 0x80 c 0xBF m.1 m.2) refl

  -- none begins with another byte than 0xCC and 0xCD, or ends with a letter
  pub no_lead : lead b ≡ false → mark b c ≡ false
  no_lead = by_tests (eqb b 0xCC) (eqb b 0xCD)
    where
      by_tests : (t u : Bool) → pick t true u ≡ false →
          pick t (between 0x80 c 0xBF) (pick u (between 0x80 c 0xAF) false) ≡ false
      by_tests true u h = absurd (false≢true (sym h))
      by_tests false true h = absurd (false≢true (sym h))
      by_tests false false h = refl

  pub no_end : letter c ≡ 1 → mark b c ≡ false
  no_end h = by_test (mark b c) refl
    where
      by_test : (t : Bool) → mark b c ≡ t → t ≡ false
      by_test false e = refl
      by_test true e = let none = mark_ends e in absurd (omega arith)

-- THE PAIR COUNTS AS NO LETTER
pub pair_counts-none : (b c : ℕ) (rest : List ℕ) → mark b c ≡ true → letters (b ∷ c ∷ rest) ≡ letters rest
unfolding letters
pair_counts-none b c rest h =
    let none : counts c rest ≡ 0 = second rest in rw (h, none) (omega arith)
  where
    outside : (d : ℕ) → mark c d ≡ false
    outside d =
        let m = mark_bytes b c h in
        no_lead c d (rw (ne_eqb c 0xCC (λ e. omega arith), ne_eqb c 0xCD (λ e. omega arith)) refl)

    second : (rest : List ℕ) → counts c rest ≡ 0
    second [] = mark_ends b c h
    second (d ∷ rest) = rw (outside d) (mark_ends b c h)

-- a byte counts at most one
pub letter_most : (b : ℕ) → letter b ≤ 1
letter_most b = by_test (between 0x80 b 0xBF)
  where
    by_test : (t : Bool) → pick t 0 1 ≤ 1
    by_test true = omega arith
    by_test false = omega arith

pub counts_most : (b : ℕ) (rest : List ℕ) → counts b rest ≤ 1
counts_most b [] = letter_most b
counts_most b (c ∷ rest) = by_test (mark b c)
  where
    by_test : (t : Bool) → pick t 0 (letter b) ≤ 1
    by_test true = omega arith
    by_test false = letter_most b

-- THERE ARE NO MORE LETTERS THAN BYTES
pub letters_most : (a : List ℕ) → letters a ≤ length a
unfolding letters
letters_most [] = omega arith
letters_most (b ∷ rest) = let r = letters_most rest in let o = counts_most b rest in omega arith

-- OF BYTES WITHOUT 0xCC AND 0xCD THE COUNT IS 01'S OLD ONE
pub alone : (b : ℕ) (rest : List ℕ) → lead b ≡ false → counts b rest ≡ letter b
alone b [] h = refl
alone b (c ∷ rest) h = rw (no_lead b c h) refl

pub as_before : (a : List ℕ) → leadless a ≡ true → letters a ≡ letters_before a
unfolding letters letters_before
as_before [] h = refl
as_before (b ∷ rest) h = by_test (lead b) refl (λ k. as_before rest k) h
  where
    by_test : (t : Bool) → lead b ≡ t → (leadless rest ≡ true → letters rest ≡ letters_before rest) →
        pick t false (leadless rest) ≡ true → counts b rest + letters rest ≡ letter b + letters_before rest
    by_test true e later k = absurd (false≢true k)
    by_test false e later k = rw (alone b rest e, later k) refl

-- a byte counts what it does by itself, but for the mark that it begins
pub with_next : (b : ℕ) (rest : List ℕ) → counts b rest + one (mark b (first rest)) ≡ letter b
with_next b [] = rw (no_end b 0 refl) (omega arith)
with_next b (c ∷ rest) = by_test (mark b c) refl
  where
    by_test : (t : Bool) → mark b c ≡ t → pick t 0 (letter b) + one t ≡ letter b
    by_test true e = sym (mark_begins b c e)
    by_test false e = omega arith

pub first-drop : (a : List ℕ) (i : ℕ) → first (drop i a) ≡ get_or a i 0
first-drop [] zero = refl
first-drop [] (suc i) = refl
first-drop (b ∷ a) zero = refl
first-drop (b ∷ a) (suc i) = first-drop a i

-- OF A JOIN: the letters of the two are those of the whole, and one more where the join splits a mark
pub joined : (a b : List ℕ) → letters a + letters b ≡ letters (a ++ b) + one (splits a b)
unfolding letters
joined [] b = omega arith
joined (x ∷ []) b = let j = with_next x b in omega arith
joined (x ∷ c ∷ a) b = let r = joined (c ∷ a) b in omega arith

pub joined_whole : (a b : List ℕ) → splits a b ≡ false → letters (a ++ b) ≡ letters a + letters b
joined_whole a b h = let j : letters a + letters b ≡ letters (a ++ b) + 0 = rw h at (joined a b) in omega arith

pub joined_split : (a b : List ℕ) → splits a b ≡ true → letters (a ++ b) + 1 ≡ letters a + letters b
joined_split a b h = let j : letters a + letters b ≡ letters (a ++ b) + 1 = rw h at (joined a b) in omega arith
