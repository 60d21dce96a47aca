-- Letters of a string that is taken byte by byte and part by part: what the loops that count them keep, and what they
-- answer.
use mathlib.Core.Path.{◌≡◌, refl, ◌∙◌, ap}
use mathlib.Core.Bool.{Bool, true, false}
use mathlib.Core.List.{List, [], ◌∷◌}
use Prim.Native.Nat.{ℕ, suc, ◌+◌, ◌-◌, ◌≤◌, ◌<◌}
use native.Mathlib.Numerals.{add-one}
use native.Mathlib.Omega.{arith}
use borrow.Author.Rules.{rules}
use lib.ListN.{length, drop, get_or}
use lib.Seq.{drop-cons, drop-length}
use Rattle.letters.specs.Letters.{letter, mark, counts, letters}
use Rattle.letters.specs.Joins.{lead}
use Rattle.letters.specs.Parts.{one}
use Rattle.letters.proofs.Letters.{mark_begins, alone, with_next, first-drop}

-- From one place on, so many letters are counted up to another, at most the end, and so many bytes are met that a mark
-- may begin with. Where there was none of these, what was counted, with what is left, is the whole.
pub record Counting (a : List ℕ) (from end count leads i : ℕ) : Type 0 where
  pub inner : i ≤ end
  pub few : count + from ≤ i
  pub leads_few : leads + from ≤ i
  pub whole : leads ≡ 0 → count + letters (drop i a) ≡ letters (drop from a)

pub counting_begins : (a : List ℕ) (from end : ℕ) → from ≤ end → Counting a from end 0 0 from
counting_begins a from end h =
    record { inner = h; few = omega arith; leads_few = omega arith; whole = λ e. omega arith }

-- a byte more, by itself
module _ (a : List ℕ) (from end count leads i : ℕ) (c : Counting a from end count leads i) (h : end ≤ length a) where
  pub byte_counted : (n k : ℕ) → i < end → n ≡ letter (get_or a i 0) → n ≤ 1 → k ≡ one (lead (get_or a i 0)) → k ≤ 1 →
      Counting a from end (count + n) (leads + k) (i + 1)
  unfolding letters
  byte_counted n k l e m f o =
      let p = c.few in
      let q = c.leads_few in
      record {
        inner = omega arith;
        few = omega arith;
        leads_few = omega arith;
        whole = λ none. still (lead (get_or a i 0)) refl none;
      }
    where
      still : (t : Bool) → lead (get_or a i 0) ≡ t → leads + k ≡ 0 →
          count + n + letters (drop (i + 1) a) ≡ letters (drop from a)
      still true t none = let q : k ≡ 1 = rw t at f in absurd (omega arith)
      still false t none =
          let w : count + (counts (get_or a i 0) (drop (suc i) a) + letters (drop (suc i) a)) ≡ letters (drop from a) =
          rw (drop-cons a i 0 (omega arith)) at (c.whole (omega arith))
          in
          let b = alone (get_or a i 0) (drop (suc i) a) t in
          rw add-one (omega arith)

  -- the end is met
  pub part_whole : end ≤ i → leads ≡ 0 → count + letters (drop end a) ≡ letters (drop from a)
  part_whole l none =
      let p = c.inner in
      let e : i ≡ end = omega arith in
      rw e at (c.whole none)

-- a mark is no more than its first byte counts
pub mark_most : (b d n m : ℕ) → n ≡ letter b → m ≡ one (mark b d) → m ≤ n
mark_most b d n m e f = by_test (mark b d) refl
  where
    by_test : (t : Bool) → mark b d ≡ t → m ≤ n
    by_test true t = let l = mark_begins b d t in let q : m ≡ 1 = rw t at f in omega arith
    by_test false t = let q : m ≡ 0 = rw t at f in omega arith

module _ (a : List ℕ) (from end count i : ℕ) (c : Counting a from end count 0 i) where
  -- a byte more, with the one after it
  pub pair_counted : (n m : ℕ) → end < length a → i < end → n ≡ letter (get_or a i 0) → n ≤ 1 →
      m ≡ one (mark (get_or a i 0) (get_or a (i + 1) 0)) → Counting a from end (count + (n - m)) 0 (i + 1)
  unfolding letters
  pair_counted n m h l e o f =
      let b : ℕ = get_or a i 0 in
      let rest : List ℕ = drop (suc i) a in
      let w : count + (counts b rest + letters rest) ≡ letters (drop from a) =
      rw (drop-cons a i 0 (omega arith)) at (c.whole refl)
      in
      let both : counts b rest + one (mark b (get_or a (suc i) 0)) ≡ letter b =
      rw (first-drop a (suc i)) at (with_next b rest)
      in
      let g : m ≡ one (mark b (get_or a (suc i) 0)) = rw add-one at f in
      let p = c.few in
      record {
        inner = omega arith;
        few = omega arith;
        leads_few = omega arith;
        whole = λ none. rw add-one (omega arith);
      }

  pub pairs_whole : end ≤ i → count + letters (drop end a) ≡ letters (drop from a)
  pairs_whole l =
      let p = c.inner in
      let e : i ≡ end = omega arith in
      rw e at (c.whole refl)

  -- a part more
  pub part_counted : (to n leads : ℕ) → i < to → to ≤ end → leads ≤ 0 →
      (leads ≡ 0 → n + letters (drop to a) ≡ letters (drop i a)) → n + i ≤ to → Counting a from end (count + n) 0 to
  part_counted to n leads l h none e most =
      let p = c.few in
      let w = c.whole refl in
      let v = e (omega arith) in
      record { inner = h; few = omega arith; leads_few = omega arith; whole = λ z. omega arith }

  pub pairs_counted : (to n : ℕ) → i < to → to ≤ end → n + letters (drop to a) ≡ letters (drop i a) → n + i ≤ to →
      Counting a from end (count + n) 0 to
  pairs_counted to n l h e most = part_counted to n 0 l h (omega arith) (λ z. e) most

-- the last byte, which none comes after
module _ (a : List ℕ) (from count i : ℕ) (h : from < length a) (c : Counting a from (length a - 1) count 0 i) where
  pub last_counted : (n : ℕ) → length a - 1 ≤ i → n ≡ letter (get_or a (length a - 1) 0) →
      count + n ≡ letters (drop from a)
  unfolding letters
  last_counted n l e =
      let last : ℕ = length a - 1 in
      let p = c.inner in
      let there : i ≡ last = omega arith in
      let after : suc last ≡ length a = omega arith in
      let over : drop (suc last) a ≡ [] = ap (λ (j : ℕ). drop j a) after ∙ drop-length a in
      let one_left : drop i a ≡ get_or a last 0 ∷ [] =
      ap (λ (j : ℕ). drop j a) there ∙ drop-cons a last 0 (omega arith) ∙ ap (λ (k : List ℕ). get_or a last 0 ∷ k) over in
      let w : count + (letter (get_or a last 0) + 0) ≡ letters (drop from a) = rw one_left at (c.whole refl) in
      omega arith

-- of a whole string
module _ (a : List ℕ) (count i : ℕ) (c : Counting a 0 (length a) count 0 i) where
  pub all_counted : length a ≤ i → count ≡ letters a
  unfolding letters
  all_counted h =
      let p = c.inner in
      let e : i ≡ length a = omega arith in
      let k : count + 0 ≡ letters a = rw (e, drop-length a) at (c.whole refl) in
      omega arith

  pub rest_counted : (n : ℕ) → n ≡ letters (drop i a) → count + n ≡ letters a
  rest_counted n e = let w = c.whole refl in omega arith

pub ruleset part_ends = (counting_begins, byte_counted, part_whole, rules)

pub ruleset pair_ends = (counting_begins, mark_most, pair_counted, pairs_whole, rules)

pub ruleset pairs_ends = (counting_begins, pairs_counted, last_counted, rules)

pub ruleset string_ends = (counting_begins, part_counted, all_counted, rest_counted, rules)
