-- The ends of the copies: by way of a block, in two parts that may overlap, and of at most three bytes.
use mathlib.Core.Path.{◌≡◌, refl, ◌∙◌, sym, ap}
use mathlib.Core.List.{List, [], ◌∷◌, ◌++◌, append-nil}
use Prim.Native.Nat.{ℕ, ◌+◌, ◌-◌, ◌/◌, ◌≤◌, ◌<◌}
use native.Mathlib.Omega.{arith}
use borrow.Author.Rules.{rules}
use lib.ListN.{length, take, drop, set, get_or, length-append, length-set, length-take, length-drop}
use lib.ListN.{take-append-drop, drop_of_length-le}
use lib.Seq.{length-take-le, take_all, take-append-le, take-append_seam, take-take, drop-drop, drop-append-add}
use Rattle.lent.specs.Lent.{copied_over}
use Rattle.lent.proofs.Stores.{headed}

-- by way of a block: its first bytes have room for the source
pub block_room : (s zeros : List ℕ) (most : ℕ) → length zeros ≡ most → length s ≤ most →
    length s ≤ length (take (length s - 0) zeros)
block_room s zeros most long few = simp length-take (omega arith)

-- and hold it once it is copied there
module _ (s zeros held : List ℕ) (h : held ≡ copied_over s (take (length s - 0) zeros)) where
  same : held ≡ s
  unfolding copied_over
  same =
      let small : length (take (length s - 0) zeros) ≤ length s = simp length-take (omega arith) in
      let none_left = drop_of_length-le (take (length s - 0) zeros) small in
      h ∙ ap (λ (l : List ℕ). s ++ l) none_left ∙ append-nil s

  module _ (rest : List ℕ) where
    back : take (length s - 0) (held ++ rest) ≡ s
    back =
        let n : length s - 0 ≡ length s = omega arith in
        rw (n, same) (take-append_seam s rest)

    -- fit where the source fits
    pub back_room : (old : List ℕ) → length s ≤ length old → length (take (length s - 0) (held ++ rest)) ≤ length old
    back_room old room = rw back room

    -- and are copied
    pub back_copied : (old new : List ℕ) → new ≡ copied_over (take (length s - 0) (held ++ rest)) old →
        new ≡ copied_over s old
    unfolding copied_over
    back_copied old new e = e ∙ ap (λ (l : List ℕ). copied_over l old) back

pub ruleset block_ends = (block_room, back_room, back_copied, rules)

-- in two parts: the first bytes are copied, and then those from a place among them on
module _ (s old begun : List ℕ) (count : ℕ) (is : begun ≡ copied_over (take (count - 0) s) old)
    (within : count ≤ length s) (room : length s ≤ length old) where
  counted : length (take (count - 0) s) ≡ count
  counted = let m = length-take-le (count - 0) s (omega arith) in omega arith

  sized : length begun ≡ length old
  unfolding copied_over
  sized =
      let m = counted in
      ap length is ∙ simp (length-append, length-drop) (omega arith)

  taken : (i : ℕ) → i ≤ count → take i begun ≡ take i s
  unfolding copied_over
  taken i h =
      let m = counted in
      ap (take i) is ∙ take-append-le i (take (count - 0) s) (drop (length (take (count - 0) s)) old) (omega arith)
      ∙ take-take i (count - 0) s (omega arith)

  kept : drop (length s) begun ≡ drop (length s) old
  unfolding copied_over
  kept =
      let front : List ℕ = take (count - 0) s in
      let m : length front ≡ count = counted in
      let seam : length front + (length s - length front) ≡ length s = omega arith in
      let again : length s - length front + length front ≡ length s = omega arith in
      ap (drop (length s)) is ∙ ap (λ (n : ℕ). drop n (front ++ drop (length front) old)) (sym seam)
      ∙ drop-append-add front (drop (length front) old) (length s - length front)
      ∙ drop-drop (length s - length front) (length front) old ∙ ap (λ (n : ℕ). drop n old) seam

  over : (i : ℕ) → i ≤ count → (part : List ℕ) →
      part ≡ copied_over (take (length s - i) (drop i s)) (take (length begun - i) (drop i begun)) →
      take i begun ++ (part ++ drop (length begun - i) (drop i begun)) ≡ copied_over s old
  unfolding copied_over
  over i h part e =
      let m : length (take i s) ≡ i = length-take-le i s (omega arith) in
      let l = sized in
      let split : begun ≡ take i s ++ drop i begun =
      sym (take-append-drop i begun) ∙ ap (λ (a : List ℕ). a ++ drop i begun) (taken i h) in
      let rest : take (length s - i) (drop i s) ≡ drop i s =
      take_all (length s - i) (drop i s) (simp length-drop (omega arith)) in
      let fits : length (take i s) + length (drop i s) ≤ length begun = simp length-drop (omega arith) in
      let all = headed (take i s) (drop i s) begun begun part fits (rw m split) (rw (m, ← rest) e) in
      rw m at all ∙ ap (λ (a : List ℕ). copied_over a begun) (take-append-drop i s)
      ∙ ap (λ (a : List ℕ). s ++ a) kept

module _ (s old begun part : List ℕ) (count from : ℕ) (is : begun ≡ copied_over (take (count - 0) s) old)
    (e : part ≡ copied_over (take (length s - from) (drop from s)) (take (length begun - from) (drop from begun))) where
  -- its last bytes, as many as the first
  pub ends_copied : from ≡ length s - count → count ≤ length s → length s ≤ count + count → length s ≤ length old →
      take from begun ++ (part ++ drop (length begun - from) (drop from begun)) ≡ copied_over s old
  ends_copied f within twice room = over s old begun count is within room from (omega arith) part e

  -- its second half
  pub halves_copied : from ≡ count → count ≡ length s / 2 → length s ≤ length old →
      take from begun ++ (part ++ drop (length begun - from) (drop from begun)) ≡ copied_over s old
  halves_copied f half room = over s old begun count is (omega arith) room from (omega arith) part e

-- all of it, lent as a part
pub whole_copied : (s old part : List ℕ) → part ≡ copied_over (take (length s - 0) s) (take (length old - 0) old) →
    length s ≤ length old → part ++ drop (length old - 0) old ≡ copied_over s old
unfolding copied_over
whole_copied s old part e room = over s old old 0 refl (omega arith) room 0 (omega arith) part e

pub ruleset copies = (ends_copied, halves_copied, whole_copied, rules)

-- at most three bytes, by three stores: none, or the first, the middle one and the last
module _ (s old : List ℕ) where
  pub none_copied : length s < 1 → old ≡ copied_over s old
  unfolding copied_over
  none_copied h = by s h
    where
      by : (l : List ℕ) → length l < 1 → old ≡ copied_over l old
      by [] h = refl
      by (a ∷ l) h = absurd (omega arith)

  module _ (some : 1 ≤ length s) (room : length s ≤ length old) where
    pub middle_room : (first : ℕ) → length s / 2 < length (set old 0 first)
    middle_room first = simp length-set (omega arith)

    pub last_room : (first i second : ℕ) → length s - 1 < length (set (set old 0 first) i second)
    last_room first i second = simp length-set (omega arith)

pub three_copied : (s old : List ℕ) → 1 ≤ length s → length s < 4 → length s ≤ length old →
    set (set (set old 0 (get_or s 0 0)) (length s / 2) (get_or s (length s / 2) 0)) (length s - 1) (get_or s (length s - 1) 0)
    ≡ copied_over s old
unfolding copied_over
three_copied [] d h k l = absurd (omega arith)
three_copied (a ∷ []) [] h k l = absurd (omega arith)
three_copied (a ∷ []) (x ∷ d) h k l = refl
three_copied (a ∷ b ∷ []) [] h k l = absurd (omega arith)
three_copied (a ∷ b ∷ []) (x ∷ []) h k l = absurd (omega arith)
three_copied (a ∷ b ∷ []) (x ∷ y ∷ d) h k l = refl
three_copied (a ∷ b ∷ c ∷ []) [] h k l = absurd (omega arith)
three_copied (a ∷ b ∷ c ∷ []) (x ∷ []) h k l = absurd (omega arith)
three_copied (a ∷ b ∷ c ∷ []) (x ∷ y ∷ []) h k l = absurd (omega arith)
three_copied (a ∷ b ∷ c ∷ []) (x ∷ y ∷ z ∷ d) h k l = refl
three_copied (a ∷ b ∷ c ∷ e ∷ s) d h k l = absurd (omega arith)

pub ruleset few_ends = (none_copied, middle_room, last_room, three_copied, rules)
