-- The smallest count that holds a number, by the next smaller one: that does not hold it. One law over any test that a
-- larger count passes too, for unsigned and signed numbers and for the widths of floats; then the bounds by which the
-- code tells it. Rests on the first of a list that passes a test, `little.Shortest`.
use mathlib.Core.Path.{◌≡◌, refl, ◌∙◌, sym, ap}
use mathlib.Core.Bool.{Bool, true, false, not, ◌&&◌, false≢true}
use mathlib.Core.List.{List, [], ◌∷◌}
use Prim.Native.Nat.{ℕ, ◌+◌, ◌-◌, ◌/◌, ◌^◌, ◌≤◌, ◌<◌}
use native.Mathlib.Omega.{arith}
use native.Mathlib.Nat.{pow-le-pow_right}
use lib.Dec.{ltb, leb, eqb, lit<}
use lib.IntN.{pos, negsuc}
use borrow.Author.Tests.{ltb-true, ltb-false, lt-ltb, leb-true, leb-false, le-leb, lt-leb, eq-eqb, ne_eqb, eqb-true}
use Rattle.types.specs.Choice.{pick}
use Rattle.types.specs.Forms.{integers_written, listed}
use Rattle.little.specs.Counts.{holds_u, holds_s, first_that, shortest_u, shortest_s}
use Rattle.little.specs.Twos.{twos}
use Rattle.little.proofs.Shortest.{rising, first_holds, first_listed, first_least}
use Rattle.little.proofs.Two.{twos_low, twos_high, twos_held, holds_u_more, holds_s_more, even}

-- the number in front of c in a list, a the one in front of the list
abbrev pub before_from : ℕ → ℕ → List ℕ → ℕ
before_from c a [] = a
before_from c a (b ∷ bs) = pick (eqb c b) a (before_from c b bs)

-- no number of the list lies between the two
abbrev pub Follows : List ℕ → ℕ → ℕ → Type 0
Follows l p c = (n : ℕ) → listed n l ≡ true → n < c → n ≤ p

-- ONE LAW OVER THE TEST: the first of the list that passes it is c exactly if the one before c does not
module _ (l : List ℕ) (up : rising 0 l ≡ true) (test : ℕ → Bool)
    (more : (n m : ℕ) → listed n l ≡ true → listed m l ≡ true → n ≤ m → test n ≡ true → test m ≡ true)
  where
    pub first_most : (c : ℕ) → listed c l ≡ true → test c ≡ true → first_that test l ≤ c
    first_most c i h = by (ltb c (first_that test l)) refl
      where
        by : (t : Bool) → ltb c (first_that test l) ≡ t → first_that test l ≤ c
        by true e =
            absurd (false≢true (sym (first_least test 0 l c up i (ltb-true c (first_that test l) e)) ∙ h))
        by false e = ltb-false c (first_that test l) e

    module _ (p c : ℕ) (lp : listed p l ≡ true) (lc : listed c l ≡ true) (pc : p < c) (next : Follows l p c)
        (holds : test c ≡ true)
      where
        pub first_is : eqb c (first_that test l) ≡ not (test p)
        first_is = by (test p) refl
          where
            n : ℕ
            n = first_that test l

            most : n ≤ c
            most = first_most c lc holds

            is_listed : listed n l ≡ true
            is_listed = first_listed test l c lc holds

            passes : test n ≡ true
            passes = first_holds test l c lc holds

            level : test p ≡ false → (t : Bool) → ltb n c ≡ t → c ≡ n
            level e true h =
                absurd
                (false≢true (sym e ∙ more n p is_listed lp (next n is_listed (ltb-true n c h)) passes))
            level e false h = let k = ltb-false n c h in omega (arith, most)

            by : (t : Bool) → test p ≡ t → eqb c n ≡ not (test p)
            by true e =
                let k = first_most p lp e in
                ne_eqb c n (λ q. omega arith) ∙ ap not (sym e)
            by false e = eq-eqb c n (level e (ltb n c) refl) ∙ ap not (sym e)

-- whether each number of a list passes a test
abbrev pub every : (ℕ → Bool) → List ℕ → Bool
every test [] = true
every test (d ∷ ds) = test d && every test ds

pub and_true : (a b : Bool) → (a && b) ≡ true → (a ≡ true) × (b ≡ true)
and_true true true h = (refl, refl)
and_true true false h = (refl, h)
and_true false b h = (h, absurd (false≢true cc))

every_one : (test : ℕ → Bool) (l : List ℕ) → every test l ≡ true → (n : ℕ) → listed n l ≡ true → test n ≡ true
unfolding listed
every_one test [] h n i = absurd (false≢true i)
every_one test (d ∷ ds) h n i = by (eqb n d) refl (and_true (test d) (every test ds) h) (every_one test ds)
  where
    by : (t : Bool) → eqb n d ≡ t → (test d ≡ true) × (every test ds ≡ true) →
        (every test ds ≡ true → (m : ℕ) → listed m ds ≡ true → test m ≡ true) → test n ≡ true
    by true e both later = ap test (eqb-true n d e) ∙ both.0
    by false e both later = later both.1 n (rw e at i)

-- whether a number is one of a list, as the arms of a match know it
abbrev pub among : ℕ → List ℕ → Bool
among c [] = false
among c (d ∷ ds) = pick (eqb c d) true (among c ds)

among_listed : (c : ℕ) (l : List ℕ) → among c l ≡ listed c l
unfolding listed
among_listed c [] = refl
among_listed c (d ∷ ds) = ap (λ (t : Bool). pick (eqb c d) true t) (among_listed c ds)

-- the number before each of a list, and whether the two stand side by side
abbrev pub before : List ℕ → ℕ → ℕ
before l c = before_from c 0 l

abbrev pub beside : List ℕ → ℕ → Bool
beside l c =
    among c l && (among (before l c) l
    && (ltb (before l c) c && every (λ n. pick (ltb n c) (leb n (before l c)) true) l))

pub record Beside (l : List ℕ) (c : ℕ) : Type 0 where
  pub here : listed c l ≡ true
  pub there : listed (before l c) l ≡ true
  pub below : before l c < c
  pub next : Follows l (before l c) c

pub is_beside : (l : List ℕ) (c : ℕ) → beside l c ≡ true → Beside l c
is_beside l c h =
    let a = and_true (among c l) _ h in
    let b = and_true (among (before l c) l) _ a.1 in
    let d = and_true (ltb (before l c) c) _ b.1 in
    record {
      here = sym (among_listed c l) ∙ a.0;
      there = sym (among_listed (before l c) l) ∙ b.0;
      below = ltb-true (before l c) c d.0;
      next = λ n i k. leb-true n (before l c)
          (rw (lt-ltb n c k) at
          (every_one (λ m. pick (ltb m c) (leb m (before l c)) true) l d.1 n i));
    }

-- ---- unsigned numbers

pub written_rising : rising 0 integers_written ≡ true
unfolding rising
written_rising = refl

not-leb : (a b : ℕ) → not (ltb a b) ≡ leb b a
not-leb a b = by (ltb a b) refl
  where
    by : (t : Bool) → ltb a b ≡ t → not (ltb a b) ≡ leb b a
    by true e = ap not e ∙ sym (lt-leb b a (ltb-true a b e))
    by false e = ap not e ∙ sym (le-leb b a (ltb-false a b e))

pub uint_fewest : (c v : ℕ) → beside integers_written c ≡ true → v < 256 ^ c →
    eqb c (shortest_u v) ≡ leb (256 ^ before integers_written c) v
unfolding shortest_u holds_u
uint_fewest c v b h =
    let w = is_beside integers_written c b in
    first_is integers_written written_rising (λ n. holds_u n v)
    (λ n m i j. holds_u_more n m v) (before integers_written c) c w.there w.here w.below w.next
    (lt-ltb v (256 ^ c) h)
    ∙ not-leb v (256 ^ before integers_written c)

pub uint_one : (v : ℕ) → v < 256 → eqb 1 (shortest_u v) ≡ true
unfolding shortest_u first_that holds_u
uint_one v h = rw (lt-ltb v (256 ^ 1) h) refl

-- ---- signed numbers

-- what the smaller count holds of the bytes of the larger
and_right : (t : Bool) → t ≡ (t && true)
and_right true = refl
and_right false = refl

module _ (p c v : ℕ) (below : p < c) (h : v < 256 ^ c) where
  less : 256 ^ p ≤ 256 ^ c
  less = pow-le-pow_right {n = 256} (lit< tt) {i = p} {j = c} (omega arith)

  whole : 256 ^ c / 2 + 256 ^ c / 2 ≡ 256 ^ c
  whole = even c (omega arith)

  low : v < 256 ^ c / 2 → not (holds_s p (pos v)) ≡ (leb (256 ^ p / 2) v && leb v (256 ^ c - 1 - 256 ^ p / 2))
  unfolding holds_s
  low k =
      let a = less in
      let b = whole in
      let top : v ≤ 256 ^ c - 1 - 256 ^ p / 2 = omega arith in
      not-leb v (256 ^ p / 2)
      ∙ rw (le-leb v (256 ^ c - 1 - 256 ^ p / 2) top) (and_right (leb (256 ^ p / 2) v))

  -- from the half on, the distance to the top is what the smaller count holds
  mirrored : (t : Bool) → leb v (256 ^ c - 1 - 256 ^ p / 2) ≡ t →
      leb (256 ^ p / 2) (256 ^ c - 1 - v) ≡ leb v (256 ^ c - 1 - 256 ^ p / 2)
  mirrored true e =
      let a = less in
      let b = whole in
      let k = leb-true v (256 ^ c - 1 - 256 ^ p / 2) e in
      le-leb (256 ^ p / 2) (256 ^ c - 1 - v) (omega arith) ∙ sym e
  mirrored false e =
      let k = leb-false v (256 ^ c - 1 - 256 ^ p / 2) e in
      lt-leb (256 ^ p / 2) (256 ^ c - 1 - v) (omega arith) ∙ sym e

  high : 256 ^ c / 2 ≤ v →
      not (holds_s p (negsuc (256 ^ c - 1 - v))) ≡ (leb (256 ^ p / 2) v && leb v (256 ^ c - 1 - 256 ^ p / 2))
  unfolding holds_s
  high k =
      let a = less in
      let b = whole in
      let low_end : 256 ^ p / 2 ≤ v = omega arith in
      rw (le-leb (256 ^ p / 2) v low_end)
      (not-leb (256 ^ c - 1 - v) (256 ^ p / 2) ∙ mirrored (leb v (256 ^ c - 1 - 256 ^ p / 2)) refl)

  not_held_at : (t : Bool) → ltb v (256 ^ c / 2) ≡ t →
      not (holds_s p (twos c v)) ≡ (leb (256 ^ p / 2) v && leb v (256 ^ c - 1 - 256 ^ p / 2))
  not_held_at true e = let k = ltb-true v (256 ^ c / 2) e in rw (twos_low c v k) (low k)
  not_held_at false e = let k = ltb-false v (256 ^ c / 2) e in rw (twos_high c v k) (high k)

  pub not_held : not (holds_s p (twos c v)) ≡ (leb (256 ^ p / 2) v && leb v (256 ^ c - 1 - 256 ^ p / 2))
  not_held = not_held_at (ltb v (256 ^ c / 2)) refl

pub int_beside : (c v : ℕ) → beside integers_written c ≡ true → v < 256 ^ c →
    eqb c (shortest_s (twos c v)) ≡ not (holds_s (before integers_written c) (twos c v))
unfolding shortest_s
int_beside c v b h =
    let w = is_beside integers_written c b in
    let some = w.below in
    first_is integers_written written_rising (λ n. holds_s n (twos c v))
    (λ n m i j. holds_s_more n m (twos c v)) (before integers_written c) c w.there w.here w.below w.next
    (twos_held c v (omega arith) h)

pub int_fewest : (c v : ℕ) → beside integers_written c ≡ true → v < 256 ^ c →
    eqb c (shortest_s (twos c v))
    ≡ (leb (256 ^ before integers_written c / 2) v && leb v (256 ^ c - 1 - 256 ^ before integers_written c / 2))
int_fewest c v b h =
    int_beside c v b h ∙ not_held (before integers_written c) c v (is_beside integers_written c b).below h

pub int_one : (v : ℕ) → v < 256 → eqb 1 (shortest_s (twos 1 v)) ≡ true
unfolding shortest_s first_that
int_one v h = rw (twos_held 1 v (lit< tt) h) refl
