-- The first of a list that passes a test, over any list and any test: it passes, and no smaller one of the list does.
use mathlib.Core.Path.{◌≡◌, refl, ◌∙◌, sym, ap, subst}
use mathlib.Core.Bool.{Bool, true, false, false≢true}
use mathlib.Core.List.{List, [], ◌∷◌}
use Prim.Native.Nat.{ℕ, ◌<◌, ◌^◌}
use native.Mathlib.Omega.{arith}
use lib.Dec.{ltb, eqb}
use lib.IntN.{ℤ}
use borrow.Author.Tests.{ltb-true, lt-ltb, eqb-true, eq-eqb}
use Rattle.types.specs.Choice.{pick}
use Rattle.types.specs.Forms.{integers_written, listed}
use Rattle.little.specs.Counts.{holds_u, holds_s, first_that, shortest_u, shortest_s}

-- whether each number of a list is above the one before it, and the first above m
unfoldable pub rising : ℕ → List ℕ → Bool
rising m [] = true
rising m (c ∷ cs) = pick (ltb m c) (rising c cs) false

-- what a rising list says of its head, of its tail, and of each of its numbers
pick_true : (t u : Bool) → pick t u false ≡ true → (t ≡ true) × (u ≡ true)
pick_true true u h = (refl, h)
pick_true false u h = absurd (false≢true h)

rising_head : (m d : ℕ) (ds : List ℕ) → rising m (d ∷ ds) ≡ true → ltb m d ≡ true
unfolding rising
rising_head m d ds r = (pick_true (ltb m d) (rising d ds) r).0

rising_tail : (m d : ℕ) (ds : List ℕ) → rising m (d ∷ ds) ≡ true → rising d ds ≡ true
unfolding rising
rising_tail m d ds r = (pick_true (ltb m d) (rising d ds) r).1

above_at : (m d : ℕ) (ds : List ℕ) (c : ℕ) (u : Bool) → eqb c d ≡ u → m < d → (listed c ds ≡ true → d < c) →
    listed c (d ∷ ds) ≡ true → m < c
unfolding listed
above_at m d ds c true f o ih l = let q : c ≡ d = eqb-true c d f in omega arith
above_at m d ds c false f o ih l = let q : d < c = ih (rw f at l) in omega arith

above : (m : ℕ) (l : List ℕ) (c : ℕ) → rising m l ≡ true → listed c l ≡ true → m < c
unfolding listed
above m [] c r l = absurd (false≢true l)
above m (d ∷ ds) c r l =
    above_at m d ds c (eqb c d) refl (ltb-true m d (rising_head m d ds r)) (above d ds c (rising_tail m d ds r)) l

either : (t : Bool) → pick t true true ≡ true
either true = refl
either false = refl

module _ (p : ℕ → Bool) where
  -- it passes, if any does
  holds_at : (d : ℕ) (ds : List ℕ) (c : ℕ) (t u : Bool) → p d ≡ t → eqb c d ≡ u →
      (listed c ds ≡ true → p (first_that p ds) ≡ true) → listed c (d ∷ ds) ≡ true → p c ≡ true →
      p (first_that p (d ∷ ds)) ≡ true
  unfolding listed first_that
  holds_at d ds c true u e f ih l h = rw e e
  holds_at d ds c false true e f ih l h = absurd (false≢true (sym e ∙ ap p (sym (eqb-true c d f)) ∙ h))
  holds_at d ds c false false e f ih l h = rw e (ih (rw f at l))

  pub first_holds : (l : List ℕ) (c : ℕ) → listed c l ≡ true → p c ≡ true → p (first_that p l) ≡ true
  unfolding listed
  first_holds [] c l h = absurd (false≢true l)
  first_holds (d ∷ ds) c l h =
      holds_at d ds c (p d) (eqb c d) refl refl (λ (m : listed c ds ≡ true). first_holds ds c m h) l h

  -- it is one of the list, if any passes
  listed_at : (d : ℕ) (ds : List ℕ) (c : ℕ) (t u : Bool) → p d ≡ t → eqb c d ≡ u →
      (listed c ds ≡ true → listed (first_that p ds) ds ≡ true) → listed c (d ∷ ds) ≡ true → p c ≡ true →
      listed (first_that p (d ∷ ds)) (d ∷ ds) ≡ true
  unfolding listed first_that
  listed_at d ds c true u e f ih l h = rw (e, eq-eqb d d refl)
  listed_at d ds c false true e f ih l h = absurd (false≢true (sym e ∙ ap p (sym (eqb-true c d f)) ∙ h))
  listed_at d ds c false false e f ih l h =
      let q : first_that p (d ∷ ds) ≡ first_that p ds = rw e refl in
      let here : listed (first_that p ds) (d ∷ ds) ≡ true = rw (ih (rw f at l)) (either (eqb (first_that p ds) d)) in
      subst (λ (x : ℕ). listed x (d ∷ ds) ≡ true) (sym q) here

  pub first_listed : (l : List ℕ) (c : ℕ) → listed c l ≡ true → p c ≡ true → listed (first_that p l) l ≡ true
  unfolding listed
  first_listed [] c l h = absurd (false≢true l)
  first_listed (d ∷ ds) c l h =
      listed_at d ds c (p d) (eqb c d) refl refl (λ (m : listed c ds ≡ true). first_listed ds c m h) l h

  -- none of a rising list that is smaller passes
  least_at : (m d : ℕ) (ds : List ℕ) (c : ℕ) (t u : Bool) → p d ≡ t → eqb c d ≡ u → ltb m d ≡ true →
      rising d ds ≡ true → (listed c ds ≡ true → c < first_that p ds → p c ≡ false) → listed c (d ∷ ds) ≡ true →
      c < first_that p (d ∷ ds) → p c ≡ false
  unfolding listed first_that
  least_at m d ds c true true e f o r ih l h =
      let s : c < d = rw e at h in let q : c ≡ d = eqb-true c d f in absurd (omega arith)
  least_at m d ds c true false e f o r ih l h =
      let s : c < d = rw e at h in let q : d < c = above d ds c r (rw f at l) in absurd (omega arith)
  least_at m d ds c false true e f o r ih l h = ap p (eqb-true c d f) ∙ e
  least_at m d ds c false false e f o r ih l h = ih (rw f at l) (rw e at h)

  pub first_least : (m : ℕ) (l : List ℕ) (c : ℕ) → rising m l ≡ true → listed c l ≡ true → c < first_that p l →
      p c ≡ false
  unfolding listed
  first_least m [] c r l h = absurd (false≢true l)
  first_least m (d ∷ ds) c r l h =
      least_at m d ds c (p d) (eqb c d) refl refl (rising_head m d ds r) (rising_tail m d ds r)
      (first_least d ds c (rising_tail m d ds r)) l h

-- the smallest count that holds the value: it holds it, it is a count, and no smaller count holds it
pub shortest_u_holds : (k : ℕ) → k < 256 ^ 16 → holds_u (shortest_u k) k ≡ true
unfolding shortest_u holds_u listed
shortest_u_holds k h = first_holds (λ n. holds_u n k) integers_written 16 refl (lt-ltb k (256 ^ 16) h)

pub shortest_u-listed : (k : ℕ) → k < 256 ^ 16 → listed (shortest_u k) integers_written ≡ true
unfolding shortest_u holds_u listed
shortest_u-listed k h = first_listed (λ n. holds_u n k) integers_written 16 refl (lt-ltb k (256 ^ 16) h)

pub shortest_u_least : (k c : ℕ) → listed c integers_written ≡ true → c < shortest_u k → holds_u c k ≡ false
unfolding shortest_u rising
shortest_u_least k c l h = first_least (λ n. holds_u n k) 0 integers_written c refl l h

pub shortest_s_holds : (z : ℤ) → holds_s 16 z ≡ true → holds_s (shortest_s z) z ≡ true
unfolding shortest_s listed
shortest_s_holds z h = first_holds (λ n. holds_s n z) integers_written 16 refl h

pub shortest_s-listed : (z : ℤ) → holds_s 16 z ≡ true → listed (shortest_s z) integers_written ≡ true
unfolding shortest_s listed
shortest_s-listed z h = first_listed (λ n. holds_s n z) integers_written 16 refl h

pub shortest_s_least : (z : ℤ) (c : ℕ) → listed c integers_written ≡ true → c < shortest_s z → holds_s c z ≡ false
unfolding shortest_s rising
shortest_s_least z c l h = first_least (λ n. holds_s n z) 0 integers_written c refl l h
