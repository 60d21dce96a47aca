-- A header is read off its own bytes: what stands behind them changes neither its kind, nor its argument, nor its
-- length.
use mathlib.Core.Path.{◌≡◌, refl, ap}
use mathlib.Core.Bool.{Bool, true, false}
use mathlib.Core.List.{List, [], ◌∷◌, ◌++◌}
use Prim.Native.Nat.{ℕ, zero, suc, ◌+◌, ◌*◌, ◌%◌, ◌≤◌}
use native.Mathlib.Omega.{arith}
use lib.Dec.{ltb}
use lib.ListN.{length}
use Rattle.types.specs.Choice.{pick}
use Rattle.header.specs.Header.{later_count, later_value, header_kind, header_argument, header_length, argument_from, more_follow}
use Rattle.header.proofs.Fewest.{count_least, length_bounds}

none : {X : Type 0} (n : ℕ) → 1 ≤ n → n ≤ 0 → X
none n h k = absurd (no n h k)
  where
    no : (n : ℕ) → 1 ≤ n → n ≤ 0 → ⊥
    no n h k = omega arith

pick_count : (t : Bool) (x y n : ℕ) → (x ≤ n → y ≡ x) → pick t 1 (suc x) ≤ suc n → pick t 1 (suc y) ≡ pick t 1 (suc x)
pick_count true x y n same h = refl
pick_count false x y n same h = ap suc (same (omega arith))

pick_value : (t : Bool) (x n v w : ℕ) → (x ≤ n → w ≡ v) → pick t 1 (suc x) ≤ suc n → pick t 0 w ≡ pick t 0 v
pick_value true x n v w same h = refl
pick_value false x n v w same h = same (omega arith)

pick_grows : (t : Bool) (x y : ℕ) → x ≤ y → pick t 1 (suc x) ≤ pick t 1 (suc y)
pick_grows true x y h = omega arith
pick_grows false x y h = omega arith

-- the later bytes
count_front : (k : ℕ) (a rest : List ℕ) → later_count k a ≤ length a → later_count k (a ++ rest) ≡ later_count k a
unfolding later_count
count_front zero a rest h = refl
count_front (suc k) [] rest h = none 1 (omega arith) h
count_front (suc k) (b ∷ a) rest h =
    pick_count (ltb b 128) (later_count k a) (later_count k (a ++ rest)) (length a) (count_front k a rest) h

value_front : (k : ℕ) (a rest : List ℕ) → later_count k a ≤ length a → later_value k (a ++ rest) ≡ later_value k a
unfolding later_count later_value
value_front zero a rest h = refl
value_front (suc k) [] rest h = none 1 (omega arith) h
value_front (suc k) (b ∷ a) rest h =
    ap (λ (v : ℕ). b % 128 + 128 * v)
    (pick_value (ltb b 128) (later_count k a) (length a) (later_value k a) (later_value k (a ++ rest))
    (value_front k a rest) h)

count_grows : (k : ℕ) (a rest : List ℕ) → later_count k a ≤ later_count k (a ++ rest)
unfolding later_count
count_grows zero a rest = omega arith
count_grows (suc k) [] rest = count_least k rest
count_grows (suc k) (b ∷ a) rest =
    pick_grows (ltb b 128) (later_count k a) (later_count k (a ++ rest)) (count_grows k a rest)

-- the header
pub record Front (a rest : List ℕ) : Type 0 where
  pub same_kind : header_kind (a ++ rest) ≡ header_kind a
  pub same_argument : header_argument (a ++ rest) ≡ header_argument a
  pub same_length : header_length (a ++ rest) ≡ header_length a

front_length : (t : Bool) (x y n : ℕ) → (x ≤ n → y ≡ x) → pick t (suc x) 1 ≤ suc n → pick t (suc y) 1 ≡ pick t (suc x) 1
front_length true x y n same h = ap suc (same (omega arith))
front_length false x y n same h = refl

front_value : (t : Bool) (x n v w : ℕ) → (x ≤ n → w ≡ v) → pick t (suc x) 1 ≤ suc n → pick t w 0 ≡ pick t v 0
front_value true x n v w same h = same (omega arith)
front_value false x n v w same h = refl

-- A HEADER THAT IS WHOLE in these bytes
pub front : (a rest : List ℕ) → header_length a ≤ length a → Front a rest
unfolding header_length header_argument
front [] rest h = none 1 (omega arith) h
front (b ∷ a) rest h = record {
  same_kind = refl;
  same_argument =
      ap (argument_from (b % 16)) (front_value (more_follow b) (later_count 9 a) (length a) (later_value 9 a)
      (later_value 9 (a ++ rest)) (value_front 9 a rest) h);
  same_length =
      front_length (more_follow b) (later_count 9 a) (later_count 9 (a ++ rest)) (length a) (count_front 9 a rest) h;
}

length_grows : (t : Bool) (x y : ℕ) → x ≤ y → pick t (suc x) 1 ≤ pick t (suc y) 1
length_grows true x y h = omega arith
length_grows false x y h = omega arith

pub front_grows : (a rest : List ℕ) → header_length a ≤ header_length (a ++ rest)
unfolding header_length
front_grows [] rest = (length_bounds rest).0
front_grows (b ∷ a) rest =
    length_grows (more_follow b) (later_count 9 a) (later_count 9 (a ++ rest)) (count_grows 9 a rest)
