-- Filled reading is reading the source with zeros after it: they change neither the kind, nor the argument, nor the
-- bytes that a header takes.
use mathlib.Core.Path.{◌≡◌, refl, ap}
use mathlib.Core.List.{List, [], ◌∷◌, ◌++◌}
use Prim.Native.Nat.{ℕ, zero, suc}
use lib.Dec.{ltb}
use lib.ListN.{replicate}
use Rattle.types.specs.Choice.{pick}
use Rattle.header.specs.Header.{later_count, later_value, header_kind, header_argument, header_length}

pub count_zeros : (k : ℕ) (l : List ℕ) (n : ℕ) → later_count k (l ++ replicate n 0) ≡ later_count k l
unfolding later_count
count_zeros zero l n = refl
count_zeros (suc k) [] zero = refl
count_zeros (suc k) [] (suc n) = refl
count_zeros (suc k) (b ∷ l) n = ap (λ (x : ℕ). pick (ltb b 128) 1 (suc x)) (count_zeros k l n)

pub value_zeros : (k : ℕ) (l : List ℕ) (n : ℕ) → later_value k (l ++ replicate n 0) ≡ later_value k l
unfolding later_value
value_zeros zero l n = refl
value_zeros (suc k) [] zero = refl
value_zeros (suc k) [] (suc n) = refl
value_zeros (suc k) (b ∷ l) n = rw (value_zeros k l n) refl

pub kind_zeros : (l : List ℕ) (n : ℕ) → header_kind (l ++ replicate n 0) ≡ header_kind l
kind_zeros [] zero = refl
kind_zeros [] (suc n) = refl
kind_zeros (b ∷ l) n = refl

pub argument_zeros : (l : List ℕ) (n : ℕ) → header_argument (l ++ replicate n 0) ≡ header_argument l
unfolding header_argument
argument_zeros [] zero = refl
argument_zeros [] (suc n) = refl
argument_zeros (b ∷ l) n = rw (value_zeros 9 l n) refl

pub length_zeros : (l : List ℕ) (n : ℕ) → header_length (l ++ replicate n 0) ≡ header_length l
unfolding header_length
length_zeros [] zero = refl
length_zeros [] (suc n) = refl
length_zeros (b ∷ l) n = rw (count_zeros 9 l n) refl
