-- Two answers that are the same hold the same, part by part.
use Rattle.std.specs.Prelude.{Result, Ok, Err}
use mathlib.Core.Path.{◌≡◌, ap}

module _ {A E : Type 0} where
  pub same_ok : {x y : A} → ◌≡◌ {A = Result A E} (Ok x) (Ok y) → x ≡ y
  same_ok e = cc

  pub same_err : {x y : E} → ◌≡◌ {A = Result A E} (Err x) (Err y) → x ≡ y
  same_err e = cc

-- two values beside one another, and three
same_two : {A B : Type 0} {a c : A} {b d : B} → ◌≡◌ {A = A × B} (a, b) (c, d) → (a ≡ c) × (b ≡ d)
same_two {A} {B} e = (ap (λ (x : A × B). x.0) e, ap (λ (x : A × B). x.1) e)

module _ {A B E : Type 0} {a c : A} {b d : B} where
  pub ok_two : ◌≡◌ {A = Result (A × B) E} (Ok (a, b)) (Ok (c, d)) → (a ≡ c) × (b ≡ d)
  ok_two e = same_two (same_ok e)

  pub err_two : ◌≡◌ {A = Result E (A × B)} (Err (a, b)) (Err (c, d)) → (a ≡ c) × (b ≡ d)
  err_two e = same_two (same_err e)

same_three : {A B C : Type 0} {a x : A} {b y : B} {c z : C} → ◌≡◌ {A = A × B × C} (a, b, c) (x, y, z) →
    (a ≡ x) × (b ≡ y) × (c ≡ z)
same_three {A} {B} {C} e =
    (ap (λ (t : A × B × C). t.0) e, ap (λ (t : A × B × C). t.1) e, ap (λ (t : A × B × C). t.2) e)

module _ {A B C E : Type 0} {a x : A} {b y : B} {c z : C} where
  pub ok_three : ◌≡◌ {A = Result (A × B × C) E} (Ok (a, b, c)) (Ok (x, y, z)) → (a ≡ x) × (b ≡ y) × (c ≡ z)
  ok_three e = same_three (same_ok e)

  pub err_three : ◌≡◌ {A = Result E (A × B × C)} (Err (a, b, c)) (Err (x, y, z)) → (a ≡ x) × (b ≡ y) × (c ≡ z)
  err_three e = same_three (same_err e)
