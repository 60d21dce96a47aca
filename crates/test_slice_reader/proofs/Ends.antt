-- What `main` has in hand at each check: what a reader of the bytes `ab` says, held over two reads of one byte.
use mathlib.Core.Path.{◌≡◌, ◌∙◌, ap}
use mathlib.Core.Bool.{true}
use mathlib.Core.List.{List, [], ◌∷◌}
use Prim.Native.Nat.{ℕ}
use lib.Dec.{eqb}
use lib.ListN.{length}
use borrow.Author.Rules.{rules}
use Rattle.types.specs.declared.Kind.TheVariants as K
use Rattle.test_slice_reader.proofs.Leaves.{byte_leaves}
use Rattle.test_slice_reader.specs.declared.Held.{Held}
use Rattle.test_slice_reader.specs.Held.{left_by, held_over}

abbrev bytes : List ℕ
bytes = 97 ∷ 98 ∷ []

-- each read takes a byte
read_off : left_by (left_by bytes K.UInt 1) K.UInt 1 ≡ []
read_off = ap (λ (s : List ℕ). left_by s K.UInt 1) (byte_leaves 97 (98 ∷ [])) ∙ byte_leaves 98 []

module _ (held : Held) (is : held ≡ held_over bytes K.UInt 1) where
  pub before_two : eqb held.before 2 ≡ true
  unfolding held_over
  before_two = ap (λ (h : Held). eqb h.before 2) is

  pub after_none : eqb held.after 0 ≡ true
  unfolding held_over
  after_none = ap (λ (h : Held). eqb h.after 0) is ∙ ap (λ (s : List ℕ). eqb (length s) 0) read_off

  pub after_empty : held.empty ≡ true
  unfolding held_over
  after_empty = ap (λ (h : Held). h.empty) is ∙ ap (λ (s : List ℕ). eqb (length s) 0) read_off

pub ruleset check_ends = (before_two, after_none, after_empty, rules)
