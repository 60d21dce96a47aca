-- THE CHECKER. Document 02, K3: "Refusals, each with the start of its atom: 11 NotShortest, after 3, 4 and 6 of the
-- same atom."
use Rattle.std.specs.Prelude.{ℕ, zero, suc, ◌-◌, ◌≤◌, ◌≡◌, false, List, ◌++◌, ltb, length, take, drop, Ok, Err}
use Rattle.types.specs.Answers.{Checked}
use Rattle.types.specs.Choice.{pick}
use Rattle.types.specs.declared.Refusal.{Refusal}
use Rattle.types.specs.declared.Refusal.TheVariants as R
use Rattle.dictionary.specs.Wholes.{IsAtom, Spoilt}
use Rattle.dictionary.specs.Steps.{skipped}
use Rattle.dictionary.specs.Runs.{unlimited, after_step}
use Rattle.shortest.specs.Forms.{shortest, Accepted}

-- the bytes from one place to another
abbrev pub between : List ℕ → ℕ → ℕ → List ℕ
between s first after = take (after - first) (drop first s)

-- on from a place: "3, 4 and 6" as exact reading gives them, without a budget, then 11; at most `fuel` atoms
unfoldable pub check_from : ℕ → List ℕ → ℕ → Checked
check_from zero s at = (Ok tt)
check_from (suc fuel) s at =
    pick (ltb at (length s))
    (after_step (skipped s at (record { 0 = unlimited }))
    (λ place rest places string.
    pick (shortest (between s at place.0)) (check_from fuel s place.0)
    (Err (R.NotShortest, record { 0 = at })))
    (λ r. Err (r, record { 0 = at })))
    (Ok tt)

-- THE CHECK of all: the first bad atom decides
abbrev pub check_all : List ℕ → Checked
check_all s = check_from (suc (length s)) s 0

-- BYTES WHOSE FIRST ATOM IS REFUSED, and why: it is not whole or not known, which is 3, 4 or 6; or it is, and is not
-- in shortest form
pub data Unfit : List ℕ → Refusal → Type 0 where
  spoilt : {bytes : List ℕ} {why : Refusal} → Spoilt bytes why → Unfit bytes why
  longer : {bytes : List ℕ} (atom rest : List ℕ) →
      bytes ≡ atom ++ rest →
      IsAtom atom →
      shortest atom ≡ false →
      Unfit bytes R.NotShortest

-- a list that is accepted up to an atom that is refused, and why
pub record Refused (s : List ℕ) : Type 0 where
  pub front_bytes : List ℕ
  pub rest : List ℕ
  pub atoms : List (List ℕ)
  pub why : Refusal
  pub accepted : Accepted front_bytes atoms
  pub joined : s ≡ front_bytes ++ rest
  pub some : 1 ≤ length rest
  pub unfit : Unfit rest why
