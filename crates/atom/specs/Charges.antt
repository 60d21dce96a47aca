-- What a charge leaves of a budget. Document 01, "Charges".
use Rattle.std.specs.Prelude.{ℕ, ◌-◌, ltb, Result, Ok, Err}
use Rattle.types.specs.declared.Refusal.{Refusal}
use Rattle.types.specs.Choice.{pick}
use Rattle.types.specs.declared.Budget.{Budget}
use Rattle.types.specs.declared.Refusal.TheVariants as R

-- "5 TooManyBytesRead: charge exceeds budget"; else the budget less the charge
abbrev pub budget_after : Budget → ℕ → Result Budget Refusal
budget_after budget charge =
    pick (ltb budget.0 charge) (Err R.TooManyBytesRead) (Ok (record { 0 = budget.0 - charge }))
