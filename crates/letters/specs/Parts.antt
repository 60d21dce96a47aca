-- What the contracts of private functions are stated with: nobody has to believe it.
use Rattle.std.specs.Prelude.{ℕ, ◌≤◌, ◌<◌, Bool, List, get_or}
use Rattle.types.specs.Choice.{pick}

-- 1 where a test holds, else 0
abbrev pub one : Bool → ℕ
one t = pick t 1 0

-- each byte from one place to another is at most that
abbrev pub AtMost : ℕ → List ℕ → ℕ → ℕ → Type 0
AtMost most s from to = (i : ℕ) → from ≤ i → i < to → get_or s i 0 ≤ most
