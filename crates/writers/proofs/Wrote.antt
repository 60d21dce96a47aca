-- What a writer ensures of its answer and of its buffer, from what the writer that it calls ensures.
use Rattle.std.specs.Prelude.{Result, Err}
use mathlib.Core.Path.{◌≡◌}
use mathlib.Core.Bool.{Bool, true, false}
use mathlib.Core.List.{List}
use Prim.Native.Nat.{ℕ}
use Rattle.types.specs.declared.Refusal.{Refusal}
use Rattle.types.specs.declared.Refusal.TheVariants as R
use Rattle.lent.specs.Lent.{written_answer, written_content}
use Rattle.writers.specs.Bytes.{held_answer, held_content}

-- what was written is these bytes
module _ (old others bytes : List ℕ) where
  pub answered : (r : Result ℕ Refusal) → r ≡ written_answer others old → others ≡ bytes → r ≡ written_answer bytes old
  answered r a e = rw (← e) a

  pub filled : (left : List ℕ) → left ≡ written_content others old → others ≡ bytes → left ≡ written_content bytes old
  filled left a e = rw (← e) a

  module _ (held : Bool) where
    -- and the value is held
    pub answered_held : (r : Result ℕ Refusal) → r ≡ written_answer others old → others ≡ bytes → held ≡ true →
        r ≡ held_answer held bytes old
    answered_held r a e h = rw (h, ← e) a

    pub filled_held : (left : List ℕ) → left ≡ written_content others old → others ≡ bytes → held ≡ true →
        left ≡ held_content held bytes old
    filled_held left a e h = rw (h, ← e) a

    -- and was written since it is held
    pub held_answered : (r : Result ℕ Refusal) → r ≡ held_answer held others old → others ≡ bytes → held ≡ true →
        r ≡ written_answer bytes old
    held_answered r a e h = rw (← e) (rw h at a)

    pub held_filled : (left : List ℕ) → left ≡ held_content held others old → others ≡ bytes → held ≡ true →
        left ≡ written_content bytes old
    held_filled left a e h = rw (← e) (rw h at a)

-- the value is not held: refusal 8, and the buffer is as it was
module _ (old bytes : List ℕ) (held : Bool) (h : held ≡ false) where
  pub refused : Err R.ImpreciseCastWouldLoseData ≡ held_answer held bytes old
  refused = rw h

  pub kept : old ≡ held_content held bytes old
  kept = rw h

pub ruleset writes = (
  answered,
  filled,
  answered_held,
  filled_held,
  held_answered,
  held_filled,
  refused,
  kept,
)
