-- What a write of a list of bytes does to a lent buffer. Document 01, "Refusals by number".
use Rattle.std.specs.Prelude.{ℕ, List, ◌++◌, ltb, length, drop, Result, Ok, Err}
use Rattle.types.specs.declared.Refusal.{Refusal}
use Rattle.types.specs.Choice.{pick}
use Rattle.types.specs.Refusals.{no_room}

-- "Copying fills the first bytes and the rest keep their value"
unfoldable pub copied_over : List ℕ → List ℕ → List ℕ
copied_over bytes old = bytes ++ drop (length bytes) old

-- "9 NoRoom: output shorter than the whole write"; else the count of the bytes
abbrev pub written_answer : List ℕ → List ℕ → Result ℕ Refusal
written_answer bytes old =
    pick (ltb (length old) (length bytes)) (Err (no_room (length bytes))) (Ok (length bytes))

-- "A writer starts at its buffer's first byte and touches only the bytes it counts in its answer"; on a refusal
-- "buffers keep their bytes"
abbrev pub written_content : List ℕ → List ℕ → List ℕ
written_content bytes old = pick (ltb (length old) (length bytes)) old (copied_over bytes old)
