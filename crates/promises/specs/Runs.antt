-- The run, of every file and every budget. Document 01, "Two ways of reading": "from place 0 until the place is the end
-- of the slice or an atom is refused. It answers the number of atoms read, the place and the budget left, and for a
-- refused atom also its refusal and the place where that atom starts." Document 02, K1: "refused or not", also "the
-- three places of the last atom" that it read, "all 0 if there was none". What whole, known atoms are, where the last
-- of them stands, what they cost, and when the atom behind them is refused, is said over bytes alone, by
-- `dictionary.Wholes` and `dictionary.Prices`.
use Rattle.std.specs.Prelude.{ℕ, ◌+◌, ◌-◌, ◌≤◌, ◌≡◌, List, [], ◌∷◌, ◌++◌, pos, length}
use Rattle.types.specs.declared.Refusal.{Refusal}
use Rattle.dictionary.specs.Wholes.{Atoms, total, price, last_places}
use Rattle.dictionary.specs.Prices.{Barred}
use Rattle.promises.specs.Told.{Told, told, refused, places_told}

pub data RunRow (s : List ℕ) (budget : ℕ) : Told → Type 0 where
  -- to the end of the slice: whole, known atoms, their charges taken off the budget, their number, and the places of
  -- the last
  done : {atoms : List (List ℕ)} →
      Atoms s atoms →
      total price atoms ≤ budget →
      RunRow s budget
      (told 0
      (pos (length s) ∷ pos (budget - total price atoms) ∷ pos (length atoms) ∷
      places_told (last_places atoms) []))
  -- whole, known atoms before one that is refused: its own refusal, with the place and the charge of that, and behind
  -- the number of atoms the places of the last of them, and where the refused one starts
  stopped : {front rest : List ℕ} {atoms : List (List ℕ)} {why : Refusal} {past charge : ℕ} →
      s ≡ front ++ rest →
      1 ≤ length rest →
      Atoms front atoms →
      total price atoms ≤ budget →
      Barred rest (budget - total price atoms) why past charge →
      RunRow s budget
      (refused
      (pos (length front + past) ∷ pos (budget - total price atoms - charge) ∷ pos (length atoms)
      ∷ places_told (last_places atoms) (pos (length front) ∷ [])) why)
