-- What the price of a file is said with. Document 01, the tally and the run over a list of whole, known atoms.
use Rattle.std.specs.Prelude.{ℕ, ◌+◌, ◌≤◌, ◌<◌, ◌≡◌, true, false, List, ◌∷◌, ◌++◌, ltb, length}
use Rattle.types.specs.Choice.{pick}
use Rattle.types.specs.Forms.{known, unknown}
use Rattle.types.specs.declared.Refusal.{Refusal}
use Rattle.types.specs.declared.Refusal.TheVariants as R
use Rattle.types.specs.declared.Tallied.{Tallied}
use Rattle.header.specs.Header.{header_kind, header_argument, header_length}
use Rattle.dictionary.specs.Wholes.{price, body_bytes, letters_in, Atoms, total, Spoilt}

-- "It answers atoms, body bytes, charge and letters."
abbrev pub priced : List (List ℕ) → Tallied
priced atoms = record {
  atoms = length atoms;
  body = record { 0 = total body_bytes atoms };
  charge = total price atoms;
  letters = total letters_in atoms;
}

-- THE FIRST ATOM WHOSE RUNNING SUM PASSES A BUDGET: the atoms before it, which the budget covers, and those after it
pub record Passing (budget : ℕ) (atoms : List (List ℕ)) : Type 0 where
  pub before : List (List ℕ)
  pub atom : List ℕ
  pub after : List (List ℕ)
  pub split : atoms ≡ before ++ (atom ∷ after)
  pub covered : total price before ≤ budget
  pub passes : budget < total price before + price atom

-- what the atom at the front of bytes is charged: nothing, before its header is there to say
abbrev pub asked : List ℕ → ℕ
asked bytes = pick (ltb (length bytes) (header_length bytes)) 0 (price bytes)

-- AN ATOM AT THE FRONT OF BYTES THAT IS REFUSED, with so much of the budget left: why, how many bytes past its start
-- the place is then, and what it was charged. "Order within an atom: header, then special known, or budget, then count
-- allowed, then end of input"; a special costs nothing.
pub data Barred (bytes : List ℕ) (left : ℕ) : Refusal → ℕ → ℕ → Type 0 where
  -- "4 Eof: end of slice", where no body was being read
  header_cut : length bytes < header_length bytes → Barred bytes left R.Eof (length bytes) 0
  -- "5 TooManyBytesRead: charge exceeds budget: past header; unchanged"
  over_budget :
      header_length bytes ≤ length bytes →
      left < price bytes →
      Barred bytes left R.TooManyBytesRead (header_length bytes) 0
  -- "3 UnknownSpecial(value): past header; unchanged", "6 UnsupportedByteCount(kind, count): past header; charged"
  form_unknown :
      header_length bytes ≤ length bytes →
      price bytes ≤ left →
      known (header_kind bytes) (header_argument bytes) ≡ false →
      Barred bytes left (unknown (header_kind bytes) (header_argument bytes)) (header_length bytes) (price bytes)
  -- "4 Eof: end of slice; charged if a body was being read"
  body_cut :
      header_length bytes ≤ length bytes →
      price bytes ≤ left →
      known (header_kind bytes) (header_argument bytes) ≡ true →
      length bytes < header_length bytes + body_bytes bytes →
      Barred bytes left R.Eof (length bytes) (price bytes)

-- bytes that are whole, known atoms
pub record Made (s : List ℕ) : Type 0 where
  pub atoms : List (List ℕ)
  pub wholes : Atoms s atoms

-- bytes that are whole, known atoms up to one that is not, and why
pub record Broken (s : List ℕ) : Type 0 where
  pub front_bytes : List ℕ
  pub rest : List ℕ
  pub atoms : List (List ℕ)
  pub why : Refusal
  pub wholes : Atoms front_bytes atoms
  pub joined : s ≡ front_bytes ++ rest
  pub some : 1 ≤ length rest
  pub spoilt : Spoilt rest why
