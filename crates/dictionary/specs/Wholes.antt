-- What whole, known atoms are, and what they cost: over bytes alone, with no reader. What a kind and an argument mean
-- stands in `types.Forms`. Document 01, "Bytes of an atom" and "Charges".
use Rattle.std.specs.Prelude.{ℕ, ◌+◌, ◌<◌, ◌≤◌, ◌≡◌, true, false, List, [], ◌∷◌, ◌++◌, length, drop}
use Rattle.types.specs.Choice.{pick}
use Rattle.types.specs.Counters.{places_of, no_places}
use Rattle.types.specs.Forms.{known, body_length, charge_of, is_string, unknown}
use Rattle.types.specs.declared.Places.{Places}
use Rattle.types.specs.declared.Refusal.{Refusal}
use Rattle.types.specs.declared.Refusal.TheVariants as R
use Rattle.header.specs.Header.{header_kind, header_argument, header_length}
use Rattle.letters.specs.Letters.{letters}

-- A WHOLE, KNOWN ATOM: these bytes are its header and its body, no more
pub record IsAtom (bytes : List ℕ) : Type 0 where
  pub its_header : header_length bytes ≤ length bytes
  pub its_length : length bytes ≡ header_length bytes + body_length (header_kind bytes) (header_argument bytes)
  pub its_kind : known (header_kind bytes) (header_argument bytes) ≡ true

-- what an atom's bytes cost, their body bytes, and the letters of its string
abbrev pub price : List ℕ → ℕ
price bytes = charge_of (header_kind bytes) (header_argument bytes)

abbrev pub body_bytes : List ℕ → ℕ
body_bytes bytes = body_length (header_kind bytes) (header_argument bytes)

abbrev pub letters_in : List ℕ → ℕ
letters_in bytes = pick (is_string (header_kind bytes)) (letters (drop (header_length bytes) bytes)) 0

-- A LIST OF WHOLE, KNOWN ATOMS: bytes that are those of the atoms, one after the other
pub data Atoms : List ℕ → List (List ℕ) → Type 0 where
  none : Atoms [] []
  more : {atom rest : List ℕ} {atoms : List (List ℕ)} → IsAtom atom → Atoms rest atoms →
      Atoms (atom ++ rest) (atom ∷ atoms)

-- a sum over the atoms
unfoldable pub total : (List ℕ → ℕ) → List (List ℕ) → ℕ
total f [] = 0
total f (atom ∷ atoms) = f atom + total f atoms

-- where an atom's bytes stand that start at a place: "its first place, the place where its body starts and the place
-- after it"
abbrev pub places_at : ℕ → List ℕ → Places
places_at at atom =
    places_of (record { 0 = at }) (record { 0 = at + header_length atom }) (record { 0 = at + length atom })

-- THE PLACES OF THE LAST OF THEM, which stand one after the other from a place on; those given if there is none
unfoldable pub last_from : ℕ → Places → List (List ℕ) → Places
last_from at last [] = last
last_from at last (atom ∷ atoms) = last_from (at + length atom) (places_at at atom) atoms

-- "the three places of the last atom they read, all 0 if there was none"
abbrev pub last_places : List (List ℕ) → Places
last_places atoms = last_from 0 no_places atoms

-- BYTES THAT START WITH NO SUCH ATOM, and the refusal of what stands there: the header is cut, or the atom is not
-- known, or its body is cut
pub data Spoilt : List ℕ → Refusal → Type 0 where
  cut_header : {bytes : List ℕ} → length bytes < header_length bytes → Spoilt bytes R.Eof
  unknown_atom : {bytes : List ℕ} → header_length bytes ≤ length bytes →
      known (header_kind bytes) (header_argument bytes) ≡ false →
      Spoilt bytes (unknown (header_kind bytes) (header_argument bytes))
  cut_body : {bytes : List ℕ} → header_length bytes ≤ length bytes →
      known (header_kind bytes) (header_argument bytes) ≡ true →
      length bytes < header_length bytes + body_length (header_kind bytes) (header_argument bytes) →
      Spoilt bytes R.Eof
