-- THE SHORTEST FORM of an atom. Document 02, K3: "its header is byte for byte what our header writer gives for that
-- kind and argument, its number uses the smallest allowed count for its kind, and a float that is not NaN its smallest
-- width".
use Rattle.std.specs.Prelude.{ℕ, ◌-◌, ◌≡◌, Bool, true, false, ◌&&◌, List, [], ◌∷◌, ◌++◌, eqb, length, take}
use Rattle.types.specs.Choice.{pick}
use Rattle.types.specs.Kinds.{special_code}
use Rattle.types.specs.Forms.{count_of, floats_read}
use Rattle.header.specs.Header.{header_kind, header_argument, header_length, header_bytes}
use Rattle.little.specs.Le.{to_le}
use Rattle.little.specs.Twos.{twos_bits}
use Rattle.little.specs.Counts.{first_that, shortest_u, shortest_s}
use Rattle.binary.specs.Conversions.{with_sign, candidate, has}
use Rattle.binary.specs.Conversions as Binary
use Rattle.float.specs.Floats.{layout_at}
use Rattle.dictionary.specs.Wholes.{Atoms}
use Rattle.shortest.specs.Meanings.{Meant, special, int, uint, float, infinity, nan, sequence, map, symbol, bytes}
use Rattle.shortest.specs.Meanings.{kind_of, meant}

-- ---- what is accepted

-- "byte for byte"
unfoldable pub same_bytes : List ℕ → List ℕ → Bool
same_bytes [] [] = true
same_bytes [] (c ∷ those) = false
same_bytes (b ∷ these) [] = false
same_bytes (b ∷ these) (c ∷ those) = pick (eqb b c) (same_bytes these those) false

-- "its header is byte for byte what our header writer gives for that kind and argument": of the atom that these bytes
-- start with
unfoldable pub shortest_header : List ℕ → Bool
shortest_header atom =
    same_bytes (take (header_length atom) atom) (header_bytes (header_kind atom) (header_argument atom))

-- the smallest width of a float: the first of 2, 4 and 8 bytes whose format has the magnitude
unfoldable pub shortest_f : ℕ → ℕ
shortest_f m = first_that (λ n. has (layout_at n) m) floats_read

-- "its number uses the smallest allowed count for its kind, and a float that is not NaN its smallest width": whether
-- that count is it; "Both zeros and both infinities take 2 bytes". A NaN has any of its widths.
abbrev pub fewest : ℕ → Meant → Bool
fewest count (special s) = true
fewest count (int z) = eqb count (shortest_s z)
fewest count (uint k) = eqb count (shortest_u k)
fewest count (float s m) = eqb count (shortest_f m)
fewest count (infinity s) = eqb count 2
fewest count (nan width bits) = true
fewest count (sequence n) = true
fewest count (map n) = true
fewest count (symbol n) = true
fewest count (bytes l) = true

-- AN ATOM IN SHORTEST FORM
unfoldable pub shortest : List ℕ → Bool
shortest atom = shortest_header atom && fewest (count_of (header_argument atom)) (meant atom)

-- whether each of a list is
unfoldable pub all_shortest : List (List ℕ) → Bool
all_shortest [] = true
all_shortest (atom ∷ atoms) = pick (shortest atom) (all_shortest atoms) false

-- AN ACCEPTED LIST: "yes exactly if each atom is whole and known", and in shortest form
pub record Accepted (s : List ℕ) (atoms : List (List ℕ)) : Type 0 where
  pub wholes : Atoms s atoms
  pub in_form : all_shortest atoms ≡ true

-- ---- the bytes of a meaning

-- the argument of its header, its number in that many bytes: "byte count is argument + 1"
abbrev pub argument_at : ℕ → Meant → ℕ
argument_at count (special s) = special_code s
argument_at count (int z) = count - 1
argument_at count (uint k) = count - 1
argument_at count (float s m) = count - 1
argument_at count (infinity s) = count - 1
argument_at count (nan width bits) = width - 1
argument_at count (sequence n) = n
argument_at count (map n) = n
argument_at count (symbol n) = n
argument_at count (bytes l) = length l

-- its body: "little endian, Int in two's complement"; the pattern with that sign and magnitude, of that width's format
abbrev pub body_at : ℕ → Meant → List ℕ
body_at count (special s) = []
body_at count (int z) = to_le count (twos_bits count z)
body_at count (uint k) = to_le count k
body_at count (float s m) = to_le count (with_sign (layout_at count) s (candidate (layout_at count) m))
body_at count (infinity s) = to_le count (with_sign (layout_at count) s (Binary.infinity (layout_at count)))
body_at count (nan width bits) = to_le width bits
body_at count (sequence n) = []
body_at count (map n) = []
body_at count (symbol n) = []
body_at count (bytes l) = l

-- THE FORM OF A MEANING, its number in that many bytes, with the header that our header writer gives
unfoldable pub form_at : ℕ → Meant → List ℕ
form_at count m = header_bytes (kind_of m) (argument_at count m) ++ body_at count m

-- the smallest count of a number, its own of a NaN, which the form of a NaN does not ask for, and none of another
abbrev pub fewest_count : Meant → ℕ
fewest_count (special s) = 0
fewest_count (int z) = shortest_s z
fewest_count (uint k) = shortest_u k
fewest_count (float s m) = shortest_f m
fewest_count (infinity s) = 2
fewest_count (nan width bits) = width
fewest_count (sequence n) = 0
fewest_count (map n) = 0
fewest_count (symbol n) = 0
fewest_count (bytes l) = 0

-- ITS SHORTEST BYTES
unfoldable pub shortest_bytes : Meant → List ℕ
shortest_bytes m = form_at (fewest_count m) m

-- of a list of meanings: an atom for each, and their bytes one after the other
unfoldable pub shortest_atoms : List Meant → List (List ℕ)
shortest_atoms [] = []
shortest_atoms (m ∷ ms) = shortest_bytes m ∷ shortest_atoms ms

unfoldable pub joined : List (List ℕ) → List ℕ
joined [] = []
joined (atom ∷ atoms) = atom ++ joined atoms
