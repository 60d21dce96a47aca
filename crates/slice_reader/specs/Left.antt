-- The slice still to be read. Document 01, "Port order and changes of shape": "`SliceReader` returns as a reader that
-- holds the slice still to be read".
use Rattle.std.specs.Prelude.{◌≡◌, ℕ, ◌+◌, List, length, drop}
use Rattle.std.specs.Borrow.{Bor}
use Rattle.types.specs.Counters.{place_in}

-- what is left of a slice from a place on: "A given place past the end counts as the end."
abbrev pub left_bytes : List ℕ → ℕ → List ℕ
left_bytes s place = drop (place_in (length s) place) s

-- where that part lies, of the slice's pointer
abbrev pub left_pointer : ℕ × ℕ → List ℕ → ℕ → ℕ × ℕ
left_pointer p s place = (p.0, place_in (length s) place + p.1)

-- the last slice is the part of the first from a place on: the same bytes, where they lie
abbrev pub LeftOf : Bor (List ℕ) → ℕ → Bor (List ℕ) → Type 0
LeftOf s place r = (r.now ≡ left_bytes s.now place) × (r.ref_ptr ≡ left_pointer s.ref_ptr s.now place)
