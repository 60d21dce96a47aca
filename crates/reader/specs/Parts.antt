-- The part of a slice that a delivery mark says. Document 01, "Two ways of reading": "`as_slice` hands back a part of
-- the source or of the scratch, as the delivery mark says; a mark reaching past the slice it names gives the empty part
-- at that slice's end."
use Rattle.std.specs.Prelude.{ℕ, ◌+◌, Bool, List, [], ltb, length, take, drop}
use Rattle.types.specs.Choice.{pick}
use Rattle.types.specs.declared.Mark.{Mark}

-- "reaching past the slice": a start and a length, of a slice
abbrev pub reaches_past : List ℕ → ℕ → ℕ → Bool
reaches_past s start len = ltb (length s) (start + len)

-- the part's bytes: "the empty part" past the end
abbrev pub part_of : List ℕ → ℕ → ℕ → List ℕ
part_of s start len = pick (reaches_past s start len) [] (take len (drop start s))

-- the part's pointer, of the slice's: "at that slice's end" past the end
abbrev pub pointer_of : ℕ × ℕ → List ℕ → ℕ → ℕ → ℕ × ℕ
pointer_of p s start len = pick (reaches_past s start len) (p.0, length s + p.1) (p.0, start + p.1)

-- "a part of the source or of the scratch, as the delivery mark says"
unfoldable pub marked_bytes : Mark → List ℕ → List ℕ → List ℕ
marked_bytes m source scratch = pick m.lent (part_of source m.start m.len) (part_of scratch m.start m.len)

-- where that part lies, of the pointers of both
unfoldable pub marked_pointer : Mark → ℕ × ℕ → ℕ × ℕ → List ℕ → List ℕ → ℕ × ℕ
marked_pointer m p q source scratch =
    pick m.lent (pointer_of p source m.start m.len) (pointer_of q scratch m.start m.len)
