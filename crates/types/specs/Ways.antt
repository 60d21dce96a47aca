-- The ways of reading. Document 01, "Two ways of reading".
use Rattle.std.specs.Prelude.{ℕ, Bool, true, false, leb}
use Rattle.types.specs.Choice.{pick}
use Rattle.types.specs.declared.Way.{Way}
use Rattle.types.specs.declared.Way.TheVariants as W

-- "Exact reading is `IoReader` over the same bytes: anything past the end is refused."
abbrev pub exact : Way → Bool
exact W.Filled = false
exact W.ExactLent = true
exact W.ExactCopied = true

-- "The entry that names no way now reads exactly, strings lent." (document 02, K4)
abbrev pub unnamed_way : Way
unnamed_way = W.ExactLent

-- A header or a number that takes the bytes up to `end`, in a source of that length. Filled: "a header byte or number
-- byte past the end reads as zero and the place stops at the end"; exact: "anything past the end is refused".
abbrev pub up_to : {X : Type 0} → Way → ℕ → ℕ → (ℕ → X) → X → X
up_to way length end taken eof = pick (leb end length) (taken end) (pick (exact way) eof (taken length))
