-- `dictionary::short_atom` meets its contract, by the atom's first byte.
use Rattle.dictionary.proofs.Shorts.{short_ends}
use Rattle.dictionary.proofs.short_atom.Goals as goal

pub returns-then-first-eq64 : goal.returns-then-first-eq64
returns-then-first-eq64 c = search short_ends

pub returns-then-first-eq14 : goal.returns-then-first-eq14
returns-then-first-eq14 c = search short_ends

pub returns-then-first-eq8 : goal.returns-then-first-eq8
returns-then-first-eq8 c = search short_ends

pub returns : goal.returns
returns c = search short_ends
