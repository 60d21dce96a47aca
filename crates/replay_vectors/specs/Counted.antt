-- What judging a text says of its counts. Assumes nothing.
use Rattle.std.specs.Prelude.{◌+◌, ◌≡◌}
use Rattle.replay_vectors.specs.declared.Tally.{Tally}

-- every line has one verdict
abbrev pub Counted : Tally → Type 0
Counted t = t.equal + t.differ + t.omitted ≡ t.lines
