-- `tally::run` meets its contract: what is read decides the text, and the text is what is written.
use Rattle.std.specs.Prelude.{replicate}
use mathlib.Core.Path.{refl}
use borrow.Author.Rules.{rules}
use Rattle.tally.proofs.Whole.{told}
use Rattle.tally.proofs.run.Goals as goal

pub returns : goal.returns
returns g c =
    told (g.R.Read.remaining c.args.from.now) (g.R.Read.remaining c.read_full.new.input) c.read_full.new.buffer
    c.in_ok-count.count (search rules) c.in_ok-count.ensures.bound.0 c.in_ok-count.ensures.bytes
    c.in_ok-count.ensures.end (replicate 79 0) c.report_into-length.new.out c.report_into-length.result
    c.report_into-length.ensures.value c.report_into-length.ensures.out_after refl c.write_all.result _ _
    c.write_all.ensures.bytes
