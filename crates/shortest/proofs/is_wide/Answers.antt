-- `shortest::is_wide` meets its contract: by the sign of the low half.
use Rattle.shortest.proofs.Arms.{wide_ends}
use Rattle.shortest.proofs.is_wide.Goals as goal

pub returns-then-low-lt9223372036854775808 : goal.returns-then-low-lt9223372036854775808
returns-then-low-lt9223372036854775808 c = search wide_ends

pub returns : goal.returns
returns c = search wide_ends
