use Rattle.reader.proofs.Ends.{exactly_ends}
use Rattle.reader.proofs.read_exact.Goals as goal

pub returns-then-buffer-left-clause-value : goal.returns-then-buffer-left-clause-value
returns-then-buffer-left-clause-value c = search exactly_ends

pub returns-then-buffer-left-clause-buffer_after : goal.returns-then-buffer-left-clause-buffer_after
returns-then-buffer-left-clause-buffer_after c = search exactly_ends

pub returns-then-is_exact-clause-value : goal.returns-then-is_exact-clause-value
returns-then-is_exact-clause-value c = search exactly_ends

pub returns-then-is_exact-clause-buffer_after : goal.returns-then-is_exact-clause-buffer_after
returns-then-is_exact-clause-buffer_after c = search exactly_ends

pub returns-else-is_exact-clause-value : goal.returns-else-is_exact-clause-value
returns-else-is_exact-clause-value c = search exactly_ends

pub returns-else-is_exact-clause-buffer_after : goal.returns-else-is_exact-clause-buffer_after
returns-else-is_exact-clause-buffer_after c = search exactly_ends
