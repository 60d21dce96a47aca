use Rattle.little.proofs.Stores.{store_ends}
use Rattle.little.proofs.put.Goals as goal

pub returns-then-out-count-clause-value : goal.returns-then-out-count-clause-value
returns-then-out-count-clause-value g c = search store_ends

pub returns-then-out-count-clause-out_after : goal.returns-then-out-count-clause-out_after
returns-then-out-count-clause-out_after g c = search store_ends

pub returns-clause-value : goal.returns-clause-value
returns-clause-value g c = search store_ends

pub returns-clause-out_after : goal.returns-clause-out_after
returns-clause-out_after g c = search store_ends
