-- `float::write_to` meets its contract: each variant is written by its own writer.
use Rattle.float.proofs.Ends.{write_ends}
use Rattle.float.proofs.write_to.Goals as goal

pub returns-in-F64-clause-value : goal.returns-in-F64-clause-value
returns-in-F64-clause-value c = search write_ends

pub returns-in-F64-clause-out_after : goal.returns-in-F64-clause-out_after
returns-in-F64-clause-out_after c = search write_ends

pub returns-in-F32-clause-value : goal.returns-in-F32-clause-value
returns-in-F32-clause-value c = search write_ends

pub returns-in-F32-clause-out_after : goal.returns-in-F32-clause-out_after
returns-in-F32-clause-out_after c = search write_ends
