-- `float::write_f32_bits` meets its contract: each arm by what the narrowing answered.
use Rattle.float.proofs.Ends.{write_ends}
use Rattle.float.proofs.write_f32_bits.Goals as goal

pub returns-in-Some-clause-value : goal.returns-in-Some-clause-value
returns-in-Some-clause-value c = search write_ends

pub returns-in-Some-clause-out_after : goal.returns-in-Some-clause-out_after
returns-in-Some-clause-out_after c = search write_ends

pub returns-in-None-clause-value : goal.returns-in-None-clause-value
returns-in-None-clause-value c = search write_ends

pub returns-in-None-clause-out_after : goal.returns-in-None-clause-out_after
returns-in-None-clause-out_after c = search write_ends
