-- `writers::write_to` meets its contract: each arm is the writer of its variant.
use Rattle.writers.specs.Bytes.{value_bytes}
use Rattle.writers.proofs.Others.{variant_ends}
use Rattle.writers.proofs.write_to.Goals as goal

pub returns-in-I8-clause-value : goal.returns-in-I8-clause-value
unfolding value_bytes
returns-in-I8-clause-value c = search variant_ends fits 300

pub returns-in-I8-clause-out_after : goal.returns-in-I8-clause-out_after
unfolding value_bytes
returns-in-I8-clause-out_after c = search variant_ends fits 300

pub returns-in-I16-clause-value : goal.returns-in-I16-clause-value
unfolding value_bytes
returns-in-I16-clause-value c = search variant_ends fits 300

pub returns-in-I16-clause-out_after : goal.returns-in-I16-clause-out_after
unfolding value_bytes
returns-in-I16-clause-out_after c = search variant_ends fits 300

pub returns-in-I32-clause-value : goal.returns-in-I32-clause-value
unfolding value_bytes
returns-in-I32-clause-value c = search variant_ends fits 300

pub returns-in-I32-clause-out_after : goal.returns-in-I32-clause-out_after
unfolding value_bytes
returns-in-I32-clause-out_after c = search variant_ends fits 300

pub returns-in-I64-clause-value : goal.returns-in-I64-clause-value
unfolding value_bytes
returns-in-I64-clause-value c = search variant_ends fits 300

pub returns-in-I64-clause-out_after : goal.returns-in-I64-clause-out_after
unfolding value_bytes
returns-in-I64-clause-out_after c = search variant_ends fits 300

pub returns-in-I128-clause-value : goal.returns-in-I128-clause-value
unfolding value_bytes
returns-in-I128-clause-value c = search variant_ends fits 300

pub returns-in-I128-clause-out_after : goal.returns-in-I128-clause-out_after
unfolding value_bytes
returns-in-I128-clause-out_after c = search variant_ends fits 300

pub returns-in-U8-clause-value : goal.returns-in-U8-clause-value
unfolding value_bytes
returns-in-U8-clause-value c = search variant_ends fits 300

pub returns-in-U8-clause-out_after : goal.returns-in-U8-clause-out_after
unfolding value_bytes
returns-in-U8-clause-out_after c = search variant_ends fits 300

pub returns-in-U16-clause-value : goal.returns-in-U16-clause-value
unfolding value_bytes
returns-in-U16-clause-value c = search variant_ends fits 300

pub returns-in-U16-clause-out_after : goal.returns-in-U16-clause-out_after
unfolding value_bytes
returns-in-U16-clause-out_after c = search variant_ends fits 300

pub returns-in-U32-clause-value : goal.returns-in-U32-clause-value
unfolding value_bytes
returns-in-U32-clause-value c = search variant_ends fits 300

pub returns-in-U32-clause-out_after : goal.returns-in-U32-clause-out_after
unfolding value_bytes
returns-in-U32-clause-out_after c = search variant_ends fits 300

pub returns-in-U64-clause-value : goal.returns-in-U64-clause-value
unfolding value_bytes
returns-in-U64-clause-value c = search variant_ends fits 300

pub returns-in-U64-clause-out_after : goal.returns-in-U64-clause-out_after
unfolding value_bytes
returns-in-U64-clause-out_after c = search variant_ends fits 300

pub returns-in-U128-clause-value : goal.returns-in-U128-clause-value
unfolding value_bytes
returns-in-U128-clause-value c = search variant_ends fits 300

pub returns-in-U128-clause-out_after : goal.returns-in-U128-clause-out_after
unfolding value_bytes
returns-in-U128-clause-out_after c = search variant_ends fits 300
