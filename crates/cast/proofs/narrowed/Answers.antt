use Rattle.cast.proofs.Conversions.{narrowed_ends}
use Rattle.cast.proofs.narrowed.Goals as goal

pub returns-in-I8 : goal.returns-in-I8
returns-in-I8 g c = search narrowed_ends

pub returns-in-U8 : goal.returns-in-U8
returns-in-U8 g c = search narrowed_ends

pub returns-in-I16 : goal.returns-in-I16
returns-in-I16 g c = search narrowed_ends

pub returns-in-U16 : goal.returns-in-U16
returns-in-U16 g c = search narrowed_ends

pub returns-in-I32 : goal.returns-in-I32
returns-in-I32 g c = search narrowed_ends

pub returns-in-U32 : goal.returns-in-U32
returns-in-U32 g c = search narrowed_ends

pub returns-in-I64 : goal.returns-in-I64
returns-in-I64 g c = search narrowed_ends

pub returns-in-U64 : goal.returns-in-U64
returns-in-U64 g c = search narrowed_ends
