-- What is done with a kind or a special that came in as its code; a code that names none is answered by its refusal, 2
-- or 3.
use Rattle.std.specs.Prelude.{Result, Ok, Err}
use Rattle.types.specs.declared.Kind.{Kind}
use Rattle.types.specs.declared.Special.{Special}
use Rattle.types.specs.declared.Refusal.{Refusal}

abbrev pub of_kind : {X : Type 0} → (Kind → X) → (Refusal → X) → Result Kind Refusal → X
of_kind taken refused (Ok k) = taken k
of_kind taken refused (Err r) = refused r

abbrev pub of_special : {X : Type 0} → (Special → X) → (Refusal → X) → Result Special Refusal → X
of_special taken refused (Ok s) = taken s
of_special taken refused (Err r) = refused r
