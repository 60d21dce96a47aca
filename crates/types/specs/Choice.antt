-- A choice by a test, at any type: the way in which every definition goes by cases on numbers.
use Rattle.std.specs.Prelude.{Bool, true, false}

-- the first if the test holds, else the second
abbrev pub pick : {X : Type 0} → Bool → X → X → X
pick true a b = a
pick false a b = b
