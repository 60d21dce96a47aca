-- `From`: the integer that is made of a number. Document 01, "Casts".
use Rattle.std.specs.Prelude.{ℤ}
use mir.Syntax.{Sign, unsigned, signed, Width, w8, w16, w32, w64, w128}
use Rattle.types.specs.Choice.{pick}
use Rattle.types.specs.declared.Integer.{Integer}
use Rattle.cast.specs.Variants.{variant, in_range}

-- "trying signed first and then unsigned at each smaller width for signed input, unsigned only for unsigned input"
abbrev pub tried : Sign → Width → ℤ → Integer → Integer
tried signed w z else =
    pick (in_range signed w z) (variant signed w z)
    (pick (in_range unsigned w z) (variant unsigned w z) else)
tried unsigned w z else = pick (in_range unsigned w z) (variant unsigned w z) else

-- "`From` picks the narrowest variant": of a number of that sign and width, the smaller widths in turn, then its own
unfoldable pub from : Sign → Width → ℤ → Integer
from s w8 z = variant s w8 z
from s w16 z = tried s w8 z (variant s w16 z)
from s w32 z = tried s w8 z (tried s w16 z (variant s w32 z))
from s w64 z = tried s w8 z (tried s w16 z (tried s w32 z (variant s w64 z)))
from s w128 z = tried s w8 z (tried s w16 z (tried s w32 z (tried s w64 z (variant s w128 z))))
