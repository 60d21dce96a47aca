-- What the one function under the casts answers, by what the language's own conversions may give. It serves the contract
-- of a private function, and has to be believed by nobody.
use Rattle.std.specs.Prelude.{◌≡◌, ◌≤◌, ◌<◌, ℕ, ℤ, nat_abs, Option, None, Result}
use Rattle.std.specs.Result.{result_ok}
use mir.Syntax.{Sign, signed, unsigned}
use mir.Val.{bytes}
use Rattle.types.specs.declared.Integer.{Integer}
use Rattle.types.specs.Values.{value}
use Rattle.cast.specs.Variants.{sign, width}

-- what the conversion of a value may give, by the variant's sign
abbrev pub by_sign : {X : Type 0} → (ℤ → X → Type 0) → (ℕ → X → Type 0) → Sign → ℤ → X → Type 0
by_sign of_signed of_unsigned signed z = of_signed z
by_sign of_signed of_unsigned unsigned z = of_unsigned (nat_abs z)

-- an integer converted to a type of so many bytes: by its value, unless its variant is wider
unfoldable pub Narrowed : {T E : Type 0} → (ℤ → Result T E → Type 0) → (ℕ → Result T E → Type 0) → ℕ →
    Integer → Option T → Type 0
Narrowed {T} {E} of_signed of_unsigned n x r =
    (bytes (width x) ≤ n →
    ((q : Result T E) × by_sign of_signed of_unsigned (sign x) (value x) q × (r ≡ result_ok q)))
    × (n < bytes (width x) → r ≡ None)
