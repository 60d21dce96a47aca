-- Where a header's read leaves the place: it never falls and never passes the end, and an exact read takes a byte at
-- least.
use Rattle.std.specs.Prelude.{Ok, Err}
use mathlib.Core.Path.{refl}
use mathlib.Core.List.{List}
use Prim.Native.Nat.{ℕ, ◌+◌, ◌≤◌}
use native.Mathlib.Omega.{arith}
use lib.ListN.{length, drop}
use Rattle.types.proofs.Ways.{up_to-between}
use Rattle.types.specs.Answers.{HeaderAnswer}
use Rattle.types.specs.declared.Way.{Way}
use Rattle.types.specs.declared.Refusal.TheVariants as R
use Rattle.header.specs.Header.{header_from, header_kind, header_argument, header_length}
use Rattle.header.proofs.Fewest.{length_bounds}

-- the place after, refused or not
abbrev pub header_place : HeaderAnswer → ℕ
header_place (Ok (p, k, a)) = p.0
header_place (Err (p, r)) = p.0

pub header_place_lem : (way : Way) (s : List ℕ) (at : ℕ) → at ≤ length s →
    (at ≤ header_place (header_from way s at)) × (header_place (header_from way s at) ≤ length s)
unfolding header_from
header_place_lem way s at h =
    let more = (length_bounds (drop at s)).0 in
    up_to-between way (length s) (at + header_length (drop at s))
    (λ p. Ok (record { 0 = p }, header_kind (drop at s), header_argument (drop at s)))
    (Err (record { 0 = length s }, R.Eof)) header_place (λ p. refl) refl at h (omega arith)
