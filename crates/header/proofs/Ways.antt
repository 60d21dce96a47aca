-- What the two ways of reading differ in, of an atom's header and of a signature: both are taken up to an end.
use Rattle.std.specs.Prelude.{Ok, Err}
use mathlib.Core.Path.{◌≡◌, refl}
use mathlib.Core.List.{List}
use Prim.Native.Nat.{ℕ, ◌+◌}
use lib.ListN.{length, drop}
use Rattle.types.specs.Answers.{HeaderAnswer, VersionAnswer}
use Rattle.types.specs.Counters.{place_in}
use Rattle.types.specs.declared.Way.TheVariants as W
use Rattle.types.specs.declared.Refusal.TheVariants as R
use Rattle.types.proofs.Ways.{Differ, up_to_differ}
use Rattle.header.specs.Header.{header_read, header_from, header_length, header_kind, header_argument}
use Rattle.header.specs.Signature.{version_read, version_from, judged, big_endian}

module _ (s : List ℕ) (place : ℕ) where
  pub header_differ :
      Differ (λ (h : HeaderAnswer). h ≡ Err (record { 0 = length s }, R.Eof)) (length s)
      (place_in (length s) place + header_length (drop (place_in (length s) place) s))
      (header_read W.ExactLent s place) (header_read W.Filled s place)
  unfolding header_from
  header_differ =
      up_to_differ (length s) _
      (λ p. Ok (record { 0 = p }, header_kind (drop (place_in (length s) place) s), header_argument (drop (place_in (length s) place) s)))
      (Err (record { 0 = length s }, R.Eof)) _ refl

  pub version_differ :
      Differ (λ (v : VersionAnswer). v ≡ Err (record { 0 = length s }, R.Eof)) (length s)
      (place_in (length s) place + 4) (version_read W.ExactLent s place) (version_read W.Filled s place)
  unfolding version_from
  version_differ =
      up_to_differ (length s) _ (λ p. judged (big_endian (drop (place_in (length s) place) s)) (record { 0 = p }))
      (Err (record { 0 = length s }, R.Eof)) _ refl
