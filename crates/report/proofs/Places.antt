-- The places that a report rests on: a refused atom starts within the bytes that are tallied, and a file whose
-- signature was read has its four bytes.
use Rattle.std.specs.Prelude.{Ok, Err}
use mathlib.Core.Path.{◌≡◌, refl, ◌∙◌, sym}
use mathlib.Core.Bool.{Bool, true, false, false≢true}
use mathlib.Core.List.{List}
use Prim.Native.Nat.{ℕ, zero, suc, ◌≤◌, ◌<◌}
use native.Mathlib.Omega.{arith}
use lib.Dec.{ltb, leb}
use lib.ListN.{length}
use borrow.Author.Tests.{ltb-true, leb-true, leb-false, le-ltb, lt-leb}
use Rattle.types.specs.Answers.{Skipped, VersionAnswer}
use Rattle.types.specs.Choice.{pick}
use Rattle.types.specs.Counters.{no_places}
use Rattle.types.specs.declared.Way.TheVariants as W
use Rattle.types.specs.declared.Place.{Place}
use Rattle.types.specs.declared.Places.{Places}
use Rattle.types.specs.declared.Budget.{Budget}
use Rattle.types.specs.declared.Refusal.TheVariants as R
use Rattle.types.specs.declared.Tallied.{Tallied}
use Rattle.types.specs.declared.TallyAnswer.{TallyAnswer}
use Rattle.types.specs.declared.TallyAnswer.TheVariants as TA
use Rattle.header.specs.Signature.{version_read, version_from}
use Rattle.dictionary.specs.Steps.{skipped}
use Rattle.dictionary.specs.Runs.{tally_all, tally_from, after_step, added, nothing, unlimited, most_bytes}

-- where a refused atom starts
abbrev pub stop_at : TallyAnswer → ℕ
stop_at (TA.Done last t) = 0
stop_at (TA.Stopped last r start) = start.0
stop_at (TA.Refused last r) = 0

stop_step :
    (s : List ℕ) (at : ℕ) (on : Place → Budget → Places → Bool → TallyAnswer) (k : Skipped) (t : Bool) (last : Places)
    (d : Tallied) →
    ltb at (length s) ≡ t → ((p : Place) (b : Budget) (q : Places) (f : Bool) → stop_at (on p b q f) ≤ length s) →
    stop_at (pick t (after_step k on (λ r. TA.Stopped last r (record { 0 = at }))) (TA.Done last d)) ≤ length s
stop_step s at on (Ok (p, b, q, f)) true last d e h = h p b q f
stop_step s at on (Err (p, b, r)) true last d e h = let l : at < length s = ltb-true at (length s) e in omega arith
stop_step s at on (Ok (p, b, q, f)) false last d e h = omega arith
stop_step s at on (Err (p, b, r)) false last d e h = omega arith

stop_from : (fuel : ℕ) (s : List ℕ) (at : ℕ) (t : Tallied) (last : Places) →
    stop_at (tally_from fuel s at t last) ≤ length s
unfolding tally_from
stop_from zero s at t last = omega arith
stop_from (suc fuel) s at t last =
    stop_step s at
    (λ place rest places string.
    tally_from fuel s place.0 (added s t place.0 rest.0 places.body.0 string) places)
    (skipped s at (record { 0 = unlimited }))
    (ltb at (length s))
    last
    t
    refl
    (λ p b q f. stop_from fuel s p.0 (added s t p.0 b.0 q.body.0 f) q)

stop_all : (s : List ℕ) (t : Bool) →
    stop_at (pick t (TA.Refused no_places R.TooLong) (tally_from (suc (length s)) s 0 nothing no_places)) ≤ length s
stop_all s true = omega arith
stop_all s false = stop_from (suc (length s)) s 0 nothing no_places

pub stop_within : (s : List ℕ) → stop_at (tally_all s) ≤ length s
stop_within s = stop_all s (ltb most_bytes (length s))

-- whether a signature was read
abbrev pub is_read : VersionAnswer → Bool
is_read (Ok (p, v)) = true
is_read (Err (p, r)) = false

short_unread : (s : List ℕ) → length s < 4 → is_read (version_read W.ExactLent s 0) ≡ false
unfolding version_from
short_unread s h = simp (le-ltb (length s) 0 (omega arith), lt-leb 4 (length s) h)

read_cases : (s : List ℕ) (t : Bool) → leb 4 (length s) ≡ t → is_read (version_read W.ExactLent s 0) ≡ true → 4 ≤ length s
read_cases s true e r = leb-true 4 (length s) e
read_cases s false e r =
    let no : true ≡ false = sym r ∙ short_unread s (leb-false 4 (length s) e) in
    absurd (false≢true cc)

pub read_long : (s : List ℕ) → is_read (version_read W.ExactLent s 0) ≡ true → 4 ≤ length s
read_long s = read_cases s (leb 4 (length s)) refl
