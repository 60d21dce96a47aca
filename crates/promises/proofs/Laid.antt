-- The layout of words has the number that each answer is told by; and the layout at examples, by computing:
-- rust/tests/layout.rs finds the same in the array that the library wrote.
use Rattle.std.specs.Prelude.{Result, Ok, Err}
use mathlib.Core.Path.{◌≡◌, refl}
use Prim.Native.Nat.{ℕ, ◌-◌, ◌^◌}
use mathlib.Core.Bool.{true}
use mathlib.Core.List.{List, [], ◌∷◌}
use lib.IntN.{negsuc}
use Rattle.types.specs.declared.Integer.{Integer}
use Rattle.types.specs.declared.Refusal.{Refusal}
use Rattle.types.specs.Answers.{AtomAnswer, Checked, Ran, Skipped, VersionAnswer, run_of}
use Rattle.types.specs.Counters.{places_of}
use Rattle.types.specs.declared.Places.{Places}
use Rattle.types.specs.declared.Kind.TheVariants as K
use Rattle.types.specs.declared.Integer.TheVariants as I
use Rattle.types.specs.declared.Nucleus.TheVariants as N
use Rattle.types.specs.declared.Refusal.TheVariants as R
use Rattle.types.specs.declared.TallyAnswer.TheVariants as TA
use Rattle.types.specs.declared.TallyAnswer.{TallyAnswer}
use Rattle.words.specs.Layout.{Said, said_atom, said_skipped, said_ran, said_tally, said_checked, said_version, said_written}
use Rattle.words.specs.Layout.{said_as_integer}
use Rattle.promises.specs.Told.{told_atom, told_skipped, told_ran, told_tally, told_version, told_written}
use Rattle.promises.specs.Told.{told_checked, told_as_integer}

-- one number for an answer, told or laid out
pub atom_number : (a : AtomAnswer) → (said_atom a).number ≡ (told_atom a).number
unfolding said_atom
atom_number (Ok (p, b, x)) = refl
atom_number (Err (p, b, r)) = refl

pub skipped_number : (a : Skipped) → (said_skipped a).number ≡ (told_skipped a).number
unfolding said_skipped
skipped_number (Ok (p, b, places, string)) = refl
skipped_number (Err (p, b, r)) = refl

pub ran_number : (a : Ran) → (said_ran a).number ≡ (told_ran a).number
unfolding said_ran
ran_number (Ok run) = refl
ran_number (Err (run, r, start)) = refl

pub tally_number : (a : TallyAnswer) → (said_tally a).number ≡ (told_tally a).number
unfolding said_tally
tally_number (TA.Done last t) = refl
tally_number (TA.Stopped last r start) = refl
tally_number (TA.Refused last r) = refl

pub checked_number : (a : Checked) → (said_checked a).number ≡ (told_checked a).number
unfolding said_checked
checked_number (Ok tt) = refl
checked_number (Err (r, start)) = refl

pub version_number : (a : VersionAnswer) → (said_version a).number ≡ (told_version a).number
unfolding said_version
version_number (Ok (p, version)) = refl
version_number (Err (p, r)) = refl

pub written_number : (a : Result ℕ Refusal) → (said_written a).number ≡ (told_written a).number
unfolding said_written
written_number (Ok n) = refl
written_number (Err r) = refl

pub integer_number : (a : Result Integer Refusal) → (said_as_integer a).number ≡ (told_as_integer a).number
unfolding said_as_integer
integer_number (Ok x) = refl
integer_number (Err r) = refl

-- ---- examples

-- an answer by its number and its words
abbrev laid : ℕ → List ℕ → Said
laid n words = record { number = n; words = words }

-- three places
abbrev at : ℕ → ℕ → ℕ → Places
at first body after = places_of (record { 0 = first }) (record { 0 = body }) (record { 0 = after })

-- `22 00 00 80` with budget 4: I32 -8388608, at 0, 1 and 4
pub integer_said :
    said_atom (Ok (record { 0 = 4 }, record { 0 = 0 }, record { kind = K.Int; arg = 2; places = at 0 1 4; nucleus = N.Integer (I.I32 (negsuc 8388607)) }))
    ≡ laid 0 (4 ∷ 0 ∷ 1 ∷ 2 ∷ 2 ∷ 2 ∷ (2 ^ 64 - 8388608) ∷ (2 ^ 64 - 1) ∷ 0 ∷ 1 ∷ 4 ∷ 0 ∷ [])
unfolding said_atom
integer_said = refl

-- `E2 61 62` with budget 5: a string lent from place 1, at 0, 1 and 3
pub string_said :
    said_atom (Ok (
      record { 0 = 3 },
      record { 0 = 3 },
      record {
        kind = K.Bytes;
        arg = 2;
        places = at 0 1 3;
        nucleus = N.Bytes (record { start = 1; len = 2; lent = true });
      },
    ))
    ≡ laid 0 (3 ∷ 3 ∷ 7 ∷ 2 ∷ 4 ∷ 1 ∷ 2 ∷ 1 ∷ 0 ∷ 1 ∷ 3 ∷ 0 ∷ [])
unfolding said_atom
string_said = refl

-- `24` with budget 9: refusal 6(Int, 5), and no places
pub refusal_said :
    said_atom (Err (record { 0 = 1 }, record { 0 = 4 }, R.UnsupportedByteCount K.Int 5))
    ≡ laid 6 (1 ∷ 4 ∷ 1 ∷ 5 ∷ 0 ∷ 0 ∷ 0 ∷ 0 ∷ 0 ∷ 0 ∷ 0 ∷ 0 ∷ [])
unfolding said_atom
refusal_said = refl

-- the example file with budget 4: refusal 5 at its second atom, and the places of its first
pub run_said :
    said_ran (Err (run_of (record { 0 = 5 }) (record { 0 = 1 }) 1 (at 0 1 4), R.TooManyBytesRead, record { 0 = 4 }))
    ≡ laid 5 (5 ∷ 1 ∷ 1 ∷ 4 ∷ 0 ∷ 0 ∷ 0 ∷ 0 ∷ 0 ∷ 1 ∷ 4 ∷ 0 ∷ [])
unfolding said_ran
run_said = refl

-- its tally, with the places of its last atom
pub tally_said :
    said_tally (TA.Done (at 14 15 15) (record { atoms = 5; body = record { 0 = 10 }; charge = 11; letters = 2 }))
    ≡ laid 0 (5 ∷ 10 ∷ 11 ∷ 2 ∷ 0 ∷ 0 ∷ 0 ∷ 0 ∷ 14 ∷ 15 ∷ 15 ∷ 0 ∷ [])
unfolding said_tally
tally_said = refl

-- `40 00 24`: refusal 6(Int, 5) of the check, at its second atom
pub check_said :
    said_checked (Err (R.UnsupportedByteCount K.Int 5, record { 0 = 2 }))
    ≡ laid 6 (2 ∷ 1 ∷ 5 ∷ 0 ∷ 0 ∷ 0 ∷ 0 ∷ 0 ∷ 0 ∷ 0 ∷ 0 ∷ 0 ∷ [])
unfolding said_checked
check_said = refl
