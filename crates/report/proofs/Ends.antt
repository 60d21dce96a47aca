-- The ends of the report's functions: what the tally and the signature's reader answered, and what is found of the
-- file.
use Rattle.std.specs.Prelude.{Ok, Err}
use mathlib.Core.Path.{◌≡◌, ◌∙◌, sym, ap, subst}
use mathlib.Core.List.{List}
use Prim.Native.Nat.{ℕ, ◌+◌, ◌-◌, ◌*◌, ◌^◌, ◌≤◌, ◌<◌}
use native.Mathlib.Omega.{arith}
use borrow.Author.Rules.{rules}
use borrow.Author.Tests.{lt-ltb, le-ltb}
use lib.ListN.{length, take, drop, length-drop}
use lib.Seq.{take_all}
use mir.Syntax.{w64}
use mir.Val.{Fits}
use Rattle.report.specs.Reports.{Report}
use Rattle.types.specs.Answers.{VersionAnswer}
use Rattle.types.specs.declared.Way.TheVariants as W
use Rattle.types.specs.declared.Place.{Place}
use Rattle.types.specs.declared.Places.{Places}
use Rattle.types.specs.declared.Refusal.{Refusal}
use Rattle.types.specs.declared.Refusal.TheVariants as R
use Rattle.types.specs.declared.Tallied.{Tallied}
use Rattle.types.specs.declared.TallyAnswer.{TallyAnswer}
use Rattle.types.specs.declared.TallyAnswer.TheVariants as TA
use Rattle.header.specs.Signature.{version_read}
use Rattle.dictionary.specs.Runs.{tally_all}
use Rattle.report.specs.Reports.{after_signature, counted, report_of}
use Rattle.report.proofs.Places.{stop_at, stop_within, is_read, read_long}

-- what follows the signature was tallied, as it is lent
module _ (file : List ℕ) (version : ℕ) (answer : TallyAnswer)
    (e : answer ≡ tally_all (take (length file - 4) (drop 4 file))) where
  found : answer ≡ tally_all (after_signature file)
  found = e ∙ ap tally_all (take_all (length file - 4) (drop 4 file) (simp length-drop (omega arith)))

  -- to the end
  pub all_tallied : (last : Places) (t : Tallied) → answer ≡ TA.Done last t →
      Ok (version, length file - 4, t) ≡ counted file version (tally_all (after_signature file))
  all_tallied last t d = cc (found, length-drop 4 file)

  -- up to an atom that was refused, which starts within the file
  module _ (last : Places) (start : Place) (why : Refusal) (d : answer ≡ TA.Stopped last why start) where
    pub start_fits : 4 ≤ length file → length file * 1 < 2 ^ 63 → Fits w64 (4 + start.0)
    start_fits h room =
        let i : start.0 ≤ length (drop 4 file) =
        subst (λ (n : ℕ). n ≤ length (drop 4 file)) (ap stop_at (sym found ∙ d)) (stop_within (drop 4 file))
        in
        let n = length-drop 4 file in
        omega arith

    pub atom_refused :
        Err (why, record { 0 = 4 + start.0 }) ≡ counted file version (tally_all (after_signature file))
    atom_refused = cc found

  -- not at all
  pub all_refused : (last : Places) (why : Refusal) → answer ≡ TA.Refused last why →
      Err (why, record { 0 = 0 }) ≡ counted file version (tally_all (after_signature file))
  all_refused last why d = cc found

pub ruleset count_ends = (all_tallied, start_fits, atom_refused, all_refused, rules)

-- the file is too long
pub too_long : (file : List ℕ) → 65_536 < length file → Err (R.TooLong, record { 0 = 0 }) ≡ report_of file
unfolding report_of
too_long file h = simp (lt-ltb _ _ h)

-- it is not, and its signature was looked at
module _ (file : List ℕ) (answer : VersionAnswer) (place : Place) (e : answer ≡ version_read W.ExactLent file 0) where
  -- it was read: it has its four bytes, and the rest is tallied
  module _ (version : ℕ) (d : answer ≡ Ok (place, version)) where
    pub has_signature : 4 ≤ length file
    has_signature = read_long file (ap is_read (sym e ∙ d))

    pub file_counted : (r : Report) → length file ≤ 65_536 → r ≡ counted file version (tally_all (after_signature file)) →
        r ≡ report_of file
    unfolding report_of
    file_counted r h c = cc (le-ltb 65_536 (length file) h)

  -- it was refused
  pub signature_refused : (why : Refusal) → length file ≤ 65_536 → answer ≡ Err (place, why) →
      Err (why, record { 0 = 0 }) ≡ report_of file
  unfolding report_of
  signature_refused why h d = cc (le-ltb 65_536 (length file) h)

pub ruleset judge_ends = (too_long, has_signature, file_counted, signature_refused, rules)
