-- This paper's number and values for each case of each answer. "If an answer is an enum, a definition tells you this
-- paper's number and values for each of its cases. The promises use that definition." Number 0 says that the answer is
-- no refusal. A float is told by its case: 0, its sign and its magnitude in units of 2^-1074; 1 and the sign of an
-- infinity; 2 of the NaN.
use Rattle.std.specs.Prelude.{ℕ, List, [], ◌∷◌, ◌++◌, map, ℤ, pos, Result, Ok, Err, Option, Some, None}
use Rattle.std.specs.Float.Ieee as Ieee
use mir.Syntax.{Sign, signed, unsigned}
use mir.Val.{bits}
use Rattle.report.specs.Reports.{Report}
use Rattle.types.specs.declared.Budget.{Budget}
use Rattle.types.specs.declared.Wide.{Wide}
use Rattle.types.specs.declared.Special.{Special}
use Rattle.types.specs.declared.Kind.{Kind}
use Rattle.types.specs.Answers.{AtomAnswer, BytesAnswer, Checked, FloatAnswer, HeaderAnswer, IntegerAnswer, Ran, RawAnswer, Skipped, VersionAnswer}
use Rattle.types.specs.Choice.{pick}
use Rattle.types.specs.Kinds.{kind_code, special_code}
use Rattle.types.specs.Refusals.{refusal_number, refusal_data}
use Rattle.types.specs.declared.Mark.{Mark}
use Rattle.types.specs.declared.Places.{Places}
use Rattle.types.specs.declared.Run.{Run}
use Rattle.types.specs.declared.Integer.{Integer}
use Rattle.types.specs.declared.Float.{Float}
use Rattle.types.specs.declared.Float.TheVariants as F
use Rattle.types.specs.declared.Nucleus.{Nucleus}
use Rattle.types.specs.declared.Nucleus.TheVariants as N
use Rattle.types.specs.Values.{value}
use Rattle.cast.specs.Variants.{sign, width}
use Rattle.binary.specs.Formats.{Meaning, finite, infinite, nan}
use Rattle.binary.specs.Floats.{float_meaning}
use Rattle.types.specs.declared.Refusal.{Refusal}
use Rattle.types.specs.declared.Tallied.{Tallied}
use Rattle.types.specs.declared.TallyAnswer.{TallyAnswer}
use Rattle.types.specs.declared.TallyAnswer.TheVariants as TA

-- the number, and the values in the order of the answer's fields
pub record Told : Type 0 where
  pub number : ℕ
  pub values : List ℤ

-- an answer of that number, with those values
abbrev pub told : ℕ → List ℤ → Told
told n vs = record { number = n; values = vs }

-- an answer that is no refusal
abbrev pub taken : List ℤ → Told
taken vs = told 0 vs

-- a refusal, after the values that stand before it: its number, and its data behind them
abbrev pub refused : List ℤ → Refusal → Told
refused vs r = told (refusal_number r) (vs ++ map pos (refusal_data r))

abbrev pub told_kind : Result Kind Refusal → Told
told_kind (Ok k) = taken (pos (kind_code k) ∷ [])
told_kind (Err r) = refused [] r

abbrev pub told_special : Result Special Refusal → Told
told_special (Ok s) = taken (pos (special_code s) ∷ [])
told_special (Err r) = refused [] r

abbrev pub told_written : Result ℕ Refusal → Told
told_written (Ok n) = taken (pos n ∷ [])
told_written (Err r) = refused [] r

abbrev pub told_header : HeaderAnswer → Told
told_header (Ok (p, k, a)) = taken (pos p.0 ∷ pos (kind_code k) ∷ pos a ∷ [])
told_header (Err (p, r)) = refused (pos p.0 ∷ []) r

abbrev pub told_version : VersionAnswer → Told
told_version (Ok (p, v)) = taken (pos p.0 ∷ pos v ∷ [])
told_version (Err (p, r)) = refused (pos p.0 ∷ []) r

-- a delivery mark as its start, its length, and 1 if lent, 0 if copied
abbrev pub mark_told : Mark → List ℤ
mark_told m = pos m.start ∷ pos m.len ∷ pos (pick m.lent 1 0) ∷ []

abbrev pub told_bytes : BytesAnswer → Told
told_bytes (Ok (p, m)) = taken (pos p.0 ∷ mark_told m)
told_bytes (Err (p, r)) = refused (pos p.0 ∷ []) r

abbrev pub told_raw : RawAnswer → Told
told_raw (Ok (p, n)) = taken (pos p.0 ∷ pos n ∷ [])
told_raw (Err (p, r)) = refused (pos p.0 ∷ []) r

-- the three places of an atom, in front of the values that follow. Document 02, K1: "its first place, the place where
-- its body starts and the place after it".
abbrev pub places_told : Places → List ℤ → List ℤ
places_told places vs = pos places.first.0 ∷ pos places.body.0 ∷ pos places.after.0 ∷ vs

-- the step: a string is told by 1, another atom by 0
abbrev pub told_skipped : Skipped → Told
told_skipped (Ok (p, b, places, string)) =
    taken (pos p.0 ∷ pos b.0 ∷ places_told places (pos (pick string 1 0) ∷ []))
told_skipped (Err (p, b, r)) = refused (pos p.0 ∷ pos b.0 ∷ []) r

-- how far a run came
abbrev pub run_told : Run → List ℤ → List ℤ
run_told run vs = pos run.place.0 ∷ pos run.budget.0 ∷ pos run.atoms ∷ places_told run.last vs

-- the run: "The run and the tally, refused or not, answer the three places of the last atom they read"; behind them the
-- place where a refused atom starts, before the refusal's data
abbrev pub told_ran : Ran → Told
told_ran (Ok run) = taken (run_told run [])
told_ran (Err (run, r, start)) = refused (run_told run (pos start.0 ∷ [])) r

-- "It answers atoms, body bytes, charge and letters."
abbrev pub tally_told : Tallied → List ℤ
tally_told t = pos t.atoms ∷ pos t.body.0 ∷ pos t.charge ∷ pos t.letters ∷ []

-- the tally: the places of the last atom that it read stand first, "all 0 if there was none"
abbrev pub told_tally : TallyAnswer → Told
told_tally (TA.Done last t) = taken (places_told last (tally_told t))
told_tally (TA.Stopped last r start) = refused (places_told last (pos start.0 ∷ [])) r
told_tally (TA.Refused last r) = refused (places_told last []) r

-- the check for shortest form: nothing, or where the refused atom starts
abbrev pub told_checked : Checked → Told
told_checked (Ok tt) = taken []
told_checked (Err (r, start)) = refused (pos start.0 ∷ []) r

-- an integer by its variant, signed or not and so many bits wide, and its value
abbrev sign_told : Sign → ℕ
sign_told signed = 1
sign_told unsigned = 0

abbrev pub integer_told : Integer → List ℤ
integer_told x = pos (sign_told (sign x)) ∷ pos (bits (width x)) ∷ value x ∷ []

abbrev pub meaning_told : Meaning → List ℤ
meaning_told (finite s m) = pos 0 ∷ pos (pick s 1 0) ∷ pos m ∷ []
meaning_told (infinite s) = pos 1 ∷ pos (pick s 1 0) ∷ []
meaning_told (nan s t) = pos 2 ∷ []

-- a value by its meaning
abbrev pub value_told : Ieee.Float → List ℤ
value_told x = meaning_told (float_meaning x)

-- a float by its width and its value
abbrev pub float_told : Float → List ℤ
float_told (F.F32 x) = pos 32 ∷ value_told x
float_told (F.F64 x) = pos 64 ∷ value_told x

-- what an atom holds, by its place in the list of cases from 0 on
abbrev pub nucleus_told : Nucleus → List ℤ
nucleus_told N.None = pos 0 ∷ []
nucleus_told (N.Boolean b) = pos 1 ∷ pos (pick b 1 0) ∷ []
nucleus_told (N.Integer x) = pos 2 ∷ integer_told x
nucleus_told (N.Float x stored) = pos 3 ∷ pos stored ∷ float_told x
nucleus_told (N.Bytes m) = pos 4 ∷ mark_told m
nucleus_told N.Unit = pos 5 ∷ []
nucleus_told N.Named = pos 6 ∷ []
nucleus_told N.DynamicMap = pos 7 ∷ []
nucleus_told N.DynamicEnd = pos 8 ∷ []

abbrev pub told_integer : IntegerAnswer → Told
told_integer (Ok (p, x)) = taken (pos p.0 ∷ integer_told x)
told_integer (Err (p, r)) = refused (pos p.0 ∷ []) r

abbrev pub told_float : FloatAnswer → Told
told_float (Ok (p, x, stored)) = taken (pos p.0 ∷ pos stored ∷ float_told x)
told_float (Err (p, r)) = refused (pos p.0 ∷ []) r

-- "Each atom read is to carry its first place, the place where its body starts and the place after it."
abbrev pub told_atom : AtomAnswer → Told
told_atom (Ok (p, b, x)) =
    taken
    (pos p.0 ∷ pos b.0 ∷ pos (kind_code x.kind) ∷ pos x.arg
    ∷ places_told x.places (nucleus_told x.nucleus))
told_atom (Err (p, b, r)) = refused (pos p.0 ∷ pos b.0 ∷ []) r

abbrev pub told_budget : Result Budget Refusal → Told
told_budget (Ok b) = taken (pos b.0 ∷ [])
told_budget (Err r) = refused [] r

abbrev pub told_as_i8 : Result ℤ Refusal → Told
told_as_i8 (Ok z) = taken (z ∷ [])
told_as_i8 (Err r) = refused [] r

abbrev pub told_as_i16 : Result ℤ Refusal → Told
told_as_i16 (Ok z) = taken (z ∷ [])
told_as_i16 (Err r) = refused [] r

abbrev pub told_as_i32 : Result ℤ Refusal → Told
told_as_i32 (Ok z) = taken (z ∷ [])
told_as_i32 (Err r) = refused [] r

abbrev pub told_as_i64 : Result ℤ Refusal → Told
told_as_i64 (Ok z) = taken (z ∷ [])
told_as_i64 (Err r) = refused [] r

abbrev pub told_as_u8 : Result ℕ Refusal → Told
told_as_u8 (Ok k) = taken (pos k ∷ [])
told_as_u8 (Err r) = refused [] r

abbrev pub told_as_u16 : Result ℕ Refusal → Told
told_as_u16 (Ok k) = taken (pos k ∷ [])
told_as_u16 (Err r) = refused [] r

abbrev pub told_as_u32 : Result ℕ Refusal → Told
told_as_u32 (Ok k) = taken (pos k ∷ [])
told_as_u32 (Err r) = refused [] r

abbrev pub told_as_u64 : Result ℕ Refusal → Told
told_as_u64 (Ok k) = taken (pos k ∷ [])
told_as_u64 (Err r) = refused [] r

-- the low word and the high word
abbrev pub told_as_wide : Result Wide Refusal → Told
told_as_wide (Ok w) = taken (pos w.lo ∷ pos w.hi ∷ [])
told_as_wide (Err r) = refused [] r

abbrev pub told_as_f32 : Result Ieee.Float Refusal → Told
told_as_f32 (Ok x) = taken (value_told x)
told_as_f32 (Err r) = refused [] r

abbrev pub told_as_f64 : Result Ieee.Float Refusal → Told
told_as_f64 (Ok x) = taken (value_told x)
told_as_f64 (Err r) = refused [] r

abbrev pub told_as_float : Result Float Refusal → Told
told_as_float (Ok x) = taken (float_told x)
told_as_float (Err r) = refused [] r

abbrev pub told_as_integer : Result Integer Refusal → Told
told_as_integer (Ok x) = taken (integer_told x)
told_as_integer (Err r) = refused [] r

-- a narrower pattern, or none: no refusal either way
abbrev pub told_narrowed16 : Option ℕ → Told
told_narrowed16 (Some q) = taken (pos q ∷ [])
told_narrowed16 None = taken []

abbrev pub told_narrowed32 : Option ℕ → Told
told_narrowed32 (Some q) = taken (pos q ∷ [])
told_narrowed32 None = taken []

-- what the tally program finds of a file
abbrev pub told_report : Report → Told
told_report (Ok (version, bytes, t)) = taken (pos version ∷ pos bytes ∷ tally_told t)
told_report (Err (r, start)) = refused (pos start.0 ∷ []) r
