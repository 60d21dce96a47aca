-- One atom read. Document 01, "Charges": "Order within an atom: header, then special known, or budget, then count
-- allowed, then end of input, then scratch room." What a kind and an argument mean stands in `types.Forms`. Document
-- 02, K1: "Each atom read is to carry its first place, the place where its body starts and the place after it."
use Rattle.std.specs.Prelude.{ℕ, true, false, List, length, Result, Ok, Err}
use Rattle.types.specs.declared.Refusal.{Refusal}
use Rattle.types.specs.Answers.{AtomAnswer, BytesAnswer, FloatAnswer, HeaderAnswer, IntegerAnswer}
use Rattle.types.specs.Choice.{pick}
use Rattle.types.specs.Counters.{place_in, places_of}
use Rattle.types.specs.Kinds.{special_from, special_known}
use Rattle.types.specs.Forms.{known, body_length, charge_of, is_string, unknown}
use Rattle.types.specs.declared.Way.{Way}
use Rattle.types.specs.declared.Kind.{Kind}
use Rattle.types.specs.declared.Kind.TheVariants as K
use Rattle.types.specs.declared.Special.{Special}
use Rattle.types.specs.declared.Special.TheVariants as S
use Rattle.types.specs.declared.Place.{Place}
use Rattle.types.specs.declared.Places.{Places}
use Rattle.types.specs.declared.Budget.{Budget}
use Rattle.types.specs.declared.Nucleus.{Nucleus}
use Rattle.types.specs.declared.Nucleus.TheVariants as N
use Rattle.types.specs.declared.Atom.{Atom}
use Rattle.header.specs.Header.{header_read}
use Rattle.reader.specs.Strings.{string_answer, string_scratch}
use Rattle.integer.specs.Integers.{integer_body}
use Rattle.float.specs.Floats.{float_body}
use Rattle.atom.specs.Charges.{budget_after}

-- an atom of a kind, an argument, its places and what it holds
abbrev pub atom_of : Kind → ℕ → Places → Nucleus → Atom
atom_of kind arg places nucleus = record { kind = kind; arg = arg; places = places; nucleus = nucleus }

-- an atom that was read: it starts at `first`, its body at `body`, and the place after it is the answer's
abbrev pub atom_taken : Kind → ℕ → Place → Place → Budget → Place → Nucleus → AtomAnswer
atom_taken kind arg first body rest after nucleus =
    Ok (after, rest, atom_of kind arg (places_of first body after) nucleus)

-- what a special holds
abbrev pub special_nucleus : Special → Nucleus
special_nucleus S.None = N.None
special_nucleus S.Unit = N.Unit
special_nucleus S.False = N.Boolean false
special_nucleus S.True = N.Boolean true
special_nucleus S.Named = N.Named
special_nucleus S.DynamicMap = N.DynamicMap
special_nucleus S.DynamicEnd = N.DynamicEnd

-- a refusal at a place, or one that has its place, with the budget that is left
abbrev pub at_place : {X : Type 0} → Place → Budget → Result X Refusal → Result X (Place × Budget × Refusal)
at_place place budget (Ok x) = Ok x
at_place place budget (Err r) = Err (place, budget, r)

abbrev pub with_budget : {X : Type 0} → Budget → Result X (Place × Refusal) → Result X (Place × Budget × Refusal)
with_budget budget (Ok x) = Ok x
with_budget budget (Err (place, r)) = Err (place, budget, r)

-- "5 TooManyBytesRead: past header; unchanged"; else what follows, with the budget that is left
abbrev pub charged : Place → Budget → Result Budget Refusal → (Budget → AtomAnswer) → AtomAnswer
charged next budget (Ok rest) body = body rest
charged next budget (Err r) body = Err (next, budget, r)

-- "special known, or budget, then count allowed": the charge first, which a special has none of, then whether the atom
-- is known. "3 UnknownSpecial: past header; unchanged", "6 UnsupportedByteCount: past header; charged"; else the body,
-- with the budget left
unfoldable pub judged : Kind → ℕ → Place → Budget → (Budget → AtomAnswer) → AtomAnswer
judged kind arg next budget body =
    charged next budget (budget_after budget (charge_of kind arg))
    (λ rest. pick (known kind arg) (body rest) (Err (next, rest, unknown kind arg)))

-- a number's body, of an allowed count: "4 Eof: end of slice; charged if a body was being read"
abbrev pub integer_atom : Kind → ℕ → Place → Place → Budget → IntegerAnswer → AtomAnswer
integer_atom kind arg first next rest (Ok (place, value)) =
    atom_taken kind arg first next rest place (N.Integer value)
integer_atom kind arg first next rest (Err (place, r)) = Err (place, rest, r)

abbrev pub float_atom : ℕ → Place → Place → Budget → FloatAnswer → AtomAnswer
float_atom arg first next rest (Ok (place, value, bits)) =
    atom_taken K.Float arg first next rest place (N.Float value bits)
float_atom arg first next rest (Err (place, r)) = Err (place, rest, r)

-- a string's body: "9 NoRoom: scratch: past header, charged"
abbrev pub bytes_atom : ℕ → Place → Place → Budget → BytesAnswer → AtomAnswer
bytes_atom arg first next rest (Ok (place, mark)) = atom_taken K.Bytes arg first next rest place (N.Bytes mark)
bytes_atom arg first next rest (Err (place, r)) = Err (place, rest, r)

-- what is taken of each, that starts at `first` and whose header ends at `next`, with the budget that is left: an atom
-- of its header only, and the bodies
abbrev pub header_taken : Kind → ℕ → Place → Place → Nucleus → Budget → AtomAnswer
header_taken kind arg first next nucleus rest = atom_taken kind arg first next rest next nucleus

abbrev pub special_taken : ℕ → Place → Place → Budget → AtomAnswer
special_taken arg first next =
    header_taken K.Special arg first next (special_nucleus (special_known (special_from arg)))

abbrev pub integer_taken : Way → List ℕ → Kind → ℕ → Place → Place → Budget → AtomAnswer
integer_taken way source kind arg first next rest =
    integer_atom kind arg first next rest (integer_body way source next.0 kind (body_length kind arg))

abbrev pub float_taken : Way → List ℕ → ℕ → Place → Place → Budget → AtomAnswer
float_taken way source arg first next rest =
    float_atom arg first next rest (float_body way source next.0 (body_length K.Float arg))

abbrev pub bytes_taken : Way → List ℕ → ℕ → Place → Place → List ℕ → Budget → AtomAnswer
bytes_taken way source arg first next scratch rest =
    bytes_atom arg first next rest (string_answer way source next.0 (body_length K.Bytes arg) scratch)

-- "then end of input, then scratch room": what is taken of an atom that is known and paid for, by its kind
abbrev pub body_taken : Way → List ℕ → Kind → ℕ → Place → Place → List ℕ → Budget → AtomAnswer
body_taken way source K.Special arg first next scratch = special_taken arg first next
body_taken way source K.Int arg first next scratch = integer_taken way source K.Int arg first next
body_taken way source K.UInt arg first next scratch = integer_taken way source K.UInt arg first next
body_taken way source K.Float arg first next scratch = float_taken way source arg first next
body_taken way source K.Sequence arg first next scratch = header_taken K.Sequence arg first next N.None
body_taken way source K.Map arg first next scratch = header_taken K.Map arg first next N.None
body_taken way source K.Symbol arg first next scratch = header_taken K.Symbol arg first next N.None
body_taken way source K.Bytes arg first next scratch = bytes_taken way source arg first next scratch

-- what follows a header, in that order
abbrev pub atom_after : Way → List ℕ → Kind → ℕ → Place → Place → Budget → List ℕ → AtomAnswer
atom_after way source kind arg first next budget scratch =
    judged kind arg next budget (body_taken way source kind arg first next scratch)

-- an atom whose header was read; "4 Eof" of the header leaves the budget
abbrev pub atom_from : Way → List ℕ → Place → Budget → List ℕ → HeaderAnswer → AtomAnswer
atom_from way source first budget scratch (Ok (next, kind, arg)) =
    atom_after way source kind arg first next budget scratch
atom_from way source first budget scratch (Err (place, r)) = Err (place, budget, r)

-- where an atom starts: "A given place past the end counts as the end."
abbrev pub first_place : List ℕ → ℕ → Place
first_place source place = record { 0 = place_in (length source) place }

-- ONE ATOM: source, place, budget and scratch in; the atom, the place and the budget out
unfoldable pub atom_read : Way → List ℕ → ℕ → Budget → List ℕ → AtomAnswer
atom_read way source place budget scratch =
    atom_from way source (first_place source place) budget scratch (header_read way source place)

-- the scratch after it: a string copied fills its first bytes, if its charge was within the budget
abbrev pub scratch_charged : Way → List ℕ → ℕ → ℕ → List ℕ → Result Budget Refusal → List ℕ
scratch_charged way source place arg scratch (Ok rest) = string_scratch way source place arg scratch
scratch_charged way source place arg scratch (Err r) = scratch

abbrev pub scratch_after : Way → List ℕ → Kind → ℕ → Place → Budget → List ℕ → List ℕ
scratch_after way source kind arg next budget scratch =
    pick (is_string kind)
    (scratch_charged way source next.0 arg scratch (budget_after budget (charge_of kind arg)))
    scratch

abbrev pub scratch_from : Way → List ℕ → Budget → List ℕ → HeaderAnswer → List ℕ
scratch_from way source budget scratch (Ok (next, kind, arg)) = scratch_after way source kind arg next budget scratch
scratch_from way source budget scratch (Err (place, r)) = scratch

unfoldable pub atom_scratch : Way → List ℕ → ℕ → Budget → List ℕ → List ℕ
atom_scratch way source place budget scratch = scratch_from way source budget scratch (header_read way source place)
