-- The table of document 01, "Refusals by number", as far as an atom can be refused: each row with when it is given, its
-- number and data, and the "Place and budget after"; "buffers keep their bytes". "Order within an atom: header, then
-- special known, or budget, then count allowed, then end of input, then scratch room": a row asks for what the rows
-- before it did not find, so that at most one fits. A row speaks of the way, the source, the given place, the budget
-- and the scratch before, of what the header read as, of the answer as it is told, and of the scratch after. Past the
-- header is the place that the header left. The places of an atom that was read are those of document 02, K1.
use Rattle.std.specs.Prelude.{ℕ, ◌+◌, ◌-◌, ◌≤◌, ◌<◌, ◌≡◌, ◌⊎◌, Bool, true, false, List, [], ◌∷◌, map, pos, length, Ok, Err}
use Rattle.types.specs.Answers.{HeaderAnswer}
use Rattle.types.specs.Choice.{pick}
use Rattle.types.specs.Ways.{exact}
use Rattle.types.specs.Counters.{place_in, places_of}
use Rattle.types.specs.Kinds.{kind_code}
use Rattle.types.specs.Forms.{count_of, known, body_length, charge_of, is_string}
use Rattle.types.specs.declared.Way.{Way}
use Rattle.types.specs.declared.Kind.{Kind}
use Rattle.types.specs.declared.Kind.TheVariants as K
use Rattle.types.specs.declared.Place.{Place}
use Rattle.types.specs.declared.Places.{Places}
use Rattle.types.specs.declared.Budget.{Budget}
use Rattle.types.specs.declared.Refusal.TheVariants as R
use Rattle.reader.specs.Strings.{scratch_needed}
use Rattle.promises.specs.Told.{Told, told, places_told}
use Rattle.promises.specs.Held.{held, copied}

-- "end of slice"
abbrev pub end_of : List ℕ → Place
end_of s = record { 0 = length s }

-- "charged"
abbrev pub less : Budget → ℕ → Budget
less budget charge = record { 0 = budget.0 - charge }

-- "input ends: strings, and everything under exact reading"; another body is filled with zeros
abbrev pub can_end : Way → Kind → Bool
can_end way kind = pick (is_string kind) true (exact way)

-- the scratch that a body takes
abbrev pub room_of : Way → Kind → ℕ → ℕ
room_of way kind arg = pick (is_string kind) (scratch_needed way arg) 0

-- the kinds of numbers
pub data Number : Kind → Type 0 where
  int : Number K.Int
  uint : Number K.UInt
  float : Number K.Float

-- an atom that is not refused, past its header: of a known form, within the budget, whole unless it is filled, with its
-- scratch
pub record Good (way : Way) (s : List ℕ) (budget : Budget) (scratch : List ℕ)
    (next : Place) (kind : Kind) (arg : ℕ) : Type 0
  where
    pub form_known : known kind arg ≡ true
    pub afforded : charge_of kind arg ≤ budget.0
    pub body_there : (next.0 + body_length kind arg ≤ length s) ⊎ (can_end way kind ≡ false)
    pub room_there : room_of way kind arg ≤ length scratch

-- a refusal, told: its number, the place and the budget after it, and its data
abbrev pub refusal : ℕ → Place → Budget → List ℕ → Told
refusal number place budget carried = told number (pos place.0 ∷ pos budget.0 ∷ map pos carried)

-- just past the body, or the end
abbrev pub past_body : List ℕ → Place → Kind → ℕ → Place
past_body s next kind arg = record { 0 = place_in (length s) (next.0 + body_length kind arg) }

-- "its first place, the place where its body starts and the place after it": the place given, or the end if that is
-- past it; past the header; just past the atom, or the end
abbrev pub standing : List ℕ → ℕ → Place → Kind → ℕ → Places
standing s place next kind arg =
    places_of (record { 0 = place_in (length s) place }) next (past_body s next kind arg)

-- an atom that was read, told: the place just past it, or the end; the budget less its charge; its kind, its argument,
-- its places and what it holds
abbrev pub taking : Way → List ℕ → ℕ → Place → Budget → Kind → ℕ → Told
taking way s place next budget kind arg =
    told 0
    (pos (past_body s next kind arg).0 ∷ pos (budget.0 - charge_of kind arg) ∷ pos (kind_code kind) ∷ pos arg
    ∷ places_told (standing s place next kind arg) (held way s next.0 kind arg))

pub data Row (way : Way) (s : List ℕ) (place : ℕ) (budget : Budget) (scratch : List ℕ) :
    HeaderAnswer → Told → List ℕ → Type 0
  where
    -- "4 Eof: input ends: everything under exact reading: end of slice"; no body was being read
    four_in_header :
        exact way ≡ true →
        Row way s place budget scratch (Err (end_of s, R.Eof)) (refusal 4 (end_of s) budget []) scratch
    -- "3 UnknownSpecial(value): special argument 7 or more: past header; unchanged"
    three : {next : Place} {arg : ℕ} →
        7 ≤ arg →
        Row way s place budget scratch (Ok (next, K.Special, arg)) (refusal 3 next budget (arg ∷ [])) scratch
    -- "5 TooManyBytesRead: charge exceeds budget: past header; unchanged"
    five : {next : Place} {kind : Kind} {arg : ℕ} →
        budget.0 < charge_of kind arg →
        Row way s place budget scratch (Ok (next, kind, arg)) (refusal 5 next budget []) scratch
    -- "6 UnsupportedByteCount(kind, count): number width not allowed: past header; charged"
    six : {next : Place} {kind : Kind} {arg : ℕ} →
        Number kind →
        charge_of kind arg ≤ budget.0 →
        known kind arg ≡ false →
        Row way s place budget scratch (Ok (next, kind, arg))
        (refusal 6 next (less budget (charge_of kind arg)) (kind_code kind ∷ count_of arg ∷ [])) scratch
    -- "4 Eof: input ends: strings, and everything under exact reading: end of slice; charged if a body was being read"
    four_in_body : {next : Place} {kind : Kind} {arg : ℕ} →
        charge_of kind arg ≤ budget.0 →
        known kind arg ≡ true →
        can_end way kind ≡ true →
        length s < next.0 + body_length kind arg →
        Row way s place budget scratch (Ok (next, kind, arg))
        (refusal 4 (end_of s) (less budget (charge_of kind arg)) []) scratch
    -- "9 NoRoom: scratch shorter than the string: past header, charged"
    nine : {next : Place} {arg : ℕ} →
        arg ≤ budget.0 →
        next.0 + arg ≤ length s →
        length scratch < scratch_needed way arg →
        Row way s place budget scratch (Ok (next, K.Bytes, arg)) (refusal 9 next (less budget arg) []) scratch
    -- no refusal: "Copying fills the first bytes" of the scratch "and the rest keep their value"
    read : {next : Place} {kind : Kind} {arg : ℕ} →
        Good way s budget scratch next kind arg →
        Row way s place budget scratch (Ok (next, kind, arg)) (taking way s place next budget kind arg)
        (copied s next.0 (room_of way kind arg) scratch)
