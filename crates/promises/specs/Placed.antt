-- What is said of the places of the atoms that are read. Document 02, K1: "Each atom read is to carry its first place,
-- the place where its body starts and the place after it." "Reading each atom from the place after the one before, all
-- three rise or stay level."
use Rattle.std.specs.Prelude.{ℕ, ◌+◌, ◌-◌, ◌≤◌, ◌<◌, ◌≡◌, true, List, [], ◌∷◌, length, take, drop, Ok}
use Rattle.types.specs.Choice.{pick}
use Rattle.types.specs.Ways.{exact}
use Rattle.types.specs.Counters.{place_in, places_of}
use Rattle.types.specs.Kinds.{special_from, special_known}
use Rattle.types.specs.Forms.{count_of, body_length}
use Rattle.types.specs.declared.Way.{Way}
use Rattle.types.specs.declared.Kind.{Kind}
use Rattle.types.specs.declared.Kind.TheVariants as K
use Rattle.types.specs.declared.Place.{Place}
use Rattle.types.specs.declared.Places.{Places}
use Rattle.types.specs.declared.Budget.{Budget}
use Rattle.types.specs.declared.Mark.{Mark}
use Rattle.types.specs.declared.Nucleus.{Nucleus}
use Rattle.types.specs.declared.Nucleus.TheVariants as N
use Rattle.types.specs.declared.Atom.{Atom}
use Rattle.header.specs.Header.{header_read}
use Rattle.reader.specs.Strings.{string_mark}
use Rattle.little.specs.Le.{from_le}
use Rattle.integer.specs.Integers.{integer_of}
use Rattle.float.specs.Floats.{float_of}
use Rattle.atom.specs.Atoms.{atom_of, special_nucleus, atom_read}

-- the bytes of a source from a place up to another
abbrev pub between : List ℕ → ℕ → ℕ → List ℕ
between s from to = take (to - from) (drop from s)

-- what an atom of a kind and an argument holds whose body is these bytes and starts at that place: a number is read off
-- them, and the mark of a string that is lent is where they are
abbrev pub held_by : Way → Kind → ℕ → ℕ → List ℕ → Nucleus
held_by way K.Special arg at bytes = special_nucleus (special_known (special_from arg))
held_by way K.Int arg at bytes = N.Integer (integer_of K.Int (count_of arg) (from_le bytes))
held_by way K.UInt arg at bytes = N.Integer (integer_of K.UInt (count_of arg) (from_le bytes))
held_by way K.Float arg at bytes = N.Float (float_of (count_of arg) (from_le bytes)) (from_le bytes)
held_by way K.Sequence arg at bytes = N.None
held_by way K.Map arg at bytes = N.None
held_by way K.Symbol arg at bytes = N.None
held_by way K.Bytes arg at bytes = N.Bytes (string_mark way at (length bytes))

-- WHERE AN ATOM STANDS that was read from a place, under a way
pub record Stands (way : Way) (s : List ℕ) (place : ℕ) (after : Place) (atom : Atom) : Type 0 where
  -- "its first place": the place given, or the end if that is past it
  pub at_first : atom.places.first.0 ≡ place_in (length s) place
  -- "the place where its body starts": past the header, which says its kind and its argument
  pub at_body : header_read way s place ≡ Ok (atom.places.body, atom.kind, atom.arg)
  -- "and the place after it": the answer's
  pub at_after : atom.places.after ≡ after
  -- in this order, and within the source
  pub header_ordered : atom.places.first.0 ≤ atom.places.body.0
  pub body_ordered : atom.places.body.0 ≤ atom.places.after.0
  pub inside : atom.places.after.0 ≤ length s
  -- between the last two lies its body, as far as the source goes
  pub body_long :
      atom.places.after.0 ≡ place_in (length s) (atom.places.body.0 + body_length atom.kind atom.arg)
  pub body_holds :
      atom.nucleus
      ≡ held_by way atom.kind atom.arg atom.places.body.0
      (between s atom.places.body.0 atom.places.after.0)

-- "READING EACH ATOM FROM THE PLACE AFTER THE ONE BEFORE": the places of atoms that were read so, the first from a
-- given place; each read has a budget and a scratch of its own, and a way of its own among those that are allowed
pub data Chain (Allowed : Way → Type 0) (s : List ℕ) : ℕ → List Places → Type 0 where
  ends : {place : ℕ} → Chain Allowed s place []
  reads : {place : ℕ} {after : Place} {left : Budget} {atom : Atom} {later : List Places} (way : Way)
      (budget : Budget) (scratch : List ℕ) → Allowed way →
      atom_read way s place budget scratch ≡ Ok (after, left, atom) →
      Chain Allowed s after.0 later → Chain Allowed s place (atom.places ∷ later)

abbrev pub AnyWay : Way → Type 0
AnyWay way = Unit {0}

abbrev pub exactly : Way → Type 0
exactly way = exact way ≡ true

-- "all three rise or stay level"
pub record Level (a b : Places) : Type 0 where
  pub first_level : a.first.0 ≤ b.first.0
  pub body_level : a.body.0 ≤ b.body.0
  pub after_level : a.after.0 ≤ b.after.0

-- the first place rises
abbrev pub Ahead : Places → Places → Type 0
Ahead a b = a.first.0 < b.first.0

-- so of each and the one behind it
pub data Each (Under : Places → Places → Type 0) : List Places → Type 0 where
  none : Each Under []
  one : {a : Places} → Each Under (a ∷ [])
  more : {a b : Places} {later : List Places} → Under a b → Each Under (b ∷ later) →
      Each Under (a ∷ (b ∷ later))

-- THE SAME ATOM IN BYTES THAT START SO MUCH LATER: its places are less by that, and so is the start of a string that is
-- lent, which is a place too
abbrev pub earlier : ℕ → Place → Place
earlier n p = record { 0 = p.0 - n }

abbrev pub moved_mark : ℕ → Mark → Mark
moved_mark n m = record { start = pick m.lent (m.start - n) m.start; len = m.len; lent = m.lent }

abbrev pub moved_nucleus : ℕ → Nucleus → Nucleus
moved_nucleus n N.None = N.None
moved_nucleus n (N.Boolean b) = N.Boolean b
moved_nucleus n (N.Integer x) = N.Integer x
moved_nucleus n (N.Float x bits) = N.Float x bits
moved_nucleus n (N.Bytes m) = N.Bytes (moved_mark n m)
moved_nucleus n N.Unit = N.Unit
moved_nucleus n N.Named = N.Named
moved_nucleus n N.DynamicMap = N.DynamicMap
moved_nucleus n N.DynamicEnd = N.DynamicEnd

abbrev pub moved : ℕ → Atom → Atom
moved n x =
    atom_of x.kind x.arg
    (places_of (earlier n x.places.first) (earlier n x.places.body) (earlier n x.places.after))
    (moved_nucleus n x.nucleus)
