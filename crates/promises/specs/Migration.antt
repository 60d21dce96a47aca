-- WHAT CHANGES FOR A PROGRAM THAT NAMED NO WAY, and so read filled until now. Document 02, K4: "The entry that names no
-- way now reads exactly, strings lent. Our importer of old floppy dictionaries depends on filled reading, because its
-- tool trimmed trailing zeros; it must name that way from now on." So: where exact reading reads, filled reading reads
-- the same; where filled reading reads and exact refuses, it is by 4, and the source ends within what is read.
use Rattle.std.specs.Prelude.{ℕ, ◌+◌, ◌≤◌, ◌<◌, ◌≡◌, ◌⊎◌, true, List, ◌++◌, length, replicate, Ok, Err}
use Rattle.types.specs.Counters.{place_in, places_of}
use Rattle.types.specs.Forms.{body_length, is_string}
use Rattle.types.specs.declared.Way.TheVariants as W
use Rattle.types.specs.declared.Kind.{Kind}
use Rattle.types.specs.declared.Place.{Place}
use Rattle.types.specs.declared.Budget.{Budget}
use Rattle.types.specs.declared.Atom.{Atom}
use Rattle.types.specs.declared.Refusal.{Refusal}
use Rattle.types.specs.declared.Refusal.TheVariants as R
use Rattle.header.specs.Header.{header_read, header_kind, header_argument}
use Rattle.header.specs.Signature.{version_read}
use Rattle.reader.specs.Strings.{start_of}
use Rattle.atom.specs.Atoms.{atom_of, atom_read}
use Rattle.promises.specs.Rows.{end_of}
use Rattle.promises.specs.Entries.{onward, header_end}

-- where an atom ends that starts at a place, and where a signature does, by their own bytes: those that the source does
-- not have are taken as zeros
abbrev pub atom_end : List ℕ → ℕ → ℕ
atom_end s place = header_end s place + body_length (header_kind (onward s place)) (header_argument (onward s place))

abbrev pub signature_end : List ℕ → ℕ → ℕ
signature_end s place = start_of s place + 4

-- an atom
pub record AtomChanges (s : List ℕ) (place : ℕ) (budget : Budget) (scratch : List ℕ) : Type 0 where
  -- where exact reading reads, filled reading reads the same
  pub reads : {after : Place} {left : Budget} {atom : Atom} →
      atom_read W.ExactLent s place budget scratch ≡ Ok (after, left, atom) →
      atom_read W.Filled s place budget scratch ≡ Ok (after, left, atom)
  -- where filled reading reads and exact refuses, it is by 4, and the source ends within that atom; both are at the
  -- source's end, so that it is the last
  pub cut : {after stop : Place} {left rest : Budget} {atom : Atom} {why : Refusal} →
      atom_read W.Filled s place budget scratch ≡ Ok (after, left, atom) →
      atom_read W.ExactLent s place budget scratch ≡ Err (stop, rest, why) →
      (why ≡ R.Eof) × (length s < atom_end s place) × (stop ≡ end_of s) × (after ≡ end_of s)
  -- and back: of what filled reading reads, exact reading refuses every atom that the source ends within
  pub refuses : {after : Place} {left : Budget} {atom : Atom} →
      atom_read W.Filled s place budget scratch ≡ Ok (after, left, atom) →
      length s < atom_end s place →
      (rest : Budget) × (atom_read W.ExactLent s place budget scratch ≡ Err (end_of s, rest, R.Eof))
  -- what filled reading refuses stays refused, alike, or by 4 where the source ends within it
  pub still : {stop : Place} {left : Budget} {why : Refusal} →
      atom_read W.Filled s place budget scratch ≡ Err (stop, left, why) →
      (atom_read W.ExactLent s place budget scratch ≡ Err (stop, left, why))
      ⊎ (((rest : Budget) × (atom_read W.ExactLent s place budget scratch ≡ Err (end_of s, rest, R.Eof)))
      × (length s < atom_end s place))

-- an atom's header, which filled reading never refuses
pub record HeaderChanges (s : List ℕ) (place : ℕ) : Type 0 where
  pub reads : {next : Place} {kind : Kind} {arg : ℕ} →
      header_read W.ExactLent s place ≡ Ok (next, kind, arg) →
      header_read W.Filled s place ≡ Ok (next, kind, arg)
  pub cut : {stop : Place} {why : Refusal} →
      header_read W.ExactLent s place ≡ Err (stop, why) →
      (why ≡ R.Eof) × (length s < header_end s place) × (stop ≡ end_of s)

-- a signature
pub record SignatureChanges (s : List ℕ) (place : ℕ) : Type 0 where
  pub reads : {after : Place} {version : ℕ} →
      version_read W.ExactLent s place ≡ Ok (after, version) →
      version_read W.Filled s place ≡ Ok (after, version)
  pub cut : {after stop : Place} {version : ℕ} {why : Refusal} →
      version_read W.Filled s place ≡ Ok (after, version) →
      version_read W.ExactLent s place ≡ Err (stop, why) →
      (why ≡ R.Eof) × (length s < signature_end s place) × (stop ≡ end_of s) × (after ≡ end_of s)
  pub still : {stop : Place} {why : Refusal} →
      version_read W.Filled s place ≡ Err (stop, why) →
      (version_read W.ExactLent s place ≡ Err (stop, why))
      ⊎ ((version_read W.ExactLent s place ≡ Err (end_of s, R.Eof)) × (length s < signature_end s place))

-- WHY AN IMPORTER NAMES FILLED READING, "because its tool trimmed trailing zeros": of a file that was trimmed, `s`,
-- what is left of a place in the whole one, and of an atom there: all but its places
abbrev pub left_of : List ℕ → Place → Place
left_of s p = record { 0 = place_in (length s) p.0 }

abbrev pub left_atom : List ℕ → Atom → Atom
left_atom s x =
    atom_of x.kind x.arg
    (places_of (left_of s x.places.first) (left_of s x.places.body) (left_of s x.places.after)) x.nucleus

-- what exact reading reads of the whole file, filled reading reads of what is left: an atom, unless it is a string that
-- lost bytes, and a signature
pub record TrimmedReads (s : List ℕ) (zeros place : ℕ) : Type 0 where
  pub an_atom : (budget : Budget) (scratch : List ℕ) {after : Place} {left : Budget} {atom : Atom} →
      atom_read W.ExactLent (s ++ replicate zeros 0) place budget scratch ≡ Ok (after, left, atom) →
      (is_string atom.kind ≡ true → after.0 ≤ length s) →
      atom_read W.Filled s place budget scratch ≡ Ok (left_of s after, left, left_atom s atom)
  pub a_signature : {after : Place} {version : ℕ} →
      version_read W.ExactLent (s ++ replicate zeros 0) place ≡ Ok (after, version) →
      version_read W.Filled s place ≡ Ok (left_of s after, version)
