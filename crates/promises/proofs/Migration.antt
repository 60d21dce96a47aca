-- What changes for a program that named no way: the laws of `promises.Migration`. They rest on what the two ways differ
-- in, `atom.Agree.atom_differ` and `header.Ways`; that what is read exactly is whole is demand 1's, and where an atom
-- ends that was read filled is `Stands`.
use Rattle.std.specs.Prelude.{Ok, Err}
use mathlib.Core.Path.{◌≡◌, refl, ◌∙◌, sym, ap}
use mathlib.Core.Bool.{Bool, true, false, false≢true}
use mathlib.Core.Logic.{◌⊎◌, inl, inr, ⊎_elim}
use mathlib.Core.List.{List}
use Prim.Native.Nat.{ℕ, ◌+◌, ◌%◌, ◌≤◌, ◌<◌}
use native.Mathlib.Omega.{arith}
use lib.Dec.{ltb, leb}
use lib.ListN.{length}
use borrow.Author.Tests.{ltb-true, leb-true, leb-false}
use Rattle.types.proofs.Answers.{ok_two, ok_three, err_two, err_three}
use Rattle.types.specs.Answers.{AtomAnswer, HeaderAnswer, VersionAnswer}
use Rattle.types.specs.Choice.{pick}
use Rattle.types.specs.Counters.{place_in}
use Rattle.types.specs.Forms.{body_length, is_string}
use Rattle.types.specs.Ways.{up_to}
use Rattle.types.specs.declared.Way.TheVariants as W
use Rattle.types.specs.declared.Kind.{Kind}
use Rattle.types.specs.declared.Place.{Place}
use Rattle.types.specs.declared.Budget.{Budget}
use Rattle.types.specs.declared.Atom.{Atom}
use Rattle.types.specs.declared.Refusal.{Refusal}
use Rattle.types.specs.declared.Refusal.TheVariants as R
use Rattle.types.proofs.Ways.{Differ, same, cut, differ_reads, differ_cut}
use Rattle.types.proofs.Counters.{place_same}
use Rattle.header.specs.Header.{header_read, header_from, header_kind, header_argument}
use Rattle.header.specs.Signature.{version_read, version_from, judged, every_bit, signature, big_endian}
use Rattle.header.proofs.Places.{header_place}
use Rattle.header.proofs.Ways.{header_differ, version_differ}
use Rattle.atom.specs.Atoms.{atom_read}
use Rattle.atom.proofs.Agree.{Ended, atom_differ, exact_then_filled}
use Rattle.promises.specs.Told.{told_atom}
use Rattle.promises.specs.Rows.{end_of}
use Rattle.promises.specs.Entries.{onward, header_end}
use Rattle.promises.specs.Placed.{Stands}
use Rattle.promises.specs.Migration.{atom_end, signature_end, AtomChanges, HeaderChanges, SignatureChanges}
use Rattle.promises.proofs.Stands.{past_end}
use Rattle.promises.proofs.Stands as Stands
use Rattle.promises.proofs.Demand1 as Demand1

-- WHAT IS TAKEN FILLED is taken up to its end, or to the source's end if that is past it
pub up_to_left : {X : Type 0} (n end : ℕ) (taken : ℕ → X) (eof : X) → up_to W.Filled n end taken eof ≡ taken (place_in n end)
up_to_left n end taken eof = by (leb end n) refl
  where
    by : (t : Bool) → leb end n ≡ t → pick t (taken end) (taken n) ≡ taken (place_in n end)
    by true h = ap taken (sym (place_same n end (leb-true end n h)))
    by false h = let out = leb-false end n h in ap taken (sym (past_end n end (omega arith)))

-- what goes on from there goes on from the end
pub place_again : (n place more : ℕ) → place_in n (place_in n place + more) ≡ place_in n (place + more)
place_again n place more = by (ltb n place) refl
  where
    by : (t : Bool) → ltb n place ≡ t → place_in n (pick t n place + more) ≡ place_in n (place + more)
    by true h =
        let past = ltb-true n place h in
        past_end n (n + more) (omega arith) ∙ sym (past_end n (place + more) (omega arith))
    by false h = refl

-- what filled reading answers, exact reading answers too, or refuses for the end
still_by : {X : Type 0} (Eof : X → Type 0) {length end : ℕ} {exactly filled x : X} →
    Differ Eof length end exactly filled → filled ≡ x → (exactly ≡ x) ⊎ (Eof exactly × (length < end))
still_by Eof (same like) f = inl (like ∙ f)
still_by Eof (cut ended past) f = inr (ended, past)

-- A HEADER THAT IS READ FILLED: what its bytes say, up to where it ends
module _ (s : List ℕ) (place : ℕ) where
  pub header_filled :
      header_read W.Filled s place
      ≡ Ok (record { 0 = place_in (length s) (header_end s place) }, header_kind (onward s place), header_argument (onward s place))
  unfolding header_from
  header_filled =
      up_to_left (length s) (header_end s place)
      (λ p. Ok (record { 0 = p }, header_kind (onward s place), header_argument (onward s place)))
      (Err (end_of s, R.Eof))

-- and one that is read exactly: the same, up to its own end
module _ (s : List ℕ) (place : ℕ) (next : Place) (kind : Kind) (arg : ℕ) where
  exact_by : (t : Bool) (end : ℕ) (k : Kind) (a : ℕ) → leb end (length s) ≡ t →
      pick {X = HeaderAnswer} t (Ok (record { 0 = end }, k, a)) (Err (record { 0 = length s }, R.Eof))
      ≡ Ok (next, kind, arg) →
      (next.0 ≡ end) × (kind ≡ k) × (arg ≡ a)
  exact_by true end k a h e =
      let parts = ok_three (sym e) in (ap (λ (p : Place). p.0) parts.0, parts.1, parts.2)
  exact_by false end k a h e = absurd (false≢true cc)

  pub header_exact : header_read W.ExactLent s place ≡ Ok (next, kind, arg) →
      (next.0 ≡ header_end s place) × (kind ≡ header_kind (onward s place)) × (arg ≡ header_argument (onward s place))
  unfolding header_from
  header_exact = exact_by (leb (header_end s place) (length s)) (header_end s place) _ _ refl

-- AN ATOM
module _ (s : List ℕ) (place : ℕ) (budget : Budget) (scratch : List ℕ) where
  -- read filled, and cut: the place after it is the source's end
  filled_end : (after : Place) (left : Budget) (atom : Atom) →
      atom_read W.Filled s place budget scratch ≡ Ok (after, left, atom) → length s < atom_end s place → after ≡ end_of s
  filled_end after left atom e past =
      let st : Stands W.Filled s place after atom = Stands.stands W.Filled s place budget scratch after left atom e in
      let read = sym (header_filled s place) ∙ st.at_body in
      let kind = header_kind (onward s place) in
      let arg = header_argument (onward s place) in
      let from : ℕ = place_in (length s) (header_end s place) in
      let at_body : from ≡ atom.places.body.0 = ap header_place read in
      let its_kind : kind ≡ atom.kind = (ok_three read).1 in
      let its_argument : arg ≡ atom.arg = (ok_three read).2 in
      let ends : place_in (length s) (from + body_length kind arg) ≡ length s =
      place_again (length s) (header_end s place) (body_length kind arg)
      ∙ past_end (length s) (atom_end s place) (omega arith)
      in
      let long : atom.places.after.0 ≡ length s =
      st.body_long ∙ rw (← at_body, ← its_kind, ← its_argument) ends
      in
      sym st.at_after ∙ ap (λ (n : ℕ). record { 0 = n }) long

  cut_by : {after stop : Place} {left rest : Budget} {atom : Atom} {why : Refusal} →
      atom_read W.Filled s place budget scratch ≡ Ok (after, left, atom) →
      atom_read W.ExactLent s place budget scratch ≡ Err (stop, rest, why) →
      (why ≡ R.Eof) × (length s < atom_end s place) × (stop ≡ end_of s) × (after ≡ end_of s)
  cut_by {after} {stop} {left} {rest} {atom} {why} f e =
      let d = differ_cut (Ended s) (atom_differ s place budget scratch) (λ like. false≢true cc) in
      let ended = err_three (sym e ∙ d.0.1) in
      (ended.2, d.1, ended.0, filled_end after left atom f d.1)

  -- read exactly: it ends within the source
  exact_whole : (after : Place) (left : Budget) (atom : Atom) →
      atom_read W.ExactLent s place budget scratch ≡ Ok (after, left, atom) → atom_end s place ≤ length s
  exact_whole after left atom e =
      let row = Demand1.by_the_table W.ExactLent s place budget scratch in
      let found = Demand1.good_row row (ap (λ (a : AtomAnswer). (told_atom a).number) e) in
      let next = found.0 in
      let kind = found.1 in
      let arg = found.2 in
      let h = header_exact s place next kind arg found.3 in
      let body : next.0 + body_length kind arg ≤ length s =
      ⊎_elim (λ there. there) (λ never. absurd (can_end_lem (is_string kind) never)) found.4.body_there
      in
      let where-from : next.0 + body_length kind arg ≡ atom_end s place = cc (h.0, h.1, h.2) in
      omega arith
    where
      can_end_lem : (string : Bool) → pick string true true ≡ false → ⊥
      can_end_lem true e = false≢true (sym e)
      can_end_lem false e = false≢true (sym e)

  refuses_by : {after : Place} {left : Budget} {atom : Atom} →
      atom_read W.Filled s place budget scratch ≡ Ok (after, left, atom) → length s < atom_end s place →
      Differ (Ended s) (length s) (atom_end s place) (atom_read W.ExactLent s place budget scratch)
      (atom_read W.Filled s place budget scratch) →
      Ended s (atom_read W.ExactLent s place budget scratch)
  refuses_by {after} {left} {atom} f past (same like) =
      let whole = exact_whole after left atom (like ∙ f) in absurd (omega arith)
  refuses_by f past (cut ended within) = ended

  pub atom_changes : AtomChanges s place budget scratch
  atom_changes = record {
    reads = λ e. exact_then_filled s place budget scratch _ _ _ e;
    cut = cut_by;
    refuses = λ f past. refuses_by f past (atom_differ s place budget scratch);
    still = still_by (Ended s) (atom_differ s place budget scratch);
  }

-- A HEADER, AND A SIGNATURE: each is taken up to an end
module _ (s : List ℕ) (place : ℕ) where
  pub header_changes : HeaderChanges s place
  header_changes = record {
    reads = λ e. differ_reads _ (header_differ s place) _ (λ ended. false≢true cc) e;
    cut = λ e.
        let f = header_filled s place in
        let d = differ_cut _ (header_differ s place) (λ like. false≢true cc) in
        let ended = err_two (sym e ∙ d.0) in
        (ended.1, d.1, ended.0);
  }

  version_end : (after : Place) (version : ℕ) → length s < signature_end s place →
      version_read W.Filled s place ≡ Ok (after, version) → after ≡ end_of s
  unfolding version_from
  version_end after version past e =
      let word = big_endian (onward s place) in
      let filled =
      up_to_left (length s) (signature_end s place) (λ p. judged word (record { 0 = p })) (Err (end_of s, R.Eof))
      in
      let at : place_in (length s) (signature_end s place) ≡ length s = past_end (length s) _ (omega arith) in
      taken (every_bit 32 signature word) (end_of s) (word % 256) (rw at at (sym filled ∙ e))
    where
      taken : (t : Bool) (p : Place) (low : ℕ) →
          pick {X = VersionAnswer} t (Ok (p, low)) (Err (p, R.IncompatibleVersion)) ≡ Ok (after, version) → after ≡ p
      taken true p low f = sym (ok_two f).0
      taken false p low f = absurd (false≢true cc)

  pub signature_changes : SignatureChanges s place
  signature_changes = record {
    reads = λ e. differ_reads _ (version_differ s place) _ (λ ended. false≢true cc) e;
    cut = λ {after} {stop} {version} {why} f e.
        let d = differ_cut _ (version_differ s place) (λ like. false≢true cc) in
        let ended = err_two (sym e ∙ d.0) in
        (ended.1, d.1, ended.0, version_end after version d.1 f);
    still = still_by _ (version_differ s place);
  }
