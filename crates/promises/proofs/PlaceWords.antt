-- The words of places that the exports answer, 8 to 10, are the places of the atom. Document 02, K1: "Each atom read is
-- to carry its first place, the place where its body starts and the place after it. The run and the tally, refused or
-- not, answer the three places of the last atom they read, all 0 if there was none." Where an atom stands is `Stands`.
use Rattle.std.specs.Prelude.{Ok, Err}
use mathlib.Core.Path.{◌≡◌, refl, ◌∙◌, sym, ap}
use mathlib.Core.Bool.{Bool}
use mathlib.Core.List.{List, [], ◌∷◌}
use Prim.Native.Nat.{ℕ}
use lib.ListN.{take, drop}
use Rattle.types.specs.Answers.{AtomAnswer, Ran}
use Rattle.types.specs.Counters.{no_places}
use Rattle.types.specs.Forms.{is_string}
use Rattle.types.specs.declared.Way.{Way}
use Rattle.types.specs.declared.Place.{Place}
use Rattle.types.specs.declared.Places.{Places}
use Rattle.types.specs.declared.Budget.{Budget}
use Rattle.types.specs.declared.Atom.{Atom}
use Rattle.types.specs.declared.Refusal.{Refusal}
use Rattle.types.specs.declared.TallyAnswer.{TallyAnswer}
use Rattle.types.specs.declared.TallyAnswer.TheVariants as TA
use Rattle.atom.specs.Atoms.{atom_read}
use Rattle.dictionary.specs.Steps.{forgotten}
use Rattle.words.specs.Layout.{Said, said_atom, said_skipped, said_ran, said_tally}
use Rattle.promises.proofs.Stands.{stands}

abbrev pub places_said : Said → List ℕ
places_said said = take 3 (drop 8 said.words)

abbrev pub places_laid : Places → List ℕ
places_laid places = places.first.0 ∷ places.body.0 ∷ places.after.0 ∷ []

-- of an atom that is refused they are zeros, read or skipped
pub refused_places : (p : Place) (b : Budget) (r : Refusal) →
    (places_said (said_atom (Err (p, b, r))) ≡ places_laid no_places)
    × (places_said (said_skipped (Err (p, b, r))) ≡ places_laid no_places)
unfolding said_atom said_skipped
refused_places p b r = (refl, refl)

-- of one that is skipped they are its own
skipped_places : (p : Place) (b : Budget) (places : Places) (string : Bool) →
    places_said (said_skipped (Ok (p, b, places, string))) ≡ places_laid places
unfolding said_skipped
skipped_places p b places string = refl

-- of one that is read the first two are its own, and the third is the place of the answer
read_said : (p : Place) (b : Budget) (x : Atom) →
    places_said (said_atom (Ok (p, b, x))) ≡ x.places.first.0 ∷ x.places.body.0 ∷ p.0 ∷ []
unfolding said_atom
read_said p b x = refl

-- EVERY ATOM THAT IS READ, whatever the way: the words are its places
module _ (way : Way) (s : List ℕ) (place : ℕ) (budget : Budget) (scratch : List ℕ) (p : Place) (b : Budget) (x : Atom)
    (e : atom_read way s place budget scratch ≡ Ok (p, b, x)) where
  pub read_places : places_said (said_atom (atom_read way s place budget scratch)) ≡ places_laid x.places
  read_places =
      ap (λ (a : AtomAnswer). places_said (said_atom a)) e ∙ read_said p b x
      ∙ ap (λ (after : Place). x.places.first.0 ∷ x.places.body.0 ∷ after.0 ∷ [])
      (sym (stands way s place budget scratch p b x e).at_after)

  -- and so of the step, which is the read with the value forgotten
  pub step_places :
      places_said (said_skipped (forgotten (atom_read way s place budget scratch))) ≡ places_laid x.places
  step_places =
      ap (λ (a : AtomAnswer). places_said (said_skipped (forgotten a))) e
      ∙ skipped_places p b x.places (is_string x.kind)

-- OF A RUN AND OF A TALLY, refused or not, they are those of the last atom that was read
abbrev pub last_ran : Ran → Places
last_ran (Ok run) = run.last
last_ran (Err (run, r, start)) = run.last

pub ran_places : (a : Ran) → places_said (said_ran a) ≡ places_laid (last_ran a)
unfolding said_ran
ran_places (Ok run) = refl
ran_places (Err (run, r, start)) = refl

abbrev pub last_tallied : TallyAnswer → Places
last_tallied (TA.Done last t) = last
last_tallied (TA.Stopped last r start) = last
last_tallied (TA.Refused last r) = last

pub tally_places : (a : TallyAnswer) → places_said (said_tally a) ≡ places_laid (last_tallied a)
unfolding said_tally
tally_places (TA.Done last t) = refl
tally_places (TA.Stopped last r start) = refl
tally_places (TA.Refused last r) = refl
