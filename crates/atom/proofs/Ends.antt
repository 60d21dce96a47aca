-- The ends of the readers of one atom: at each return, what the body has in hand there and what it answers.
use Rattle.std.specs.Prelude.{Result, Ok, Err}
use mathlib.Core.Path.{◌≡◌, refl, ◌∙◌, sym, ap}
use mathlib.Core.Bool.{Bool, true, false}
use mathlib.Core.List.{List}
use Prim.Native.Nat.{ℕ, ◌+◌, ◌-◌, ◌≤◌, ◌<◌}
use native.Mathlib.Omega.{arith}
use borrow.Author.Rules.{rules}
use borrow.Author.Tests.{le-leb, lt-leb}
use lib.ListN.{length}
use Rattle.types.specs.Answers.{AtomAnswer, BytesAnswer, HeaderAnswer}
use Rattle.types.specs.Counters.{place_in, places_of}
use Rattle.types.specs.Kinds.{special_from}
use Rattle.types.specs.Ways.{exact}
use Rattle.types.specs.Forms.{count_of, number_charge, charge_of, unsupported}
use Rattle.types.specs.Forms as Forms
use Rattle.types.proofs.Specials.{special_below, special_above}
use Rattle.types.proofs.Ways.{at_way}
use Rattle.types.specs.declared.Way.{Way}
use Rattle.types.specs.declared.Kind.{Kind}
use Rattle.types.specs.declared.Kind.TheVariants as K
use Rattle.types.specs.declared.Special.{Special}
use Rattle.types.specs.declared.Place.{Place}
use Rattle.types.specs.declared.Places.{Places}
use Rattle.types.specs.declared.Budget.{Budget}
use Rattle.types.specs.declared.Mark.{Mark}
use Rattle.types.specs.declared.Integer.{Integer}
use Rattle.types.specs.declared.Float.{Float}
use Rattle.types.specs.declared.Nucleus.{Nucleus}
use Rattle.types.specs.declared.Nucleus.TheVariants as N
use Rattle.types.specs.declared.Atom.{Atom}
use Rattle.types.specs.declared.Refusal.{Refusal}
use Rattle.types.specs.declared.Refusal.TheVariants as R
use Rattle.little.specs.Le.{number_at}
use Rattle.header.specs.Header.{header_read}
use Rattle.header.proofs.Places.{header_place, header_place_lem}
use Rattle.reader.specs.Strings.{start_of, string_answer, string_scratch}
use Rattle.reader.proofs.Strings.{start_within}
use Rattle.integer.specs.Integers.{integer_kind, integer_of}
use Rattle.float.specs.Floats.{float_of}
use Rattle.atom.specs.Charges.{budget_after}
use Rattle.types.proofs.Answers.{same_err}
use Rattle.types.proofs.Arms.{OfIntegers, two_kinds, OfHeaders, three_kinds}
use mathlib.Core.Bool.{false≢true}
use Rattle.atom.specs.Atoms.{at_place, with_budget, atom_of, special_nucleus, judged, header_taken, special_taken, integer_taken, float_taken}
use Rattle.atom.specs.Atoms.{bytes_taken, atom_after, scratch_after, atom_read, atom_scratch}
use Rattle.atom.proofs.Answers.{free}
use Rattle.atom.proofs.Numbers.{NumberForm, Means, integers, floats, integer_means, float_means_lem, number_after}
use Rattle.atom.proofs.Numbers.{integer_number, float_number}

-- a refusal that got its place, or its budget, is that refusal
module _ {X : Type 0} (place : Place) (budget : Budget) where
  pub at_place_ok : (answer : Result X Refusal) (x : X) → at_place place budget answer ≡ Ok x → answer ≡ Ok x
  at_place_ok (Ok y) x e = cc
  at_place_ok (Err r) x e = absurd (false≢true cc)

  pub at_place_err : (answer : Result X Refusal) (w : Place × Budget × Refusal) → at_place place budget answer ≡ Err w →
      (answer ≡ Err w.2) × (w ≡ (place, budget, w.2))
  at_place_err (Ok y) w e = absurd (false≢true cc)
  at_place_err (Err r) w e =
      let s : (place, budget, r) ≡ w = same_err e in
      (ap (λ (v : Place × Budget × Refusal). Err v.2) s, sym s ∙ ap (λ (v : Place × Budget × Refusal). (place, budget, v.2)) s)

module _ {X : Type 0} (budget : Budget) where
  pub with_budget_ok : (answer : Result X (Place × Refusal)) (x : X) → with_budget budget answer ≡ Ok x → answer ≡ Ok x
  with_budget_ok (Ok y) x e = cc
  with_budget_ok (Err (place, r)) x e = absurd (false≢true cc)

  pub with_budget_err : (answer : Result X (Place × Refusal)) (w : Place × Budget × Refusal) →
      with_budget budget answer ≡ Err w → (answer ≡ Err (w.0, w.2)) × (w ≡ (w.0, budget, w.2))
  with_budget_err (Ok y) w e = absurd (false≢true cc)
  with_budget_err (Err (place, r)) w e =
      let s : (place, budget, r) ≡ w = same_err e in (
        ap (λ (v : Place × Budget × Refusal). Err (v.0, v.2)) s,
        sym s ∙ ap (λ (v : Place × Budget × Refusal). (v.0, budget, v.2)) s,
      )

-- a special, known and not; it costs nothing
module _ (arg : ℕ) (first next : Place) (budget : Budget) (got : Result Special Refusal) (g : got ≡ special_from arg)
    (past : Result Special (Place × Budget × Refusal)) (p : past ≡ at_place next budget got) where
  pub special_known_lem : (special : Special) (nucleus : Nucleus) (kind : Kind) (atom : Atom) → kind ≡ K.Special →
      atom ≡ atom_of kind arg (places_of first next next) nucleus → past ≡ Ok special →
      nucleus ≡ special_nucleus special →
      Ok (next, budget, atom) ≡ judged K.Special arg next budget (special_taken arg first next)
  unfolding judged
  special_known_lem special nucleus kind atom k a e n =
      let made = a ∙ ap (λ (x : Kind). atom_of x arg (places_of first next next) nucleus) k in
      let found = at_place_ok next budget (special_from arg) special cc in
      cc (free budget, found, special_below arg special found, made)

  pub special_unknown : (w : Place × Budget × Refusal) → past ≡ Err w →
      Err w ≡ judged K.Special arg next budget (special_taken arg first next)
  unfolding judged
  special_unknown w e =
      let refused = at_place_err next budget (special_from arg) w cc in
      let above = special_above arg w.2 refused.0 in
      cc (free budget, above.0, above.1, refused.1)

pub ruleset special_ends = (special_known_lem, special_unknown, rules)

-- the atom of a number: what it holds was made before
pub integer_held_lem : (kind : Kind) (arg count bits : ℕ) (places : Places) (value : Integer) (atom : Atom) →
    value ≡ integer_of kind count bits → atom ≡ atom_of kind arg places (N.Integer value) →
    atom ≡ atom_of kind arg places (N.Integer (integer_of kind count bits))
integer_held_lem kind arg count bits places value atom v a = cc

pub float_held_lem : (kind : Kind) (arg count bits stored : ℕ) (places : Places) (value : Float) (atom : Atom) →
    kind ≡ K.Float → stored ≡ bits → value ≡ float_of count stored →
    atom ≡ atom_of kind arg places (N.Float value stored) →
    atom ≡ atom_of K.Float arg places (N.Float (float_of count bits) bits)
float_held_lem kind arg count bits stored places value atom k b v a = cc

-- a number, once its header is read and its charge judged
module _ (n : NumberForm) (way : Way) (s : List ℕ) (arg : ℕ) (first next : Place) (budget : Budget) where
  module _ (count charge : ℕ) (left : Result Budget Refusal) (paid : Result Budget (Place × Budget × Refusal))
      (m : Means n arg) (c : count ≡ count_of arg) (h : charge ≡ number_charge count)
      (b : left ≡ budget_after budget charge) (p : paid ≡ at_place next budget left) where
    -- the charge exceeds the budget
    pub number_too_dear : (w : Place × Budget × Refusal) → paid ≡ Err w →
        Err w ≡ number_after n way s arg first next budget
    unfolding number_after judged
    number_too_dear w e =
        let refused = at_place_err next budget (budget_after budget charge) w cc in
        cc (m.costs, refused.0, refused.1)

    module _ (rest : Budget) (ok : Bool) (on : paid ≡ Ok rest) (o : ok ≡ n.allowed count) where
      stays : budget_after budget charge ≡ Ok rest
      stays = at_place_ok next budget (budget_after budget charge) rest cc

      -- the count is not allowed
      pub number_unsupported : (kind : Kind) (why : Refusal) → n.kind ≡ kind → why ≡ unsupported kind count →
          ok ≡ false → Err (next, rest, why) ≡ number_after n way s arg first next budget
      unfolding number_after judged
      number_unsupported kind why k w f = cc (m.costs, m.knows, m.refuses, stays)

      -- it is: the bytes are there; they are not, in exact reading, and in filled reading
      module _ (f : ok ≡ true) (within : next.0 ≤ length s) where
        pub number_whole : (atom : Atom) → count ≤ length s - next.0 →
            atom
            ≡ atom_of n.kind arg (places_of first next (record { 0 = next.0 + count }))
            (n.nucleus count (number_at count s next.0)) →
            Ok (record { 0 = next.0 + count }, rest, atom) ≡ number_after n way s arg first next budget
        unfolding number_after judged
        number_whole atom l a =
            cc (m.costs, m.knows, m.long, stays, le-leb (next.0 + count) (length s) (omega arith))

        module _ (exactly : Bool) (l : length s - next.0 < count) (x : exactly ≡ exact way) where
          pub number_past_end : exactly ≡ true →
              Err (record { 0 = length s }, rest, R.Eof) ≡ number_after n way s arg first next budget
          unfolding number_after judged
          number_past_end y =
              cc (m.costs, m.knows, m.long, stays, lt-leb (next.0 + count) (length s) (omega arith))

          pub number_filled : (atom : Atom) → exactly ≡ false →
              atom
              ≡ atom_of n.kind arg (places_of first next (record { 0 = length s }))
              (n.nucleus count (number_at count s next.0)) →
              Ok (record { 0 = length s }, rest, atom) ≡ number_after n way s arg first next budget
          unfolding number_after judged
          number_filled atom y a =
              cc (m.costs, m.knows, m.long, stays, lt-leb (next.0 + count) (length s) (omega arith))

-- an integer and a float are numbers
module _ (way : Way) (s : List ℕ) (arg : ℕ) (first next : Place) (budget : Budget) (answer : AtomAnswer) where
  pub integer_as_number : (kind : Kind) → answer ≡ number_after (integers kind) way s arg first next budget →
      answer ≡ judged kind arg next budget (integer_taken way s kind arg first next)
  integer_as_number kind e = e ∙ sym (integer_number way s arg first next kind budget)

  pub float_as_number : answer ≡ number_after floats way s arg first next budget →
      answer ≡ judged K.Float arg next budget (float_taken way s arg first next)
  float_as_number e = e ∙ sym (float_number way s arg first next budget)

-- a test that a callee made, and how it came out
pub tested : (ok said found : Bool) → ok ≡ said → ok ≡ found → said ≡ found
tested ok said found s f = sym s ∙ f

pub ruleset judged_ends = (number_too_dear, number_unsupported, number_whole, number_past_end, number_filled)

pub ruleset held_ends =
    (integer_held_lem, float_held_lem, integer_as_number, float_as_number, integer_means, float_means_lem)

pub ruleset number_ends = (judged_ends, held_ends, tested, rules)

-- a string, once its header is read
module _ (way : Way) (s : List ℕ) (arg : ℕ) (first next : Place) (budget : Budget) (scratch : List ℕ)
    (left : Result Budget Refusal) (paid : Result Budget (Place × Budget × Refusal))
    (l : left ≡ budget_after budget arg) (p : paid ≡ at_place next budget left) where
  -- the charge exceeds the budget, and scratch is as it was
  module _ (w : Place × Budget × Refusal) (e : paid ≡ Err w) where
    dear : (budget_after budget arg ≡ Err w.2) × (w ≡ (next, budget, w.2))
    dear = at_place_err next budget (budget_after budget arg) w cc

    pub string_too_dear : Err w ≡ judged K.Bytes arg next budget (bytes_taken way s arg first next scratch)
    unfolding judged
    string_too_dear = cc (dear.0, dear.1)

    pub scratch_kept : scratch ≡ scratch_after way s K.Bytes arg next budget scratch
    scratch_kept = cc (dear.0)

  -- it does not: the string is read, or refused, and scratch is as the string leaves it
  module _ (rest : Budget) (on : paid ≡ Ok rest) where
    affords : budget_after budget arg ≡ Ok rest
    affords = at_place_ok next budget (budget_after budget arg) rest cc

    module _ (got : BytesAnswer) (read : Result (Place × Mark) (Place × Budget × Refusal))
        (g : got ≡ string_answer way s next.0 arg scratch) (b : read ≡ with_budget rest got) where
      pub string_read_lem : (place : Place) (mark : Mark) (kind : Kind) (atom : Atom) → kind ≡ K.Bytes →
          read ≡ Ok (place, mark) → atom ≡ atom_of kind arg (places_of first next place) (N.Bytes mark) →
          Ok (place, rest, atom) ≡ judged K.Bytes arg next budget (bytes_taken way s arg first next scratch)
      unfolding judged
      string_read_lem place mark kind atom k e a =
          let made = a ∙ ap (λ (y : Kind). atom_of y arg (places_of first next place) (N.Bytes mark)) k in
          cc (affords, with_budget_ok rest (string_answer way s next.0 arg scratch) (place, mark) cc, made)

      pub string_refused : (w : Place × Budget × Refusal) → read ≡ Err w →
          Err w ≡ judged K.Bytes arg next budget (bytes_taken way s arg first next scratch)
      unfolding judged
      string_refused w e =
          let refused = with_budget_err rest (string_answer way s next.0 arg scratch) w cc in
          cc (affords, refused.0, refused.1)

    pub scratch_filled : (filled : List ℕ) → filled ≡ string_scratch way s next.0 arg scratch →
        filled ≡ scratch_after way s K.Bytes arg next budget scratch
    scratch_filled filled e = cc (affords)

pub ruleset string_ends = (string_too_dear, scratch_kept, string_read_lem, string_refused, scratch_filled, rules)

-- what follows a header of a known kind, and what it leaves in scratch
module _ (way : Way) (s : List ℕ) (kind known : Kind) (arg : ℕ) (next : Place) (budget : Budget) (scratch : List ℕ)
    (k : kind ≡ known) where
  pub body_of : (first : Place) (answer : AtomAnswer) →
      answer ≡ atom_after way s known arg first next budget scratch →
      answer ≡ atom_after way s kind arg first next budget scratch
  body_of first answer e = cc

  pub scratch_of : (after : List ℕ) → after ≡ scratch_after way s known arg next budget scratch →
      after ≡ scratch_after way s kind arg next budget scratch
  scratch_of after e = cc

-- the header says all, and costs nothing
pub header_alone : (kind known : Kind) (arg : ℕ) (first next : Place) (budget : Budget) (atom : Atom) →
    kind ≡ known → charge_of known arg ≡ 0 → Forms.known known arg ≡ true →
    atom ≡ atom_of kind arg (places_of first next next) N.None →
    Ok (next, budget, atom) ≡ judged known arg next budget (header_taken known arg first next N.None)
unfolding judged
header_alone kind known arg first next budget atom k c o a = cc (free budget)

-- Sequence, Map and Symbol have one arm, and so have Int and UInt
pub header_body : (kind : Kind) → OfHeaders kind → (way : Way) (s : List ℕ) (arg : ℕ) (first next : Place)
    (budget : Budget) (scratch : List ℕ) (atom : Atom) → atom ≡ atom_of kind arg (places_of first next next) N.None →
    Ok (next, budget, atom) ≡ atom_after way s kind arg first next budget scratch
header_body kind h way s arg first next budget scratch atom =
    three_kinds (λ k. atom ≡ atom_of k arg (places_of first next next) N.None →
    Ok (next, budget, atom) ≡ atom_after way s k arg first next budget scratch)
    (header_alone K.Sequence K.Sequence arg first next budget atom refl refl refl)
    (header_alone K.Map K.Map arg first next budget atom refl refl refl)
    (header_alone K.Symbol K.Symbol arg first next budget atom refl refl refl) kind h

module _ (kind : Kind) (h : OfIntegers kind) where
  pub integer_kind_lem : integer_kind kind ≡ true
  integer_kind_lem = two_kinds (λ k. integer_kind k ≡ true) refl refl kind h

  module _ (way : Way) (s : List ℕ) (arg : ℕ) (next : Place) (budget : Budget) (scratch : List ℕ) where
    pub integer_body_lem : (first : Place) (answer : AtomAnswer) →
        answer ≡ judged kind arg next budget (integer_taken way s kind arg first next) →
        answer ≡ atom_after way s kind arg first next budget scratch
    integer_body_lem first answer e =
        e
        ∙ two_kinds (λ k. judged k arg next budget (integer_taken way s k arg first next)
        ≡ atom_after way s k arg first next budget scratch) refl refl kind h

    pub integer_scratch : scratch ≡ scratch_after way s kind arg next budget scratch
    integer_scratch = two_kinds (λ k. scratch ≡ scratch_after way s k arg next budget scratch) refl refl kind h

pub ruleset body_ends = (body_of, scratch_of, header_body, integer_kind_lem, integer_body_lem, integer_scratch, rules)

-- an atom, by what its header answers
module _ (way : Way) (s : List ℕ) (place : ℕ) (budget : Budget) (got : HeaderAnswer)
    (read : Result (Place × Kind × ℕ) (Place × Budget × Refusal)) (g : got ≡ header_read way s place)
    (b : read ≡ with_budget budget got) where
  module _ (next : Place) (kind : Kind) (arg : ℕ) (e : read ≡ Ok (next, kind, arg)) where
    taken : header_read way s place ≡ Ok (next, kind, arg)
    taken = with_budget_ok budget (header_read way s place) (next, kind, arg) cc

    pub header_read_lem : (scratch : List ℕ) (first : ℕ) (answer : AtomAnswer) → first ≡ place_in (length s) place →
        answer ≡ atom_after way s kind arg (record { 0 = first }) next budget scratch →
        answer ≡ atom_read way s place budget scratch
    unfolding atom_read
    header_read_lem scratch first answer f a = cc (taken)

    pub header_read_scratch : (scratch after : List ℕ) → after ≡ scratch_after way s kind arg next budget scratch →
        after ≡ atom_scratch way s place budget scratch
    unfolding atom_scratch
    header_read_scratch scratch after a = cc (taken)

    pub header_within : next.0 ≤ length s
    header_within =
        rw (← ap header_place taken) (header_place_lem way s (start_of s place) (start_within s place)).1

  module _ (w : Place × Budget × Refusal) (e : read ≡ Err w) where
    refused : (header_read way s place ≡ Err (w.0, w.2)) × (w ≡ (w.0, budget, w.2))
    refused = with_budget_err budget (header_read way s place) w cc

    pub header_refused : (scratch : List ℕ) → Err w ≡ atom_read way s place budget scratch
    unfolding atom_read
    header_refused scratch = cc (refused.0, refused.1)

    pub header_refused_scratch : (scratch : List ℕ) → scratch ≡ atom_scratch way s place budget scratch
    unfolding atom_scratch
    header_refused_scratch scratch = cc (refused.0)

-- the entry that names no way
pub unnamed : (way named : Way) (s : List ℕ) (place : ℕ) (budget : Budget) (scratch : List ℕ) (answer : AtomAnswer) →
    way ≡ named → answer ≡ atom_read way s place budget scratch → answer ≡ atom_read named s place budget scratch
unnamed way named s place budget scratch answer = at_way (λ w. atom_read w s place budget scratch)

pub ruleset atom_ends =
    (header_read_lem, header_read_scratch, header_refused, header_refused_scratch, header_within, unnamed, rules)
