-- ONE FORM FOR EACH LIST OF MEANINGS, AND EACH HAS ONE: accepted lists and lists of meanings that atoms have are the
-- same thing, both ways; and no list with the same meanings is shorter. By induction over the list, from the laws of
-- one atom.
use mathlib.Core.Path.{◌≡◌, refl, ◌∙◌, sym, ap, subst}
use mathlib.Core.Bool.{Bool, true, false, false≢true}
use mathlib.Core.List.{List, [], ◌∷◌, ◌++◌}
use Prim.Native.Nat.{ℕ, zero, suc, ◌+◌, ◌≤◌}
use native.Mathlib.Omega.{arith}
use lib.Dec.{lit<}
use lib.ListN.{length, take, drop, length-append}
use lib.Seq.{take-append_seam, drop-append_seam}
use Rattle.types.specs.Forms.{body_length}
use Rattle.types.specs.declared.Kind.{Kind}
use Rattle.header.specs.Header.{header_kind, header_argument, header_length}
use Rattle.dictionary.specs.Wholes.{IsAtom, Atoms}
use Rattle.dictionary.specs.Wholes as Wholes
use Rattle.dictionary.proofs.Fronts.{front}
use Rattle.dictionary.proofs.Wholes.{atom_some}
use Rattle.shortest.specs.Meanings.{Meant, meant, meanings, Bytes, AllProper}
use Rattle.shortest.specs.Meanings as Meanings
use Rattle.shortest.specs.Forms.{shortest, all_shortest, Accepted, shortest_bytes, shortest_atoms, joined}
use Rattle.shortest.proofs.Forms.{shortest_atom, shortest_means, shortest_accepted, shortest_bytes_lem, append_bytes}
use Rattle.shortest.proofs.Meanings.{atom_proper, accepted_form, atom-least}

-- the bytes of a list are its atoms', one after the other
pub atoms-joined : {s : List ℕ} {atoms : List (List ℕ)} → Atoms s atoms → joined atoms ≡ s
unfolding joined
atoms-joined Wholes.none = refl
atoms-joined (Wholes.more {atom} w r) = ap (λ (l : List ℕ). atom ++ l) (atoms-joined r)

-- of bytes, each atom's are
front_bytes : (a b : List ℕ) → Bytes (a ++ b) → Bytes a
front_bytes [] b B i = lit< tt
front_bytes (x ∷ a) b B zero = B 0
front_bytes (x ∷ a) b B (suc i) = front_bytes a b (λ j. B (suc j)) i

back_bytes : (a b : List ℕ) → Bytes (a ++ b) → Bytes b
back_bytes [] b B = B
back_bytes (x ∷ a) b B = back_bytes a b (λ j. B (suc j))

-- BYTES ARE A LIST OF WHOLE, KNOWN ATOMS IN AT MOST ONE WAY, so that they have one list of meanings
own_length : (atom rest l : List ℕ) → IsAtom atom → atom ++ rest ≡ l →
    length atom ≡ header_length l + body_length (header_kind l) (header_argument l)
own_length atom rest l w e =
    let f = front atom rest w.its_header in
    let k : header_kind atom ≡ header_kind l = sym f.same_kind ∙ ap header_kind e in
    let a : header_argument atom ≡ header_argument l = sym f.same_argument ∙ ap header_argument e in
    let n : header_length atom ≡ header_length l = sym f.same_length ∙ ap header_length e in
    w.its_length
    ∙ ap (λ (i : ℕ). i + body_length (header_kind atom) (header_argument atom)) n
    ∙ ap (λ (q : Kind). header_length l + body_length q (header_argument atom)) k
    ∙ ap (λ (i : ℕ). header_length l + body_length (header_kind l) i) a

first_one : (atom rest other later : List ℕ) → IsAtom atom → IsAtom other → atom ++ rest ≡ other ++ later →
    (atom ≡ other) × (rest ≡ later)
first_one atom rest other later w v e =
    let n : length atom ≡ length other =
    own_length atom rest (other ++ later) w e ∙ sym (own_length other later (other ++ later) v refl) in (
      sym (take-append_seam atom rest)
          ∙ ap (take (length atom)) e
          ∙ ap (λ (i : ℕ). take i (other ++ later)) n
          ∙ take-append_seam other later,
      sym (drop-append_seam atom rest)
          ∙ ap (drop (length atom)) e
          ∙ ap (λ (i : ℕ). drop i (other ++ later)) n
          ∙ drop-append_seam other later,
    )

some_bytes : (atom rest : List ℕ) → IsAtom atom → [] ≡ atom ++ rest → ⊥
some_bytes atom rest w e =
    let one = atom_some atom w in
    let n : 0 ≡ length (atom ++ rest) = ap length e in
    omega (arith, length-append atom rest)

one_way_at : {s t : List ℕ} {atoms others : List (List ℕ)} → Atoms s atoms → Atoms t others → s ≡ t → atoms ≡ others
one_way_at Wholes.none Wholes.none e = refl
one_way_at Wholes.none (Wholes.more {atom} {rest} w r) e = absurd (some_bytes atom rest w e)
one_way_at (Wholes.more {atom} {rest} w r) Wholes.none e = absurd (some_bytes atom rest w (sym e))
one_way_at (Wholes.more {atom} {rest} {atoms} w r) (Wholes.more {atom = other} {rest = later} {atoms = others} v q) e =
    let f = first_one atom rest other later w v e in
    ap (λ (l : List ℕ). l ∷ atoms) f.0 ∙ ap (λ (l : List (List ℕ)). other ∷ l) (one_way_at r q f.1)

pub one_way : {s : List ℕ} {atoms others : List (List ℕ)} → Atoms s atoms → Atoms s others → atoms ≡ others
one_way w v = one_way_at w v refl

-- THE MEANINGS OF WHOLE, KNOWN ATOMS are such as atoms have
pub list_proper : {s : List ℕ} {atoms : List (List ℕ)} → Atoms s atoms → Bytes s → AllProper (meanings atoms)
unfolding meanings
list_proper Wholes.none B = Meanings.none
list_proper (Wholes.more {atom} {rest} w r) B =
    Meanings.more (atom_proper atom w (front_bytes atom rest B)) (list_proper r (back_bytes atom rest B))

-- what it is that each is in shortest form
pub split_shortest : (atom : List ℕ) (atoms : List (List ℕ)) → all_shortest (atom ∷ atoms) ≡ true →
    (shortest atom ≡ true) × (all_shortest atoms ≡ true)
unfolding all_shortest
split_shortest atom atoms h = by (shortest atom) refl
  where
    by : (t : Bool) → shortest atom ≡ t → (shortest atom ≡ true) × (all_shortest atoms ≡ true)
    by true e = (e, rw e at h)
    by false e = let n : false ≡ true = rw e at h in absurd (false≢true n)

pub join_shortest : (atom : List ℕ) (atoms : List (List ℕ)) → shortest atom ≡ true → all_shortest atoms ≡ true →
    all_shortest (atom ∷ atoms) ≡ true
unfolding all_shortest
join_shortest atom atoms h k = rw h k

-- ONE FORM: an accepted list is the shortest atoms of its meanings
form_is : {s : List ℕ} {atoms : List (List ℕ)} → Atoms s atoms → all_shortest atoms ≡ true → Bytes s →
    shortest_atoms (meanings atoms) ≡ atoms
unfolding meanings shortest_atoms
form_is Wholes.none h B = refl
form_is (Wholes.more {atom} {rest} {atoms} w r) h B =
    let both = split_shortest atom atoms h in
    let one = accepted_form atom w (front_bytes atom rest B) both.0 in
    let others = form_is r both.1 (back_bytes atom rest B) in
    ap (λ (l : List ℕ). l ∷ shortest_atoms (meanings atoms)) one ∙ ap (λ (l : List (List ℕ)). atom ∷ l) others

pub accepted_is : {s : List ℕ} {atoms : List (List ℕ)} → Accepted s atoms → Bytes s →
    shortest_atoms (meanings atoms) ≡ atoms
accepted_is a B = form_is a.wholes a.in_form B

pub one_form : {s t : List ℕ} {atoms others : List (List ℕ)} → Accepted s atoms → Accepted t others → Bytes s →
    Bytes t → meanings atoms ≡ meanings others → s ≡ t
one_form a b B C e =
    sym (atoms-joined a.wholes)
    ∙ ap joined (sym (accepted_is a B) ∙ ap shortest_atoms e ∙ accepted_is b C)
    ∙ atoms-joined b.wholes

-- EACH HAS ONE: the shortest atoms of a list of meanings are accepted, and have those meanings
pub each_wholes : {ms : List Meant} → AllProper ms → Atoms (joined (shortest_atoms ms)) (shortest_atoms ms)
unfolding joined shortest_atoms
each_wholes Meanings.none = Wholes.none
each_wholes (Meanings.more {m} p ps) = Wholes.more (shortest_atom m p) (each_wholes ps)

each_form : {ms : List Meant} → AllProper ms → all_shortest (shortest_atoms ms) ≡ true
unfolding shortest_atoms all_shortest
each_form Meanings.none = refl
each_form (Meanings.more {m} {ms} p ps) =
    join_shortest (shortest_bytes m) (shortest_atoms ms) (shortest_accepted m p) (each_form ps)

pub each_accepted : {ms : List Meant} → AllProper ms → Accepted (joined (shortest_atoms ms)) (shortest_atoms ms)
each_accepted ps = record { wholes = each_wholes ps; in_form = each_form ps }

pub each_means : {ms : List Meant} → AllProper ms → meanings (shortest_atoms ms) ≡ ms
unfolding meanings shortest_atoms
each_means Meanings.none = refl
each_means (Meanings.more {m} {ms} p ps) =
    ap (λ (x : Meant). x ∷ meanings (shortest_atoms ms)) (shortest_means m p)
    ∙ ap (λ (l : List Meant). m ∷ l) (each_means ps)

pub each_bytes : {ms : List Meant} → AllProper ms → Bytes (joined (shortest_atoms ms))
unfolding joined shortest_atoms
each_bytes Meanings.none = λ i. lit< tt
each_bytes (Meanings.more {m} {ms} p ps) =
    append_bytes (shortest_bytes m) (joined (shortest_atoms ms)) (shortest_bytes_lem m p) (each_bytes ps)

-- NONE IS SHORTER
shortest_least : {s : List ℕ} {atoms : List (List ℕ)} → Atoms s atoms → Bytes s →
    length (joined (shortest_atoms (meanings atoms))) ≤ length s
unfolding joined shortest_atoms meanings
shortest_least Wholes.none B = omega arith
shortest_least (Wholes.more {atom} {rest} {atoms} w r) B =
    let one = atom-least atom w (front_bytes atom rest B) in
    let others = shortest_least r (back_bytes atom rest B) in
    let a = length-append (shortest_bytes (meant atom)) (joined (shortest_atoms (meanings atoms))) in
    let b = length-append atom rest in
    omega arith

pub none_shorter : {s t : List ℕ} {atoms others : List (List ℕ)} → Accepted s atoms → Atoms t others → Bytes s →
    Bytes t → meanings atoms ≡ meanings others → length s ≤ length t
none_shorter {s} {t} {atoms} {others} a w B C e =
    let same : joined (shortest_atoms (meanings others)) ≡ s =
    ap (λ (m : List Meant). joined (shortest_atoms m)) (sym e) ∙ ap joined (accepted_is a B) ∙ atoms-joined a.wholes in
    subst (λ (x : List ℕ). length x ≤ length t) same (shortest_least w C)
