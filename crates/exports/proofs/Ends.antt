-- The ends of the exports: no room for the words; else the library's answer is said, and a write is done.
use Rattle.std.specs.Prelude.{Result, Ok, Err}
use mathlib.Core.Path.{◌≡◌, refl, ◌∙◌, sym, ap}
use mathlib.Core.Bool.{Bool, true, false}
use mathlib.Core.List.{List, [], ◌∷◌, ◌++◌, append-nil}
use Prim.Native.Nat.{ℕ, ◌-◌, ◌≤◌, zero-le}
use native.Mathlib.Omega.{arith}
use borrow.Author.Rules.{sfits_of}
use lib.Dec.{ltb}
use mir.Facts.{to_z-of_z}
use lib.ListN.{length, take, drop}
use lib.Seq.{take-length, take_all, drop-length}
use Rattle.types.specs.Answers.{HeaderAnswer}
use Rattle.types.specs.Choice.{pick}
use Rattle.types.specs.declared.Integer.{Integer}
use Rattle.types.specs.declared.Refusal.{Refusal}
use Rattle.types.specs.declared.Kind.{Kind}
use Rattle.types.specs.declared.Kind.TheVariants as K
use Rattle.types.specs.declared.Special.{Special}
use Rattle.types.specs.declared.Budget.{Budget}
use Rattle.types.specs.declared.Way.{Way}
use Rattle.types.specs.declared.Way.TheVariants as WY
use Rattle.lent.specs.Lent.{written_answer, written_content, copied_over}
use Rattle.lent.proofs.Stores.{content_short}
use Rattle.header.specs.Header.{header_read}
use Rattle.reader.specs.Strings.{string_of, runs_out, copied_scratch}
use Rattle.writers.specs.Bytes.{held_answer, held_content}
use Rattle.atom.specs.Charges.{budget_after}
use Rattle.atom.specs.Atoms.{atom_scratch, scratch_charged, scratch_from}
use Rattle.words.specs.Layout.{Said, word_count, short, number_of, words_of, unless_short, said_written, said_refused}
use Rattle.recast.specs.Recasts.{of_integer}
use Rattle.exports.specs.Named.{of_kind, of_special}

-- What is lent of a buffer: all of it where the words have room, and nothing where they have none.
abbrev granted_of : ℕ → ℕ → ℕ
granted_of words room = pick (ltb words word_count) 0 room

below : (t : Bool) (n : ℕ) → pick t 0 n ≤ n
below true n = omega arith
below false n = omega arith

kept : (t : Bool) (old : List ℕ) → old ≡ pick t old old
kept true old = refl
kept false old = refl

-- a writer or a reader that is lent nothing leaves nothing
unwritten_empty : (bytes : List ℕ) → written_content bytes [] ≡ []
unfolding copied_over
unwritten_empty [] = refl
unwritten_empty (b ∷ bs) = content_short (b ∷ bs) [] (omega arith)

unheld_empty : (held : Bool) (bytes : List ℕ) → held_content held bytes [] ≡ []
unheld_empty true bytes = unwritten_empty bytes
unheld_empty false bytes = refl

uncopied_empty : (t : Bool) (bytes : List ℕ) → pick t [] (written_content bytes []) ≡ []
uncopied_empty true bytes = refl
uncopied_empty false bytes = unwritten_empty bytes

uncharged_empty : (way : Way) (s : List ℕ) (place arg : ℕ) (b : Result Budget Refusal) →
    scratch_charged way s place arg [] b ≡ []
unfolding copied_scratch
uncharged_empty way s place arg (Err r) = refl
uncharged_empty WY.Filled s place arg (Ok rest) = refl
uncharged_empty WY.ExactLent s place arg (Ok rest) = refl
uncharged_empty WY.ExactCopied s place arg (Ok rest) =
    uncopied_empty (runs_out s place arg) (string_of s place arg)

unread_empty : (way : Way) (s : List ℕ) (budget : Budget) (h : HeaderAnswer) → scratch_from way s budget [] h ≡ []
unread_empty way s budget (Err (place, r)) = refl
unread_empty way s budget (Ok (next, K.Special, arg)) = refl
unread_empty way s budget (Ok (next, K.Int, arg)) = refl
unread_empty way s budget (Ok (next, K.UInt, arg)) = refl
unread_empty way s budget (Ok (next, K.Float, arg)) = refl
unread_empty way s budget (Ok (next, K.Sequence, arg)) = refl
unread_empty way s budget (Ok (next, K.Map, arg)) = refl
unread_empty way s budget (Ok (next, K.Symbol, arg)) = refl
unread_empty way s budget (Ok (next, K.Bytes, arg)) = uncharged_empty way s next.0 arg (budget_after budget arg)

scratch_empty : (way : Way) (s : List ℕ) (place : ℕ) (budget : Budget) → atom_scratch way s place budget [] ≡ []
unfolding atom_scratch
scratch_empty way s place budget = unread_empty way s budget (header_read way s place)

-- What is done with a part that was lent is done with the whole: where the words have no room, with neither.
module _ (words old : List ℕ) (room : ℕ) (g : room ≡ granted_of (length words) (length old)) where
  pub within : room ≤ length old
  within = rw g (below (short words) (length old))

  none_lent : short words ≡ true → room - 0 ≡ 0
  none_lent e = let h : room ≡ 0 = g ∙ simp e in omega arith

  all_lent : short words ≡ false → room - 0 ≡ length old
  all_lent e = let h : room ≡ length old = g ∙ simp e in omega arith

  said_by : {X : Type 0} (f : List ℕ → X) (none : X) (t : Bool) → short words ≡ t →
      pick t none (f (take (room - 0) old)) ≡ pick t none (f old)
  said_by f none true e = refl
  said_by f none false e = ap f (ap (λ (n : ℕ). take n old) (all_lent e) ∙ take-length old)

  left_by_lem : (f : List ℕ → List ℕ) → f [] ≡ [] → (t : Bool) → short words ≡ t →
      f (take (room - 0) old) ++ drop (room - 0) old ≡ pick t old (f old)
  left_by_lem f k true e = rw (none_lent e, k)
  left_by_lem f k false e = rw (all_lent e, take-length old, drop-length old, append-nil)

  module _ (f : List ℕ → Said) where
    number_of_lem : (r : ℕ) → r ≡ number_of (f (take (room - 0) old)) words → r ≡ number_of (f old) words
    number_of_lem r e = e ∙ said_by (λ (l : List ℕ). (f l).number) 9 (short words) refl

    words_of_lem : (new : List ℕ) → new ≡ words_of (f (take (room - 0) old)) words → new ≡ words_of (f old) words
    words_of_lem new e = e ∙ said_by (λ (l : List ℕ). (f l).words ++ drop word_count words) words (short words) refl

  -- what is left in the buffer, of the part as it was left
  left_of_lem : (f : List ℕ → List ℕ) → f [] ≡ [] → (part whole : List ℕ) → part ≡ f (take (room - 0) old) → f old ≡ whole →
      part ++ drop (room - 0) old ≡ unless_short words old whole
  left_of_lem f k part whole p w = rw (p, ← w) (left_by_lem f k (short words) refl)

  -- a write
  module _ (bytes : List ℕ) where
    module _ (answer whole : Result ℕ Refusal) (a : answer ≡ written_answer bytes (take (room - 0) old))
        (w : written_answer bytes old ≡ whole) where
      pub written_number : (r : ℕ) → r ≡ number_of (said_written answer) words → r ≡ number_of (said_written whole) words
      written_number r e = rw (← w) (number_of_lem (λ (l : List ℕ). said_written (written_answer bytes l)) r (rw a at e))

      pub written_words : (new : List ℕ) → new ≡ words_of (said_written answer) words →
          new ≡ words_of (said_written whole) words
      written_words new e = rw (← w) (words_of_lem (λ (l : List ℕ). said_written (written_answer bytes l)) new (rw a at e))

    pub written_left : (part whole : List ℕ) → part ≡ written_content bytes (take (room - 0) old) →
        written_content bytes old ≡ whole → part ++ drop (room - 0) old ≡ unless_short words old whole
    written_left part whole p w = left_of_lem (written_content bytes) (unwritten_empty bytes) part whole p w

    -- one of a value that may not be held
    module _ (held : Bool) where
      module _ (answer whole : Result ℕ Refusal) (a : answer ≡ held_answer held bytes (take (room - 0) old))
          (w : held_answer held bytes old ≡ whole) where
        pub held_number : (r : ℕ) → r ≡ number_of (said_written answer) words → r ≡ number_of (said_written whole) words
        held_number r e = rw (← w) (number_of_lem (λ (l : List ℕ). said_written (held_answer held bytes l)) r (rw a at e))

        pub held-words : (new : List ℕ) → new ≡ words_of (said_written answer) words →
            new ≡ words_of (said_written whole) words
        held-words new e = rw (← w) (words_of_lem (λ (l : List ℕ). said_written (held_answer held bytes l)) new (rw a at e))

      pub held_left : (part whole : List ℕ) → part ≡ held_content held bytes (take (room - 0) old) →
          held_content held bytes old ≡ whole → part ++ drop (room - 0) old ≡ unless_short words old whole
      held_left part whole p w = left_of_lem (held_content held bytes) (unheld_empty held bytes) part whole p w

  -- an atom that is read, with its string copied
  module _ (way : Way) (s : List ℕ) (place : ℕ) (budget : Budget) where
    pub atom_left : (part : List ℕ) → part ≡ atom_scratch way s place budget (take (room - 0) old) →
        part ++ drop (room - 0) old ≡ unless_short words old (atom_scratch way s place budget old)
    atom_left part p =
        left_of_lem (atom_scratch way s place budget) (scratch_empty way s place budget) part _ p refl

-- a code that names nothing writes nothing
pub unwritten : (words old whole : List ℕ) → old ≡ whole → old ≡ unless_short words old whole
unwritten words old whole e = rw (← e) (kept (short words) old)

-- what was said is said of what it equals
module _ (words : List ℕ) (one other : Said) (s : one ≡ other) where
  pub number_said : (r : ℕ) → r ≡ number_of one words → r ≡ number_of other words
  number_said r e = rw (← s) e

  pub words_said : (new : List ℕ) → new ≡ words_of one words → new ≡ words_of other words
  words_said new e = rw (← s) e

pub refused_said : (r : Refusal) (b : Result ℕ Refusal) → Err r ≡ b → said_refused r ≡ said_written b
unfolding said_written
refused_said r b e = ap said_written e

-- an integer, a kind and a special that came in or did not
module _ (X : Type 0) (refused : Refusal → X) (a : X) where
  pub of_integer_lem : (taken : Integer → X) (i j k : Result Integer Refusal) → j ≡ i → j ≡ k → a ≡ of_integer taken refused k →
      a ≡ of_integer taken refused i
  of_integer_lem taken i j k e f q = q ∙ ap (of_integer taken refused) (sym f ∙ e)

  pub of_kind_lem : (taken : Kind → X) (i j k : Result Kind Refusal) → j ≡ i → j ≡ k → a ≡ of_kind taken refused k →
      a ≡ of_kind taken refused i
  of_kind_lem taken i j k e f q = q ∙ ap (of_kind taken refused) (sym f ∙ e)

  pub of_special_lem : (taken : Special → X) (i j k : Result Special Refusal) → j ≡ i → j ≡ k → a ≡ of_special taken refused k →
      a ≡ of_special taken refused i
  of_special_lem taken i j k e f q = q ∙ ap (of_special taken refused) (sym f ∙ e)

-- Of the toolchain's `rules` an export has these few; with all of them a wrong answer is searched for half as long
-- again.
pub ruleset few = (tt, zero-le, to_z-of_z, sfits_of)

pub ruleset lent = (within, written_number, written_words, written_left)

pub ruleset held_ends = (within, held_number, held-words, held_left, few)

pub ruleset code_ends = (lent, number_said, words_said, unwritten, refused_said, of_integer_lem, of_kind_lem, of_special_lem, few)

-- the source lent whole, as a part of itself, is the source
module _ (way : Way) (s : List ℕ) (place : ℕ) (budget : Budget) (t : List ℕ) where
  whole : take (length s - 0) s ≡ s
  whole = take_all (length s - 0) s (omega arith)
