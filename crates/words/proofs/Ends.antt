-- The ends of the functions that say an answer: what is said of the parts is said of the answer.
use Rattle.std.specs.Prelude.{Option, Some, None}
use mathlib.Core.Path.{◌≡◌, refl, ◌∙◌, sym, ap}
use mathlib.Core.Bool.{true}
use mathlib.Core.List.{List}
use Prim.Native.Nat.{ℕ, ◌≤◌, ◌<◌}
use native.Mathlib.Omega.{arith}
use borrow.Author.Rules.{rules}
use borrow.Author.Tests.{lt-ltb, le-ltb, ltb-true}
use lib.Dec.{ltb}
use lib.ListN.{length, set, length-set}
use lib.Seq.{sets-eq}
use Rattle.types.specs.Values.{value, wide_of}
use Rattle.types.specs.declared.Integer.{Integer}
use Rattle.words.specs.declared.IntegerWords.{IntegerWords}
use Rattle.words.specs.declared.NucleusWords.{NucleusWords}
use Rattle.types.specs.declared.Refusal.TheVariants as R
use Rattle.words.specs.Layout.{Said, word_count, laid, number_of, words_of, variant_code, integer_words}
use Rattle.words.specs.Layout.{said_word, said_refused, said_narrowed}

-- the array has no room for the words: refusal 9, and nothing is stored
module _ (old : List ℕ) (h : length old < word_count) where
  pub short_number : (said : Said) → 9 ≡ number_of said old
  short_number said = simp (lt-ltb _ _ h)

  pub short_words : (said : Said) → old ≡ words_of said old
  short_words said = simp (lt-ltb _ _ h)

-- it has room: each is stored in its place
module _ (old : List ℕ) (room : word_count ≤ length old) where
  pub in_room : (i : ℕ) → ltb i word_count ≡ true → i < length old
  in_room i l = let k = ltb-true i word_count l in omega arith

  pub number_stored : (number : ℕ) → number ≡ number_of (laid number 0 0 0 0 0 0 0 0 0 0 0) old
  number_stored number = simp (le-ltb _ _ room)

  pub words_stored : (a b c d e f g h i j k : ℕ) →
      set (set (set (set (set (set (set (set (set (set (set (set old 0 a) 1 b) 2 c) 3 d) 4 e) 5 f) 6 g) 7 h) 8 i) 9 j)
      10 k) 11 0 ≡ words_of (laid 0 a b c d e f g h i j k) old
  words_stored a b c d e f g h i j k =
      simp (le-ltb _ _ room) (sets-eq (laid 0 a b c d e f g h i j k).words old 0 room)

-- an index of an array that was stored into is one of the array as it was
pub ruleset index_ends = (length-set, in_room)

pub ruleset say_ends = (short_number, short_words, number_stored, words_stored, rules)

-- An answer of any type, by the function that says it, with which these are cited: `number_said said_ran`. What a case
-- says is read there under `unfolding`, so a field more in an answer changes nothing here.
module _ {X : Type 0} (said : X → Said) (answer : X) (old : List ℕ) where
  -- the number and the words that were handed on are the answer's
  pub number_told : (r number : ℕ) →
      r ≡ number_of (laid number 0 0 0 0 0 0 0 0 0 0 0) old → number ≡ (said answer).number →
      r ≡ number_of (said answer) old
  number_told r number e s = rw (← s) e

  pub words_told : (new : List ℕ) (a b c d e f g h i j k : ℕ) →
      new ≡ words_of (laid 0 a b c d e f g h i j k) old →
      (laid 0 a b c d e f g h i j k).words ≡ (said answer).words → new ≡ words_of (said answer) old
  words_told new a b c d e f g h i j k t s = rw (← s) t

  -- they are those of the case that the answer is found to be
  module _ (case : X) (is : answer ≡ case) where
    pub number_said : (r number : ℕ) →
        r ≡ number_of (laid number 0 0 0 0 0 0 0 0 0 0 0) old → number ≡ (said case).number →
        r ≡ number_of (said answer) old
    number_said r number e s = number_told r number e (rw is s)

    pub words_said : (new : List ℕ) (a b c d e f g h i j k : ℕ) →
        new ≡ words_of (laid 0 a b c d e f g h i j k) old →
        (laid 0 a b c d e f g h i j k).words ≡ (said case).words → new ≡ words_of (said answer) old
    words_said new a b c d e f g h i j k t s = words_told new a b c d e f g h i j k t (rw is s)

-- what the machine's narrowing says is said of the narrowing
abbrev pub said_pattern : Option ℕ → Said
said_pattern (Some q) = said_word q
said_pattern None = said_refused R.ImpreciseCastWouldLoseData

same_narrowed : (n : Option ℕ) → said_pattern (n) ≡ said_narrowed n
unfolding said_narrowed
same_narrowed (Some q) = refl
same_narrowed None = refl

module _ (n : Option ℕ) (told case : Option ℕ) (e : told ≡ n) (is : told ≡ case) (old : List ℕ) where
  same : said_pattern case ≡ said_narrowed n
  same = ap said_pattern (sym is ∙ e) ∙ same_narrowed n

  pub narrowed_number : (r : ℕ) → r ≡ number_of (said_pattern case) old → r ≡ number_of (said_narrowed n) old
  narrowed_number r s = rw (← same) s

  pub narrowed_words : (new : List ℕ) → new ≡ words_of (said_pattern case) old → new ≡ words_of (said_narrowed n) old
  narrowed_words new s = rw (← same) s

-- words are equal one by one
module _ (a b c d e f g h i j k a' b' c' d' e' f' g' h' i' j' k' : ℕ) where
  pub one_by_one : a ≡ a' → b ≡ b' → c ≡ c' → d ≡ d' → e ≡ e' → f ≡ f' → g ≡ g' → h ≡ h' → i ≡ i' → j ≡ j' → k ≡ k' →
      (laid 0 a b c d e f g h i j k).words ≡ (laid 0 a' b' c' d' e' f' g' h' i' j' k').words
  one_by_one l m n o p q r s t u v = cc

-- the parts of an integer's words
module _ (w : IntegerWords) (x : Integer) (e : w ≡ integer_words x) where
  pub variant_part : w.variant ≡ variant_code x
  variant_part = rw e

  pub low_part : w.value.lo ≡ (wide_of (value x)).lo
  low_part = rw e

  pub high_part : w.value.hi ≡ (wide_of (value x)).hi
  high_part = rw e

-- those of the words of what an atom holds
module _ (v w : NucleusWords) (e : v ≡ w) where
  pub case_part : v.case ≡ w.case
  case_part = rw e

  pub first_part : v.first ≡ w.first
  first_part = rw e

  pub second_part : v.second ≡ w.second
  second_part = rw e

  pub third_part : v.third ≡ w.third
  third_part = rw e

pub ruleset parts =
    (one_by_one, variant_part, low_part, high_part, case_part, first_part, second_part, third_part, rules)
