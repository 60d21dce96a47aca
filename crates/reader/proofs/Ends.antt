-- The ends of the reads that move bytes: what the code has in hand at each return, and what it answers there. The code
-- subtracts a start from the length where the definitions add, since a sum may not fit a usize.
use Rattle.std.specs.Prelude.{Ok, Err}
use mathlib.Core.Path.{◌≡◌}
use mathlib.Core.Bool.{Bool, true, false, and-false}
use mathlib.Core.List.{List}
use Prim.Native.Nat.{ℕ, ◌+◌, ◌-◌, ◌≤◌, ◌<◌, min}
use native.Mathlib.Omega.{arith}
use borrow.Author.Rules.{rules}
use borrow.Author.Tests.{le-ltb, lt-ltb}
use lib.ListN.{length, take, drop, length-drop}
use lib.Seq.{length-take-le}
use Rattle.std.proofs.lemmas.List.{take_min, length-take}
use Rattle.types.specs.Answers.{RawAnswer}
use Rattle.types.specs.Refusals.{no_room}
use Rattle.types.specs.Ways.{exact}
use Rattle.types.specs.declared.Mark.{Mark}
use Rattle.types.specs.declared.Refusal.{Refusal}
use Rattle.types.specs.declared.Refusal.TheVariants as R
use Rattle.types.specs.declared.Way.{Way}
use Rattle.lent.specs.Lent.{copied_over}
use Rattle.reader.specs.Parts.{part_of, pointer_of, marked_bytes, marked_pointer}
use Rattle.reader.specs.Strings.{start_of, lent_mark, copied_mark, lent_string, copied_string, copied_scratch}
use Rattle.reader.specs.Raw.{raw_answer, raw_buffer, raw_exactly, raw_exactly_buffer}

-- the part that a mark says: of the source, and of the scratch
module _ (mark : Mark) (source scratch : List ℕ) where
  module _ (lent : mark.lent ≡ true) where
    pub source_bytes : (r : List ℕ) → r ≡ part_of source mark.start mark.len → r ≡ marked_bytes mark source scratch
    unfolding marked_bytes
    source_bytes r e = simp lent e

    pub source_pointer : (p q r : ℕ × ℕ) → r ≡ pointer_of p source mark.start mark.len →
        r ≡ marked_pointer mark p q source scratch
    unfolding marked_pointer
    source_pointer p q r e = simp lent e

  module _ (copied : mark.lent ≡ false) where
    pub scratch_bytes : (r : List ℕ) → r ≡ part_of scratch mark.start mark.len →
        r ≡ marked_bytes mark source scratch
    unfolding marked_bytes
    scratch_bytes r e = simp copied e

    pub scratch_pointer : (p q r : ℕ × ℕ) → r ≡ pointer_of q scratch mark.start mark.len →
        r ≡ marked_pointer mark p q source scratch
    unfolding marked_pointer
    scratch_pointer p q r e = simp copied e

pub ruleset part_ends = (source_bytes, source_pointer, scratch_bytes, scratch_pointer, rules)

-- a read at a place
module _ (s : List ℕ) (place at : ℕ) (e : at ≡ start_of s place) (w : at ≤ length s) where
  -- a string: it is whole, or cut by the end
  module _ (n : ℕ) where
    module _ (h : n ≤ length s - at) where
      fits : length (take n (drop at s)) ≡ n
      fits = length-take-le n (drop at s) (rw length-drop h)

      pub lent_taken : Ok (record { 0 = at + n }, lent_mark at n) ≡ lent_string s place n
      unfolding lent_string
      lent_taken = cc (le-ltb (length s) (at + n) (omega arith))

      -- it is copied: the scratch has room for it, or not
      module _ (scratch : List ℕ) (room : n ≤ length scratch) where
        pub copied_taken : Ok (record { 0 = at + n }, copied_mark n) ≡ copied_string s place n scratch
        unfolding copied_string
        copied_taken = cc (le-ltb (length s) (at + n) (omega arith), le-ltb (length scratch) n room)

        pub copied_scratch_lem : (new : List ℕ) →
            new ≡ copied_over (take (at + n - at) (drop at s)) scratch → new ≡ copied_scratch s place n scratch
        unfolding copied_scratch
        copied_scratch_lem new k =
            let l : at + n - at ≡ n = omega arith in
            let f = fits in
            let r = le-ltb (length scratch) (length (take n (drop at s))) (omega arith) in
            cc (l, le-ltb (length s) (at + n) (omega arith), r)

      module _ (scratch : List ℕ) (short : length scratch < n) where
        pub copied_no_room : (why : Refusal) → why ≡ no_room n →
            Err (record { 0 = at }, why) ≡ copied_string s place n scratch
        unfolding copied_string
        copied_no_room why r = cc (le-ltb (length s) (at + n) (omega arith), lt-ltb (length scratch) n short)

        pub no_room_scratch : scratch ≡ copied_scratch s place n scratch
        unfolding copied_scratch
        no_room_scratch =
            let f = fits in
            let r = lt-ltb (length scratch) (length (take n (drop at s))) (omega arith) in
            cc (le-ltb (length s) (at + n) (omega arith), r)

    module _ (h : length s - at < n) where
      pub lent_ended : Err (record { 0 = length s }, R.Eof) ≡ lent_string s place n
      unfolding lent_string
      lent_ended = cc (lt-ltb (length s) (at + n) (omega arith))

      pub copied_ended : (scratch : List ℕ) → Err (record { 0 = length s }, R.Eof) ≡ copied_string s place n scratch
      unfolding copied_string
      copied_ended scratch = cc (lt-ltb (length s) (at + n) (omega arith))

      pub ended_scratch : (scratch : List ℕ) → scratch ≡ copied_scratch s place n scratch
      unfolding copied_scratch
      ended_scratch scratch = cc (lt-ltb (length s) (at + n) (omega arith))

  -- raw bytes: as many as the buffer holds, or as are left
  module _ (buffer : List ℕ) where
    module _ (count : ℕ) (c : count ≡ min (length buffer) (length s - at)) where
      pub read_answer : Ok (record { 0 = at + count }, count) ≡ raw_answer s place buffer
      unfolding raw_answer
      read_answer = cc (length-take (length buffer) (drop at s), length-drop at s)

      pub read_buffer : (new : List ℕ) → new ≡ copied_over (take (at + count - at) (drop at s)) buffer →
          new ≡ raw_buffer s place buffer
      unfolding raw_buffer
      read_buffer new k =
          let n : at + count - at ≡ count = omega arith in
          cc (n, take_min (length buffer) (drop at s), length-drop at s)

    -- to be filled whole: the read serves both ways
    module _ (way : Way) where
      module _ (h : length buffer ≤ length s - at) where
        pub whole_answer : (r : RawAnswer) → r ≡ raw_answer s place buffer → r ≡ raw_exactly way s place buffer
        unfolding raw_exactly
        whole_answer r k = rw (← e) (simp (le-ltb (length s) (at + length buffer) (omega arith), and-false) k)

        pub whole_buffer : (new : List ℕ) → new ≡ raw_buffer s place buffer → new ≡ raw_exactly_buffer way s place buffer
        unfolding raw_exactly_buffer
        whole_buffer new k = rw (← e) (simp (le-ltb (length s) (at + length buffer) (omega arith), and-false) k)

      -- fewer bytes are left: exact reading refuses
      module _ (exactly : Bool) (x : exactly ≡ exact way) where
        module _ (y : exactly ≡ true) (h : length s - at < length buffer) where
          pub exact_answer : Err (record { 0 = length s }, R.Eof) ≡ raw_exactly way s place buffer
          unfolding raw_exactly
          exact_answer = cc (lt-ltb (length s) (at + length buffer) (omega arith))

          pub exact_buffer : buffer ≡ raw_exactly_buffer way s place buffer
          unfolding raw_exactly_buffer
          exact_buffer = cc (lt-ltb (length s) (at + length buffer) (omega arith))

        -- and filled reading takes these
        module _ (y : exactly ≡ false) where
          pub filled_answer : (r : RawAnswer) → r ≡ raw_answer s place buffer → r ≡ raw_exactly way s place buffer
          unfolding raw_exactly
          filled_answer r k = cc

          pub filled_buffer : (new : List ℕ) → new ≡ raw_buffer s place buffer →
              new ≡ raw_exactly_buffer way s place buffer
          unfolding raw_exactly_buffer
          filled_buffer new k = cc

pub ruleset lent_ends = (lent_taken, lent_ended, rules)

pub ruleset copied_ends =
    (copied_taken, copied_scratch_lem, copied_no_room, no_room_scratch, copied_ended, ended_scratch, rules)

pub ruleset raw_ends = (read_answer, read_buffer, rules)

pub ruleset exactly_ends =
    (whole_answer, whole_buffer, exact_answer, exact_buffer, filled_answer, filled_buffer, rules)
