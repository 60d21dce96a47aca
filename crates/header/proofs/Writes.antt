-- The ends of the writers of a header and of a signature.
use Rattle.std.specs.Prelude.{Result, Ok, Err}
use mathlib.Core.Path.{◌≡◌, refl, ◌∙◌, sym, ap}
use mathlib.Core.Bool.{Bool, true, false}
use mathlib.Core.List.{List, [], ◌∷◌, ◌++◌}
use Prim.Native.Nat.{ℕ, ◌+◌, ◌-◌, ◌*◌, ◌/◌, ◌%◌, ◌^◌, ◌≤◌, ◌<◌}
use native.Mathlib.Omega.{arith}
use borrow.Author.Rules.{rules}
use borrow.Author.Tests.{lt-ltb, ltb-true, ltb-false}
use lib.Dec.{T, ltb, ltb→lt}
use lib.ListN.{length, take, drop, set, length-set}
use lib.Seq.{sets-eq}
use Rattle.types.specs.Kinds.{kind_code}
use Rattle.types.specs.Refusals.{no_room}
use Rattle.types.specs.declared.Kind.{Kind}
use Rattle.types.specs.declared.Refusal.{Refusal}
use Rattle.lent.specs.Lent.{written_answer, written_content, copied_over}
use Rattle.lent.proofs.Stores.{part_length, headed}
use Rattle.lent.proofs.Ends.{short_answer, short_content, room_answer, room_content}
use Rattle.header.specs.Header.{header_bytes, later_bytes}
use Rattle.header.specs.Signature.{signature_bytes}
use Rattle.header.proofs.Answers.{pot, bytes_one, bytes_more}
use Rattle.header.proofs.Fewest.{few}

-- how many bytes a header takes: one, or one more than its later part
module _ (kind : Kind) (arg : ℕ) where
  pub length_one : arg < 16 → 1 ≡ length (header_bytes kind arg)
  length_one h = rw (bytes_one kind arg h) refl

  pub length_more : (later : ℕ) → 16 ≤ arg → later ≡ length (later_bytes 9 (arg / 16)) →
      later + 1 ≡ length (header_bytes kind arg)
  length_more later h e = rw (bytes_more kind arg h) (omega arith)

pub length_ten : (later : ℕ) → later ≤ 9 → later + 1 ≤ 10
length_ten later h = omega arith

pub ruleset length_ends = (length_one, length_more, length_ten, rules)

-- a header of one byte, which another writer wrote
module _ (kind : Kind) (arg code : ℕ) (old : List ℕ) (h : arg < 16) (c : code ≡ kind_code kind) where
  byte : (code * 32 + arg) ∷ [] ≡ header_bytes kind arg
  byte = rw (bytes_one kind arg h, c) refl

  pub one_answer : (r : Result ℕ Refusal) → r ≡ written_answer ((code * 32 + arg) ∷ []) old →
      r ≡ written_answer (header_bytes kind arg) old
  one_answer r w = w ∙ ap (λ (l : List ℕ). written_answer l old) byte

  pub one_content : (new : List ℕ) → new ≡ written_content ((code * 32 + arg) ∷ []) old →
      new ≡ written_content (header_bytes kind arg) old
  one_content new w = w ∙ ap (λ (l : List ℕ). written_content l old) byte

-- one of more: its later part is that of a number below 128 ^ 9
pub rest_low : (arg : ℕ) → arg < 2 ^ 64 → arg / 16 < 128 ^ 9
rest_low arg h = omega arith

-- it has room, or not: ten bytes are room for any, and else its later part is counted
module _ (rest room : ℕ) where
  pub ten_room : rest < 128 ^ 9 → 10 ≤ room → true ≡ ltb (length (later_bytes 9 rest)) room
  ten_room low h = let f = few 8 9 rest low in sym (lt-ltb (length (later_bytes 9 rest)) room (omega arith))

  pub counted_room : (later : ℕ) → later ≡ length (later_bytes 9 rest) →
      ltb later room ≡ ltb (length (later_bytes 9 rest)) room
  counted_room later e = ap (λ (n : ℕ). ltb n room) e

pub ruleset room_ends = (ten_room, counted_room, rules)

module _ (arg : ℕ) (old : List ℕ) (fits : Bool) (f : fits ≡ ltb (length (later_bytes 9 (arg / 16))) (length old)) where
  -- it has none, and the buffer is as it was
  module _ (no : fits ≡ false) (kind : Kind) (h : 16 ≤ arg) where
    short : length old < length (later_bytes 9 (arg / 16)) + 1
    short = let l = ltb-false (length (later_bytes 9 (arg / 16))) (length old) (sym f ∙ no) in omega arith

    pub long_refused : (later : ℕ) (why : Refusal) → later ≡ length (later_bytes 9 (arg / 16)) →
        why ≡ no_room (later + 1) → Err why ≡ written_answer (header_bytes kind arg) old
    long_refused later why l e =
        let s = short in
        short_answer (header_bytes kind arg) old (later + 1) (omega arith) (length_more kind arg later h l) why e

    pub long_kept : old ≡ written_content (header_bytes kind arg) old
    long_kept = short_content (header_bytes kind arg) old _ short (length_more kind arg _ h refl)

  -- it has room, where another writer wrote it
  module _ (yes : fits ≡ true) where
    pub long_room : length (later_bytes 9 (arg / 16)) < length old
    long_room = ltb-true (length (later_bytes 9 (arg / 16))) (length old) (sym f ∙ yes)

    module _ (kind : Kind) (h : 16 ≤ arg) where
      enough : length (header_bytes kind arg) ≤ length old
      enough = let r = long_room in rw (bytes_more kind arg h) (omega arith)

      pub long_answer : (count : ℕ) → count ≡ length (later_bytes 9 (arg / 16)) + 1 →
          Ok count ≡ written_answer (header_bytes kind arg) old
      long_answer count e =
          let n = e ∙ length_more kind arg (length (later_bytes 9 (arg / 16))) h refl in
          let r = enough in
          room_answer (header_bytes kind arg) old count n (omega arith)

      pub long_content : (code : ℕ) (new : List ℕ) → code ≡ kind_code kind →
          new ≡ copied_over ((code * 32 + 16 + arg % 16) ∷ later_bytes 9 (arg / 16)) old →
          new ≡ written_content (header_bytes kind arg) old
      long_content code new c e = room_content (header_bytes kind arg) old new enough (rw (bytes_more kind arg h, ← c) e)

pub ruleset atom_header_ends =
    (one_answer, one_content, rest_low, long_room, long_refused, long_kept, long_answer, long_content, rules)

-- its first byte, and after that its later part
module _ (rest first : ℕ) (old : List ℕ) (room : length (later_bytes 9 rest) < length old) where
  pub after_first_lem : 1 ≤ length (set old 0 first)
  after_first_lem = simp length-set (omega arith)

  pub later_room : length (later_bytes 9 rest) ≤ length (take (length (set old 0 first) - 1) (drop 1 (set old 0 first)))
  later_room = rw (part_length (set old 0 first) 1, length-set old 0 first) (omega arith)

  pub both_written : (new : List ℕ) →
      new ≡ copied_over (later_bytes 9 rest) (take (length (set old 0 first) - 1) (drop 1 (set old 0 first))) →
      take 1 (set old 0 first) ++ (new ++ drop (length (set old 0 first) - 1) (drop 1 (set old 0 first)))
      ≡ copied_over (first ∷ later_bytes 9 rest) old
  unfolding copied_over
  both_written new e =
      headed (first ∷ []) (later_bytes 9 rest) old (set old 0 first) new (omega arith)
      (sets-eq (first ∷ []) old 0 (omega arith)) e

pub same_size : (old new : List ℕ) (first : ℕ) → length new ≡ length (set old 0 first) → length new ≡ length old
same_size old new first e = e ∙ length-set old 0 first

pub ruleset long_ends = (after_first_lem, later_room, both_written, same_size, rules)

-- a signature
module _ (version : ℕ) (old : List ℕ) where
  pub signature_length_lem : 4 ≡ length (signature_bytes version)
  unfolding signature_bytes
  signature_length_lem = refl

  module _ (room : 4 ≤ length old) where
    pub signature_room : (i : ℕ) → T (ltb i 4) → i < length old
    signature_room i t = let h = ltb→lt i 4 t in omega arith

    pub signature_content : version < 256 →
        set (set (set (set old 0 0x50) 1 0x6F) 2 0x74) 3 version ≡ written_content (signature_bytes version) old
    unfolding copied_over
    signature_content h =
        let bytes = pot version h in
        let front = sets-eq (0x50 ∷ 0x6F ∷ 0x74 ∷ version ∷ []) old 0 room in
        room_content (signature_bytes version) old _ (rw bytes room) (rw bytes front)

pub ruleset signature_ends =
    (signature_length_lem, signature_room, signature_content, short_answer, short_content, room_answer, rules)
