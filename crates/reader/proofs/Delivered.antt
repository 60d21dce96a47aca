-- The laws of the string read over every way, for the layers above: when it is taken, what it delivers, where the place
-- is after it, and that a string which stands in the source is read back.
use Rattle.std.specs.Prelude.{Ok, Err}
use mathlib.Core.Path.{◌≡◌, refl, ◌∙◌, sym, ap}
use mathlib.Core.Bool.{Bool, true, false, false≢true}
use mathlib.Core.List.{List, ◌++◌}
use Prim.Native.Nat.{ℕ, ◌+◌, ◌≤◌, ◌<◌}
use native.Mathlib.Omega.{arith}
use lib.Dec.{ltb}
use lib.ListN.{length, take, drop, length-append}
use lib.Seq.{take_at, take-append_seam, drop-append_seam}
use borrow.Author.Tests.{ltb-true, ltb-false}
use Rattle.types.proofs.Answers.{same_ok}
use Rattle.types.specs.Refusals.{no_room}
use Rattle.types.specs.declared.Mark.{Mark}
use Rattle.types.specs.declared.Place.{Place}
use Rattle.types.specs.declared.Way.{Way}
use Rattle.types.specs.declared.Way.TheVariants as W
use Rattle.reader.specs.Parts.{marked_bytes, part_of}
use Rattle.reader.specs.Strings.{start_of, string_of, string_eof, string_read, lent_mark, copied_mark, copied_scratch, string_answer, string_scratch, string_mark, scratch_needed, string_place}
use Rattle.reader.proofs.Parts.{part_within, marked_lent, marked_copied}
use Rattle.reader.proofs.Strings.{start_within, start_same, string_length, lent_read, lent_eof, copied_read, copied_no_room, copied_eof, scratch_read, scratch_no_room, scratch_eof}

-- Whole, with its scratch: the string is read.
pub string_read_lem : (way : Way) (s : List ℕ) (place n : ℕ) (scratch : List ℕ) → start_of s place + n ≤ length s →
    scratch_needed way n ≤ length scratch →
    string_answer way s place n scratch ≡ string_read s place n (string_mark way (start_of s place) n)
string_read_lem W.Filled s place n scratch h r = lent_read s place n h
string_read_lem W.ExactLent s place n scratch h r = lent_read s place n h
string_read_lem W.ExactCopied s place n scratch h r = copied_read s place n scratch h r

-- Cut by the end: refusal 4 at the end, and the scratch as it was.
pub string_eof_lem : (way : Way) (s : List ℕ) (place n : ℕ) (scratch : List ℕ) → length s < start_of s place + n →
    (string_answer way s place n scratch ≡ string_eof s) × (string_scratch way s place n scratch ≡ scratch)
string_eof_lem W.Filled s place n scratch h = (lent_eof s place n h, refl)
string_eof_lem W.ExactLent s place n scratch h = (lent_eof s place n h, refl)
string_eof_lem W.ExactCopied s place n scratch h = (copied_eof s place n scratch h, scratch_eof s place n scratch h)

-- Whole, and longer than the scratch: refusal 9 where it starts, and the scratch as it was.
pub string_no_room : (way : Way) (s : List ℕ) (place n : ℕ) (scratch : List ℕ) → start_of s place + n ≤ length s →
    length scratch < scratch_needed way n →
    (string_answer way s place n scratch ≡ Err (record { 0 = start_of s place }, no_room n)) ×
    (string_scratch way s place n scratch ≡ scratch)
string_no_room W.Filled s place n scratch h r = absurd (omega arith)
string_no_room W.ExactLent s place n scratch h r = absurd (omega arith)
string_no_room W.ExactCopied s place n scratch h r =
    (copied_no_room s place n scratch h r, scratch_no_room s place n scratch h r)

-- A mark resolves to the string, lent or copied.
lent_delivered : (s : List ℕ) (place n : ℕ) (scratch : List ℕ) → start_of s place + n ≤ length s →
    marked_bytes (lent_mark (start_of s place) n) s scratch ≡ string_of s place n
lent_delivered s place n scratch h = marked_lent (start_of s place) n s scratch ∙ part_within s (start_of s place) n h

copied_delivered : (s : List ℕ) (place n : ℕ) (scratch : List ℕ) → start_of s place + n ≤ length s → n ≤ length scratch →
    marked_bytes (copied_mark n) s (copied_scratch s place n scratch) ≡ string_of s place n
copied_delivered s place n scratch h r =
    let full : List ℕ = string_of s place n ++ drop n scratch in
    let l : length (string_of s place n) ≡ n = string_length s place n h in
    let room : 0 + n ≤ length full = rw length-append (omega arith) in
    marked_copied 0 n s (copied_scratch s place n scratch)
    ∙ (ap (λ (x : List ℕ). part_of x 0 n) (scratch_read s place n scratch h r)
    ∙ (part_within full 0 n room ∙ take_at (string_of s place n) (drop n scratch) n l))

pub string_delivered : (way : Way) (s : List ℕ) (place n : ℕ) (scratch : List ℕ) → start_of s place + n ≤ length s →
    scratch_needed way n ≤ length scratch →
    marked_bytes (string_mark way (start_of s place) n) s (string_scratch way s place n scratch) ≡ string_of s place n
string_delivered W.Filled s place n scratch h r = lent_delivered s place n scratch h
string_delivered W.ExactLent s place n scratch h r = lent_delivered s place n scratch h
string_delivered W.ExactCopied s place n scratch h r = copied_delivered s place n scratch h r

-- The three cases of a string read.
pub data Outcome (way : Way) (s : List ℕ) (place n : ℕ) (scratch : List ℕ) : Type 0 where
  whole : start_of s place + n ≤ length s → scratch_needed way n ≤ length scratch → Outcome way s place n scratch
  cut : length s < start_of s place + n → Outcome way s place n scratch
  cramped : start_of s place + n ≤ length s → length scratch < scratch_needed way n → Outcome way s place n scratch

outcome_by : (way : Way) (s : List ℕ) (place n : ℕ) (scratch : List ℕ) (t u : Bool) →
    ltb (length s) (start_of s place + n) ≡ t → ltb (length scratch) (scratch_needed way n) ≡ u →
    Outcome way s place n scratch
outcome_by way s place n scratch true u e d = cut (ltb-true _ _ e)
outcome_by way s place n scratch false true e d = cramped (ltb-false _ _ e) (ltb-true _ _ d)
outcome_by way s place n scratch false false e d = whole (ltb-false _ _ e) (ltb-false _ _ d)

pub outcome : (way : Way) (s : List ℕ) (place n : ℕ) (scratch : List ℕ) → Outcome way s place n scratch
outcome way s place n scratch =
    outcome_by way s place n scratch (ltb (length s) (start_of s place + n)) (ltb (length scratch) (scratch_needed way n))
    refl refl

-- The place never falls and never passes the end.
forward_by : (way : Way) (s : List ℕ) (place n : ℕ) (scratch : List ℕ) → Outcome way s place n scratch →
    (start_of s place ≤ string_place (string_answer way s place n scratch)) ×
    (string_place (string_answer way s place n scratch) ≤ length s)
forward_by way s place n scratch (whole h r) = rw (string_read_lem way s place n scratch h r) (omega arith)
forward_by way s place n scratch (cut h) = let w = start_within s place in
    rw (string_eof_lem way s place n scratch h).0 (omega arith)
forward_by way s place n scratch (cramped h r) = let w = start_within s place in
    rw (string_no_room way s place n scratch h r).0 (omega arith)

pub string_forward : (way : Way) (s : List ℕ) (place n : ℕ) (scratch : List ℕ) →
    (start_of s place ≤ string_place (string_answer way s place n scratch)) ×
    (string_place (string_answer way s place n scratch) ≤ length s)
string_forward way s place n scratch = forward_by way s place n scratch (outcome way s place n scratch)

-- A string that was read was whole, ends at the place after it, and its mark resolves to its bytes.
taken_by : (way : Way) (s : List ℕ) (place n : ℕ) (scratch : List ℕ) (p : Place) (m : Mark) →
    Outcome way s place n scratch → string_answer way s place n scratch ≡ Ok (p, m) →
    (start_of s place + n ≤ length s) × (p.0 ≡ start_of s place + n) ×
    (marked_bytes m s (string_scratch way s place n scratch) ≡ string_of s place n)
taken_by way s place n scratch p m (whole h r) e =
    let a = string_read_lem way s place n scratch h r in
    let d = string_delivered way s place n scratch h r in
    let b = same_ok (sym e ∙ a) in (
      h,
      ap (λ (x : Place × Mark). x.0.0) b,
      ap (λ (x : Place × Mark). marked_bytes x.1 s (string_scratch way s place n scratch)) b ∙ d,
    )
taken_by way s place n scratch p m (cut h) e = let a = (string_eof_lem way s place n scratch h).0 in absurd (false≢true cc)
taken_by way s place n scratch p m (cramped h r) e = let a = (string_no_room way s place n scratch h r).0 in
    absurd (false≢true cc)

pub string_taken : (way : Way) (s : List ℕ) (place n : ℕ) (scratch : List ℕ) (p : Place) (m : Mark) →
    string_answer way s place n scratch ≡ Ok (p, m) →
    (start_of s place + n ≤ length s) × (p.0 ≡ start_of s place + n) ×
    (marked_bytes m s (string_scratch way s place n scratch) ≡ string_of s place n)
string_taken way s place n scratch p m e = taken_by way s place n scratch p m (outcome way s place n scratch) e

-- Where two ways both read a string, place and bytes are the same, lent or copied.
pub ways_agree : (v w : Way) (s : List ℕ) (place n : ℕ) (a b : List ℕ) (p q : Place) (k m : Mark) →
    string_answer v s place n a ≡ Ok (p, k) → string_answer w s place n b ≡ Ok (q, m) →
    (p.0 ≡ q.0) × (marked_bytes k s (string_scratch v s place n a) ≡ marked_bytes m s (string_scratch w s place n b))
ways_agree v w s place n a b p q k m e f =
    let x = string_taken v s place n a p k e in
    let y = string_taken w s place n b q m f in
    (x.1 ∙ sym y.1, x.2 ∙ sym y.2)

-- A string that stands in the source, with anything before and after it, reads as itself at the place just past it.
module _ (s before bytes after : List ℕ) (e : s ≡ before ++ (bytes ++ after)) where
  stands : length before + length bytes ≤ length s
  stands = let l = simp length-append at (ap length e) in omega arith

  pub back_start : start_of s (length before) ≡ length before
  back_start = start_same s (length before) (let h = stands in omega arith)

  pub back_whole : start_of s (length before) + length bytes ≤ length s
  back_whole = rw back_start stands

  pub back_string : string_of s (length before) (length bytes) ≡ bytes
  back_string =
      ap (λ (k : ℕ). take (length bytes) (drop k s)) back_start
      ∙ (ap (λ (l : List ℕ). take (length bytes) (drop (length before) l)) e
      ∙ (ap (take (length bytes)) (drop-append_seam before (bytes ++ after)) ∙ take-append_seam bytes after))

  pub string_back : (way : Way) (scratch : List ℕ) → scratch_needed way (length bytes) ≤ length scratch →
      (string_answer way s (length before) (length bytes) scratch
      ≡ Ok (record { 0 = length before + length bytes }, string_mark way (length before) (length bytes))) ×
      (marked_bytes (string_mark way (length before) (length bytes)) s
      (string_scratch way s (length before) (length bytes) scratch) ≡ bytes)
  string_back way scratch r = (
    string_read_lem way s (length before) (length bytes) scratch back_whole r
        ∙ ap (λ (k : ℕ). Ok (record { 0 = k + length bytes }, string_mark way k (length bytes))) back_start,
    ap (λ (k : ℕ). marked_bytes (string_mark way k (length bytes)) s
        (string_scratch way s (length before) (length bytes) scratch)) (sym back_start)
        ∙ (string_delivered way s (length before) (length bytes) scratch back_whole r ∙ back_string),
  )
