-- The laws of the string read that every caller cites: when it is taken or refused, and what it delivers.
use Rattle.std.specs.Prelude.{Err}
use mathlib.Core.Path.{◌≡◌, ◌∙◌, ap}
use mathlib.Core.List.{List, ◌++◌}
use Prim.Native.Nat.{ℕ, ◌+◌, ◌≤◌, ◌<◌}
use native.Mathlib.Omega.{arith}
use lib.ListN.{length, drop, length-drop}
use lib.Seq.{length-take-le}
use borrow.Author.Tests.{le-ltb, lt-ltb}
use Rattle.types.specs.Refusals.{no_room}
use Rattle.types.proofs.Counters.{place_within, place_same}
use Rattle.lent.proofs.Stores.{content_room, content_short}
use Rattle.reader.specs.Strings.{start_of, string_of, string_eof, lent_mark, copied_mark, string_read, lent_string, copied_string, copied_scratch}

-- a place is within the source
pub start_within : (s : List ℕ) (place : ℕ) → start_of s place ≤ length s
start_within s place = place_within (length s) place

-- and is itself if it is given so
pub start_same : (s : List ℕ) (place : ℕ) → place ≤ length s → start_of s place ≡ place
start_same s place h = place_same (length s) place h

module _ (s : List ℕ) (place n : ℕ) where
  -- the string has its length where the source does not run out
  pub string_length : start_of s place + n ≤ length s → length (string_of s place n) ≡ n
  string_length h = length-take-le n (drop (start_of s place) s) (rw length-drop (omega arith))

  pub lent_read : start_of s place + n ≤ length s →
      lent_string s place n ≡ string_read s place n (lent_mark (start_of s place) n)
  unfolding lent_string
  lent_read h = simp (le-ltb (length s) (start_of s place + n) h)

  pub lent_eof : length s < start_of s place + n → lent_string s place n ≡ string_eof s
  unfolding lent_string
  lent_eof h = simp (lt-ltb (length s) (start_of s place + n) h)

module _ (s : List ℕ) (place n : ℕ) (scratch : List ℕ) where
  pub copied_read : start_of s place + n ≤ length s → n ≤ length scratch →
      copied_string s place n scratch ≡ string_read s place n (copied_mark n)
  unfolding copied_string
  copied_read h r = simp (le-ltb (length s) (start_of s place + n) h, le-ltb (length scratch) n r)

  pub copied_no_room : start_of s place + n ≤ length s → length scratch < n →
      copied_string s place n scratch ≡ Err (record { 0 = start_of s place }, no_room n)
  unfolding copied_string
  copied_no_room h r = simp (le-ltb (length s) (start_of s place + n) h, lt-ltb (length scratch) n r)

  pub copied_eof : length s < start_of s place + n → copied_string s place n scratch ≡ string_eof s
  unfolding copied_string
  copied_eof h = simp (lt-ltb (length s) (start_of s place + n) h)

  pub scratch_read : start_of s place + n ≤ length s → n ≤ length scratch →
      copied_scratch s place n scratch ≡ string_of s place n ++ drop n scratch
  unfolding copied_scratch
  scratch_read h r =
      let l : length (string_of s place n) ≡ n = string_length s place n h in
      let room : length (string_of s place n) ≤ length scratch = omega arith in
      simp (le-ltb (length s) (start_of s place + n) h)
      (content_room (string_of s place n) scratch room ∙ ap (λ (k : ℕ). string_of s place n ++ drop k scratch) l)

  pub scratch_no_room : start_of s place + n ≤ length s → length scratch < n → copied_scratch s place n scratch ≡ scratch
  unfolding copied_scratch
  scratch_no_room h r =
      let l : length (string_of s place n) ≡ n = string_length s place n h in
      let short : length scratch < length (string_of s place n) = omega arith in
      simp (le-ltb (length s) (start_of s place + n) h) (content_short (string_of s place n) scratch short)

  pub scratch_eof : length s < start_of s place + n → copied_scratch s place n scratch ≡ scratch
  unfolding copied_scratch
  scratch_eof h = simp (lt-ltb (length s) (start_of s place + n) h)
