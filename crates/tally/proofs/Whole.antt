-- THE TEXT IS THAT OF THE WHOLE FILE: what is read of it decides what is found of it, since all of it is read or more
-- than a file may have.
use Rattle.std.specs.Prelude.{◌≡◌, ℕ, ◌+◌, ◌≤◌, ◌<◌, List, [], ◌++◌, length, take, drop, IfSome, OnOk, Option, Some, None, Result, Ok, Err, ltb, Bool, true, false}
use Rattle.std.specs.Io.KnownBytes.{Consumes, IsAtEnd, Appends}
use mathlib.Core.Path.{refl, ◌∙◌, sym, ap, subst}
use mathlib.Core.List.{append-nil}
use native.Mathlib.Omega.{arith}
use lib.ListN.{length-append}
use lib.Seq.{take-append_seam, length-take-le}
use borrow.Author.Tests.{lt-ltb, ltb-true, ltb-false}
use Rattle.types.specs.declared.Refusal.TheVariants as R
use Rattle.report.specs.Reports.{report_of, most_file_bytes}
use Rattle.lent.specs.Lent.{written_content}
use Rattle.lent.proofs.Stores.{content_room}
use Rattle.report_text.specs.Texts.{report_text}
use Rattle.report_text.proofs.Bound.{text_most}

-- whatever a longer file holds
too_long : (file : List ℕ) → 65_536 < length file → report_of file ≡ Err (R.TooLong, record { 0 = 0 })
unfolding report_of
too_long file h = simp (lt-ltb most_file_bytes (length file) h)

read_part : (part rest file : List ℕ) (all : Bool) → ltb (length part) 65_537 ≡ all →
    (length part < 65_537 → rest ≡ []) → file ≡ part ++ rest → report_of part ≡ report_of file
read_part part rest file true e ended joined =
    ap report_of (sym (joined ∙ ap (λ (l : List ℕ). part ++ l) (ended (ltb-true (length part) 65_537 e)) ∙ append-nil part))
read_part part rest file false e ended joined =
    let m : 65_537 ≤ length part = ltb-false (length part) 65_537 e in
    let n : length file ≡ length part + length rest = ap length joined ∙ length-append part rest in
    too_long part (omega arith) ∙ sym (too_long file (omega arith))

-- of the bytes that the input is known to have
read_known : (known left : Option (List ℕ)) (buffer : List ℕ) (n : ℕ) → length buffer ≡ 65_537 → n ≤ length buffer →
    Consumes known left (take n buffer) → (n < length buffer → IsAtEnd left) →
    IfSome known (λ file. report_of (take n buffer) ≡ report_of file)
read_known None left buffer n room fits read ended = tt
read_known (Some file) None buffer n room fits read ended = absurd read
read_known (Some file) (Some rest) buffer n room fits read ended =
    let l : length (take n buffer) ≡ n = length-take-le n buffer fits in
    read_part (take n buffer) rest file (ltb (length (take n buffer)) 65_537) refl (λ h. ended (omega arith)) read

-- the first bytes of the buffer that the text was written into
text_put : (text old new : List ℕ) → length text ≤ length old → new ≡ written_content text old →
    take (length text) new ≡ text
text_put text old new fits e =
    ap (take (length text)) (e ∙ content_room text old fits) ∙ take-append_seam text (drop (length text) old)

-- what is written, of what is known to be read
told_of : (known old new : Option (List ℕ)) (part text : List ℕ) →
    IfSome known (λ file. report_of part ≡ report_of file) → text ≡ report_text (report_of part) →
    Appends old new text → IfSome known (λ file. Appends old new (report_text (report_of file)))
told_of None old new part text e w a = tt
told_of (Some file) old new part text e w a = subst (Appends old new) (w ∙ ap report_text e) a

module _ (known left : Option (List ℕ)) (buffer : List ℕ) (n : ℕ) (room : length buffer ≡ 65_537)
    (fits : n ≤ length buffer) (read : Consumes known left (take n buffer)) (ended : n < length buffer → IsAtEnd left)
    (empty full : List ℕ) (m : ℕ)
    (long : m ≡ length (report_text (report_of (take n buffer))))
    (filled : full ≡ written_content (report_text (report_of (take n buffer))) empty)
    (space : length empty ≡ 79) where
  text_is : take m full ≡ report_text (report_of (take n buffer))
  text_is =
      let most = text_most (take n buffer) in
      rw long (text_put (report_text (report_of (take n buffer))) empty full (omega arith) filled)

  pub told : {T E : Type 0} (written : Result T E) (old new : Option (List ℕ)) →
      OnOk written (Appends old new (take m full)) →
      OnOk written (IfSome known (λ file. Appends old new (report_text (report_of file))))
  told (Ok done) old new a =
      told_of known old new (take n buffer) (take m full) (read_known known left buffer n room fits read ended) text_is a
  told (Err e) old new a = tt
