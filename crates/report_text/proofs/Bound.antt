-- HOW LONG THE TEXT IS: of every file at most 79 bytes, so that the program's buffer has its room. The numbers of a
-- file that was tallied are bounded by its bytes, which demand 3 shows of a list of atoms.
use Rattle.std.specs.Prelude.{Ok, Err}
use mathlib.Core.Path.{◌≡◌, refl, ◌∙◌, sym, ap, subst}
use mathlib.Core.Bool.{Bool, true, false}
use mathlib.Core.List.{List, ◌++◌}
use mathlib.Core.Logic.{⊎_elim}
use Prim.Native.Nat.{ℕ, suc, ◌+◌, ◌%◌, ◌^◌, ◌≤◌, ◌<◌}
use native.Mathlib.Omega.{arith}
use lib.Dec.{ltb, leb}
use lib.ListN.{length, drop, length-append, length-drop}
use borrow.Author.Tests.{ltb-false}
use Rattle.types.specs.Answers.{VersionAnswer}
use Rattle.types.specs.Choice.{pick}
use Rattle.types.specs.Counters.{place_in}
use Rattle.types.specs.Refusals.{refusal_number}
use Rattle.types.specs.Forms.{is_string}
use Rattle.types.specs.declared.Place.{Place}
use Rattle.types.specs.declared.Way.TheVariants as W
use Rattle.types.specs.declared.Refusal.{Refusal}
use Rattle.types.specs.declared.Refusal.TheVariants as R
use Rattle.types.specs.declared.Tallied.{Tallied}
use Rattle.types.specs.declared.TallyAnswer.{TallyAnswer}
use Rattle.types.specs.declared.TallyAnswer.TheVariants as TA
use Rattle.lent.specs.Lent.{written_answer}
use Rattle.lent.proofs.Stores.{answer_room}
use Rattle.header.specs.Header.{header_kind, header_length}
use Rattle.header.specs.Signature.{version_read, version_from, judged, every_bit, big_endian, signature}
use Rattle.letters.specs.Letters.{letters}
use Rattle.dictionary.specs.Wholes.{IsAtom, body_bytes, letters_in, Atoms, none, more, total}
use Rattle.dictionary.specs.Runs.{tally_all}
use Rattle.letters.proofs.Letters.{letters_most}
use Rattle.dictionary.specs.Prices.{priced, Made, Broken}
use Rattle.dictionary.proofs.Price.{atoms_most, price_body, tally_priced, tally_broken}
use Rattle.dictionary.proofs.Price as price
use Rattle.report.specs.Reports.{report_of, report_after, counted, after_signature, most_file_bytes}
use Rattle.report_text.specs.Texts.{ascii, decimal, line, tally_text, counted_text, refused_text, report_text}
use Rattle.report_text.proofs.Decimals.{decimal-most}

-- a line whose number has at most k digits
line_most : (name : List ℕ) (n k : ℕ) → n < 10 ^ suc k → length (line name n) ≤ length name + suc k + 1
line_most name n k h =
    let m = decimal-most k n h in
    rw (length-append name (decimal n ++ ascii "\n"), length-append (decimal n) (ascii "\n")) (omega arith)

-- one part after another
both_most : (xs ys : List ℕ) (m n : ℕ) → length xs ≤ m → length ys ≤ n → length (xs ++ ys) ≤ m + n
both_most xs ys m n h k = rw (length-append xs ys) (omega arith)

-- the tally's numbers, each of at most five digits
record Small (t : Tallied) : Type 0 where
  atoms : t.atoms < 100_000
  body : t.body.0 < 100_000
  charge : t.charge < 100_000
  letters : t.letters < 100_000

tally_most : (t : Tallied) → Small t → length (tally_text t) ≤ 50
unfolding tally_text
tally_most t s =
    both_most (line (ascii "atoms=") t.atoms) _ 12 38 (line_most (ascii "atoms=") t.atoms 4 s.atoms)
    (both_most (line (ascii "body=") t.body.0) _ 11 27 (line_most (ascii "body=") t.body.0 4 s.body)
    (both_most (line (ascii "charge=") t.charge) (line (ascii "letters=") t.letters) 13 14
    (line_most (ascii "charge=") t.charge 4 s.charge) (line_most (ascii "letters=") t.letters 4 s.letters)))

counted_most : (version bytes : ℕ) (t : Tallied) → version < 256 → bytes < 100_000 → Small t →
    length (counted_text version bytes t) ≤ 79
unfolding counted_text
counted_most version bytes t v b s =
    both_most (line (ascii "ok=") 1) _ 5 74 (line_most (ascii "ok=") 1 0 (omega arith))
    (both_most (line (ascii "version=") version) _ 12 62 (line_most (ascii "version=") version 2 (omega arith))
    (both_most (line (ascii "bytes=") bytes) (tally_text t) 12 50 (line_most (ascii "bytes=") bytes 4 b)
    (tally_most t s)))

number_most : (r : Refusal) → refusal_number r < 100
number_most R.IncompatibleVersion = omega arith
number_most (R.InvalidKind code) = omega arith
number_most (R.UnknownSpecial value) = omega arith
number_most R.Eof = omega arith
number_most R.TooManyBytesRead = omega arith
number_most (R.UnsupportedByteCount kind count) = omega arith
number_most (R.UnexpectedKind kind wanted) = omega arith
number_most R.ImpreciseCastWouldLoseData = omega arith
number_most R.NoRoom = omega arith
number_most R.TooLong = omega arith
number_most R.NotShortest = omega arith

refused_most : (r : Refusal) (at : ℕ) → at < 100_000 → length (refused_text r at) ≤ 79
unfolding refused_text
refused_most r at h =
    let three : length (refused_text r at) ≤ 5 + (11 + 9) =
    both_most (line (ascii "ok=") 0) _ 5 20 (line_most (ascii "ok=") 0 0 (omega arith))
    (both_most (line (ascii "refusal=") (refusal_number r)) (line (ascii "at=") at) 11 9
    (line_most (ascii "refusal=") (refusal_number r) 1 (number_most r)) (line_most (ascii "at=") at 4 h))
    in
    omega (arith, three)

-- a sum over atoms, each of which counts no more than its bytes
total_most : (f : List ℕ → ℕ) → ((atom : List ℕ) → IsAtom atom → f atom ≤ length atom) →
    {l : List ℕ} {atoms : List (List ℕ)} → Atoms l atoms → total f atoms ≤ length l
unfolding total
total_most f each none = omega arith
total_most f each (more {atom} {rest} {atoms} w r) =
    let one : f atom ≤ length atom = each atom w in
    let others : total f atoms ≤ length rest = total_most f each r in
    rw (length-append atom rest) (omega arith)

body_most : (atom : List ℕ) → IsAtom atom → body_bytes atom ≤ length atom
body_most atom w = let n = w.its_length in omega arith

letters_cases : (string : Bool) (l : List ℕ) (n : ℕ) → pick string (letters (drop n l)) 0 ≤ length l
letters_cases true l n = let m = letters_most (drop n l) in omega (arith, m, length-drop n l)
letters_cases false l n = omega arith

letters_within : (atom : List ℕ) → IsAtom atom → letters_in atom ≤ length atom
letters_within atom w = letters_cases (is_string (header_kind atom)) atom (header_length atom)

-- what the tally answers of so many bytes: small numbers, or a place among them
abbrev Within : ℕ → TallyAnswer → Type 0
Within n (TA.Done last t) = Small t
Within n (TA.Stopped last r start) = start.0 ≤ n
Within n (TA.Refused last r) = 0 ≤ n

made_small : (s : List ℕ) (m : Made s) → length s ≤ 65_532 → Small (priced m.atoms)
made_small s m h =
    let a = atoms_most m.wholes in
    let b = total_most body_bytes body_most m.wholes in
    let c = price_body m.atoms in
    let l = total_most letters_in letters_within m.wholes in
    record { atoms = omega arith; body = omega arith; charge = omega (arith, b, c); letters = omega arith }

broken_within : (s : List ℕ) (b : Broken s) → length b.front_bytes ≤ length s
broken_within s b =
    let n : length s ≡ length b.front_bytes + length b.rest =
    ap length b.joined ∙ length-append b.front_bytes b.rest
    in
    omega arith

tally_within : (s : List ℕ) → length s ≤ 65_532 → Within (length s) (tally_all s)
tally_within s h =
    ⊎_elim
    (λ (m : Made s). subst (Within (length s)) (sym (tally_priced s m.atoms (omega arith) m.wholes))
    (made_small s m h))
    (λ (b : Broken s). subst (Within (length s)) (sym (tally_broken s b (omega arith))) (broken_within s b))
    (price.judged s)

-- the version is a byte
abbrev version_of : VersionAnswer → ℕ
version_of (Ok (place, version)) = version
version_of (Err (place, r)) = 0

taken_small : (word : ℕ) (place : Place) (t : Bool) →
    version_of (pick t (Ok (place, word % 256)) (Err (place, R.IncompatibleVersion))) < 256
taken_small word place true = omega arith
taken_small word place false = omega arith

whole_small : (word : ℕ) (place end : Place) (t : Bool) →
    version_of (pick t (judged word place) (Err (end, R.Eof))) < 256
whole_small word place end true = taken_small word place (every_bit 32 signature word)
whole_small word place end false = omega arith

version_small : (s : List ℕ) → version_of (version_read W.ExactLent s 0) < 256
unfolding version_from
version_small s =
    let at : ℕ = place_in (length s) 0 in
    whole_small (big_endian (drop at s)) (record { 0 = at + 4 }) (record { 0 = length s }) (leb (at + 4) (length s))

-- the text of what is found
answered_most : (file : List ℕ) (version : ℕ) (a : TallyAnswer) → length file ≤ 65_536 → version < 256 →
    Within (length (after_signature file)) a → length (report_text (counted file version a)) ≤ 79
answered_most file version (TA.Done last t) h v w =
    counted_most version (length (after_signature file)) t v (omega (arith, length-drop 4 file)) w
answered_most file version (TA.Stopped last r start) h v w =
    refused_most r (4 + start.0) (omega (arith, w, length-drop 4 file))
answered_most file version (TA.Refused last r) h v w = refused_most r 0 (omega arith)

signed_most : (file : List ℕ) (a : VersionAnswer) → length file ≤ 65_536 → version_of a < 256 →
    length (report_text (report_after file a)) ≤ 79
signed_most file (Ok (place, version)) h v =
    answered_most file version (tally_all (after_signature file)) h v
    (tally_within (after_signature file) (omega (arith, length-drop 4 file)))
signed_most file (Err (place, r)) h v = refused_most r 0 (omega arith)

judged_most : (file : List ℕ) (t : Bool) → ltb most_file_bytes (length file) ≡ t →
    length (report_text
    (pick t (Err (R.TooLong, record { 0 = 0 })) (report_after file (version_read W.ExactLent file 0)))) ≤ 79
judged_most file true e = refused_most R.TooLong 0 (omega arith)
judged_most file false e =
    signed_most file (version_read W.ExactLent file 0) (ltb-false most_file_bytes (length file) e) (version_small file)

-- THE TEXT OF EVERY FILE HAS AT MOST 79 BYTES; `test_tally` runs a file whose text has so many
pub text_most : (file : List ℕ) → length (report_text (report_of file)) ≤ 79
unfolding report_of
text_most file = judged_most file (ltb most_file_bytes (length file)) refl

-- so that a buffer of that length has its room
pub text_room : (file old : List ℕ) → 79 ≤ length old →
    written_answer (report_text (report_of file)) old ≡ Ok (length (report_text (report_of file)))
text_room file old h = let m = text_most file in answer_room (report_text (report_of file)) old (omega arith)
