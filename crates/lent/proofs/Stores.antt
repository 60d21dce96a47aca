-- The laws of a lent buffer that every writer cites: what is written is in front, and the rest is as it was.
use Rattle.std.specs.Prelude.{Ok, Err}
use mathlib.Core.Path.{◌≡◌, ◌∙◌, ap}
use mathlib.Core.List.{List, ◌++◌, append_assoc, append-nil}
use Prim.Native.Nat.{ℕ, suc, ◌+◌, ◌-◌, ◌≤◌, ◌<◌}
use native.Mathlib.Numerals.{add-one}
use native.Mathlib.Omega.{arith}
use lib.ListN.{length, take, drop, set, get_or, length-append, length-drop}
use borrow.Author.Tests.{le-ltb, lt-ltb}
use lib.Seq.{drop-cons, take-suc, set_at, length-take-le, take-length, take-append_seam, drop-append_seam, drop-length}
use lib.Seq.{drop-drop, take_all}
use Rattle.lent.specs.Lent.{written_answer, written_content, copied_over}
use Rattle.types.specs.Refusals.{no_room}

-- without room: refusal 9, and the buffer as it was
pub answer_short : (bytes old : List ℕ) → length old < length bytes →
    written_answer bytes old ≡ Err (no_room (length bytes))
answer_short bytes old h = simp (lt-ltb (length old) (length bytes) h)

pub content_short : (bytes old : List ℕ) → length old < length bytes → written_content bytes old ≡ old
content_short bytes old h = simp (lt-ltb (length old) (length bytes) h)

-- with room: the count, and the bytes in front
pub answer_room : (bytes old : List ℕ) → length bytes ≤ length old → written_answer bytes old ≡ Ok (length bytes)
answer_room bytes old h = simp (le-ltb (length old) (length bytes) h)

pub content_room : (bytes old : List ℕ) → length bytes ≤ length old →
    written_content bytes old ≡ bytes ++ drop (length bytes) old
unfolding copied_over
content_room bytes old h = simp (le-ltb (length old) (length bytes) h)

-- one store more of a buffer whose first i elements are those of s, and the rest as in d
pub copy_more : (d s : List ℕ) (i : ℕ) → i < length s → length s ≤ length d →
    set (take i s ++ drop i d) i (get_or s i 0) ≡ take (i + 1) s ++ drop (i + 1) d
copy_more d s i h k =
    let l : i < length d = omega arith in
    let m : length (take i s) ≡ i = length-take-le i s (omega arith) in
    rw (add-one, drop-cons d i 0)
    (rw (set_at (take i s) (get_or d i 0) (drop (suc i) d) (get_or s i 0) i m, take-suc s i 0, append_assoc))

-- all of them stored
pub copy_done : (d s : List ℕ) (i : ℕ) → i ≡ length s → take i s ++ drop i d ≡ copied_over s d
unfolding copied_over
copy_done d s i e = rw (e, take-length s)

-- A head is written, and then another writer fills the part after it: the whole is the one writing of both.
pub headed : (hd src old xs ys : List ℕ) → length hd + length src ≤ length old → xs ≡ copied_over hd old →
    ys ≡ copied_over src (take (length xs - length hd) (drop (length hd) xs)) →
    take (length hd) xs ++ (ys ++ drop (length xs - length hd) (drop (length hd) xs)) ≡ copied_over (hd ++ src) old
unfolding copied_over
headed hd src old xs ys h e k =
    let rest : List ℕ = drop (length hd) old in
    let t : take (length hd) xs ≡ hd = ap (take (length hd)) e ∙ take-append_seam hd rest in
    let d : drop (length hd) xs ≡ rest = ap (drop (length hd)) e ∙ drop-append_seam hd rest in
    let n : length xs - length hd ≡ length rest =
    ap (λ (l : List ℕ). length l - length hd) e ∙ simp length-append (omega arith)
    in
    let y : ys ≡ src ++ drop (length src) rest = k ∙ rw (d, n, take-length rest) in
    rw (t, d, n, drop-length rest, append-nil, y, length-append hd src)
    (rw (← drop-drop (length src) (length hd) old, append_assoc))

-- the part of a list from a place on, as it is lent, has the length that is left
pub part_length : (xs : List ℕ) (a : ℕ) → length (take (length xs - a) (drop a xs)) ≡ length xs - a
part_length xs a = ap length (take_all (length xs - a) (drop a xs) (simp length-drop (omega arith))) ∙ length-drop a xs
