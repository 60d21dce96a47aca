-- The ends of the writes: a header byte and then the bytes of a number, or of two words, copied part by part, are the one
-- write of them all. Then the same of bytes that are stored one by one.
use Rattle.std.specs.Prelude.{Ok, Err}
use mathlib.Core.Path.{◌≡◌, refl, ◌∙◌, sym, ap}
use mathlib.Core.List.{List, [], ◌∷◌, ◌++◌, append_assoc}
use Prim.Native.Nat.{ℕ, suc, ◌+◌, ◌-◌, ◌%◌, ◌<◌, ◌≤◌}
use native.Mathlib.Omega.{arith}
use native.Mathlib.Nat.{zero-add}
use borrow.Author.Rules.{rules}
use borrow.Rule.Slice.PartMut.{put_mid}
use lib.ListN.{length, take, drop, set, length-append, length-drop}
use lib.Seq.{sets, sets-eq, take_at, drop_at, drop-drop}
use Rattle.types.specs.Refusals.{no_room}
use Rattle.types.specs.declared.Refusal.{Refusal}
use Rattle.lent.specs.Lent.{written_answer, written_content, copied_over}
use Rattle.lent.proofs.Stores.{answer_short, content_short, answer_room, content_room}
use mir.Syntax.{w64}
use Rattle.std.specs.Int.{to_le_bytes}
use Rattle.little.specs.Le.{to_le}
use Rattle.little.proofs.Machine.{stored_bytes, written_word}
use Rattle.little.proofs.Width.{spread, to_length, to_spread, words_length}

-- how many bytes these are
pub number_count : (first n v : ℕ) → length (first ∷ to_le n v) ≡ 1 + n
number_count first n v = omega (arith, to_length n v)

pub words_count : (first n low m high count : ℕ) → count ≡ suc (n + m) →
    length (first ∷ (to_le n low ++ to_le m high)) ≡ count
words_count first n low m high count e = ap suc (words_length n m low high) ∙ sym e

module _ (bytes old : List ℕ) (count : ℕ) (c : length bytes ≡ count) where
  -- without room: refusal 9, and the buffer as it was
  pub refused : (why : Refusal) → why ≡ no_room count → length old < count → Err why ≡ written_answer bytes old
  refused why e h = ap Err (e ∙ ap no_room (sym c)) ∙ sym (answer_short bytes old (rw c h))

  pub kept : length old < count → old ≡ written_content bytes old
  kept h = sym (content_short bytes old (rw c h))

  -- with room: the count
  pub counted : count ≤ length old → Ok count ≡ written_answer bytes old
  counted h = ap Ok (sym c) ∙ sym (answer_room bytes old (rw c h))

-- a first byte, and then a part with the bytes of a number
pub number_stored : (first n v : ℕ) (old bytes part : List ℕ) → part ≡ take (n - 0) bytes → bytes ≡ to_le_bytes w64 v →
    n ≤ 8 → 1 + n ≤ length old → put_mid 1 (1 + n - 1) (set old 0 first) part ≡ written_content (first ∷ to_le n v) old
unfolding copied_over
number_stored first n v [] bytes part e word few room = absurd (omega arith)
number_stored first n v (b ∷ rest) bytes part e word few room =
    let count : 1 + n - 1 ≡ length (to_le n v) = sym (to_length n v ∙ omega arith) in
    let long : length (first ∷ to_le n v) ≤ length (b ∷ rest) = omega (arith, to_length n v) in
    rw (content_room (first ∷ to_le n v) (b ∷ rest) long, count, stored_bytes n v bytes part e word few) refl

-- a part after a write that had its room
after : (n m : ℕ) (head more bytes old begun : List ℕ) → length head ≡ n → length more ≡ m → n + m ≤ length old →
    begun ≡ written_content head old → bytes ≡ more → put_mid n m begun bytes ≡ written_content (head ++ more) old
after n m head more bytes old begun count counts room is e =
    let whole : length (head ++ more) ≡ n + m = length-append head more ∙ omega arith in
    let front : length head ≤ length old = omega arith in
    let both : length (head ++ more) ≤ length old = omega arith in
    let split : begun ≡ head ++ drop n old =
    is ∙ content_room head old front ∙ ap (λ (k : ℕ). head ++ drop k old) count in
    let taken : take n begun ≡ head = ap (take n) split ∙ take_at head (drop n old) n count in
    let left : drop n begun ≡ drop n old = ap (drop n) split ∙ drop_at head (drop n old) n count in
    let rest : drop m (drop n begun) ≡ drop (n + m) old = ap (drop m) left ∙ drop-drop m n old in
    rw (e, taken, rest, content_room (head ++ more) old both, whole, append_assoc)

-- the bytes of the high word after the header byte and the low word
pub high_stored : (first low high : ℕ) (old begun bytes part : List ℕ) →
    begun ≡ written_content (first ∷ to_le 8 low) old → part ≡ bytes → bytes ≡ to_le_bytes w64 high → 17 ≤ length old →
    put_mid 9 8 begun part ≡ written_content (first ∷ (to_le 8 low ++ to_le 8 high)) old
high_stored first low high old begun bytes part is e word h =
    after 9 8 (first ∷ to_le 8 low) (to_le 8 high) part old begun (ap suc (to_length 8 low)) (to_length 8 high) h is
    (e ∙ word ∙ written_word high)

pub ruleset store_ends = (
  number_count,
  words_count,
  refused,
  kept,
  counted,
  number_stored,
  high_stored,
  rules,
)

-- the bytes of a number, stored from the front
pub number_stored_each : (first n v : ℕ) (old new : List ℕ) → suc n ≤ length old → 0 < n →
    new ≡ sets old 0 (first ∷ (v % 256 ∷ spread (n - 1) v 1)) → new ≡ written_content (first ∷ to_le n v) old
number_stored_each first n v old new h p e =
    let one : suc (n - 1) ≡ n = omega arith in
    let same : v % 256 ∷ spread (n - 1) v 1 ≡ to_le n v = to_spread (n - 1) v ∙ ap (λ (k : ℕ). to_le k v) one in
    let count : length (to_le n v) ≡ n = to_length n v in
    let room : length (first ∷ to_le n v) ≤ length old = omega arith in
    let all : 0 + length (first ∷ to_le n v) ≤ length old = omega arith in
    e ∙ ap (λ (l : List ℕ). sets old 0 (first ∷ l)) same ∙ sets-eq (first ∷ to_le n v) old 0 all
    ∙ ap (λ (k : ℕ). (first ∷ to_le n v) ++ drop k old) (zero-add (length (first ∷ to_le n v)))
    ∙ sym (content_room (first ∷ to_le n v) old room)

-- stores after a write that had its room
after_each : (n : ℕ) (head more bytes old begun : List ℕ) → length head ≡ n → n + length more ≤ length old →
    begun ≡ written_content head old → bytes ≡ more → sets begun n bytes ≡ written_content (head ++ more) old
after_each n head more bytes old begun count room is e =
    let whole : length (head ++ more) ≡ n + length more =
    length-append head more ∙ ap (λ (k : ℕ). k + length more) count in
    let front : length head ≤ length old = omega arith in
    let both : length (head ++ more) ≤ length old = omega arith in
    let split : begun ≡ head ++ drop n old =
    is ∙ content_room head old front ∙ ap (λ (k : ℕ). head ++ drop k old) count in
    let long : n + length more ≤ length begun =
    rw (split, length-append head (drop n old), length-drop n old) (omega arith) in
    let taken : take n begun ≡ head = ap (take n) split ∙ take_at head (drop n old) n count in
    let left : drop n begun ≡ drop n old = ap (drop n) split ∙ drop_at head (drop n old) n count in
    let rest : drop (n + length more) begun ≡ drop (n + length more) old =
    sym (drop-drop (length more) n begun) ∙ ap (drop (length more)) left ∙ drop-drop (length more) n old in
    rw (e, sets-eq more begun n long, taken, rest, content_room (head ++ more) old both, whole, append_assoc)

-- the bytes of the high word, stored after the header byte and the low word
pub high_stored_each : (first n low m high : ℕ) (old begun new : List ℕ) → begun ≡ written_content (first ∷ to_le n low) old →
    new ≡ sets begun (suc n) (high % 256 ∷ spread (m - 1) high 1) → 0 < m → suc (n + m) ≤ length old →
    new ≡ written_content (first ∷ (to_le n low ++ to_le m high)) old
high_stored_each first n low m high old begun new is e p h =
    let one : suc (m - 1) ≡ m = omega arith in
    let same : high % 256 ∷ spread (m - 1) high 1 ≡ to_le m high =
    to_spread (m - 1) high ∙ ap (λ (k : ℕ). to_le k high) one in
    let long : length (to_le m high) ≡ m = to_length m high in
    let room : suc n + length (to_le m high) ≤ length old = omega arith in
    e ∙ after_each (suc n) (first ∷ to_le n low) (to_le m high) _ old begun (ap suc (to_length n low)) room is same
