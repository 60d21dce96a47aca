-- The ends of the writers of specials, of an integer of any variant, and of strings.
use Rattle.std.specs.Prelude.{Ok, Err}
use mathlib.Core.Path.{◌≡◌, ◌∙◌, sym, ap}
use mathlib.Core.List.{List, ◌++◌}
use Prim.Native.Nat.{ℕ, ◌+◌, ◌-◌, ◌≤◌, ◌<◌}
use native.Mathlib.Omega.{arith}
use borrow.Author.Rules.{rules}
use lib.ListN.{length, take, drop, length-append}
use Rattle.types.specs.Refusals.{no_room}
use Rattle.types.specs.declared.Kind.{Kind}
use Rattle.types.specs.declared.Kind.TheVariants as K
use Rattle.types.specs.declared.Integer.{Integer}
use Rattle.types.specs.declared.Refusal.{Refusal}
use Rattle.lent.specs.Lent.{written_answer, written_content, copied_over}
use Rattle.lent.proofs.Stores.{headed, answer_short, content_short, answer_room, content_room}
use Rattle.header.specs.Header.{header_bytes}
use Rattle.writers.specs.Bytes.{value_bytes, bytes_bytes}
use Rattle.writers.proofs.Wrote.{writes}
use Rattle.writers.proofs.Ends.{given_same}

-- an integer that is of this variant
pub of_variant : (integer variant : Integer) (bytes : List ℕ) → integer ≡ variant → bytes ≡ value_bytes variant →
    bytes ≡ value_bytes integer
of_variant integer variant bytes e b = b ∙ ap value_bytes (sym e)

pub ruleset variant_ends = (of_variant, given_same, writes, rules)

-- a string, whose header takes so many bytes
module _ (value old : List ℕ) (head : ℕ) (h : (kind : Kind) → head ≡ length (header_bytes kind (length value))) where
  whole : head + length value ≡ length (bytes_bytes value)
  whole = ap (λ (n : ℕ). n + length value) (h K.Bytes) ∙ sym (length-append (header_bytes K.Bytes (length value)) value)

  -- no room for both
  module _ (short : length old < head + length value) where
    pub string_refused : (why : Refusal) → why ≡ no_room (head + length value) →
        Err why ≡ written_answer (bytes_bytes value) old
    string_refused why e =
        ap Err (e ∙ ap no_room whole) ∙ sym (answer_short (bytes_bytes value) old (rw (← whole) short))

    pub string_kept : old ≡ written_content (bytes_bytes value) old
    string_kept = sym (content_short (bytes_bytes value) old (rw (← whole) short))

  -- the header is written, and the string in the part after it
  module _ (room : head + length value ≤ length old) where
    pub string_counted : Ok (head + length value) ≡ written_answer (bytes_bytes value) old
    string_counted = ap Ok whole ∙ sym (answer_room (bytes_bytes value) old (rw (← whole) room))

    pub string_filled : (begun part : List ℕ) → begun ≡ written_content (header_bytes K.Bytes (length value)) old →
        part ≡ copied_over value (take (length begun - head) (drop head begun)) →
        take head begun ++ (part ++ drop (length begun - head) (drop head begun))
        ≡ written_content (bytes_bytes value) old
    unfolding copied_over
    string_filled begun part is filled =
        let header : List ℕ = header_bytes K.Bytes (length value) in
        let e : head ≡ length header = h K.Bytes in
        let front : begun ≡ copied_over header old = is ∙ content_room header old (omega arith) in
        rw e (headed header value old begun part (rw e at room) front (rw e at filled)
        ∙ sym (content_room (header ++ value) old (rw (← whole) room)))

pub ruleset string_ends = (string_refused, string_kept, string_counted, string_filled, rules)
