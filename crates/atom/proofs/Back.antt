-- What was written reads back: the header decides, and what follows it is the body's own round trip.
use Rattle.std.specs.Prelude.{Result, Ok}
use mathlib.Core.Path.{◌≡◌, refl, ◌∙◌, sym, ap}
use mathlib.Core.List.{List, ◌++◌, append_assoc}
use Prim.Native.Nat.{ℕ, ◌+◌, ◌-◌, ◌≤◌, ◌<◌, ◌^◌}
use native.Mathlib.Omega.{arith}
use lib.ListN.{length, length-append}
use borrow.Author.Tests.{le-ltb}
use Rattle.types.specs.declared.Refusal.{Refusal}
use Rattle.types.specs.Counters.{place_in}
use Rattle.types.specs.Kinds.{special_code, special_known}
use Rattle.types.proofs.Counters.{place_same}
use Rattle.types.proofs.Specials.{special_known_lem, special_small, special_below}
use Rattle.types.specs.declared.Way.{Way}
use Rattle.types.specs.declared.Kind.{Kind}
use Rattle.types.specs.declared.Kind.TheVariants as K
use Rattle.types.specs.declared.Special.{Special}
use Rattle.types.specs.declared.Place.{Place}
use Rattle.types.specs.declared.Budget.{Budget}
use Rattle.types.specs.declared.Nucleus.TheVariants as N
use Rattle.header.specs.Header.{header_bytes, header_from}
use Rattle.header.proofs.RoundTrip.{header_back}
use Rattle.reader.specs.Strings.{string_answer, string_mark, scratch_needed}
use Rattle.reader.proofs.Delivered.{string_back}
use Rattle.atom.specs.Charges.{budget_after}
use Rattle.atom.specs.Atoms.{atom_read, atom_from, atom_after, atom_taken, special_nucleus, header_taken}
use Rattle.atom.specs.Atoms.{special_taken, bytes_taken, bytes_atom}
use Rattle.atom.proofs.Answers.{free, judged_left}

-- a charge within the budget leaves the budget less the charge
pub paid : (b : Budget) (c : ℕ) → c ≤ b.0 → budget_after b c ≡ Ok (record { 0 = b.0 - c })
paid b c h = simp (le-ltb b.0 c h)

-- THE HEADER DECIDES: what follows a written header is read by its kind, just past it
pub atom_back : (way : Way) (kind : Kind) (arg : ℕ) (before rest : List ℕ) (budget : Budget) (scratch : List ℕ) →
    arg < 2 ^ 64 →
    atom_read way (before ++ (header_bytes kind arg ++ rest)) (length before) budget scratch
    ≡ atom_after way (before ++ (header_bytes kind arg ++ rest)) kind arg (record { 0 = length before })
    (record { 0 = length before + length (header_bytes kind arg) }) budget scratch
unfolding atom_read
atom_back way kind arg before rest budget scratch l =
    let s : List ℕ = before ++ (header_bytes kind arg ++ rest) in
    let whole : length s ≡ length before + (length (header_bytes kind arg) + length rest) = simp length-append in
    let w : place_in (length s) (length before) ≡ length before = place_same (length s) (length before) (omega arith) in
    ap (λ (p : ℕ). atom_from way s (record { 0 = p }) budget scratch (header_from way s p)) w
    ∙ ap (atom_from way s (record { 0 = length before }) budget scratch) (header_back way kind arg before rest l)

-- each special reads back as itself, for nothing
pub special_back : (way : Way) (special : Special) (before after : List ℕ) (budget : Budget) (scratch : List ℕ) →
    atom_read way (before ++ (header_bytes K.Special (special_code special) ++ after)) (length before) budget scratch
    ≡ header_taken K.Special (special_code special) (record { 0 = length before })
    (record { 0 = length before + length (header_bytes K.Special (special_code special)) }) (special_nucleus special)
    budget
special_back way special before after budget scratch =
    let code = special_code special in
    let first : Place = record { 0 = length before } in
    let next : Place = record { 0 = length before + length (header_bytes K.Special code) } in
    let here = special_known_lem special in
    atom_back way K.Special code before after budget scratch (let l = special_small special in omega arith)
    ∙ sym (judged_left K.Special code next budget (special_taken code first next) budget (free budget)
    (special_below code special here))
    ∙ ap (λ (a : Result Special Refusal). header_taken K.Special code first next (special_nucleus (special_known a)) budget) here

-- a string reads back under every way, from a budget of at least its length, lent or copied
pub bytes_back : (way : Way) (before bytes after : List ℕ) (budget : Budget) (scratch : List ℕ) →
    length bytes < 2 ^ 64 → length bytes ≤ budget.0 → scratch_needed way (length bytes) ≤ length scratch →
    atom_read way (before ++ (header_bytes K.Bytes (length bytes) ++ (bytes ++ after))) (length before) budget scratch
    ≡ atom_taken K.Bytes (length bytes) (record { 0 = length before })
    (record { 0 = length before + length (header_bytes K.Bytes (length bytes)) })
    (record { 0 = budget.0 - length bytes })
    (record { 0 = length before + length (header_bytes K.Bytes (length bytes)) + length bytes })
    (N.Bytes (string_mark way (length before + length (header_bytes K.Bytes (length bytes))) (length bytes)))
bytes_back way before bytes after budget scratch l b r =
    let hd : List ℕ = header_bytes K.Bytes (length bytes) in
    let s : List ℕ = before ++ (hd ++ (bytes ++ after)) in
    let split : s ≡ (before ++ hd) ++ (bytes ++ after) = sym (append_assoc before hd (bytes ++ after)) in
    let n : length (before ++ hd) ≡ length before + length hd = length-append before hd in
    let first : Place = record { 0 = length before } in
    let next : Place = record { 0 = length before + length hd } in
    let left : Budget = record { 0 = budget.0 - length bytes } in
    let back = string_back s (before ++ hd) bytes after split way scratch r in
    atom_back way K.Bytes (length bytes) before (bytes ++ after) budget scratch l
    ∙ sym (judged_left K.Bytes (length bytes) next budget (bytes_taken way s (length bytes) first next scratch) left
    (paid budget (length bytes) b) refl)
    ∙ ap (bytes_atom (length bytes) first next left)
    (ap (λ (p : ℕ). string_answer way s p (length bytes) scratch) (sym n) ∙ back.0)
    ∙ ap (λ (p : ℕ). atom_taken K.Bytes (length bytes) first next left (record { 0 = p + length bytes })
    (N.Bytes (string_mark way p (length bytes)))) n
