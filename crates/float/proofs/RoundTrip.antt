-- What the float writers write reads back, with anything before and after, under every way: the header as kind Float
-- and its count less 1, and then the float, of the same value, or for a NaN with the same bits.
use Rattle.std.specs.Prelude.{Ok}
use mathlib.Core.Path.{◌≡◌, refl, sym, ap, ◌∙◌, subst}
use mathlib.Core.List.{List, ◌++◌, append_assoc}
use Prim.Native.Nat.{ℕ, suc, ◌+◌, ◌-◌, ◌^◌, ◌≤◌, ◌<◌}
use native.Mathlib.Nat.{mod-eq_of_lt}
use native.Mathlib.Omega.{arith}
use lib.Dec.{T}
use lib.ListN.{length, length-append}
use lib.Ieee.{binary32, binary64, fits, to_bits}
use lib.Ieee.Bits.{of_bits-to_bits, to_bits-lt}
use Rattle.types.specs.declared.Way.{Way}
use Rattle.types.specs.declared.Kind.TheVariants as K
use Rattle.types.specs.declared.Float.{Float}
use Rattle.types.specs.declared.Float.TheVariants as F
use Rattle.header.specs.Header.{header_bytes, header_from}
use Rattle.header.proofs.RoundTrip.{header_back}
use Rattle.little.specs.Le.{to_le, number_at}
use Rattle.little.proofs.Width.{to_length}
use Rattle.little.proofs.At.{number_reads}
use Rattle.float.specs.Floats.{float_of, float_body, float_from}
use Rattle.float.specs.Bytes.{float_bytes, value_bytes}
use Rattle.float.specs.Values.{float_value}
use Rattle.float.proofs.Counts.{Allowed, two, four, eight, allowed_is, is_allowed}
use Rattle.float.proofs.Answers.{body_whole, from_body}
use Rattle.float.proofs.Stored.{Stored, value_four, value_eight, stored_single, stored_double}

-- the header of a float of an allowed count is one byte
header_one : (c : ℕ) → Allowed c → (length (header_bytes K.Float (c - 1)) ≡ 1) × (c - 1 < 2 ^ 64)
unfolding header_bytes
header_one c (two e) = rw e (refl, omega arith)
header_one c (four e) = rw e (refl, omega arith)
header_one c (eight e) = rw e (refl, omega arith)

pub bytes_length : (c b : ℕ) → Allowed c → length (float_bytes c b) ≡ suc c
unfolding float_bytes
bytes_length c b a = let h = (header_one c a).0 in let l = length-append (header_bytes K.Float (c - 1)) (to_le c b) in
    let t = to_length c b in omega arith

-- the header of what stands in front of anything
pub head_back : (way : Way) (c b : ℕ) (before after : List ℕ) → Allowed c
    → header_from way (before ++ (float_bytes c b ++ after)) (length before)
    ≡ Ok (record { 0 = length before + 1 }, K.Float, c - 1)
unfolding float_bytes
head_back way c b before after a =
    let h = header_one c a in
    ap (λ (l : List ℕ). header_from way (before ++ l) (length before))
    (append_assoc (header_bytes K.Float (c - 1)) (to_le c b) after)
    ∙ header_back way K.Float (c - 1) before (to_le c b ++ after) h.1
    ∙ ap (λ (n : ℕ). Ok (record { 0 = length before + n }, K.Float, c - 1)) h.0

-- its number
number_back : (c b : ℕ) (before after : List ℕ) → Allowed c → b < 256 ^ c →
    number_at c (before ++ (float_bytes c b ++ after)) (length before + 1) ≡ b
unfolding float_bytes
number_back c b before after a h =
    let first : List ℕ = header_bytes K.Float (c - 1) in
    number_reads c b (before ++ (float_bytes c b ++ after)) (length before + 1) (before ++ first) after
    (ap (λ (l : List ℕ). before ++ l) (append_assoc first (to_le c b) after)
    ∙ sym (append_assoc before first (to_le c b ++ after)))
    (sym (length-append before first ∙ ap (λ (n : ℕ). length before + n) (header_one c a).0))
    ∙ mod-eq_of_lt h

inside : (n c l a : ℕ) → l ≡ suc c → n + 1 + c ≤ n + (l + a)
inside n c l a e = omega arith

past : (n c l : ℕ) → l ≡ suc c → n + 1 + c ≡ n + l
past n c l e = omega arith

-- and the float
pub body_back : (way : Way) (c b : ℕ) (before after : List ℕ) → Allowed c → b < 256 ^ c
    → float_body way (before ++ (float_bytes c b ++ after)) (length before + 1) c
    ≡ Ok (record { 0 = length before + length (float_bytes c b) }, float_of c b, b)
body_back way c b before after a h =
    let s : List ℕ = before ++ (float_bytes c b ++ after) in
    let whole : length s ≡ length before + (length (float_bytes c b) + length after) = simp length-append in
    sym (body_whole way s (length before + 1) c b (float_of c b) (sym (number_back c b before after a h)) refl
    (subst (λ (n : ℕ). length before + 1 + c ≤ n) (sym whole)
    (inside (length before) c (length (float_bytes c b)) (length after) (bytes_length c b a))))
    ∙ ap (λ (n : ℕ). Ok (record { 0 = n }, float_of c b, b))
    (past (length before) c (length (float_bytes c b)) (bytes_length c b a))

pub from_back : (way : Way) (c b : ℕ) (before after : List ℕ) → Allowed c → b < 256 ^ c
    → float_from way (before ++ (float_bytes c b ++ after)) (length before + 1) K.Float c
    ≡ Ok (record { 0 = length before + length (float_bytes c b) }, float_of c b, b)
from_back way c b before after a h =
    sym (from_body way (before ++ (float_bytes c b ++ after)) (length before + 1) c K.Float refl (is_allowed c a))
    ∙ body_back way c b before after a h

-- THE ROUND TRIP, of what any writer stored: `Stored` says that the value that is read is the value written, with its
-- sign and magnitude, and that a NaN's bits are
pub written_back : (way : Way) (own bits : ℕ) (bytes before after : List ℕ) (S : Stored own bits bytes)
    → (header_from way (before ++ (bytes ++ after)) (length before)
    ≡ Ok (record { 0 = length before + 1 }, K.Float, S.count - 1))
    × (float_from way (before ++ (bytes ++ after)) (length before + 1) K.Float S.count
    ≡ Ok (record { 0 = length before + length bytes }, float_of S.count S.stored, S.stored))
written_back way own bits bytes before after S =
    let a = allowed_is S.count S.its_count in
    rw S.its_bytes (
      head_back way S.count S.stored before after a,
      from_back way S.count S.stored before after a S.its_room,
    )

-- ---- the value writers

-- what a value's own width holds for it
abbrev pub value_own : Float → ℕ
value_own (F.F32 x) = 4
value_own (F.F64 x) = 8

abbrev pub own_bits : Float → ℕ
own_bits (F.F32 x) = to_bits binary32 x
own_bits (F.F64 x) = to_bits binary64 x

-- a float whose value its width holds, as every one is that the code can have
abbrev pub Held : Float → Type 0
Held (F.F32 x) = T (fits binary32 x)
Held (F.F64 x) = T (fits binary64 x)

pub stored_value : (v : Float) → Held v → Stored (value_own v) (own_bits v) (value_bytes v)
unfolding value_bytes
stored_value (F.F32 x) F = stored_single (to_bits binary32 x) (to_bits-lt binary32 x F)
stored_value (F.F64 x) F = stored_double (to_bits binary64 x) (to_bits-lt binary64 x F)

own_value : (v : Float) → Held v → float_value (float_of (value_own v) (own_bits v)) ≡ float_value v
own_value (F.F32 x) F = value_four (to_bits binary32 x) ∙ of_bits-to_bits binary32 x F
own_value (F.F64 x) F = value_eight (to_bits binary64 x) ∙ of_bits-to_bits binary64 x F

-- the value that is read is the value written
pub value_back : (v : Float) (h : Held v) →
    float_value (float_of (stored_value v h).count (stored_value v h).stored) ≡ float_value v
value_back v h = (stored_value v h).value ∙ own_value v h
