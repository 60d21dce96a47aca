-- DEMAND 2, its last part: what was written reads back as the value written. For every value writer, for every value,
-- the written bytes, with anything before and after them, read as that value at the place just past them, under every
-- way, lent or copied, from any budget of at least the price, leaving the budget less the price; and the atom's places
-- are where the bytes stand. Strings and specials rest on `atom.Back.bytes_back` and `atom.Back.special_back`.
use Rattle.std.specs.Prelude.{Ok}
use mathlib.Core.Path.{◌≡◌, refl, ◌∙◌, sym, ap}
use mathlib.Core.Bool.{true, false≢true}
use mathlib.Core.List.{List, [], ◌++◌, append_assoc, append-nil}
use Prim.Native.Nat.{ℕ, ◌+◌, ◌-◌, ◌/◌, ◌≤◌, ◌<◌, ◌^◌}
use native.Mathlib.Omega.{arith}
use native.Mathlib.Nat.{le_refl, le_of_lt}
use lib.Dec.{ltb, lit<}
use lib.IntN.{ℤ, pos, negsuc}
use lib.Signed.{mag}
use lib.ListN.{length, length-append}
use Rattle.types.specs.declared.Way.{Way}
use Rattle.types.specs.declared.Kind.{Kind}
use Rattle.types.specs.declared.Kind.TheVariants as K
use Rattle.types.specs.declared.Place.{Place}
use Rattle.types.specs.declared.Budget.{Budget}
use Rattle.types.specs.declared.Nucleus.{Nucleus}
use Rattle.types.specs.declared.Nucleus.TheVariants as N
use Rattle.types.proofs.Counters.{place_same}
use Rattle.types.proofs.Specials.{special_small}
use Rattle.header.specs.Header.{header_bytes, header_from, header_argument, header_length}
use Rattle.header.proofs.RoundTrip.{header_back, back}
use Rattle.reader.specs.Strings.{string_mark, string_scratch, scratch_needed}
use Rattle.reader.specs.Parts.{marked_bytes}
use Rattle.reader.proofs.Delivered.{string_back}
use Rattle.little.specs.Le.{to_le}
use Rattle.little.specs.Twos.{twos_bits}
use Rattle.little.specs.Counts.{holds_s, shortest_s, shortest_u}
use Rattle.little.proofs.Width.{to_length}
use Rattle.little.proofs.Two.{bits_lt}
use Rattle.little.proofs.Shortest.{shortest_s_holds, shortest_s-listed, shortest_u_holds, shortest_u-listed}
use Rattle.integer.specs.Integers.{integer_kind, integer_of, int_of, uint_of, integer_body}
use Rattle.types.specs.Counters.{place_in}
use borrow.Author.Tests.{ltb-true, lt-ltb}
use Rattle.integer.proofs.Counts.{allowed_bounds}
use Rattle.float.proofs.Answers.{from_body}
use Rattle.integer.proofs.RoundTrip.{body_back, int_value_back, uint_value}
use Rattle.writers.specs.Bytes.{integer_bytes, signed_bytes, unsigned_bytes, value_bytes}
use Rattle.float.specs.Floats.{float_of}
use Rattle.float.specs.Bytes.{float_bytes}
use Rattle.float.proofs.Counts.{four, eight, allowed_is}
use Rattle.shortest.proofs.Floats.{float_bounds}
use Rattle.shortest.proofs.Forms.{held_lt}
use Rattle.float.proofs.Stored.{Stored, stored_single, stored_double, meaning_kept}
use Rattle.float.proofs.RoundTrip as floats
use Rattle.atom.specs.Atoms.{special_nucleus, atom_read, atom_scratch, scratch_from, scratch_charged, atom_from, atom_after}
use Rattle.atom.specs.Atoms.{atom_of, atom_taken, judged, integer_taken, header_taken, integer_atom, float_atom}
use Rattle.atom.specs.Charges.{budget_after}
use Rattle.atom.proofs.Back.{atom_back, paid, bytes_back, special_back}
use Rattle.atom.proofs.Answers.{free, judged_left, integer_left, float_left}
use Rattle.dictionary.specs.Wholes.{price, places_at}
use Rattle.types.specs.Kinds.{special_code}
use Rattle.types.specs.declared.Atom.{Atom}
use Rattle.types.specs.declared.Special.{Special}
use Rattle.types.specs.declared.Integer.{Integer}
use Rattle.types.specs.declared.Integer.TheVariants as I
use Rattle.types.specs.declared.Float.TheVariants as F
use Rattle.types.specs.Values.{joined, joined_signed, value}
use Rattle.types.specs.Forms.{allowed_count, count_of, number_charge, charge_of, known}
use Rattle.types.proofs.Forms.{written_read}
use Rattle.cast.specs.Variants.{sign, width, in_range}
use Rattle.promises.specs.Rows.{Number, int, uint, float}
use Rattle.promises.specs.Values.{Value, number, natural, integer, f32_bits, f64_bits, f32, f64, special, string}
use Rattle.promises.specs.Values.{header, HeaderOnly, sequence, map, symbol, kind_of, written, room_for, Carries}
use Rattle.promises.specs.Values.{number_carried, natural_carried, integer_carried, f32_bits_carried}
use Rattle.promises.specs.Values.{f64_bits_carried, f32_carried, f64_carried, special_carried, string_carried}
use Rattle.promises.specs.Values.{header_carried, ReadBack}

-- a count of 1 to 16 is its argument plus 1
counted : (n : ℕ) → 0 < n → n ≤ 16 → n ≡ count_of (n - 1)
counted n p q = omega arith

-- an atom that stands where its bytes do, behind those before
abbrev atom_behind : List ℕ → List ℕ → Kind → ℕ → Nucleus → Atom
atom_behind before bytes kind arg nucleus = atom_of kind arg (places_at (length before) bytes) nucleus

-- it is the one that is taken from there, past a header of that length
behind : (before bytes : List ℕ) (kind : Kind) (arg : ℕ) (rest : Budget) (nucleus : Nucleus) (long : ℕ) →
    header_length bytes ≡ long →
    atom_taken kind arg (record { 0 = length before }) (record { 0 = length before + long }) rest
    (record { 0 = length before + length bytes }) nucleus
    ≡ Ok (record { 0 = length before + length bytes }, rest, atom_behind before bytes kind arg nucleus)
behind before bytes kind arg rest nucleus long e =
    ap (λ (n : ℕ). atom_taken kind arg (record { 0 = length before }) (record { 0 = length before + n }) rest
    (record { 0 = length before + length bytes }) nucleus) (sym e)

-- a header is as long as was written of it
header_long : (kind : Kind) (arg : ℕ) (after : List ℕ) →
    arg < 2 ^ 64 →
    header_length (header_bytes kind arg ++ after) ≡ length (header_bytes kind arg)
header_long kind arg after h = (back kind arg after h).its_length

-- what follows an integer's header
after_integer : (way : Way) (s : List ℕ) (kind : Kind) (arg : ℕ) (first next : Place) (budget : Budget)
    (scratch : List ℕ) →
    integer_kind kind ≡ true →
    atom_after way s kind arg first next budget scratch
    ≡ judged kind arg next budget (integer_taken way s kind arg first next)
after_integer way s K.Special arg first next budget scratch e = absurd (false≢true e)
after_integer way s K.Int arg first next budget scratch e = refl
after_integer way s K.UInt arg first next budget scratch e = refl
after_integer way s K.Float arg first next budget scratch e = absurd (false≢true e)
after_integer way s K.Sequence arg first next budget scratch e = absurd (false≢true e)
after_integer way s K.Map arg first next budget scratch e = absurd (false≢true e)
after_integer way s K.Symbol arg first next budget scratch e = absurd (false≢true e)
after_integer way s K.Bytes arg first next budget scratch e = absurd (false≢true e)

-- a number of an allowed count, whatever wrote it
pub integer_back : (way : Way) (kind : Kind) (n bits : ℕ) (before after : List ℕ) (budget : Budget) (scratch : List ℕ) →
    integer_kind kind ≡ true →
    allowed_count n ≡ true →
    bits < 256 ^ n →
    number_charge n ≤ budget.0 →
    atom_read way (before ++ (integer_bytes kind n bits ++ after)) (length before) budget scratch
    ≡ Ok (record { 0 = length before + length (integer_bytes kind n bits) }, record { 0 = budget.0 - number_charge n }, atom_behind before (integer_bytes kind n bits) kind (n - 1) (N.Integer (integer_of kind n bits)))
unfolding integer_bytes
integer_back way kind n bits before after budget scratch k a l b =
    let range = allowed_bounds n a in
    let hd : List ℕ = header_bytes kind (n - 1) in
    let le : List ℕ = to_le n bits in
    let s : List ℕ = before ++ (hd ++ (le ++ after)) in
    let arg : n - 1 < 2 ^ 64 = omega (arith, range.1) in
    let first : Place = record { 0 = length before } in
    let next : Place = record { 0 = length before + length hd } in
    let holds : Nucleus = N.Integer (integer_of kind n bits) in
    let left : Budget = record { 0 = budget.0 - number_charge n } in
    let split : s ≡ (before ++ hd) ++ (le ++ after) = sym (append_assoc before hd (le ++ after)) in
    let place : length (before ++ hd) ≡ length before + length hd = length-append before hd in
    let whole : length (hd ++ le) ≡ length hd + n =
    length-append hd le ∙ ap (λ (m : ℕ). length hd + m) (to_length n bits) in
    let end : length before + length hd + n ≡ length before + length (hd ++ le) = omega arith in
    ap (λ (l : List ℕ). atom_read way (before ++ l) (length before) budget scratch) (append_assoc hd le after)
    ∙ atom_back way kind (n - 1) before (le ++ after) budget scratch arg
    ∙ after_integer way s kind (n - 1) first next budget scratch k
    ∙ sym (integer_left way s (n - 1) first next budget left n (counted n range.0 range.1)
    (paid budget (number_charge n) b) kind k a)
    ∙ ap (integer_atom kind (n - 1) first next left) (ap (λ (p : ℕ). integer_body way s p kind n) (sym place)
    ∙ body_back way kind n bits (before ++ hd) after s split l
    ∙ ap (λ (p : ℕ). Ok (record { 0 = p + n }, integer_of kind n bits)) place)
    ∙ ap (λ (p : ℕ). atom_taken kind (n - 1) first next left (record { 0 = p }) holds) end
    ∙ behind before (hd ++ le) kind (n - 1) left holds (length hd) (header_long kind (n - 1) le arg)

-- A SIGNED VALUE reads back: as the variant of its count, which carries the value
pub signed_back : (way : Way) (z : ℤ) (before after : List ℕ) (budget : Budget) (scratch : List ℕ) →
    holds_s 16 z ≡ true →
    number_charge (shortest_s z) ≤ budget.0 →
    (atom_read way (before ++ (signed_bytes z ++ after)) (length before) budget scratch
    ≡ Ok (
      record { 0 = length before + length (signed_bytes z) },
      record { 0 = budget.0 - number_charge (shortest_s z) },
      atom_behind before (signed_bytes z) K.Int (shortest_s z - 1)
          (N.Integer (int_of (shortest_s z) (twos_bits (shortest_s z) z))),
    ))
    × (value (int_of (shortest_s z) (twos_bits (shortest_s z) z)) ≡ z)
unfolding signed_bytes
signed_back way z before after budget scratch h b =
    let n : ℕ = shortest_s z in
    let held = shortest_s_holds z h in
    let listed = written_read n (shortest_s-listed z h) in (
      integer_back way K.Int n (twos_bits n z) before after budget scratch refl listed (bits_lt n z held) b,
      int_value_back n z listed held,
    )

-- AN UNSIGNED VALUE likewise
pub unsigned_back : (way : Way) (k : ℕ) (before after : List ℕ) (budget : Budget) (scratch : List ℕ) →
    k < 256 ^ 16 →
    number_charge (shortest_u k) ≤ budget.0 →
    (atom_read way (before ++ (unsigned_bytes k ++ after)) (length before) budget scratch
    ≡ Ok (record { 0 = length before + length (unsigned_bytes k) }, record { 0 = budget.0 - number_charge (shortest_u k) }, atom_behind before (unsigned_bytes k) K.UInt (shortest_u k - 1) (N.Integer (uint_of (shortest_u k) k))))
    × (value (uint_of (shortest_u k) k) ≡ pos k)
unfolding unsigned_bytes
unsigned_back way k before after budget scratch h b =
    let n : ℕ = shortest_u k in
    let listed = written_read n (shortest_u-listed k h) in (
      integer_back way K.UInt n k before after budget scratch refl listed (held_lt n k (shortest_u_holds k h)) b,
      uint_value n listed k,
    )

-- the header of what any float writer stored is one byte
float_header : (own bits : ℕ) (bytes : List ℕ) (S : Stored own bits bytes) → header_length bytes ≡ 1
unfolding float_bytes
float_header own bits bytes S =
    let n : ℕ = S.count in
    let range = float_bounds n S.its_count in
    let hd : List ℕ = header_bytes K.Float (n - 1) in
    let le : List ℕ = to_le n S.stored in
    let arg : n - 1 < 2 ^ 64 = omega (arith, range.1) in
    let one : length hd ≡ 1 =
    omega (arith, floats.bytes_length n S.stored (allowed_is n S.its_count), length-append hd le, to_length n S.stored) in
    ap header_length S.its_bytes ∙ header_long K.Float (n - 1) le arg ∙ one

-- what any float writer stored reads back with the stored bits beside the value; `Stored` says that the value is the
-- one written, with its sign and magnitude, and that a NaN keeps its width and bits
pub float_back : (way : Way) (own bits : ℕ) (bytes before after : List ℕ) (S : Stored own bits bytes) (budget : Budget)
    (scratch : List ℕ) →
    number_charge S.count ≤ budget.0 →
    atom_read way (before ++ (bytes ++ after)) (length before) budget scratch
    ≡ Ok (record { 0 = length before + length bytes }, record { 0 = budget.0 - number_charge S.count }, atom_behind before bytes K.Float (S.count - 1) (N.Float (float_of S.count S.stored) S.stored))
unfolding atom_read
float_back way own bits bytes before after S budget scratch b =
    let n : ℕ = S.count in
    let s : List ℕ = before ++ (bytes ++ after) in
    let back = floats.written_back way own bits bytes before after S in
    let range = float_bounds n S.its_count in
    let long : length s ≡ length before + (length bytes + length after) = simp length-append in
    let at : place_in (length s) (length before) ≡ length before = place_same (length s) (length before) (omega arith) in
    let first : Place = record { 0 = length before } in
    let next : Place = record { 0 = length before + 1 } in
    let left : Budget = record { 0 = budget.0 - number_charge n } in
    ap (λ (p : ℕ). atom_from way s (record { 0 = p }) budget scratch (header_from way s p)) at
    ∙ ap (atom_from way s first budget scratch) back.0
    ∙ sym (float_left way s (n - 1) first next budget left n (counted n range.0 range.1)
    (paid budget (number_charge n) b) S.its_count)
    ∙ ap (float_atom (n - 1) first next left)
    (from_body way s (length before + 1) n K.Float refl S.its_count ∙ back.1)
    ∙ behind before bytes K.Float (n - 1) left (N.Float (float_of n S.stored) S.stored) 1
    (float_header own bits bytes S)

-- a written string is delivered: its mark names its bytes, in the source or in the scratch after
pub bytes_delivered : (way : Way) (before bytes after : List ℕ) (budget : Budget) (scratch : List ℕ) →
    length bytes < 2 ^ 64 →
    length bytes ≤ budget.0 →
    scratch_needed way (length bytes) ≤ length scratch →
    marked_bytes (string_mark way (length before + length (header_bytes K.Bytes (length bytes))) (length bytes))
    (before ++ (header_bytes K.Bytes (length bytes) ++ (bytes ++ after)))
    (atom_scratch way (before ++ (header_bytes K.Bytes (length bytes) ++ (bytes ++ after))) (length before) budget
    scratch) ≡ bytes
unfolding atom_scratch
bytes_delivered way before bytes after budget scratch l b r =
    let n : ℕ = length bytes in
    let hd : List ℕ = header_bytes K.Bytes n in
    let s : List ℕ = before ++ (hd ++ (bytes ++ after)) in
    let long : length s ≡ length before + (length hd + length (bytes ++ after)) = simp length-append in
    let at : place_in (length s) (length before) ≡ length before = place_same (length s) (length before) (omega arith) in
    let split : s ≡ (before ++ hd) ++ (bytes ++ after) = sym (append_assoc before hd (bytes ++ after)) in
    let place : length (before ++ hd) ≡ length before + length hd = length-append before hd in
    let header = ap (λ (p : ℕ). header_from way s p) at ∙ header_back way K.Bytes n before (bytes ++ after) l in
    let same = ap (scratch_from way s budget scratch) header ∙ ap (scratch_charged way s (length before + length hd) n
    scratch) (paid budget n b) in
    ap (marked_bytes (string_mark way (length before + length hd) n) s) same
    ∙ ap (λ (p : ℕ). marked_bytes (string_mark way p n) s (string_scratch way s p n scratch)) (sym place)
    ∙ (string_back s (before ++ hd) bytes after split way scratch r).1

-- ---- what was written costs what its header says

price_headed : (kind : Kind) (arg : ℕ) (after : List ℕ) →
    arg < 2 ^ 64 →
    price (header_bytes kind arg ++ after) ≡ charge_of kind arg
price_headed kind arg after h =
    let b = back kind arg after h in
    ap (λ (k : Kind). charge_of k (header_argument (header_bytes kind arg ++ after))) b.its_kind
    ∙ ap (charge_of kind) b.its_argument

price_alone : (kind : Kind) (arg : ℕ) → arg < 2 ^ 64 → price (header_bytes kind arg) ≡ charge_of kind arg
price_alone kind arg h = ap price (sym (append-nil (header_bytes kind arg))) ∙ price_headed kind arg [] h

number_charge_lem : (kind : Kind) → Number kind → (n : ℕ) → 0 < n → n ≤ 16 → charge_of kind (n - 1) ≡ number_charge n
number_charge_lem K.Int int n p q = ap number_charge (sym (counted n p q))
number_charge_lem K.UInt uint n p q = ap number_charge (sym (counted n p q))
number_charge_lem K.Float float n p q = ap number_charge (sym (counted n p q))
number_charge_lem K.Special none n p q = elim none [ ]
number_charge_lem K.Sequence none n p q = elim none [ ]
number_charge_lem K.Map none n p q = elim none [ ]
number_charge_lem K.Symbol none n p q = elim none [ ]
number_charge_lem K.Bytes none n p q = elim none [ ]

integer_price : (kind : Kind) →
    Number kind →
    (n bits : ℕ) →
    allowed_count n ≡ true →
    price (integer_bytes kind n bits) ≡ number_charge n
unfolding integer_bytes
integer_price kind w n bits a =
    let range = allowed_bounds n a in
    let arg : n - 1 < 2 ^ 64 = omega (arith, range.1) in
    price_headed kind (n - 1) (to_le n bits) arg ∙ number_charge_lem kind w n range.0 range.1

signed_price : (z : ℤ) → holds_s 16 z ≡ true → price (signed_bytes z) ≡ number_charge (shortest_s z)
unfolding signed_bytes
signed_price z h =
    integer_price K.Int int (shortest_s z) (twos_bits (shortest_s z) z) (written_read (shortest_s z) (shortest_s-listed z h))

unsigned_price : (k : ℕ) → k < 256 ^ 16 → price (unsigned_bytes k) ≡ number_charge (shortest_u k)
unfolding unsigned_bytes
unsigned_price k h = integer_price K.UInt uint (shortest_u k) k (written_read (shortest_u k) (shortest_u-listed k h))

float-price : (own bits : ℕ) (bytes : List ℕ) (S : Stored own bits bytes) → price bytes ≡ number_charge S.count
unfolding float_bytes
float-price own bits bytes S =
    let range = float_bounds S.count S.its_count in
    let arg : S.count - 1 < 2 ^ 64 = omega (arith, range.1) in
    ap price S.its_bytes
    ∙ price_headed K.Float (S.count - 1) (to_le S.count S.stored) arg
    ∙ number_charge_lem K.Float float S.count range.0 range.1

-- ---- every value

small : (s : Special) → special_code s < 2 ^ 64
small s = omega (arith, special_small s)

less_nothing : (n : ℕ) → n ≡ n - 0
less_nothing n = omega arith

-- 16 bytes hold what a variant holds
under : (k n m : ℕ) → k < n → n ≤ m → k < m
under k n m h l = omega arith

pub held_by_lem : (n : ℕ) (z : ℤ) → n ≤ 256 ^ 16 / 2 → ltb (mag z) n ≡ true → holds_s 16 z ≡ true
unfolding holds_s
held_by_lem n (pos k) l h = lt-ltb k (256 ^ 16 / 2) (under k n (256 ^ 16 / 2) (ltb-true k n h) l)
held_by_lem n (negsuc k) l h = lt-ltb k (256 ^ 16 / 2) (under k n (256 ^ 16 / 2) (ltb-true k n h) l)

pub natural_by : (n k : ℕ) → n ≤ 256 ^ 16 → ltb k n ≡ true → k < 256 ^ 16
natural_by n k l h = under k n (256 ^ 16) (ltb-true k n h) l

module _ (way : Way) (before after : List ℕ) (budget : Budget) (scratch : List ℕ) where
  -- from a charge that is the price
  back_as : (v : Value) (charge : ℕ) (kind : Kind) (arg : ℕ) (nucleus : Nucleus) →
      price (written v) ≡ charge →
      atom_read way (before ++ (written v ++ after)) (length before) budget scratch
      ≡ Ok (record { 0 = length before + length (written v) }, record { 0 = budget.0 - charge }, atom_behind before (written v) kind arg nucleus) →
      Carries (before ++ (written v ++ after))
      (atom_scratch way (before ++ (written v ++ after)) (length before) budget scratch)
      (atom_behind before (written v) kind arg nucleus) v →
      ReadBack way before after budget scratch v
  back_as v charge kind arg nucleus e r c = record {
    atom = atom_behind before (written v) kind arg nucleus;
    is_read_back =
        r ∙ ap (λ (n : ℕ). Ok (record { 0 = length before + length (written v) }, record { 0 = budget.0 - n }, atom_behind before (written v) kind arg nucleus)) (sym e);
    stands = refl;
    carries = c;
  }

  paid_for : (bytes : List ℕ) (charge : ℕ) → price bytes ≡ charge → price bytes ≤ budget.0 → charge ≤ budget.0
  paid_for bytes charge e h = omega arith

  -- an integer by its number
  signed_as : (x : Integer) (h : in_range (sign x) (width x) (value x) ≡ true) (z : ℤ) →
      value_bytes x ≡ signed_bytes z →
      kind_of (sign x) ≡ K.Int →
      value x ≡ z →
      holds_s 16 z ≡ true →
      price (value_bytes x) ≤ budget.0 →
      ReadBack way before after budget scratch (integer x h)
  signed_as x h z e k v held b =
      let p : price (value_bytes x) ≡ number_charge (shortest_s z) = ap price e ∙ signed_price z held in
      let w = signed_back way z before after budget scratch held
      (paid_for (value_bytes x) (number_charge (shortest_s z)) p b) in
      back_as (integer x h) (number_charge (shortest_s z)) (kind_of (sign x)) (shortest_s z - 1)
      (N.Integer (int_of (shortest_s z) (twos_bits (shortest_s z) z))) p
      (rw (e, k) w.0) (integer_carried (w.1 ∙ sym v))

  unsigned_as : (x : Integer) (h : in_range (sign x) (width x) (value x) ≡ true) (n : ℕ) →
      value_bytes x ≡ unsigned_bytes n →
      kind_of (sign x) ≡ K.UInt →
      value x ≡ pos n →
      n < 256 ^ 16 →
      price (value_bytes x) ≤ budget.0 →
      ReadBack way before after budget scratch (integer x h)
  unsigned_as x h n e k v held b =
      let p : price (value_bytes x) ≡ number_charge (shortest_u n) = ap price e ∙ unsigned_price n held in
      let w = unsigned_back way n before after budget scratch held
      (paid_for (value_bytes x) (number_charge (shortest_u n)) p b) in
      back_as (integer x h) (number_charge (shortest_u n)) (kind_of (sign x)) (shortest_u n - 1)
      (N.Integer (uint_of (shortest_u n) n)) p
      (rw (e, k) w.0) (integer_carried (w.1 ∙ sym v))

  integer_any : (x : Integer) (h : in_range (sign x) (width x) (value x) ≡ true) →
      price (value_bytes x) ≤ budget.0 →
      ReadBack way before after budget scratch (integer x h)
  unfolding value_bytes
  integer_any (I.I8 z) h b = signed_as (I.I8 z) h z refl refl refl (held_by_lem (2 ^ 7) z (le_of_lt (lit< tt)) h) b
  integer_any (I.I16 z) h b = signed_as (I.I16 z) h z refl refl refl (held_by_lem (2 ^ 15) z (le_of_lt (lit< tt)) h) b
  integer_any (I.I32 z) h b = signed_as (I.I32 z) h z refl refl refl (held_by_lem (2 ^ 31) z (le_of_lt (lit< tt)) h) b
  integer_any (I.I64 z) h b = signed_as (I.I64 z) h z refl refl refl (held_by_lem (2 ^ 63) z (le_of_lt (lit< tt)) h) b
  integer_any (I.I128 w) h b =
      signed_as (I.I128 w) h (joined_signed w) refl refl refl (held_by_lem (2 ^ 127) (joined_signed w) (le_refl (2 ^ 127)) h)
      b
  integer_any (I.U8 k) h b = unsigned_as (I.U8 k) h k refl refl refl (natural_by (2 ^ 8) k (le_of_lt (lit< tt)) h) b
  integer_any (I.U16 k) h b = unsigned_as (I.U16 k) h k refl refl refl (natural_by (2 ^ 16) k (le_of_lt (lit< tt)) h) b
  integer_any (I.U32 k) h b = unsigned_as (I.U32 k) h k refl refl refl (natural_by (2 ^ 32) k (le_of_lt (lit< tt)) h) b
  integer_any (I.U64 k) h b = unsigned_as (I.U64 k) h k refl refl refl (natural_by (2 ^ 64) k (le_of_lt (lit< tt)) h) b
  integer_any (I.U128 w) h b =
      unsigned_as (I.U128 w) h (joined w) refl refl refl (natural_by (2 ^ 128) (joined w) (le_refl (2 ^ 128)) h) b

  -- what a float writer stored
  stored_read : (v : Value) (own bits : ℕ) (S : Stored own bits (written v)) →
      price (written v) ≤ budget.0 →
      Carries (before ++ (written v ++ after))
      (atom_scratch way (before ++ (written v ++ after)) (length before) budget scratch)
      (atom_behind before (written v) K.Float (S.count - 1)
      (N.Float (float_of S.count S.stored) S.stored)) v →
      ReadBack way before after budget scratch v
  stored_read v own bits S b c =
      let e = float-price own bits (written v) S in
      back_as v (number_charge S.count) K.Float (S.count - 1)
      (N.Float (float_of S.count S.stored) S.stored) e
      (float_back way own bits (written v) before after S budget scratch
      (paid_for (written v) (number_charge S.count) e b)) c

  -- a header alone, which says all and costs nothing: its body is where the atom ends
  header_all : (v : Value) (kind : Kind) (arg : ℕ) (nucleus : Nucleus) →
      written v ≡ header_bytes kind arg →
      arg < 2 ^ 64 →
      charge_of kind arg ≡ 0 →
      atom_read way (before ++ (header_bytes kind arg ++ after)) (length before) budget scratch
      ≡ header_taken kind arg (record { 0 = length before })
      (record { 0 = length before + length (header_bytes kind arg) }) nucleus budget →
      Carries (before ++ (written v ++ after))
      (atom_scratch way (before ++ (written v ++ after)) (length before) budget scratch)
      (atom_behind before (written v) kind arg nucleus) v →
      ReadBack way before after budget scratch v
  header_all v kind arg nucleus e h c r =
      let first : Place = record { 0 = length before } in
      let next : Place = record { 0 = length before + length (header_bytes kind arg) } in
      let long : header_length (header_bytes kind arg) ≡ length (header_bytes kind arg) =
      ap header_length (sym (append-nil (header_bytes kind arg))) ∙ header_long kind arg [] h in
      back_as v 0 kind arg nucleus (ap price e ∙ price_alone kind arg h ∙ c)
      (rw e
      (r
      ∙ ap (λ (n : ℕ). header_taken kind arg first next nucleus (record { 0 = n })) (less_nothing budget.0)
      ∙ behind before (header_bytes kind arg) kind arg (record { 0 = budget.0 - 0 }) nucleus
      (length (header_bytes kind arg)) long))

  header_read_lem : (kind : Kind) (w : HeaderOnly kind) (arg : ℕ) (h : arg < 2 ^ 64) →
      charge_of kind arg ≡ 0 →
      atom_after way (before ++ (header_bytes kind arg ++ after)) kind arg (record { 0 = length before })
      (record { 0 = length before + length (header_bytes kind arg) }) budget scratch
      ≡ header_taken kind arg (record { 0 = length before })
      (record { 0 = length before + length (header_bytes kind arg) }) N.None budget →
      ReadBack way before after budget scratch (header kind w arg h)
  header_read_lem kind w arg h c r =
      header_all (header kind w arg h) kind arg N.None refl h c
      (atom_back way kind arg before after budget scratch h ∙ r) header_carried

  -- a header that says all costs nothing
  headed : (kind : Kind) (arg : ℕ) → charge_of kind arg ≡ 0 → known kind arg ≡ true → {first next : Place} →
      judged kind arg next budget (header_taken kind arg first next N.None)
      ≡ header_taken kind arg first next N.None budget
  headed kind arg c k {first} {next} =
      sym (judged_left kind arg next budget (header_taken kind arg first next N.None) budget
      (ap (budget_after budget) c ∙ free budget) k)

  -- EVERY VALUE
  pub read_back : (v : Value) →
      price (written v) ≤ budget.0 →
      room_for way v ≤ length scratch →
      ReadBack way before after budget scratch v
  read_back (number z h) b r =
      let e = signed_price z h in
      let w = signed_back way z before after budget scratch h
      (paid_for (signed_bytes z) (number_charge (shortest_s z)) e b) in
      back_as (number z h) (number_charge (shortest_s z)) K.Int (shortest_s z - 1)
      (N.Integer (int_of (shortest_s z) (twos_bits (shortest_s z) z))) e w.0 (number_carried w.1)
  read_back (natural k h) b r =
      let e = unsigned_price k h in
      let w = unsigned_back way k before after budget scratch h
      (paid_for (unsigned_bytes k) (number_charge (shortest_u k)) e b) in
      back_as (natural k h) (number_charge (shortest_u k)) K.UInt (shortest_u k - 1)
      (N.Integer (uint_of (shortest_u k) k)) e w.0 (natural_carried w.1)
  read_back (integer x h) b r = integer_any x h b
  read_back (f32_bits bits h) b r =
      let S = stored_single bits h in
      stored_read (f32_bits bits h) 4 bits S b
      (f32_bits_carried
      (record {
        same_meaning = meaning_kept 4 bits (written (f32_bits bits h)) (four refl) S;
        nan_kept = λ s t e. (S.nan_kept s t e).1;
      }))
  read_back (f64_bits bits h) b r =
      let S = stored_double bits h in
      stored_read (f64_bits bits h) 8 bits S b
      (f64_bits_carried
      (record {
        same_meaning = meaning_kept 8 bits (written (f64_bits bits h)) (eight refl) S;
        nan_kept = λ s t e. (S.nan_kept s t e).1;
      }))
  read_back (f32 x h) b r =
      stored_read (f32 x h) 4 (floats.own_bits (F.F32 x)) (floats.stored_value (F.F32 x) h) b
      (f32_carried (floats.value_back (F.F32 x) h))
  read_back (f64 x h) b r =
      stored_read (f64 x h) 8 (floats.own_bits (F.F64 x)) (floats.stored_value (F.F64 x) h) b
      (f64_carried (floats.value_back (F.F64 x) h))
  read_back (special s) b r =
      header_all (special s) K.Special (special_code s) (special_nucleus s) refl (small s) refl
      (special_back way s before after budget scratch) special_carried
  read_back (string bytes h) b r =
      let n : ℕ = length bytes in
      let hd : List ℕ = header_bytes K.Bytes n in
      let mark = string_mark way (length before + length hd) n in
      let first : Place = record { 0 = length before } in
      let next : Place = record { 0 = length before + length hd } in
      let left : Budget = record { 0 = budget.0 - n } in
      let e : price (hd ++ bytes) ≡ n = price_headed K.Bytes n bytes h in
      let paid = paid_for (hd ++ bytes) n e b in
      let joined : before ++ ((hd ++ bytes) ++ after) ≡ before ++ (hd ++ (bytes ++ after)) =
      ap (λ (l : List ℕ). before ++ l) (append_assoc hd bytes after) in
      let end : length before + length hd + n ≡ length before + length (hd ++ bytes) =
      omega (arith, length-append hd bytes)
      in
      back_as (string bytes h) n K.Bytes n (N.Bytes mark) e
      (ap (λ (l : List ℕ). atom_read way l (length before) budget scratch) joined
      ∙ bytes_back way before bytes after budget scratch h paid r
      ∙ ap (λ (p : ℕ). atom_taken K.Bytes n first next left (record { 0 = p }) (N.Bytes mark)) end
      ∙ behind before (hd ++ bytes) K.Bytes n left (N.Bytes mark) (length hd) (header_long K.Bytes n bytes h))
      (string_carried (ap (λ (l : List ℕ). marked_bytes mark l (atom_scratch way l (length before) budget scratch)) joined
      ∙ bytes_delivered way before bytes after budget scratch h paid r))
  read_back (header K.Sequence sequence arg h) b r =
      header_read_lem K.Sequence sequence arg h refl (headed K.Sequence arg refl refl)
  read_back (header K.Map map arg h) b r = header_read_lem K.Map map arg h refl (headed K.Map arg refl refl)
  read_back (header K.Symbol symbol arg h) b r = header_read_lem K.Symbol symbol arg h refl (headed K.Symbol arg refl refl)
  read_back (header K.Special none arg h) b r = elim none [ ]
  read_back (header K.Int none arg h) b r = elim none [ ]
  read_back (header K.UInt none arg h) b r = elim none [ ]
  read_back (header K.Float none arg h) b r = elim none [ ]
  read_back (header K.Bytes none arg h) b r = elim none [ ]
