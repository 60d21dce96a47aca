-- What the header writer writes, each reader reads back as that kind and argument, just past it, whatever follows; a
-- longer form of the later bytes reads alike; and the same for the signature.
use Rattle.std.specs.Prelude.{Ok, Err}
use mathlib.Core.Path.{◌≡◌, refl, ◌∙◌, sym, ap}
use mathlib.Core.Bool.{Bool, true, false, ◌&&◌}
use mathlib.Core.List.{List, [], ◌∷◌, ◌++◌}
use Prim.Native.Nat.{ℕ, zero, suc, ◌+◌, ◌-◌, ◌*◌, ◌/◌, ◌%◌, ◌^◌, ◌≤◌, ◌<◌}
use native.Mathlib.Nat.{pow-suc, mod-eq_of_lt, mul_assoc}
use native.Mathlib.Omega.{arith}
use lib.Dec.{ltb, leb}
use lib.ListN.{length, drop, length-append}
use lib.Seq.{drop-append_seam}
use borrow.Author.Tests.{ltb-true, ltb-false, le-leb}
use Rattle.types.specs.Kinds.{kind_code, kind_from, kind_known}
use Rattle.types.specs.declared.Way.{Way}
use Rattle.types.specs.declared.Kind.{Kind}
use Rattle.types.specs.declared.Kind.TheVariants as K
use Rattle.types.specs.declared.Refusal.TheVariants as R
use Rattle.types.proofs.Ways.{up_to_within}
use Rattle.header.specs.Header.{later_count, later_value, later_bytes, header_bytes, header_kind, header_argument, header_length, header_from}
use Rattle.header.specs.Signature.{version_from, signature_bytes, big_endian, every_bit, judged}
use Rattle.header.proofs.Later.{count_more, count_last, value_more, value_last}
use Rattle.header.proofs.Groups.{last_group, group, more}
use Rattle.header.proofs.Answers.{bytes_one, bytes_more, pot, none_follow, one_length, one_argument, more_length, more_argument}

top : (c x : ℕ) → x < 32 → (c * 32 + x) / 32 ≡ c
top c x h = omega arith

shift : (k n : ℕ) → k + suc n ≡ suc (k + n)
shift k n = omega arith

-- A number below 128 ^ n in just n groups of 7 bits, the writer's form among them.
unfoldable pub groups : ℕ → ℕ → List ℕ
groups zero v = []
groups (suc zero) v = v % 128 ∷ []
groups (suc (suc n)) v = (v % 128 + 128) ∷ groups (suc n) (v / 128)

-- where at least that many may follow, n groups are all taken, and hold their number
pub groups_count : (k n v : ℕ) (after : List ℕ) → later_count (k + suc n) (groups (suc n) v ++ after) ≡ suc n
unfolding groups
groups_count k zero v after = rw (shift k 0) (count_last (k + 0) (v % 128) after (omega arith))
groups_count k (suc n) v after =
    rw (shift k (suc n)) (count_more (k + suc n) (v % 128 + 128) (groups (suc n) (v / 128) ++ after) (omega arith)
    ∙ ap suc (groups_count k n (v / 128) after))

pub groups_value : (k n v : ℕ) (after : List ℕ) → v < 128 ^ suc n →
    later_value (k + suc n) (groups (suc n) v ++ after) ≡ v
unfolding groups
groups_value k zero v after h = let z : v < 128 = h in
    rw (shift k 0) (value_last (k + 0) (v % 128) after (omega arith) ∙ omega arith)
groups_value k (suc n) v after h =
    rw (shift k (suc n)) (value_more (k + suc n) (v % 128 + 128) (groups (suc n) (v / 128) ++ after) (omega arith)
    ∙ whole v (later_value (k + suc n) (groups (suc n) (v / 128) ++ after))
    (groups_value k n (v / 128) after (more (suc n) v h)))
  where
    whole : (v x : ℕ) → x ≡ v / 128 → (v % 128 + 128) % 128 + 128 * x ≡ v
    whole v x e = omega arith

pub groups_length : (n v : ℕ) → length (groups (suc n) v) ≡ suc n
unfolding groups
groups_length zero v = refl
groups_length (suc n) v = ap suc (groups_length n (v / 128))

-- the writer's later bytes are such groups, and it writes no more of them than the number needs
pub record Grouped (left v : ℕ) : Type 0 where
  pub fewer : ℕ
  pub within : suc fewer ≤ left
  pub low : v < 128 ^ suc fewer
  pub same : later_bytes left v ≡ groups (suc fewer) v

one_group : (k v : ℕ) → v < 128 → Grouped (suc k) v
unfolding groups
one_group k v h =
    record {
      fewer = 0;
      within = omega arith;
      low = h;
      same = last_group k v h
          ∙ ap (λ (b : ℕ). b ∷ []) (sym (mod-eq_of_lt h));
    }

one_more : (k v : ℕ) → Grouped (suc k) (v / 128) → (t : Bool) → ltb v 128 ≡ t → Grouped (suc (suc k)) v
unfolding groups
one_more k v r true e = one_group (suc k) v (ltb-true v 128 e)
one_more k v r false e =
    let w = r.within in
    let low = r.low in
    record {
      fewer = suc r.fewer;
      within = omega arith;
      low = rw (pow-suc 128 (suc r.fewer)) (omega arith);
      same = group (suc k) v (ltb-false v 128 e) ∙ ap (λ (l : List ℕ). (v % 128 + 128) ∷ l) r.same;
    }

pub grouped : (k v : ℕ) → v < 128 ^ suc k → Grouped (suc k) v
grouped zero v l = one_group 0 v l
grouped (suc k) v l = one_more k v (grouped k (v / 128) (more (suc k) v l)) (ltb v 128) refl

-- so they read back
split : (f k : ℕ) → suc f ≤ k → k ≡ k - suc f + suc f
split f k h = omega arith

later_count_back : (v : ℕ) (after : List ℕ) → v < 128 ^ 9 →
    later_count 9 (later_bytes 9 v ++ after) ≡ length (later_bytes 9 v)
later_count_back v after l =
    let g = grouped 8 v l in
    let n = groups_count (9 - suc g.fewer) g.fewer v after in
    ap (λ (b : List ℕ). later_count 9 (b ++ after)) g.same
    ∙ ap (λ (k : ℕ). later_count k (groups (suc g.fewer) v ++ after)) (split g.fewer 9 g.within)
    ∙ n
    ∙ sym (ap length g.same ∙ groups_length g.fewer v)

later_value_back : (v : ℕ) (after : List ℕ) → v < 128 ^ 9 → later_value 9 (later_bytes 9 v ++ after) ≡ v
later_value_back v after l =
    let g = grouped 8 v l in
    ap (λ (b : List ℕ). later_value 9 (b ++ after)) g.same
    ∙ ap (λ (k : ℕ). later_value k (groups (suc g.fewer) v ++ after)) (split g.fewer 9 g.within)
    ∙ groups_value (9 - suc g.fewer) g.fewer v after g.low

-- the first byte: its top 3 bits are the kind's
kind_back : (kind : Kind) (x : ℕ) → x < 32 → kind_known (kind_from ((kind_code kind * 32 + x) / 32)) ≡ kind
kind_back K.Special x h = ap (λ (n : ℕ). kind_known (kind_from n)) (top 0 x h)
kind_back K.Int x h = ap (λ (n : ℕ). kind_known (kind_from n)) (top 1 x h)
kind_back K.UInt x h = ap (λ (n : ℕ). kind_known (kind_from n)) (top 2 x h)
kind_back K.Float x h = ap (λ (n : ℕ). kind_known (kind_from n)) (top 3 x h)
kind_back K.Sequence x h = ap (λ (n : ℕ). kind_known (kind_from n)) (top 4 x h)
kind_back K.Map x h = ap (λ (n : ℕ). kind_known (kind_from n)) (top 5 x h)
kind_back K.Symbol x h = ap (λ (n : ℕ). kind_known (kind_from n)) (top 6 x h)
kind_back K.Bytes x h = ap (λ (n : ℕ). kind_known (kind_from n)) (top 7 x h)

-- what stands in front of any bytes reads back as the kind and the argument, and takes just its own bytes
pub record Back (kind : Kind) (arg : ℕ) (bytes after : List ℕ) : Type 0 where
  pub its_kind : header_kind (bytes ++ after) ≡ kind
  pub its_argument : header_argument (bytes ++ after) ≡ arg
  pub its_length : header_length (bytes ++ after) ≡ length bytes

back_one : (kind : Kind) (arg : ℕ) (after : List ℕ) → arg < 16 → Back kind arg ((kind_code kind * 32 + arg) ∷ []) after
back_one kind arg after h =
    let b : ℕ = kind_code kind * 32 + arg in
    let z : b / 16 % 2 ≡ 0 = omega arith in
    let a : b % 16 ≡ arg = omega arith in
    record {
      its_kind = kind_back kind arg (omega arith);
      its_argument = one_argument b after (none_follow b z)
          ∙ a;
      its_length = one_length b after (none_follow b z);
    }

back_more : (kind : Kind) (arg : ℕ) (after : List ℕ) → 16 ≤ arg → arg < 2 ^ 64 →
    Back kind arg ((kind_code kind * 32 + 16 + arg % 16) ∷ later_bytes 9 (arg / 16)) after
back_more kind arg after h l =
    let b : ℕ = kind_code kind * 32 + 16 + arg % 16 in
    let later : List ℕ = later_bytes 9 (arg / 16) in
    let z : b / 16 % 2 ≡ 1 = omega arith in
    let low : b % 16 ≡ arg % 16 = omega arith in
    let small : arg / 16 < 128 ^ 9 = omega arith in
    record {
      its_kind = ap (λ (n : ℕ). kind_known (kind_from (n / 32))) (regroup (kind_code kind * 32) (arg % 16))
          ∙ kind_back kind (16 + arg % 16) (omega arith);
      its_argument = more_argument b (later ++ after) z
          ∙ rw (low, later_value_back (arg / 16) after small) (omega arith);
      its_length = more_length b (later ++ after) z ∙ ap suc (later_count_back (arg / 16) after small);
    }
  where
    regroup : (a x : ℕ) → a + 16 + x ≡ a + (16 + x)
    regroup a x = omega arith

back_at : (kind : Kind) (arg : ℕ) (after : List ℕ) (t : Bool) → ltb arg 16 ≡ t → arg < 2 ^ 64 →
    Back kind arg (header_bytes kind arg) after
back_at kind arg after true e l = let h = ltb-true arg 16 e in rw (bytes_one kind arg h) (back_one kind arg after h)
back_at kind arg after false e l = let h = ltb-false arg 16 e in
    rw (bytes_more kind arg h) (back_more kind arg after h l)

pub back : (kind : Kind) (arg : ℕ) (after : List ℕ) → arg < 2 ^ 64 → Back kind arg (header_bytes kind arg) after
back kind arg after l = back_at kind arg after (ltb arg 16) refl l

-- THE ROUND TRIP of a header, under every way: what was written reads as that kind and argument, just past it
pub header_back : (way : Way) (kind : Kind) (arg : ℕ) (before after : List ℕ) → arg < 2 ^ 64 →
    header_from way (before ++ (header_bytes kind arg ++ after)) (length before)
    ≡ Ok (record { 0 = length before + length (header_bytes kind arg) }, kind, arg)
unfolding header_from
header_back way kind arg before after l =
    let bytes : List ℕ = header_bytes kind arg in
    let s : List ℕ = before ++ (bytes ++ after) in
    let d : drop (length before) s ≡ bytes ++ after = drop-append_seam before (bytes ++ after) in
    let r = back kind arg after l in
    let n : header_length (drop (length before) s) ≡ length bytes = ap header_length d ∙ r.its_length in
    let a : header_argument (drop (length before) s) ≡ arg = ap header_argument d ∙ r.its_argument in
    let k : header_kind (drop (length before) s) ≡ kind = ap header_kind d ∙ r.its_kind in
    let whole : length s ≡ length before + (length bytes + length after) = simp length-append in
    up_to_within way (length s) (length before + header_length (drop (length before) s))
    (λ p. Ok (record { 0 = p }, header_kind (drop (length before) s), header_argument (drop (length before) s)))
    (Err (record { 0 = length s }, R.Eof)) (omega arith)
    ∙ rw (n, a, k) refl

-- a signature's word is taken, with its version
pub word_back : (version : ℕ) (after : List ℕ) → version < 256 →
    big_endian (signature_bytes version ++ after) ≡ 0x506F7400 + version
unfolding big_endian
word_back version after h = rw (pot version h) (omega arith)

-- a mask with no bit among the lowest `low` says nothing of those
clear_bits : (low bits mask word x : ℕ) → x < 2 ^ low →
    every_bit (low + bits) (mask * 2 ^ low) (word * 2 ^ low + x) ≡ every_bit bits mask word
unfolding every_bit
clear_bits zero bits mask word x h =
    let l : x < 1 = h in
    let a : 0 + bits ≡ bits = omega arith in
    let b : mask * 1 ≡ mask = omega arith in
    let c : word * 1 + x ≡ word = omega arith in
    rw (a, b, c) refl
clear_bits (suc low) bits mask word x h =
    let P : ℕ = 2 ^ low in
    let e : 2 ^ suc low ≡ P * 2 = pow-suc 2 low in
    let l : x < P * 2 = rw e at h in
    let n : suc low + bits ≡ suc (low + bits) = omega arith in
    let m : mask * 2 ^ suc low ≡ mask * P * 2 = ap (λ (q : ℕ). mask * q) e ∙ sym (mul_assoc mask P 2) in
    let w : word * 2 ^ suc low + x ≡ word * P * 2 + x =
    ap (λ (q : ℕ). q + x) (ap (λ (q : ℕ). word * q) e ∙ sym (mul_assoc word P 2)) in
    let m0 : mask * P * 2 % 2 ≡ 0 = omega arith in
    let m1 : mask * P * 2 / 2 ≡ mask * P = omega arith in
    let w1 : (word * P * 2 + x) / 2 ≡ word * P + x / 2 = omega arith in
    let small : x / 2 < P = omega arith in
    ap (λ (q : ℕ). every_bit q (mask * 2 ^ suc low) (word * 2 ^ suc low + x)) n
    ∙ ap (λ (q : ℕ). every_bit (suc (low + bits)) q (word * 2 ^ suc low + x)) m
    ∙ ap (every_bit (suc (low + bits)) (mask * P * 2)) w
    ∙ ap (λ (q : ℕ). leb q ((word * P * 2 + x) % 2) && every_bit (low + bits) (mask * P * 2 / 2)
    ((word * P * 2 + x) / 2)) m0
    ∙ ap (λ (q : Bool). q && every_bit (low + bits) (mask * P * 2 / 2) ((word * P * 2 + x) / 2))
    (le-leb 0 ((word * P * 2 + x) % 2) (omega arith))
    ∙ ap (λ (q : ℕ). every_bit (low + bits) q ((word * P * 2 + x) / 2)) m1
    ∙ ap (every_bit (low + bits) (mask * P)) w1
    ∙ clear_bits low bits mask word (x / 2) small

own_bits_lem : every_bit 24 0x506F74 0x506F74 ≡ true
unfolding every_bit
own_bits_lem = refl

-- THE ROUND TRIP of the signature, under every way: what was written is taken, with its version, just past it
pub version_back : (way : Way) (version : ℕ) (before after : List ℕ) → version < 256 →
    version_from way (before ++ (signature_bytes version ++ after)) (length before)
    ≡ Ok (record { 0 = length before + 4 }, version)
unfolding version_from
version_back way version before after h =
    let s : List ℕ = before ++ (signature_bytes version ++ after) in
    let d : big_endian (drop (length before) s) ≡ 0x506F7400 + version =
    ap big_endian (drop-append_seam before (signature_bytes version ++ after)) ∙ word_back version after h in
    let n : length (signature_bytes version) ≡ 4 = ap length (pot version h) in
    let whole : length s ≡ length before + (length (signature_bytes version) + length after) = simp length-append in
    let low : (0x506F7400 + version) % 256 ≡ version = omega arith in
    let every : every_bit 32 0x506F7400 (0x506F7400 + version) ≡ true = clear_bits 8 24 0x506F74 0x506F74 version h
    ∙ own_bits_lem in
    up_to_within way (length s) (length before + 4)
    (λ p. judged (big_endian (drop (length before) s)) (record { 0 = p }))
    (Err (record { 0 = length s }, R.Eof)) (omega arith)
    ∙ rw (d, every, low) refl
