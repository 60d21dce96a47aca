-- The later bytes of a header, read: what holds before each turn of the loop, what a turn keeps of it, and what is
-- answered at the ends.
use Rattle.std.specs.Prelude.{Ok, Err}
use mathlib.Core.Path.{◌≡◌, refl, ◌∙◌, sym, ap}
use mathlib.Core.Bool.{Bool, true, false}
use mathlib.Core.List.{List, [], ◌∷◌}
use Prim.Native.Nat.{ℕ, suc, ◌+◌, ◌-◌, ◌*◌, ◌%◌, ◌^◌, ◌≤◌, ◌<◌}
use native.Mathlib.Numerals.{add-one}
use native.Mathlib.Nat.{mod-eq_of_lt, add-mod-mod, mul_assoc, mul_comm, mod-le, mul-mod_left, mul-div_cancel, mul-add}
use native.Mathlib.Nat.{mod-lt, mul-le-mul_right}
use native.Mathlib.Omega.{arith}
use lib.Dec.{lit<}
use lib.Pow.{pow-add, pow_pos}
use lib.Bits.{bit_or, or_shifted_r, or_lt}
use lib.Arith.{mod-mul}
use lib.ListN.{length, drop, get_or, drop_of_length-le}
use lib.Seq.{drop-cons}
use borrow.Author.Rules.{rules}
use borrow.Author.Tests.{lt-ltb, le-ltb, le-leb, lt-leb}
use Rattle.types.specs.Ways.{exact}
use Rattle.types.specs.declared.Way.{Way}
use Rattle.types.specs.declared.Kind.{Kind}
use Rattle.types.specs.declared.Refusal.TheVariants as R
use Rattle.header.specs.Header.{later_count, later_value, later_from, argument_from}

-- the cases of the definitions
pub count_more : (k b : ℕ) (l : List ℕ) → 128 ≤ b → later_count (suc k) (b ∷ l) ≡ suc (later_count k l)
unfolding later_count
count_more k b l h = simp (le-ltb b 128 h)

pub count_last : (k b : ℕ) (l : List ℕ) → b < 128 → later_count (suc k) (b ∷ l) ≡ 1
unfolding later_count
count_last k b l h = simp (lt-ltb b 128 h)

pub value_more : (k b : ℕ) (l : List ℕ) → 128 ≤ b → later_value (suc k) (b ∷ l) ≡ b % 128 + 128 * later_value k l
unfolding later_value
value_more k b l h = simp (le-ltb b 128 h)

pub value_last : (k b : ℕ) (l : List ℕ) → b < 128 → later_value (suc k) (b ∷ l) ≡ b % 128
unfolding later_value
value_last k b l h = simp (lt-ltb b 128 h) (omega arith)

-- a piece of 7 bits, shifted to its place in 64 bits, is joined to what is below it: the sum, bits above 64 dropped
shifted : (d k : ℕ) → k ≤ 64 → (d * 2 ^ k) % 2 ^ 64 ≡ (d % 2 ^ (64 - k)) * 2 ^ k
shifted d k h =
    let e : 2 ^ 64 ≡ 2 ^ (64 - k) * 2 ^ k = ap (λ (n : ℕ). 2 ^ n) (back k h) ∙ pow-add 2 (64 - k) k in
    ap (λ (n : ℕ). (d * 2 ^ k) % n) e
    ∙ mod-mul (d * 2 ^ k) {m = 2 ^ (64 - k)} {c = 2 ^ k} (pow_pos (64 - k)) (pow_pos k)
    ∙ rw (mul-mod_left d (2 ^ k), mul-div_cancel d (pow_pos k)) (omega arith)
  where
    back : (k : ℕ) → k ≤ 64 → 64 ≡ 64 - k + k
    back k h = omega arith

joined : (arg d k : ℕ) → k ≤ 64 → arg < 2 ^ k → bit_or arg ((d * 2 ^ k) % 2 ^ 64) ≡ arg + (d * 2 ^ k) % 2 ^ 64
joined arg d k h l = rw (shifted d k h, or_shifted_r (d % 2 ^ (64 - k)) k arg l) (omega arith)

-- What the loop keeps: the argument's bits so far, and where they end. What they and the bytes ahead hold is the
-- argument, and the bytes read and those ahead are the later bytes.
pub record Reading (s : List ℕ) (at low end place arg offset : ℕ) : Type 0 where
  pub from : at ≤ place
  pub until : place ≤ end
  pub shift : offset ≡ 4 + 7 * (place - at)
  pub below : arg < 2 ^ offset
  pub word : arg < 2 ^ 64
  pub value :
      (arg + 2 ^ offset * later_value (9 - (place - at)) (drop place s)) % 2 ^ 64
      ≡ argument_from low (later_value 9 (drop at s))
  pub count : place + later_count (9 - (place - at)) (drop place s) ≡ at + later_count 9 (drop at s)

pub reading_begins : (s : List ℕ) (at low end : ℕ) → at ≤ end → low < 16 → Reading s at low end at low 4
reading_begins s at low end e h =
    let z : 9 - (at - at) ≡ 9 = omega arith in
    record {
      from = omega arith;
      until = e;
      shift = omega arith;
      below = h;
      word = omega arith;
      value = rw z refl;
      count = rw z refl;
    }

-- where nothing ahead is held, the argument is what was gathered
gathered : (arg P v all : ℕ) → arg < 2 ^ 64 → (arg + P * v) % 2 ^ 64 ≡ all → v ≡ 0 → arg ≡ all
gathered arg P v all w e z =
    let n : arg + P * v ≡ arg = rw z (omega arith) in
    sym (mod-eq_of_lt w) ∙ ap (λ (n : ℕ). n % 2 ^ 64) (sym n) ∙ e

-- a piece joined to the argument, with what is ahead of it: what was dropped of the piece is dropped of the sum
carried : (arg d P v m : ℕ) → (arg + (d * P) % m + P * 128 * v) % m ≡ (arg + P * (d + 128 * v)) % m
carried arg d P v m =
    let front : arg + (d * P) % m + P * 128 * v ≡ arg + P * 128 * v + (d * P) % m = omega arith in
    let whole : P * (d + 128 * v) ≡ d * P + P * 128 * v =
    mul-add P d (128 * v) ∙ rw (mul_comm P d, mul_assoc P 128 v)
    in
    let back : arg + P * 128 * v + d * P ≡ arg + P * (d + 128 * v) = omega arith in
    ap (λ (n : ℕ). n % m) front ∙ add-mod-mod (arg + P * 128 * v) (d * P) m ∙ ap (λ (n : ℕ). n % m) back

module _ (s : List ℕ) (at low end place arg offset : ℕ) (r : Reading s at low end place arg offset)
    (nine : end ≤ at + 9) (inside : end ≤ length s) where
  -- a turn, and the 7 bits of its byte
  module _ (seven : ℕ) (h : place < end) (d : seven ≡ get_or s place 0 % 128) where
    left : 9 - (place - at) ≡ suc (9 - (place + 1 - at))
    left = let f = r.from in omega arith

    here : drop place s ≡ get_or s place 0 ∷ drop (place + 1) s
    here = drop-cons s place 0 (omega arith) ∙ ap (λ (n : ℕ). get_or s place 0 ∷ drop n s) (sym (add-one place))

    sum : bit_or arg ((seven * 2 ^ offset) % 2 ^ 64) ≡ arg + (seven * 2 ^ offset) % 2 ^ 64
    sum = let f = r.from in joined arg seven offset (omega (arith, r.shift)) r.below

    sum_below : bit_or arg ((seven * 2 ^ offset) % 2 ^ 64) < 2 ^ (offset + 7)
    sum_below =
        let P : ℕ = 2 ^ offset in
        let q : (seven * P) % 2 ^ 64 ≤ seven * P = mod-le (seven * P) (2 ^ 64) in
        let c : seven * P ≤ 127 * P = mul-le-mul_right P (omega arith) in
        let b : arg < P = r.below in
        rw (sum, pow-add 2 offset 7) (omega arith)

    sum_word : bit_or arg ((seven * 2 ^ offset) % 2 ^ 64) < 2 ^ 64
    sum_word =
        let m = mod-lt (seven * 2 ^ offset) {m = 2 ^ 64} (lit< tt) in
        or_lt 64 arg ((seven * 2 ^ offset) % 2 ^ 64) r.word m

    sum_value : (v : ℕ) → later_value (9 - (place - at)) (drop place s) ≡ seven + 128 * v →
        (bit_or arg ((seven * 2 ^ offset) % 2 ^ 64) + 2 ^ (offset + 7) * v) % 2 ^ 64
        ≡ argument_from low (later_value 9 (drop at s))
    sum_value v e = rw (sum, pow-add 2 offset 7) (carried arg seven (2 ^ offset) v (2 ^ 64) ∙ rw (← e) r.value)

    -- another byte follows
    pub reading_turn : (get_or s place 0 % 128 ≡ get_or s place 0 → ⊥) →
        Reading s at low end (place + 1) (bit_or arg ((seven * 2 ^ offset) % 2 ^ 64)) (offset + 7)
    reading_turn more =
        let f = r.from in
        let g = r.count in
        let k : ℕ = 9 - (place + 1 - at) in
        let b : 128 ≤ get_or s place 0 = omega arith in
        let v : later_value (9 - (place - at)) (drop place s) ≡ seven + 128 * later_value k (drop (place + 1) s) =
        rw (left, here, d) (value_more k (get_or s place 0) (drop (place + 1) s) b)
        in
        let n : later_count (9 - (place - at)) (drop place s) ≡ suc (later_count k (drop (place + 1) s)) =
        rw (left, here) (count_more k (get_or s place 0) (drop (place + 1) s) b)
        in
        record {
          from = omega arith;
          until = omega arith;
          shift = omega (arith, r.shift);
          below = sum_below;
          word = sum_word;
          value = sum_value (later_value k (drop (place + 1) s)) v;
          count = omega arith;
        }

    -- it is the last
    pub reading_last : (way : Way) (kind : Kind) → get_or s place 0 % 128 ≡ get_or s place 0 →
        Ok (record { 0 = place + 1 }, kind, bit_or arg ((seven * 2 ^ offset) % 2 ^ 64)) ≡ later_from way s at kind low
    unfolding later_from
    reading_last way kind last =
        let f = r.from in
        let g = r.count in
        let k : ℕ = 9 - (place + 1 - at) in
        let b : get_or s place 0 < 128 = omega arith in
        let v : later_value (9 - (place - at)) (drop place s) ≡ seven + 128 * 0 =
        rw (left, here, d) (value_last k (get_or s place 0) (drop (place + 1) s) b ∙ omega arith)
        in
        let n : later_count (9 - (place - at)) (drop place s) ≡ 1 =
        rw (left, here) (count_last k (get_or s place 0) (drop (place + 1) s) b)
        in
        let p : place + 1 ≡ at + later_count 9 (drop at s) = omega arith in
        let a = gathered _ (2 ^ (offset + 7)) 0 _ sum_word (sum_value 0 v) refl in
        cc (p, a, le-leb (at + later_count 9 (drop at s)) (length s) (omega arith))

  module _ (way : Way) (kind : Kind) (stop : end ≤ place) where
    -- nine bytes were read
    pub reading_full : end - at ≡ 9 → Ok (record { 0 = end }, kind, arg) ≡ later_from way s at kind low
    unfolding later_from later_count later_value
    reading_full e =
        let u = r.until in
        let g = r.count in
        let z : 9 - (place - at) ≡ 0 = omega arith in
        let n : later_count (9 - (place - at)) (drop place s) ≡ 0 = rw z refl in
        let p : end ≡ at + later_count 9 (drop at s) = omega arith in
        let a = gathered arg (2 ^ offset) _ _ r.word r.value (rw z refl) in
        cc (p, a, le-leb (at + later_count 9 (drop at s)) (length s) (omega arith))

    -- the source ended before, in exact reading and in filled
    module _ (fewer : end - at ≡ 9 → ⊥) (all : end < at + 9 → end ≡ length s) (exactly : Bool)
        (x : exactly ≡ exact way) where
      ended : place ≡ length s
      ended = let f = r.from in let u = r.until in omega (arith, all (omega arith))

      none_ahead :
          (later_count (9 - (place - at)) (drop place s) ≡ 1) × (later_value (9 - (place - at)) (drop place s) ≡ 0)
      unfolding later_count later_value
      none_ahead =
          let f = r.from in
          let u = r.until in
          let z : 9 - (place - at) ≡ suc (8 - (place - at)) = omega arith in
          let n : drop place s ≡ [] = drop_of_length-le s {i = place} (omega (arith, ended)) in
          rw (z, n) (refl, refl)

      past : length s < at + later_count 9 (drop at s)
      past = omega (arith, none_ahead.0, r.count, ended)

      end_is : end ≡ length s
      end_is = let u = r.until in omega (arith, ended)

      pub reading_eof : exactly ≡ true → Err (record { 0 = end }, R.Eof) ≡ later_from way s at kind low
      unfolding later_from
      reading_eof y = cc (end_is, lt-leb (at + later_count 9 (drop at s)) (length s) past)

      pub reading_filled : exactly ≡ false → Ok (record { 0 = end }, kind, arg) ≡ later_from way s at kind low
      unfolding later_from
      reading_filled y =
          let a = gathered arg (2 ^ offset) _ _ r.word r.value none_ahead.1 in
          cc (end_is, a, lt-leb (at + later_count 9 (drop at s)) (length s) past)

pub ruleset reading_laws =
    (reading_begins, reading_turn, reading_last, reading_full, reading_eof, reading_filled, rules)
