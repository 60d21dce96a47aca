-- AN ATOM IS A FORM OF ITS MEANING: its meaning is held by its own count, with its own argument and body. So one whose
-- header is the writer's is the form at that count, and one in shortest form is the shortest bytes of its meaning. No
-- atom is shorter than that.
use mathlib.Core.Path.{◌≡◌, refl, ◌∙◌, sym, ap, subst}
use mathlib.Core.Bool.{Bool, true, false}
use mathlib.Core.List.{List, [], ◌∷◌, ◌++◌}
use Prim.Native.Nat.{ℕ, zero, suc, ◌+◌, ◌-◌, ◌*◌, ◌^◌, ◌≤◌, ◌<◌}
use native.Mathlib.Omega.{arith}
use native.Mathlib.Nat.{mod-eq_of_lt}
use lib.Dec.{ltb}
use lib.IntN.{ℤ}
use lib.ListN.{length, take, drop, length-append, length-drop, take-append-drop}
use lib.Seq.{take-length}
use borrow.Author.Tests.{eqb-true, ltb-true, ltb-false, lt-ltb}
use Rattle.types.specs.Kinds.{special_code, special_from, special_known}
use Rattle.types.specs.Forms.{integers_written, floats_read, sizes, count_of, allowed_count, allowed_float, known, body_length}
use Rattle.types.specs.declared.Kind.{Kind}
use Rattle.types.specs.declared.Kind.TheVariants as K
use Rattle.header.specs.Header.{header_bytes, header_kind, header_argument, header_length}
use Rattle.header.proofs.Answers.{bytes_one}
use Rattle.header.proofs.Fewest as Header
use Rattle.little.specs.Le.{from_le, to_le, number_at}
use Rattle.little.specs.Twos.{twos_bits}
use Rattle.little.specs.Counts.{holds_u, holds_s, shortest_u, shortest_s}
use Rattle.little.proofs.Width.{to_from, to_length}
use Rattle.little.proofs.At.{number_lt}
use Rattle.little.proofs.Two.{bits_twos, twos_held, holds_u_more, holds_s_more}
use Rattle.integer.proofs.Counts.{allowed_bounds}
use Rattle.binary.specs.Formats.{Layout, sign_weight, meaning, Meaning, finite, infinite}
use Rattle.binary.specs.Formats as Ieee
use Rattle.binary.specs.Conversions.{with_sign, candidate, has}
use Rattle.binary.specs.Conversions as Binary
use Rattle.binary.proofs.Patterns.{one_pattern}
use Rattle.binary.proofs.Narrowing.{infinite_here, infinity_lt}
use Rattle.float.specs.Floats.{layout_at}
use Rattle.dictionary.specs.Wholes.{IsAtom}
use Rattle.shortest.specs.Meanings.{Meant, special, int, uint, float, infinity, nan, sequence, map, symbol, bytes}
use Rattle.shortest.specs.Meanings.{kind_of, float_meant, meant_by, meant, Bytes, HeldBy, Proper}
use Rattle.shortest.specs.Forms.{shortest_header, shortest_f, fewest, shortest, argument_at, body_at, form_at, fewest_count, shortest_bytes}
use Rattle.shortest.proofs.Headers.{same_is}
use Rattle.shortest.proofs.Counts.{and_true, first_most, written_rising}
use Rattle.shortest.proofs.Floats.{float_range, float_bounds}
use Rattle.shortest.proofs.Floats.{has_more, finite-has, floats_rising, pattern_means, pattern_below, width_patterns}
use Rattle.shortest.proofs.Standing.{drop_bytes}

-- ---- a kind, an argument and a body

-- what is to be shown of them, with the number of bytes that the argument says
pub record Reads (kind : Kind) (arg : ℕ) (body : List ℕ) (m : Meant) : Type 0 where
  pub its_kind : kind_of m ≡ kind
  pub its_argument : argument_at (count_of arg) m ≡ arg
  pub its_body : body_at (count_of arg) m ≡ body
  pub held : HeldBy (count_of arg) m

-- the argument of a count that is not 0
pub argument_back : (arg : ℕ) → arg < sizes → 0 < count_of arg → count_of arg - 1 ≡ arg
argument_back arg word some = by (ltb (arg + 1) sizes) refl
  where
    by : (t : Bool) → ltb (arg + 1) sizes ≡ t → count_of arg - 1 ≡ arg
    by true e =
        let c : count_of arg ≡ arg + 1 = mod-eq_of_lt (ltb-true (arg + 1) sizes e) in omega arith
    by false e = omega (arith, ltb-false (arg + 1) sizes e)

special_back : (arg : ℕ) → arg < 7 → special_code (special_known (special_from arg)) ≡ arg
special_back zero h = refl
special_back (suc zero) h = refl
special_back (suc (suc zero)) h = refl
special_back (suc (suc (suc zero))) h = refl
special_back (suc (suc (suc (suc zero)))) h = refl
special_back (suc (suc (suc (suc (suc zero))))) h = refl
special_back (suc (suc (suc (suc (suc (suc zero)))))) h = refl
special_back (suc (suc (suc (suc (suc (suc (suc n))))))) h = absurd (omega arith)

no_bytes : (body : List ℕ) → length body ≡ 0 → [] ≡ body
no_bytes [] h = refl
no_bytes (b ∷ body) h = absurd (omega arith)

from_lt : (body : List ℕ) → Bytes body → from_le body < 256 ^ length body
unfolding number_at
from_lt body B =
    subst (λ (x : List ℕ). from_le x < 256 ^ length body) (take-length body) (number_lt (length body) body 0 B)

-- a body of a count: its number fits, and its bytes are the number's
module _ (c : ℕ) (body : List ℕ) (long : length body ≡ c) (B : Bytes body) where
  number_fits : from_le body < 256 ^ c
  number_fits = subst (λ (n : ℕ). from_le body < 256 ^ n) long (from_lt body B)

  number_bytes : to_le c (from_le body) ≡ body
  number_bytes = ap (λ (n : ℕ). to_le n (from_le body)) (sym long) ∙ to_from body B

pub lt_held : (n k : ℕ) → k < 256 ^ n → holds_u n k ≡ true
unfolding holds_u
lt_held n k h = lt-ltb k (256 ^ n) h

-- a float, by what its bits mean
module _ (arg : ℕ) (body : List ℕ) (word : arg < sizes) (a : allowed_float (count_of arg) ≡ true)
    (long : length body ≡ count_of arg) (B : Bytes body)
  where
    abbrev c : ℕ
    c = count_of arg

    abbrev f : Layout
    f = layout_at c

    bits_low : from_le body < 2 * sign_weight f
    bits_low = subst (λ (n : ℕ). from_le body < n) (sym (width_patterns c a)) (number_fits c body long B)

    back_argument : c - 1 ≡ arg
    back_argument = argument_back arg word (float_bounds c a).0

    float_reads : (x : Meaning) → meaning f (from_le body) ≡ x → Reads K.Float arg body (float_meant c (from_le body) x)
    float_reads (finite s m) e =
        let h = finite-has f (from_le body) s m bits_low e in
        let same : with_sign f s (candidate f m) ≡ from_le body =
        one_pattern f (with_sign f s (candidate f m)) (from_le body) (pattern_below f s m h) bits_low
        (pattern_means f s m h ∙ sym e) in
        record {
          its_kind = refl;
          its_argument = back_argument;
          its_body = ap (to_le c) same ∙ number_bytes c body long B;
          held = (a, h);
        }
    float_reads (infinite s) e =
        let same : with_sign f s (Binary.infinity f) ≡ from_le body =
        one_pattern f (with_sign f s (Binary.infinity f)) (from_le body) (infinity_lt f s) bits_low
        (infinite_here f s ∙ sym e) in
        record {
          its_kind = refl;
          its_argument = back_argument;
          its_body = ap (to_le c) same ∙ number_bytes c body long B;
          held = a;
        }
    float_reads (Ieee.nan s t) e = record {
      its_kind = refl;
      its_argument = back_argument;
      its_body = number_bytes c body long B;
      held = (a, number_fits c body long B, (s, t, e));
    }

pub reads : (kind : Kind) (arg : ℕ) (body : List ℕ) → arg < sizes → known kind arg ≡ true →
    length body ≡ body_length kind arg → Bytes body → Reads kind arg body (meant_by kind arg body)
reads K.Special arg body word k long B = record {
  its_kind = refl;
  its_argument = special_back arg (ltb-true arg 7 k);
  its_body = no_bytes body long;
  held = tt;
}
reads K.Int arg body word k long B =
    let c : ℕ = count_of arg in
    let b = allowed_bounds c k in
    let low = number_fits c body long B in
    record {
      its_kind = refl;
      its_argument = argument_back arg word b.0;
      its_body = ap (to_le c) (bits_twos c (from_le body) low) ∙ number_bytes c body long B;
      held = (k, twos_held c (from_le body) b.0 low);
    }
reads K.UInt arg body word k long B =
    let c : ℕ = count_of arg in
    record {
      its_kind = refl;
      its_argument = argument_back arg word (allowed_bounds c k).0;
      its_body = number_bytes c body long B;
      held = (k, lt_held c (from_le body) (number_fits c body long B));
    }
reads K.Float arg body word k long B =
    float_reads arg body word k long B (meaning (layout_at (count_of arg)) (from_le body)) refl
reads K.Sequence arg body word k long B =
    record { its_kind = refl; its_argument = refl; its_body = no_bytes body long; held = word }
reads K.Map arg body word k long B =
    record { its_kind = refl; its_argument = refl; its_body = no_bytes body long; held = word }
reads K.Symbol arg body word k long B =
    record { its_kind = refl; its_argument = refl; its_body = no_bytes body long; held = word }
reads K.Bytes arg body word k long B =
    record { its_kind = refl; its_argument = long; its_body = refl; held = (long_word, B) }
  where
    long_word : length body < sizes
    long_word = subst (λ (n : ℕ). n < sizes) (sym long) word

-- ---- an atom

-- the body of an atom that is whole and known
abbrev pub body_of : List ℕ → List ℕ
body_of atom = drop (header_length atom) atom

module _ (atom : List ℕ) (w : IsAtom atom) (B : Bytes atom) where
  body_long : length (body_of atom) ≡ body_length (header_kind atom) (header_argument atom)
  body_long = let e = w.its_length in let d = length-drop (header_length atom) atom in omega arith

  pub atom-reads : Reads (header_kind atom) (header_argument atom) (body_of atom) (meant atom)
  unfolding meant
  atom-reads =
      reads (header_kind atom) (header_argument atom) (body_of atom) (Header.argument_word atom) w.its_kind body_long
      (drop_bytes (header_length atom) atom B)

  -- ITS MEANING IS ONE THAT AN ATOM HAS
  pub atom_proper : Proper (meant atom)
  atom_proper = (count_of (header_argument atom), atom-reads.held)

  -- the writer's header: the form at its own count
  pub atom_form : shortest_header atom ≡ true → form_at (count_of (header_argument atom)) (meant atom) ≡ atom
  unfolding form_at shortest_header
  atom_form h =
      let r = atom-reads in
      let c = count_of (header_argument atom) in
      ap (λ (k : Kind). header_bytes k (argument_at c (meant atom)) ++ body_at c (meant atom)) r.its_kind
      ∙ ap (λ (n : ℕ). header_bytes (header_kind atom) n ++ body_at c (meant atom)) r.its_argument
      ∙ ap (λ (l : List ℕ). header_bytes (header_kind atom) (header_argument atom) ++ l) r.its_body
      ∙ ap (λ (l : List ℕ). l ++ body_of atom)
      (sym (same_is (take (header_length atom) atom) (header_bytes (header_kind atom) (header_argument atom)) h))
      ∙ take-append-drop (header_length atom) atom

-- a count that is the fewest gives the shortest bytes
form_fewest : (c : ℕ) (m : Meant) → fewest c m ≡ true → form_at c m ≡ form_at (fewest_count m) m
unfolding form_at
form_fewest c (special s) h = refl
form_fewest c (int z) h = ap (λ (n : ℕ). form_at n (int z)) (eqb-true c (shortest_s z) h)
form_fewest c (uint k) h = ap (λ (n : ℕ). form_at n (uint k)) (eqb-true c (shortest_u k) h)
form_fewest c (float s m) h = ap (λ (n : ℕ). form_at n (float s m)) (eqb-true c (shortest_f m) h)
form_fewest c (infinity s) h = ap (λ (n : ℕ). form_at n (infinity s)) (eqb-true c 2 h)
form_fewest c (nan w b) h = refl
form_fewest c (sequence n) h = refl
form_fewest c (map n) h = refl
form_fewest c (symbol n) h = refl
form_fewest c (bytes l) h = refl

-- AN ATOM IN SHORTEST FORM IS THE SHORTEST BYTES OF ITS MEANING
pub accepted_form : (atom : List ℕ) → IsAtom atom → Bytes atom → shortest atom ≡ true → shortest_bytes (meant atom) ≡ atom
unfolding shortest shortest_bytes
accepted_form atom w B h =
    let t = and_true (shortest_header atom) (fewest (count_of (header_argument atom)) (meant atom)) h in
    sym (form_fewest (count_of (header_argument atom)) (meant atom) t.1) ∙ atom_form atom w B t.0

-- ---- none is shorter

-- the fewest count is no more than one that holds the meaning
int_most : (c : ℕ) (z : ℤ) → allowed_count c ≡ true → holds_s c z ≡ true → shortest_s z ≤ c
unfolding shortest_s
int_most c z a h =
    first_most integers_written written_rising (λ n. holds_s n z) (λ n k i j. holds_s_more n k z) c a h

uint_most : (c k : ℕ) → allowed_count c ≡ true → holds_u c k ≡ true → shortest_u k ≤ c
unfolding shortest_u
uint_most c k a h =
    first_most integers_written written_rising (λ n. holds_u n k) (λ n m i j. holds_u_more n m k) c a h

pub float_most : (c m : ℕ) → allowed_float c ≡ true → has (layout_at c) m ≡ true → shortest_f m ≤ c
unfolding shortest_f
float_most c m a h = first_most floats_read floats_rising (λ n. has (layout_at n) m) (has_more m) c a h

-- a number in fewer bytes
number_least : (kind : Kind) (n c bits : ℕ) → n ≤ c → c ≤ 16 →
    length (header_bytes kind (n - 1) ++ to_le n bits) ≤ 1 + c
number_least kind n c bits h most =
    let one = ap length (bytes_one kind (n - 1) (omega arith)) in
    let size = length-append (header_bytes kind (n - 1)) (to_le n bits) in
    let long = to_length n bits in
    omega arith

-- the form at the fewest count is no longer than a header of that argument, and the body at another that holds it
form_least : (c : ℕ) (m : Meant) → HeldBy c m → (h : ℕ) → 1 ≤ h → length (header_bytes (kind_of m) (argument_at c m)) ≤ h →
    length (form_at (fewest_count m) m) ≤ h + length (body_at c m)
unfolding form_at
form_least c (special s) held h one l =
    omega (arith, length-append (header_bytes K.Special (special_code s)) [])
form_least c (int z) held h one l =
    let most = int_most c z held.0 held.1 in
    let b = allowed_bounds c held.0 in
    let n = number_least K.Int (shortest_s z) c (twos_bits (shortest_s z) z) most b.1 in
    omega (arith, to_length c (twos_bits c z))
form_least c (uint k) held h one l =
    let most = uint_most c k held.0 held.1 in
    let b = allowed_bounds c held.0 in
    let n = number_least K.UInt (shortest_u k) c k most b.1 in
    omega (arith, to_length c k)
form_least c (float s m) held h one l =
    let most = float_most c m held.0 held.1 in
    let b = float_bounds c held.0 in
    let f : Layout = layout_at (shortest_f m) in
    let n = number_least K.Float (shortest_f m) c (with_sign f s (candidate f m)) most b.1 in
    omega (arith, to_length c (with_sign (layout_at c) s (candidate (layout_at c) m)))
form_least c (infinity s) held h one l =
    let b = float_bounds c held in
    let f : Layout = layout_at 2 in
    let n = number_least K.Float 2 c (with_sign f s (Binary.infinity f)) (float_range c held).0 b.1 in
    omega (arith, to_length c (with_sign (layout_at c) s (Binary.infinity (layout_at c))))
form_least c (nan w b) held h one l = omega (arith, length-append (header_bytes K.Float (w - 1)) (to_le w b))
form_least c (sequence n) held h one l = omega (arith, length-append (header_bytes K.Sequence n) [])
form_least c (map n) held h one l = omega (arith, length-append (header_bytes K.Map n) [])
form_least c (symbol n) held h one l = omega (arith, length-append (header_bytes K.Symbol n) [])
form_least c (bytes x) held h one l = omega (arith, length-append (header_bytes K.Bytes (length x)) x)

-- NO ATOM IS SHORTER than the shortest bytes of its meaning
pub atom-least : (atom : List ℕ) → IsAtom atom → Bytes atom → length (shortest_bytes (meant atom)) ≤ length atom
unfolding shortest_bytes
atom-least atom w B =
    let r = atom-reads atom w B in
    let c = count_of (header_argument atom) in
    let m = meant atom in
    let few : length (header_bytes (kind_of m) (argument_at c m)) ≤ header_length atom =
    subst (λ (n : ℕ). length (header_bytes (kind_of m) n) ≤ header_length atom) (sym r.its_argument)
    (Header.fewest (kind_of m) atom) in
    let one = (Header.length_bounds atom).0 in
    let least = form_least c m r.held (header_length atom) one few in
    let body : length (body_at c m) ≡ length (body_of atom) = ap length r.its_body in
    let there = w.its_header in
    omega (arith, length-drop (header_length atom) atom)
