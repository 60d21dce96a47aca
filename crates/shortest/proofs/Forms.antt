-- THE FORM OF A MEANING IS AN ATOM WITH THAT MEANING, its number in any count that holds it, under the writer's header:
-- its bytes are below 256, and it is in shortest form at the fewest count. By the kind; one law over the count.
use Rattle.std.specs.Prelude.{Result}
use mathlib.Core.Path.{◌≡◌, refl, ◌∙◌, sym, ap, subst}
use mathlib.Core.Bool.{Bool, true, false, ◌&&◌}
use mathlib.Core.List.{List, [], ◌∷◌, ◌++◌}
use Prim.Native.Nat.{ℕ, zero, suc, ◌+◌, ◌-◌, ◌*◌, ◌/◌, ◌%◌, ◌^◌, ◌≤◌, ◌<◌}
use native.Mathlib.Omega.{arith}
use native.Mathlib.Nat.{mod-eq_of_lt, mod-lt}
use lib.Dec.{ltb, lit<}
use lib.ListN.{length, take, drop, length-append}
use lib.Seq.{drop-append_seam, take-append_seam}
use borrow.Author.Tests.{eq-eqb, ltb-true, ltb-false, lt-ltb}
use Rattle.types.specs.declared.Special.{Special}
use Rattle.types.specs.declared.Refusal.{Refusal}
use Rattle.types.specs.Kinds.{kind_code, special_code, special_known}
use Rattle.types.specs.Forms.{integers_written, floats_read, sizes, count_of, allowed_count, allowed_float, listed, known, body_length}
use Rattle.types.specs.declared.Kind.{Kind}
use Rattle.types.specs.declared.Kind.TheVariants as K
use Rattle.types.proofs.Specials.{special_known_lem, special_small}
use Rattle.header.specs.Header.{later_bytes, header_bytes, header_kind, header_argument, header_length}
use Rattle.header.proofs.Answers.{bytes_one, bytes_more}
use Rattle.header.proofs.Groups.{last_group, group}
use Rattle.header.proofs.RoundTrip.{Back, back}
use Rattle.little.specs.Le.{from_le, to_le}
use Rattle.little.specs.Twos.{twos, twos_bits}
use Rattle.little.specs.Counts.{holds_u, holds_s, shortest_u, shortest_s}
use Rattle.little.proofs.Width.{from_to_fits, to_length}
use Rattle.little.proofs.Two.{twos_bits_lem, bits_lt}
use Rattle.little.proofs.Shortest.{first_holds, first_listed}
use Rattle.integer.proofs.Counts.{allowed_bounds}
use Rattle.binary.specs.Formats.{meaning, Meaning, finite, infinite}
use Rattle.binary.specs.Formats as Ieee
use Rattle.binary.specs.Conversions.{with_sign, candidate, has}
use Rattle.binary.specs.Conversions as Binary
use Rattle.binary.proofs.Narrowing.{infinite_here}
use Rattle.float.specs.Floats.{layout_at}
use Rattle.dictionary.specs.Wholes.{IsAtom}
use Rattle.shortest.specs.Meanings.{Meant, special, int, uint, float, infinity, nan, sequence, map, symbol, bytes}
use Rattle.shortest.specs.Meanings.{kind_of, float_meant, meant_by, meant, Bytes, HeldBy, Proper}
use Rattle.shortest.specs.Forms.{shortest_header, shortest_f, fewest, shortest, argument_at, body_at, form_at, fewest_count, shortest_bytes}
use Rattle.shortest.proofs.Headers.{is_same}
use Rattle.shortest.proofs.Floats.{float_bounds, pattern_means, pattern_lt, infinity_low}

-- ---- a header of the writer's, and a body behind it

module _ (kind : Kind) (arg : ℕ) (body : List ℕ) (word : arg < sizes) where
  abbrev atom : List ℕ
  atom = header_bytes kind arg ++ body

  read_back : Back kind arg (header_bytes kind arg) body
  read_back = back kind arg body word

  formed_body : drop (header_length atom) atom ≡ body
  formed_body =
      ap (λ (n : ℕ). drop n atom) read_back.its_length ∙ drop-append_seam (header_bytes kind arg) body

  pub formed_header : shortest_header atom ≡ true
  unfolding shortest_header
  formed_header =
      is_same (take (header_length atom) atom) (header_bytes (header_kind atom) (header_argument atom))
      (ap (λ (n : ℕ). take n atom) read_back.its_length ∙ take-append_seam (header_bytes kind arg) body
      ∙ sym (ap (λ (k : Kind). header_bytes k (header_argument atom)) read_back.its_kind
      ∙ ap (header_bytes kind) read_back.its_argument))

  pub formed_meant : meant atom ≡ meant_by kind arg body
  unfolding meant
  formed_meant =
      ap (λ (k : Kind). meant_by k (header_argument atom) (drop (header_length atom) atom)) read_back.its_kind
      ∙ ap (λ (n : ℕ). meant_by kind n (drop (header_length atom) atom)) read_back.its_argument
      ∙ ap (meant_by kind arg) formed_body

  pub formed_argument : header_argument atom ≡ arg
  formed_argument = read_back.its_argument

  pub formed_atom : known kind arg ≡ true → length body ≡ body_length kind arg → IsAtom atom
  formed_atom k n =
      let size = length-append (header_bytes kind arg) body in
      let h = read_back.its_length in
      record {
        its_header = omega arith;
        its_length =
            size ∙ ap (λ (x : ℕ). length (header_bytes kind arg) + x) n
            ∙ ap (λ (x : ℕ). x + body_length kind arg) (sym h)
            ∙ ap (λ (x : Kind). header_length atom + body_length x arg) (sym read_back.its_kind)
            ∙ ap (λ (x : ℕ). header_length atom + body_length (header_kind atom) x) (sym read_back.its_argument);
        its_kind =
            ap (λ (x : Kind). known x (header_argument atom)) read_back.its_kind
            ∙ ap (known kind) read_back.its_argument ∙ k;
      }

-- ---- its number

-- the argument of a count, and back
pub count_back : (c : ℕ) → 0 < c → c ≤ 16 → count_of (c - 1) ≡ c
count_back c some most =
    let e : c - 1 + 1 ≡ c = omega arith in
    ap (λ (n : ℕ). n % sizes) e ∙ mod-eq_of_lt (omega arith)

-- WHAT A FORM IS: its header has an argument and a body that mean the meaning
pub record Formed (c : ℕ) (m : Meant) : Type 0 where
  pub word : argument_at c m < sizes
  pub is_known : known (kind_of m) (argument_at c m) ≡ true
  pub long : length (body_at c m) ≡ body_length (kind_of m) (argument_at c m)
  pub means : meant_by (kind_of m) (argument_at c m) (body_at c m) ≡ m

number_word : (c : ℕ) → c ≤ 16 → c - 1 < sizes
number_word c h = omega arith

pub held_lt : (n k : ℕ) → holds_u n k ≡ true → k < 256 ^ n
unfolding holds_u
held_lt n k h = ltb-true k (256 ^ n) h

-- a float's: the bits mean what is meant
module _ (c bits : ℕ) (m : Meant) (x : Meaning) (a : allowed_float c ≡ true) (low : bits < 256 ^ c)
    (e : meaning (layout_at c) bits ≡ x) (f : float_meant c bits x ≡ m) where
  float_means_lem : meant_by K.Float (c - 1) (to_le c bits) ≡ m
  float_means_lem =
      let b = float_bounds c a in
      ap (λ (n : ℕ). float_meant n (from_le (to_le c bits)) (meaning (layout_at n) (from_le (to_le c bits))))
      (count_back c b.0 b.1)
      ∙ ap (λ (n : ℕ). float_meant c n (meaning (layout_at c) n)) (from_to_fits c bits low)
      ∙ ap (float_meant c bits) e
      ∙ f

  float_known : known K.Float (c - 1) ≡ true
  float_known = let b = float_bounds c a in ap allowed_float (count_back c b.0 b.1) ∙ a

  float_long : length (to_le c bits) ≡ count_of (c - 1)
  float_long = let b = float_bounds c a in to_length c bits ∙ sym (count_back c b.0 b.1)

pub held_formed : (c : ℕ) (m : Meant) → HeldBy c m → Formed c m
held_formed c (special s) h = record {
  word = omega (arith, special_small s);
  is_known = lt-ltb (special_code s) 7 (special_small s);
  long = refl;
  means = ap (λ (x : Result Special Refusal). special (special_known x)) (special_known_lem s);
}
held_formed c (int z) h =
    let b = allowed_bounds c h.0 in
    let e = count_back c b.0 b.1 in
    record {
      word = number_word c b.1;
      is_known = ap allowed_count e ∙ h.0;
      long = to_length c (twos_bits c z) ∙ sym e;
      means =
          ap (λ (n : ℕ). int (twos n (from_le (to_le c (twos_bits c z))))) e
          ∙ ap (λ (n : ℕ). int (twos c n)) (from_to_fits c (twos_bits c z) (bits_lt c z h.1))
          ∙ ap int (twos_bits_lem c z h.1);
    }
held_formed c (uint k) h =
    let b = allowed_bounds c h.0 in
    let e = count_back c b.0 b.1 in
    record {
      word = number_word c b.1;
      is_known = ap allowed_count e ∙ h.0;
      long = to_length c k ∙ sym e;
      means = ap uint (from_to_fits c k (held_lt c k h.1));
    }
held_formed c (float s m) h =
    let bits : ℕ = with_sign (layout_at c) s (candidate (layout_at c) m) in
    let low = pattern_lt c s m h.0 h.1 in
    let e = pattern_means (layout_at c) s m h.1 in
    record {
      word = number_word c (float_bounds c h.0).1;
      is_known = float_known c bits (float s m) (finite s m) h.0 low e refl;
      long = float_long c bits (float s m) (finite s m) h.0 low e refl;
      means = float_means_lem c bits (float s m) (finite s m) h.0 low e refl;
    }
held_formed c (infinity s) h =
    let bits : ℕ = with_sign (layout_at c) s (Binary.infinity (layout_at c)) in
    let low = infinity_low c s h in
    let e = infinite_here (layout_at c) s in
    record {
      word = number_word c (float_bounds c h).1;
      is_known = float_known c bits (infinity s) (infinite s) h low e refl;
      long = float_long c bits (infinity s) (infinite s) h low e refl;
      means = float_means_lem c bits (infinity s) (infinite s) h low e refl;
    }
held_formed c (nan w b) h =
    let x = h.2 in
    record {
      word = number_word w (float_bounds w h.0).1;
      is_known = float_known w b (nan w b) (Ieee.nan x.0 x.1) h.0 h.1 x.2 refl;
      long = float_long w b (nan w b) (Ieee.nan x.0 x.1) h.0 h.1 x.2 refl;
      means = float_means_lem w b (nan w b) (Ieee.nan x.0 x.1) h.0 h.1 x.2 refl;
    }
held_formed c (sequence n) h = record { word = h; is_known = refl; long = refl; means = refl }
held_formed c (map n) h = record { word = h; is_known = refl; long = refl; means = refl }
held_formed c (symbol n) h = record { word = h; is_known = refl; long = refl; means = refl }
held_formed c (bytes l) h = record { word = h.0; is_known = refl; long = refl; means = refl }

-- THE FORM IS AN ATOM, with that meaning, under the writer's header
module _ (c : ℕ) (m : Meant) (h : HeldBy c m) where
  formed : Formed c m
  formed = held_formed c m h

  pub form_atom : IsAtom (form_at c m)
  unfolding form_at
  form_atom = formed_atom (kind_of m) (argument_at c m) (body_at c m) formed.word formed.is_known formed.long

  pub form_meant : meant (form_at c m) ≡ m
  unfolding form_at
  form_meant = formed_meant (kind_of m) (argument_at c m) (body_at c m) formed.word ∙ formed.means

  pub form_header : shortest_header (form_at c m) ≡ true
  unfolding form_at
  form_header = formed_header (kind_of m) (argument_at c m) (body_at c m) formed.word

  pub form_argument : header_argument (form_at c m) ≡ argument_at c m
  unfolding form_at
  form_argument = formed_argument (kind_of m) (argument_at c m) (body_at c m) formed.word

-- ---- the fewest count

two_allowed : allowed_float 2 ≡ true
unfolding listed
two_allowed = refl

-- it holds the meaning, if any does
pub fewest_held : (c : ℕ) (m : Meant) → HeldBy c m → HeldBy (fewest_count m) m
unfolding shortest_s shortest_u shortest_f
fewest_held c (special s) h = tt
fewest_held c (int z) h = (
  first_listed (λ n. holds_s n z) integers_written c h.0 h.1,
  first_holds (λ n. holds_s n z) integers_written c h.0 h.1,
)
fewest_held c (uint k) h = (
  first_listed (λ n. holds_u n k) integers_written c h.0 h.1,
  first_holds (λ n. holds_u n k) integers_written c h.0 h.1,
)
fewest_held c (float s m) h = (
  first_listed (λ n. has (layout_at n) m) floats_read c h.0 h.1,
  first_holds (λ n. has (layout_at n) m) floats_read c h.0 h.1,
)
fewest_held c (infinity s) h = two_allowed
fewest_held c (nan w b) h = h
fewest_held c (sequence n) h = h
fewest_held c (map n) h = h
fewest_held c (symbol n) h = h
fewest_held c (bytes l) h = h

-- and is the one that is asked for
fewest_asked : (m : Meant) → HeldBy (fewest_count m) m → fewest (count_of (argument_at (fewest_count m) m)) m ≡ true
fewest_asked (special s) h = refl
fewest_asked (int z) h =
    let b = allowed_bounds (shortest_s z) h.0 in
    eq-eqb (count_of (shortest_s z - 1)) (shortest_s z) (count_back (shortest_s z) b.0 b.1)
fewest_asked (uint k) h =
    let b = allowed_bounds (shortest_u k) h.0 in
    eq-eqb (count_of (shortest_u k - 1)) (shortest_u k) (count_back (shortest_u k) b.0 b.1)
fewest_asked (float s m) h =
    let b = float_bounds (shortest_f m) h.0 in
    eq-eqb (count_of (shortest_f m - 1)) (shortest_f m) (count_back (shortest_f m) b.0 b.1)
fewest_asked (infinity s) h = refl
fewest_asked (nan w b) h = refl
fewest_asked (sequence n) h = refl
fewest_asked (map n) h = refl
fewest_asked (symbol n) h = refl
fewest_asked (bytes l) h = refl

-- EACH MEANING HAS A SHORTEST FORM: an atom, accepted, with that meaning
module _ (m : Meant) (p : Proper m) where
  held : HeldBy (fewest_count m) m
  held = fewest_held p.0 m p.1

  pub shortest_atom : IsAtom (shortest_bytes m)
  unfolding shortest_bytes
  shortest_atom = form_atom (fewest_count m) m held

  pub shortest_means : meant (shortest_bytes m) ≡ m
  unfolding shortest_bytes
  shortest_means = form_meant (fewest_count m) m held

  pub shortest_accepted : shortest (shortest_bytes m) ≡ true
  unfolding shortest shortest_bytes
  shortest_accepted =
      ap (λ (t : Bool). t && fewest (count_of (header_argument (form_at (fewest_count m) m))) (meant (form_at (fewest_count m) m)))
      (form_header (fewest_count m) m held)
      ∙ ap (λ (x : Meant). fewest (count_of (header_argument (form_at (fewest_count m) m))) x)
      (form_meant (fewest_count m) m held)
      ∙ ap (λ (n : ℕ). fewest (count_of n) m) (form_argument (fewest_count m) m held)
      ∙ fewest_asked m held

-- ---- its bytes are below 256

pub append_bytes : (a b : List ℕ) → Bytes a → Bytes b → Bytes (a ++ b)
append_bytes [] b A B i = B i
append_bytes (x ∷ a) b A B zero = A 0
append_bytes (x ∷ a) b A B (suc i) = append_bytes a b (λ j. A (suc j)) B i

none_bytes : Bytes []
none_bytes i = lit< tt

cons_bytes : (b : ℕ) (l : List ℕ) → b < 256 → Bytes l → Bytes (b ∷ l)
cons_bytes b l h B zero = h
cons_bytes b l h B (suc i) = B i

to_bytes : (n k : ℕ) → Bytes (to_le n k)
unfolding to_le
to_bytes zero k i = lit< tt
to_bytes (suc n) k zero = mod-lt k {m = 256} (lit< tt)
to_bytes (suc n) k (suc i) = to_bytes n (k / 256) i

no_later : (v : ℕ) → Bytes (later_bytes 0 v)
unfolding later_bytes
no_later v i = lit< tt

later_bytes_lem : (k v : ℕ) → Bytes (later_bytes k v)
later_bytes_lem zero v = no_later v
later_bytes_lem (suc k) v = by (ltb v 128) refl (later_bytes_lem k (v / 128))
  where
    by : (t : Bool) → ltb v 128 ≡ t → Bytes (later_bytes k (v / 128)) → Bytes (later_bytes (suc k) v)
    by true e B =
        let h = ltb-true v 128 e in
        subst Bytes (sym (last_group k v h)) (cons_bytes v [] (omega arith) none_bytes)
    by false e B =
        subst Bytes (sym (group k v (ltb-false v 128 e)))
        (cons_bytes (v % 128 + 128) (later_bytes k (v / 128)) (omega arith) B)

code_low : (kind : Kind) → kind_code kind < 8
code_low K.Special = lit< tt
code_low K.Int = lit< tt
code_low K.UInt = lit< tt
code_low K.Float = lit< tt
code_low K.Sequence = lit< tt
code_low K.Map = lit< tt
code_low K.Symbol = lit< tt
code_low K.Bytes = lit< tt

header_bytes_lem : (kind : Kind) (arg : ℕ) → Bytes (header_bytes kind arg)
header_bytes_lem kind arg = by (ltb arg 16) refl
  where
    by : (t : Bool) → ltb arg 16 ≡ t → Bytes (header_bytes kind arg)
    by true e =
        let h = ltb-true arg 16 e in
        let c = code_low kind in
        subst Bytes (sym (bytes_one kind arg h)) (cons_bytes (kind_code kind * 32 + arg) [] (omega arith) none_bytes)
    by false e =
        let c = code_low kind in
        subst Bytes (sym (bytes_more kind arg (ltb-false arg 16 e)))
        (cons_bytes (kind_code kind * 32 + 16 + arg % 16) (later_bytes 9 (arg / 16)) (omega arith)
        (later_bytes_lem 9 (arg / 16)))

body_bytes_lem : (c : ℕ) (m : Meant) → HeldBy c m → Bytes (body_at c m)
body_bytes_lem c (special s) h = none_bytes
body_bytes_lem c (int z) h = to_bytes c (twos_bits c z)
body_bytes_lem c (uint k) h = to_bytes c k
body_bytes_lem c (float s m) h = to_bytes c (with_sign (layout_at c) s (candidate (layout_at c) m))
body_bytes_lem c (infinity s) h = to_bytes c (with_sign (layout_at c) s (Binary.infinity (layout_at c)))
body_bytes_lem c (nan w b) h = to_bytes w b
body_bytes_lem c (sequence n) h = none_bytes
body_bytes_lem c (map n) h = none_bytes
body_bytes_lem c (symbol n) h = none_bytes
body_bytes_lem c (bytes l) h = h.1

pub form_bytes : (c : ℕ) (m : Meant) → HeldBy c m → Bytes (form_at c m)
unfolding form_at
form_bytes c m h =
    append_bytes (header_bytes (kind_of m) (argument_at c m)) (body_at c m) (header_bytes_lem (kind_of m) (argument_at c m))
    (body_bytes_lem c m h)

pub shortest_bytes_lem : (m : Meant) → Proper m → Bytes (shortest_bytes m)
unfolding shortest_bytes
shortest_bytes_lem m p = form_bytes (fewest_count m) m (held m p)
