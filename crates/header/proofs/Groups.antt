-- The later bytes of a header, written: a number in groups of 7 bits. Each turn of the loops that count and write them
-- takes one group off what is left: what holds before each turn, what a turn keeps of it, and what the loops have at
-- the end.
use mathlib.Core.Path.{◌≡◌, refl, ◌∙◌, sym, ap}
use mathlib.Core.List.{List, [], ◌∷◌}
use Prim.Native.Nat.{ℕ, zero, suc, ◌+◌, ◌-◌, ◌*◌, ◌/◌, ◌%◌, ◌^◌, ◌≤◌, ◌<◌}
use native.Mathlib.Nat.{pow-suc, add-zero}
use native.Mathlib.Omega.{arith}
use lib.ListN.{length, drop, set, get_or, length-drop}
use lib.Seq.{get_or-drop, drop-drop}
use borrow.Author.Rules.{rules}
use borrow.Author.Tests.{lt-ltb, le-ltb}
use Rattle.lent.specs.Lent.{copied_over}
use Rattle.lent.proofs.Ends.{Copying, copy_begins, copy_room, copy_turn, copy_ends}
use Rattle.header.specs.Header.{later_bytes}

-- the two cases of the definition
pub last_group : (k v : ℕ) → v < 128 → later_bytes (suc k) v ≡ v ∷ []
unfolding later_bytes
last_group k v h = simp (lt-ltb v 128 h)

pub group : (k v : ℕ) → 128 ≤ v → later_bytes (suc k) v ≡ (v % 128 + 128) ∷ later_bytes k (v / 128)
unfolding later_bytes
group k v h = simp (le-ltb v 128 h)

-- where a number of k + 1 groups has another, the rest has k
pub more : (k v : ℕ) → v < 128 ^ suc k → v / 128 < 128 ^ k
more k v l = let z : v < 128 ^ k * 128 = rw (pow-suc 128 k) at l in omega arith

two_left : (k v : ℕ) → 128 ≤ v → v < 128 ^ k → 1 < k
two_left zero v h l = let z : v < 1 = l in omega arith
two_left (suc zero) v h l = let z : v < 128 = l in omega arith
two_left (suc (suc k)) v h l = omega arith

-- what stands at i, where the list from there on is known
module _ (l : List ℕ) (i b : ℕ) (r : List ℕ) (e : drop i l ≡ b ∷ r) where
  within : i < length l
  within = let n : length l - i ≡ suc (length r) = sym (length-drop i l) ∙ ap length e in omega arith

  here : get_or l i 0 ≡ b
  here = ap (λ (k : ℕ). get_or l k 0) (sym (add-zero i)) ∙ sym (get_or-drop i l 0 0) ∙ ap (λ (d : List ℕ). get_or d 0 0) e

  after : drop (i + 1) l ≡ r
  after = sym (drop-drop 1 i l) ∙ ap (drop 1) e

-- so many groups of a number are off, and so much of it is left
pub record Left (rest off arg : ℕ) : Type 0 where
  pub few : off ≤ 8
  pub low : arg < 128 ^ (9 - off)
  pub same : drop off (later_bytes 9 rest) ≡ later_bytes (9 - off) arg

all_left : (rest : ℕ) → rest < 128 ^ 9 → Left rest 0 rest
all_left rest h = record { few = omega arith; low = h; same = refl }

module _ (rest off arg : ℕ) (l : Left rest off arg) where
  -- another group
  module _ (h : 128 ≤ arg) where
    one_less : 9 - off ≡ suc (9 - (off + 1))
    one_less = let n : 1 < 9 - off = two_left (9 - off) arg h l.low in omega arith

    first : drop off (later_bytes 9 rest) ≡ (arg % 128 + 128) ∷ later_bytes (9 - (off + 1)) (arg / 128)
    first = l.same ∙ ap (λ (k : ℕ). later_bytes k arg) one_less ∙ group (9 - (off + 1)) arg h

    taken : Left rest (off + 1) (arg / 128)
    taken =
        let n : 1 < 9 - off = two_left (9 - off) arg h l.low in
        record {
          few = omega arith;
          low = more (9 - (off + 1)) arg (rw one_less at l.low);
          same = after (later_bytes 9 rest) off (arg % 128 + 128) (later_bytes (9 - (off + 1)) (arg / 128)) first;
        }

  -- the last
  module _ (h : arg < 128) where
    lone : drop off (later_bytes 9 rest) ≡ arg ∷ []
    lone =
        let k : 9 - off ≡ suc (8 - off) = let f = l.few in omega arith in
        l.same ∙ ap (λ (k : ℕ). later_bytes k arg) k ∙ last_group (8 - off) arg h

    whole : off + 1 ≡ length (later_bytes 9 rest)
    whole =
        let w = within (later_bytes 9 rest) off arg [] lone in
        let d : length (later_bytes 9 rest) - (off + 1) ≡ 0 =
        sym (length-drop (off + 1) (later_bytes 9 rest)) ∙ ap length (after (later_bytes 9 rest) off arg [] lone)
        in
        omega arith

-- the loop that counts them: its count is the next group's
pub record Counting (rest count arg : ℕ) : Type 0 where
  pub some : 1 ≤ count
  pub left : Left rest (count - 1) arg

pub count_begins : (rest : ℕ) → rest < 128 ^ 9 → Counting rest 1 rest
count_begins rest h = record { some = omega arith; left = all_left rest h }

module _ (rest count arg : ℕ) (i : Counting rest count arg) where
  pub count_turn : 128 ≤ arg → Counting rest (count + 1) (arg / 128)
  count_turn h =
      let s = i.some in
      let k : count + 1 - 1 ≡ count - 1 + 1 = omega arith in
      record { some = omega arith; left = rw k (taken rest (count - 1) arg i.left h) }

  pub count_fits : count ≤ 9
  count_fits = let f = i.left.few in omega arith

  pub count_ends : arg < 128 → count ≡ length (later_bytes 9 rest)
  count_ends h = let s = i.some in let w = whole rest (count - 1) arg i.left h in omega arith

pub ruleset count_laws = (count_begins, count_turn, count_fits, count_ends, rules)

-- the loop that writes them: those that are off are copied
pub record Writing (old : List ℕ) (rest : ℕ) (new : List ℕ) (off arg : ℕ) : Type 0 where
  pub left : Left rest off arg
  pub copied : Copying old (later_bytes 9 rest) new off

pub write_begins : (old : List ℕ) (rest : ℕ) → rest < 128 ^ 9 → Writing old rest old 0 rest
write_begins old rest h = record { left = all_left rest h; copied = copy_begins old (later_bytes 9 rest) }

module _ (old : List ℕ) (rest : ℕ) (new : List ℕ) (off arg : ℕ) (i : Writing old rest new off arg)
    (room : length (later_bytes 9 rest) ≤ length old) where
  -- one byte more
  module _ (b : ℕ) (r : List ℕ) (e : drop off (later_bytes 9 rest) ≡ b ∷ r) where
    inside : off < length new
    inside = copy_room old (later_bytes 9 rest) new off i.copied room (within (later_bytes 9 rest) off b r e)

    stored : Copying old (later_bytes 9 rest) (set new off b) (off + 1)
    stored =
        let w = within (later_bytes 9 rest) off b r e in
        rw (← here (later_bytes 9 rest) off b r e) (copy_turn old (later_bytes 9 rest) new off i.copied room w)

  module _ (h : 128 ≤ arg) where
    pub turn_room : off < length new
    turn_room = inside (arg % 128 + 128) _ (first rest off arg i.left h)

    pub write_turn : Writing old rest (set new off (arg % 128 + 128)) (off + 1) (arg / 128)
    write_turn = record {
      left = taken rest off arg i.left h;
      copied = stored (arg % 128 + 128) _ (first rest off arg i.left h);
    }

  -- the last, and no more than nine of them
  pub write_few : off + 1 ≤ 9
  write_few = let f = i.left.few in omega arith

  module _ (h : arg < 128) where
    pub last_room : off < length new
    last_room = inside arg [] (lone rest off arg i.left h)

    pub write_count : off + 1 ≡ length (later_bytes 9 rest)
    write_count = whole rest off arg i.left h

    pub write_ends : set new off arg ≡ copied_over (later_bytes 9 rest) old
    write_ends =
        let w = whole rest off arg i.left h in
        let c = stored arg [] (lone rest off arg i.left h) in
        copy_ends old (later_bytes 9 rest) (set new off arg) (off + 1) c (omega arith)

pub ruleset write_laws =
    (write_begins, turn_room, write_turn, last_room, write_few, write_count, write_ends, rules)
