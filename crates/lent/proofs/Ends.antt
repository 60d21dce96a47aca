-- The ends of the writers of bytes: no room for them, room, and the loop that copies them.
use Rattle.std.specs.Prelude.{Ok, Err}
use mathlib.Core.Path.{◌≡◌, refl, ◌∙◌}
use mathlib.Core.List.{List, [], ◌∷◌, ◌++◌}
use Prim.Native.Nat.{ℕ, ◌+◌, ◌≤◌, ◌<◌}
use native.Mathlib.Omega.{arith}
use borrow.Author.Rules.{rules}
use borrow.Author.Tests.{le-ltb, lt-ltb}
use lib.ListN.{length, take, drop, set, get_or, length-set}
use lib.Seq.{sets-eq}
use Rattle.types.specs.Refusals.{no_room}
use Rattle.types.specs.declared.Refusal.{Refusal}
use Rattle.lent.specs.Lent.{written_answer, written_content, copied_over}
use Rattle.lent.proofs.Stores.{copy_more, copy_done}

module _ (bytes old : List ℕ) (count : ℕ) where
  -- the buffer is shorter than the bytes: refusal 9, and it is as it was
  module _ (h : length old < count) (e : count ≡ length bytes) where
    pub short_answer : (why : Refusal) → why ≡ no_room count → Err why ≡ written_answer bytes old
    short_answer why n = cc (lt-ltb (length old) count h)

    pub short_content : old ≡ written_content bytes old
    short_content = cc (lt-ltb (length old) count h)

  -- it has room: the bytes are counted
  pub room_answer : count ≡ length bytes → count ≤ length old → Ok count ≡ written_answer bytes old
  room_answer e h = cc (le-ltb (length old) count h)

-- and stand in front of what was there
pub room_content : (bytes old new : List ℕ) → length bytes ≤ length old → new ≡ copied_over bytes old →
    new ≡ written_content bytes old
room_content bytes old new h e = cc (le-ltb (length old) (length bytes) h)

pub one_content : (byte : ℕ) (old : List ℕ) → 1 ≤ length old → set old 0 byte ≡ written_content (byte ∷ []) old
unfolding copied_over
one_content byte old h = room_content (byte ∷ []) old (set old 0 byte) h (sets-eq (byte ∷ []) old 0 h)

-- the loop that copies: so many of the bytes stand in front of what was there
pub record Copying (old bytes new : List ℕ) (i : ℕ) : Type 0 where
  pub within : i ≤ length bytes
  pub size : length new ≡ length old
  pub content : new ≡ take i bytes ++ drop i old

pub copy_begins : (old bytes : List ℕ) → Copying old bytes old 0
copy_begins old bytes = record { within = omega arith; size = refl; content = refl }

module _ (old bytes new : List ℕ) (i : ℕ) (c : Copying old bytes new i) where
  module _ (room : length bytes ≤ length old) (h : i < length bytes) where
    pub copy_room : i < length new
    copy_room = let s = c.size in omega arith

    pub copy_turn : Copying old bytes (set new i (get_or bytes i 0)) (i + 1)
    copy_turn = record {
      within = omega arith;
      size = length-set new i (get_or bytes i 0) ∙ c.size;
      content = rw (c.content, copy_more old bytes i h room);
    }

  pub copy_ends : length bytes ≤ i → new ≡ copied_over bytes old
  unfolding copied_over
  copy_ends h = let w = c.within in c.content ∙ copy_done old bytes i (omega arith)

pub ruleset written_ends = (short_answer, short_content, room_answer, room_content, one_content, rules)

pub ruleset copying = (copy_begins, copy_room, copy_turn, copy_ends, rules)
