-- The laws of the two ways of reading that every reader cites: what is taken within the source, what past its end.
use mathlib.Core.Path.{◌≡◌, refl, ◌∙◌, sym, ap}
use mathlib.Core.Bool.{Bool, true, false}
use Prim.Native.Nat.{ℕ, ◌≤◌, ◌<◌}
use native.Mathlib.Omega.{arith}
use lib.Dec.{leb}
use borrow.Author.Tests.{leb-true, leb-false, le-leb, lt-leb}
use Rattle.types.specs.Choice.{pick}
use Rattle.types.specs.Ways.{exact, up_to}
use Rattle.types.specs.declared.Way.{Way}
use Rattle.types.specs.declared.Way.TheVariants as W

module _ {X : Type 0} (way : Way) (length end : ℕ) (taken : ℕ → X) (eof : X) where
  -- within the source both ways agree
  pub up_to_within : end ≤ length → up_to way length end taken eof ≡ taken end
  up_to_within h = simp (le-leb end length h)

  -- past its end filled reading stops at the end
  pub up_to_filled : length < end → exact way ≡ false → up_to way length end taken eof ≡ taken length
  up_to_filled h e = simp (lt-leb end length h, e)

  -- and exact reading refuses
  pub up_to_eof : length < end → exact way ≡ true → up_to way length end taken eof ≡ eof
  up_to_eof h e = simp (lt-leb end length h, e)

  -- either way the place is from the start, which is within the source, to the source's end
  pub up_to-between : (place : X → ℕ) → ((at : ℕ) → place (taken at) ≡ at) → place eof ≡ length → (at : ℕ) →
      at ≤ length → at ≤ end →
      (at ≤ place (up_to way length end taken eof)) × (place (up_to way length end taken eof) ≤ length)
  up_to-between place t e at h k = between (leb end length) (exact way) refl
    where
      between : (u v : Bool) → leb end length ≡ u →
          (at ≤ place (pick u (taken end) (pick v eof (taken length)))) ×
          (place (pick u (taken end) (pick v eof (taken length))) ≤ length)
      between true v f = let l = leb-true end length f in rw (t end) (k, l)
      between false true f = rw e (h, omega arith)
      between false false f = rw (t length) (h, omega arith)

-- WHAT THE TWO WAYS DIFFER IN, of what stands in a source of that length and ends, by its own bytes, at `end`: exact
-- reading answers as filled reading does; or the source ends within it, and exact reading answers that
pub data Differ {X : Type 0} (Eof : X → Type 0) (length end : ℕ) (exactly filled : X) : Type 0 where
  same : exactly ≡ filled → Differ Eof length end exactly filled
  cut : Eof exactly → length < end → Differ Eof length end exactly filled

-- WHAT IS TAKEN UP TO AN END, THE TWO WAYS TAKE ALIKE, but where the source ends before it
pub up_to_differ : {X : Type 0} (length end : ℕ) (taken : ℕ → X) (eof : X) (Eof : X → Type 0) → Eof eof →
    Differ Eof length end (up_to W.ExactLent length end taken eof) (up_to W.Filled length end taken eof)
up_to_differ length end taken eof Eof ended = by (leb end length) refl
  where
    by : (t : Bool) → leb end length ≡ t →
        Differ Eof length end (pick t (taken end) (pick true eof (taken length)))
        (pick t (taken end) (pick false eof (taken length)))
    by true h = same refl
    by false h = cut ended (leb-false end length h)

-- so where exact reading does not refuse for the end, filled reading answers the same,
pub differ_reads : {X : Type 0} (Eof : X → Type 0) {length end : ℕ} {exactly filled : X} →
    Differ Eof length end exactly filled → (x : X) → (Eof x → ⊥) → exactly ≡ x → filled ≡ x
differ_reads Eof (same e) x whole f = sym e ∙ f
differ_reads Eof (cut ended past) x whole f = absurd (whole (rw f at ended))

-- and where the two differ, exact reading does refuse for it
pub differ_cut : {X : Type 0} (Eof : X → Type 0) {length end : ℕ} {exactly filled : X} →
    Differ Eof length end exactly filled → (exactly ≡ filled → ⊥) → Eof exactly × (length < end)
differ_cut Eof (same e) unlike = absurd (unlike e)
differ_cut Eof (cut ended past) unlike = (ended, past)

-- THE ENTRY THAT NAMES NO WAY reads as the one that is given its way
pub at_way : {X : Type 0} (read : Way → X) {way named : Way} {answer : X} → way ≡ named → answer ≡ read way →
    answer ≡ read named
at_way read w e = e ∙ ap read w
