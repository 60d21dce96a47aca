-- Every contract of a function over the reader leaves one result, stated over the contract as it is generated: any two
-- results that it permits of the same parameters are one, or, of the reads, have one answer, and of the slice still to
-- be read one content and one place where it lies. Assumes nothing.
use mathlib.Core.Path.{◌≡◌, sym, ◌∙◌}
use contract.Lifetimes.{Lfts}
use borrow.Fn.World.{ArgsD, ResD}
use denote.Triple.Clauses.{Ended, AtExit}
use denote.RattleType.{RattleType}
use denote.Param.Laws.{Laws, IsCopy}
use mir.Syntax.{Dict}
use Rattle.std.specs.declared.clone.Clone.{Ghosts}
use Rattle.slice_reader.specs.contracts.SliceReader.from as from
use Rattle.slice_reader.proofs.SliceReader.from.Reads as from_reads
use Rattle.slice_reader.specs.contracts.SliceReader.rest as rest
use Rattle.slice_reader.proofs.SliceReader.rest.Reads as rest_reads
use Rattle.slice_reader.specs.contracts.SliceReader.len as len
use Rattle.slice_reader.proofs.SliceReader.len.Reads as len_reads
use Rattle.slice_reader.specs.contracts.SliceReader.is_empty as is_empty
use Rattle.slice_reader.proofs.SliceReader.is_empty.Reads as is_empty_reads
use Rattle.slice_reader.specs.contracts.SliceReader.read_integer as read_integer
use Rattle.slice_reader.proofs.SliceReader.read_integer.Reads as read_integer_reads
use Rattle.slice_reader.specs.contracts.SliceReader.read_float as read_float
use Rattle.slice_reader.proofs.SliceReader.read_float.Reads as read_float_reads
use Rattle.slice_reader.specs.contracts.SliceReader.buffered_read_bytes as buffered_read_bytes
use Rattle.slice_reader.proofs.SliceReader.buffered_read_bytes.Reads as buffered_read_bytes_reads
use Rattle.slice_reader.specs.contracts.SliceReader.read_atom as read_atom
use Rattle.slice_reader.proofs.SliceReader.read_atom.Reads as read_atom_reads
use Rattle.slice_reader.specs.contracts.Read.rest as read_rest
use Rattle.slice_reader.proofs.Read.rest.Reads as read_rest_reads

-- Post is the contract as Rattle generated it; Same is when two results count as one
abbrev pub One : (e : Ended) →
    ((κs : Lfts e.signature.lifetimes) → ArgsD e.signature κs → ResD e.signature κs → AtExit e κs → Type 0) →
    ((κs : Lfts e.signature.lifetimes) → ResD e.signature κs → ResD e.signature κs → Type 0) → Type 0
One e Post Same =
    (κs : Lfts e.signature.lifetimes) (a : ArgsD e.signature κs) (r₁ r₂ : ResD e.signature κs) (s₁ s₂ : AtExit e κs) →
    Post κs a r₁ s₁ → Post κs a r₂ s₂ → Same κs r₁ r₂

pub from_one : One from.ended from_reads.Post (λ κs r₁ r₂. r₁.«data» ≡ r₂.«data»)
from_one κs a r₁ r₂ s₁ s₂ p q = p ∙ sym q

pub rest_one : One rest.ended rest_reads.Post (λ κs r₁ r₂. r₁ ≡ r₂)
rest_one κs a r₁ r₂ s₁ s₂ p q = p ∙ sym q

pub len_one : One len.ended len_reads.Post (λ κs r₁ r₂. r₁ ≡ r₂)
len_one κs a r₁ r₂ s₁ s₂ p q = p ∙ sym q

pub is_empty_one : One is_empty.ended is_empty_reads.Post (λ κs r₁ r₂. r₁ ≡ r₂)
is_empty_one κs a r₁ r₂ s₁ s₂ p q = p ∙ sym q

-- of a read: the same answer, beside a reader of the same bytes at the same place
pub read_integer_one : One read_integer.ended read_integer_reads.Post
    (λ κs r₁ r₂. (r₁.answer ≡ r₂.answer) ×
    ((r₁.reader.«data».now ≡ r₂.reader.«data».now) × (r₁.reader.«data».ref_ptr ≡ r₂.reader.«data».ref_ptr)))
read_integer_one κs a r₁ r₂ s₁ s₂ p q =
    (simp (p.0, q.0), (simp (p.0, p.1.0, q.0, q.1.0), simp (p.0, p.1.1, q.0, q.1.1)))

pub read_float_one : One read_float.ended read_float_reads.Post
    (λ κs r₁ r₂. (r₁.answer ≡ r₂.answer) ×
    ((r₁.reader.«data».now ≡ r₂.reader.«data».now) × (r₁.reader.«data».ref_ptr ≡ r₂.reader.«data».ref_ptr)))
read_float_one κs a r₁ r₂ s₁ s₂ p q =
    (simp (p.0, q.0), (simp (p.0, p.1.0, q.0, q.1.0), simp (p.0, p.1.1, q.0, q.1.1)))

pub buffered_read_bytes_one : One buffered_read_bytes.ended buffered_read_bytes_reads.Post
    (λ κs r₁ r₂. (r₁.answer ≡ r₂.answer) ×
    ((r₁.reader.«data».now ≡ r₂.reader.«data».now) × (r₁.reader.«data».ref_ptr ≡ r₂.reader.«data».ref_ptr)))
buffered_read_bytes_one κs a r₁ r₂ s₁ s₂ p q =
    (simp (p.0, q.0), (simp (p.0, p.1.0, q.0, q.1.0), simp (p.0, p.1.1, q.0, q.1.1)))

pub read_atom_one : One read_atom.ended read_atom_reads.Post
    (λ κs r₁ r₂. (r₁.answer ≡ r₂.answer) ×
    ((r₁.reader.«data».now ≡ r₂.reader.«data».now) × (r₁.reader.«data».ref_ptr ≡ r₂.reader.«data».ref_ptr)))
read_atom_one κs a r₁ r₂ s₁ s₂ p q =
    (simp (p.0, q.0), (simp (p.0, p.1.0, q.0, q.1.0), simp (p.0, p.1.1, q.0, q.1.1)))

-- of whatever was read
module _ (A : RattleType) (ghosts : Ghosts A.Denot) (dict : Dict) (laws : Laws A) (copies : IsCopy A) where
  pub read_rest_one :
      One (read_rest.ended A ghosts dict) (read_rest_reads.Post A laws copies ghosts dict) (λ κs r₁ r₂. r₁ ≡ r₂)
  read_rest_one κs a r₁ r₂ s₁ s₂ p q = p ∙ sym q
