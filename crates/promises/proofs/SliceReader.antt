-- One result for each contract of `slice_reader` over plain slices, of a part its bytes and where they lie. Those of the
-- functions over the struct that holds a reference stand beside the crate: docs/PROMISES.md, "Exceptions".
use Rattle.promises.proofs.One.{One, OnePart}
use Rattle.slice_reader.specs.contracts.atom_at_start as atom-at-start
use Rattle.slice_reader.proofs.atom_at_start.Reads as atom-at-start-reads
use Rattle.slice_reader.specs.contracts.float_at_start as float-at-start
use Rattle.slice_reader.proofs.float_at_start.Reads as float-at-start-reads
use Rattle.slice_reader.specs.contracts.integer_at_start as integer-at-start
use Rattle.slice_reader.proofs.integer_at_start.Reads as integer-at-start-reads
use Rattle.slice_reader.specs.contracts.is_empty_of as is-empty-of
use Rattle.slice_reader.proofs.is_empty_of.Reads as is-empty-of-reads
use Rattle.slice_reader.specs.contracts.left_by_atom as left-by-atom
use Rattle.slice_reader.proofs.left_by_atom.Reads as left-by-atom-reads
use Rattle.slice_reader.specs.contracts.left_by_float as left-by-float
use Rattle.slice_reader.proofs.left_by_float.Reads as left-by-float-reads
use Rattle.slice_reader.specs.contracts.left_by_integer as left-by-integer
use Rattle.slice_reader.proofs.left_by_integer.Reads as left-by-integer-reads
use Rattle.slice_reader.specs.contracts.left_by_string as left-by-string
use Rattle.slice_reader.proofs.left_by_string.Reads as left-by-string-reads
use Rattle.slice_reader.specs.contracts.left_from as left-from
use Rattle.slice_reader.proofs.left_from.Reads as left-from-reads
use Rattle.slice_reader.specs.contracts.len_of as len_of_lem
use Rattle.slice_reader.proofs.len_of.Reads as len-of-reads
use Rattle.slice_reader.specs.contracts.rest_after_integer as rest-after-integer
use Rattle.slice_reader.proofs.rest_after_integer.Reads as rest-after-integer-reads
use Rattle.slice_reader.specs.contracts.rest_after_float as rest-after-float
use Rattle.slice_reader.proofs.rest_after_float.Reads as rest-after-float-reads
use Rattle.slice_reader.specs.contracts.rest_after_string as rest-after-string
use Rattle.slice_reader.proofs.rest_after_string.Reads as rest-after-string-reads
use Rattle.slice_reader.specs.contracts.rest_after_atom as rest-after-atom
use Rattle.slice_reader.proofs.rest_after_atom.Reads as rest-after-atom-reads
use Rattle.slice_reader.specs.contracts.string_at_start as string-at-start
use Rattle.slice_reader.proofs.string_at_start.Reads as string-at-start-reads
use mathlib.Core.Path.{◌∙◌, sym, refl}

pub left_from_one : OnePart left-from.ended left-from-reads.Post (λ κs r. r.ref_ptr) (λ κs r. r.now)
left_from_one κs a r₁ r₂ s₁ s₂ p q = (p.1 ∙ sym q.1, p.0 ∙ sym q.0)

pub integer_at_start_one : One integer-at-start.ended integer-at-start-reads.Post (λ κs s. tt {0})
integer_at_start_one κs a r₁ r₂ s₁ s₂ p q = (p ∙ sym q, refl)

pub left_by_integer_one : OnePart left-by-integer.ended left-by-integer-reads.Post (λ κs r. r.ref_ptr) (λ κs r. r.now)
left_by_integer_one κs a r₁ r₂ s₁ s₂ p q = (p.1 ∙ sym q.1, p.0 ∙ sym q.0)

pub float_at_start_one : One float-at-start.ended float-at-start-reads.Post (λ κs s. tt {0})
float_at_start_one κs a r₁ r₂ s₁ s₂ p q = (p ∙ sym q, refl)

pub left_by_float_one : OnePart left-by-float.ended left-by-float-reads.Post (λ κs r. r.ref_ptr) (λ κs r. r.now)
left_by_float_one κs a r₁ r₂ s₁ s₂ p q = (p.1 ∙ sym q.1, p.0 ∙ sym q.0)

pub string_at_start_one : One string-at-start.ended string-at-start-reads.Post (λ κs s. tt {0})
string_at_start_one κs a r₁ r₂ s₁ s₂ p q = (p ∙ sym q, refl)

pub left_by_string_one : OnePart left-by-string.ended left-by-string-reads.Post (λ κs r. r.ref_ptr) (λ κs r. r.now)
left_by_string_one κs a r₁ r₂ s₁ s₂ p q = (p.1 ∙ sym q.1, p.0 ∙ sym q.0)

pub atom_at_start_one : One atom-at-start.ended atom-at-start-reads.Post (λ κs s. tt {0})
atom_at_start_one κs a r₁ r₂ s₁ s₂ p q = (p ∙ sym q, refl)

pub left_by_atom_one : OnePart left-by-atom.ended left-by-atom-reads.Post (λ κs r. r.ref_ptr) (λ κs r. r.now)
left_by_atom_one κs a r₁ r₂ s₁ s₂ p q = (p.1 ∙ sym q.1, p.0 ∙ sym q.0)

pub len_of_one : One len_of_lem.ended len-of-reads.Post (λ κs s. tt {0})
len_of_one κs a r₁ r₂ s₁ s₂ p q = (p ∙ sym q, refl)

pub is_empty_of_one : One is-empty-of.ended is-empty-of-reads.Post (λ κs s. tt {0})
is_empty_of_one κs a r₁ r₂ s₁ s₂ p q = (p ∙ sym q, refl)

pub rest_after_integer_one :
    OnePart rest-after-integer.ended rest-after-integer-reads.Post (λ κs r. r.ref_ptr) (λ κs r. r.now)
rest_after_integer_one κs a r₁ r₂ s₁ s₂ p q = (p.1 ∙ sym q.1, p.0 ∙ sym q.0)

pub rest_after_float_one : OnePart rest-after-float.ended rest-after-float-reads.Post (λ κs r. r.ref_ptr) (λ κs r. r.now)
rest_after_float_one κs a r₁ r₂ s₁ s₂ p q = (p.1 ∙ sym q.1, p.0 ∙ sym q.0)

pub rest_after_string_one : OnePart rest-after-string.ended rest-after-string-reads.Post (λ κs r. r.ref_ptr) (λ κs r. r.now)
rest_after_string_one κs a r₁ r₂ s₁ s₂ p q = (p.1 ∙ sym q.1, p.0 ∙ sym q.0)

pub rest_after_atom_one : OnePart rest-after-atom.ended rest-after-atom-reads.Post (λ κs r. r.ref_ptr) (λ κs r. r.now)
rest_after_atom_one κs a r₁ r₂ s₁ s₂ p q = (p.1 ∙ sym q.1, p.0 ∙ sym q.0)
