-- One result for each contract of `words`, and one content of each lent buffer.
use Rattle.words.specs.contracts.say as say
use Rattle.words.proofs.say.Reads as say-reads
use Rattle.words.specs.contracts.say_all as say-all
use Rattle.words.proofs.say_all.Reads as say-all-reads
use Rattle.words.specs.contracts.say_as_f32 as say-as-f32
use Rattle.words.proofs.say_as_f32.Reads as say-as-f32-reads
use Rattle.words.specs.contracts.say_as_f64 as say-as-f64
use Rattle.words.proofs.say_as_f64.Reads as say-as-f64-reads
use Rattle.words.specs.contracts.say_as_integer as say-as-integer
use Rattle.words.proofs.say_as_integer.Reads as say-as-integer-reads
use Rattle.words.specs.contracts.say_atom as say-atom
use Rattle.words.proofs.say_atom.Reads as say-atom-reads
use Rattle.words.specs.contracts.say_cast as say-cast
use Rattle.words.proofs.say_cast.Reads as say-cast-reads
use Rattle.words.specs.contracts.say_checked as say-checked
use Rattle.words.proofs.say_checked.Reads as say-checked-reads
use Rattle.words.specs.contracts.say_integer as say-integer
use Rattle.words.proofs.say_integer.Reads as say-integer-reads
use Rattle.words.specs.contracts.say_narrowed as say-narrowed
use Rattle.words.proofs.say_narrowed.Reads as say-narrowed-reads
use Rattle.words.specs.contracts.say_ran as say-ran
use Rattle.words.proofs.say_ran.Reads as say-ran-reads
use Rattle.words.specs.contracts.say_refused as say-refused
use Rattle.words.proofs.say_refused.Reads as say-refused-reads
use Rattle.words.specs.contracts.say_skipped as say-skipped
use Rattle.words.proofs.say_skipped.Reads as say-skipped-reads
use Rattle.words.specs.contracts.say_tally as say-tally
use Rattle.words.proofs.say_tally.Reads as say-tally-reads
use Rattle.words.specs.contracts.say_version as say-version
use Rattle.words.proofs.say_version.Reads as say-version-reads
use Rattle.words.specs.contracts.say_word as say-word
use Rattle.words.proofs.say_word.Reads as say-word-reads
use Rattle.words.specs.contracts.say_written as say-written
use Rattle.words.proofs.say_written.Reads as say-written-reads
use Rattle.promises.proofs.One.{One}
use mathlib.Core.Path.{◌∙◌, sym}

pub say_all_one : One say-all.ended say-all-reads.Post (λ κs s. s.0.now)
say_all_one κs a r₁ r₂ s₁ s₂ p q = (p.0 ∙ sym q.0, p.1 ∙ sym q.1)

pub say_one : One say.ended say-reads.Post (λ κs s. s.0.now)
say_one κs a r₁ r₂ s₁ s₂ p q = (p.0 ∙ sym q.0, p.1 ∙ sym q.1)

pub say_atom_one : One say-atom.ended say-atom-reads.Post (λ κs s. s.0.now)
say_atom_one κs a r₁ r₂ s₁ s₂ p q = (p.0 ∙ sym q.0, p.1 ∙ sym q.1)

pub say_skipped_one : One say-skipped.ended say-skipped-reads.Post (λ κs s. s.0.now)
say_skipped_one κs a r₁ r₂ s₁ s₂ p q = (p.0 ∙ sym q.0, p.1 ∙ sym q.1)

pub say_ran_one : One say-ran.ended say-ran-reads.Post (λ κs s. s.0.now)
say_ran_one κs a r₁ r₂ s₁ s₂ p q = (p.0 ∙ sym q.0, p.1 ∙ sym q.1)

pub say_tally_one : One say-tally.ended say-tally-reads.Post (λ κs s. s.0.now)
say_tally_one κs a r₁ r₂ s₁ s₂ p q = (p.0 ∙ sym q.0, p.1 ∙ sym q.1)

pub say_checked_one : One say-checked.ended say-checked-reads.Post (λ κs s. s.0.now)
say_checked_one κs a r₁ r₂ s₁ s₂ p q = (p.0 ∙ sym q.0, p.1 ∙ sym q.1)

pub say_version_one : One say-version.ended say-version-reads.Post (λ κs s. s.0.now)
say_version_one κs a r₁ r₂ s₁ s₂ p q = (p.0 ∙ sym q.0, p.1 ∙ sym q.1)

pub say_refused_one : One say-refused.ended say-refused-reads.Post (λ κs s. s.0.now)
say_refused_one κs a r₁ r₂ s₁ s₂ p q = (p.0 ∙ sym q.0, p.1 ∙ sym q.1)

pub say_written_one : One say-written.ended say-written-reads.Post (λ κs s. s.0.now)
say_written_one κs a r₁ r₂ s₁ s₂ p q = (p.0 ∙ sym q.0, p.1 ∙ sym q.1)

pub say_integer_one : One say-integer.ended say-integer-reads.Post (λ κs s. s.0.now)
say_integer_one κs a r₁ r₂ s₁ s₂ p q = (p.0 ∙ sym q.0, p.1 ∙ sym q.1)

pub say_as_integer_one : One say-as-integer.ended say-as-integer-reads.Post (λ κs s. s.0.now)
say_as_integer_one κs a r₁ r₂ s₁ s₂ p q = (p.0 ∙ sym q.0, p.1 ∙ sym q.1)

pub say_cast_one : One say-cast.ended say-cast-reads.Post (λ κs s. s.0.now)
say_cast_one κs a r₁ r₂ s₁ s₂ p q = (p.0 ∙ sym q.0, p.1 ∙ sym q.1)

pub say_word_one : One say-word.ended say-word-reads.Post (λ κs s. s.0.now)
say_word_one κs a r₁ r₂ s₁ s₂ p q = (p.0 ∙ sym q.0, p.1 ∙ sym q.1)

pub say_as_f32_one : One say-as-f32.ended say-as-f32-reads.Post (λ κs s. s.0.now)
say_as_f32_one κs a r₁ r₂ s₁ s₂ p q = (p.0 ∙ sym q.0, p.1 ∙ sym q.1)

pub say_as_f64_one : One say-as-f64.ended say-as-f64-reads.Post (λ κs s. s.0.now)
say_as_f64_one κs a r₁ r₂ s₁ s₂ p q = (p.0 ∙ sym q.0, p.1 ∙ sym q.1)

pub say_narrowed_one : One say-narrowed.ended say-narrowed-reads.Post (λ κs s. s.0.now)
say_narrowed_one κs a r₁ r₂ s₁ s₂ p q = (p.0 ∙ sym q.0, p.1 ∙ sym q.1)
