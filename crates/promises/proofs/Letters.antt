-- One result for each contract of `letters`.
use Rattle.letters.specs.contracts.count_letters as count-letters
use Rattle.letters.proofs.count_letters.Reads as count-letters-reads
use Rattle.letters.specs.contracts.count_word as count_word
use Rattle.letters.proofs.count_word.Reads as count-word-reads
use Rattle.promises.proofs.One.{One}
use mathlib.Core.Path.{◌∙◌, sym, refl}

pub count_letters_one : One count-letters.ended count-letters-reads.Post (λ κs s. tt {0})
count_letters_one κs a r₁ r₂ s₁ s₂ p q = (p.0 ∙ sym q.0, refl)

pub count_word_one : One count_word.ended count-word-reads.Post (λ κs s. tt {0})
count_word_one κs a r₁ r₂ s₁ s₂ p q = (p.0 ∙ sym q.0, refl)
