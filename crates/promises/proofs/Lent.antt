-- One result for each contract of `lent`, and one content of each lent buffer.
use Rattle.lent.specs.contracts.copy_in as copy-in
use Rattle.lent.proofs.copy_in.Reads as copy-in-reads
use Rattle.lent.specs.contracts.put_all as put_all_lem
use Rattle.lent.proofs.put_all.Reads as put-all-reads
use Rattle.lent.specs.contracts.put_one as put_one
use Rattle.lent.proofs.put_one.Reads as put-one-reads
use Rattle.promises.proofs.One.{One}
use mathlib.Core.Path.{◌∙◌, sym, refl}

pub put_one_one : One put_one.ended put-one-reads.Post (λ κs s. s.0.now)
put_one_one κs a r₁ r₂ s₁ s₂ p q = (p.0 ∙ sym q.0, p.1 ∙ sym q.1)

pub copy_in_one : One copy-in.ended copy-in-reads.Post (λ κs s. s.0.now)
copy_in_one κs a r₁ r₂ s₁ s₂ p q = (refl, p ∙ sym q)

pub put_all_one : One put_all_lem.ended put-all-reads.Post (λ κs s. s.0.now)
put_all_one κs a r₁ r₂ s₁ s₂ p q = (p.0 ∙ sym q.0, p.1 ∙ sym q.1)
