-- One result for each contract of `types`, and one content of each lent buffer.
use Rattle.promises.proofs.One.{One}
use Rattle.types.specs.contracts.Kind.code as kind-code
use Rattle.types.proofs.Kind.code.Reads as kind-code-reads
use Rattle.types.specs.contracts.Kind.from_u8 as kind-from-u8
use Rattle.types.proofs.Kind.from_u8.Reads as kind-from-u8-reads
use Rattle.types.specs.contracts.Place.within as place_within
use Rattle.types.proofs.Place.within.Reads as place-within-reads
use Rattle.types.specs.contracts.Refusal.no_room as refusal-no-room
use Rattle.types.proofs.Refusal.no_room.Reads as refusal-no-room-reads
use Rattle.types.specs.contracts.Refusal.number as refusal-number
use Rattle.types.proofs.Refusal.number.Reads as refusal-number-reads
use Rattle.types.specs.contracts.Refusal.unsupported as refusal-unsupported
use Rattle.types.proofs.Refusal.unsupported.Reads as refusal-unsupported-reads
use Rattle.types.specs.contracts.Special.code as special-code
use Rattle.types.proofs.Special.code.Reads as special-code-reads
use Rattle.types.specs.contracts.SpecialTryFromU64.try_from as special-try-from
use Rattle.types.proofs.SpecialTryFromU64.try_from.Reads as special-try-from-reads
use Rattle.types.specs.contracts.Way.is_exact as way-is-exact
use Rattle.types.proofs.Way.is_exact.Reads as way-is-exact-reads
use Rattle.types.specs.contracts.Way.unnamed as way-unnamed
use Rattle.types.proofs.Way.unnamed.Reads as way-unnamed-reads
use mathlib.Core.Path.{◌∙◌, sym, refl}

pub kind_from_u8_one : One kind-from-u8.ended kind-from-u8-reads.Post (λ κs s. tt {0})
kind_from_u8_one κs a r₁ r₂ s₁ s₂ p q = (p ∙ sym q, refl)

pub kind_code_one : One kind-code.ended kind-code-reads.Post (λ κs s. tt {0})
kind_code_one κs a r₁ r₂ s₁ s₂ p q = (p.0 ∙ sym q.0, refl)

pub special_try_from_one : One special-try-from.ended special-try-from-reads.Post (λ κs s. tt {0})
special_try_from_one κs a r₁ r₂ s₁ s₂ p q = (p ∙ sym q, refl)

pub special_code_one : One special-code.ended special-code-reads.Post (λ κs s. tt {0})
special_code_one κs a r₁ r₂ s₁ s₂ p q = (p ∙ sym q, refl)

pub way_unnamed_one : One way-unnamed.ended way-unnamed-reads.Post (λ κs s. tt {0})
way_unnamed_one κs a r₁ r₂ s₁ s₂ p q = (p ∙ sym q, refl)

pub way_is_exact_one : One way-is-exact.ended way-is-exact-reads.Post (λ κs s. tt {0})
way_is_exact_one κs a r₁ r₂ s₁ s₂ p q = (p ∙ sym q, refl)

pub place_within_one : One place_within.ended place-within-reads.Post (λ κs s. tt {0})
place_within_one κs a r₁ r₂ s₁ s₂ p q = (p.0 ∙ sym q.0, refl)

pub refusal_number_one : One refusal-number.ended refusal-number-reads.Post (λ κs s. tt {0})
refusal_number_one κs a r₁ r₂ s₁ s₂ p q = (p ∙ sym q, refl)

pub refusal_no_room_one : One refusal-no-room.ended refusal-no-room-reads.Post (λ κs s. tt {0})
refusal_no_room_one κs a r₁ r₂ s₁ s₂ p q = (p ∙ sym q, refl)

pub refusal_unsupported_one : One refusal-unsupported.ended refusal-unsupported-reads.Post (λ κs s. tt {0})
refusal_unsupported_one κs a r₁ r₂ s₁ s₂ p q = (p ∙ sym q, refl)
