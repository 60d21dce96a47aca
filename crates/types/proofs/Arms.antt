-- Kinds that have one arm of a `match`, which the tag leads to: a statement that each of them meets is met there.
use mathlib.Core.List.{[], ◌∷◌}
use types.Run.{OneOf, miss}
use denote.Enum.Declared.{tag_of}
use Rattle.types.specs.contracts.Kind.{the_type}
use Rattle.types.specs.declared.Kind.{Kind}
use Rattle.types.specs.declared.Kind.TheVariants as K

-- Int and UInt
abbrev pub OfIntegers : Kind → Type 0
OfIntegers kind = OneOf (1 ∷ 2 ∷ []) (tag_of the_type kind)

pub two_kinds : (P : Kind → Type 0) → P K.Int → P K.UInt → (kind : Kind) → OfIntegers kind → P kind
two_kinds P i u K.Special h = absurd (miss (1 ∷ 2 ∷ []) 0 tt h)
two_kinds P i u K.Int h = i
two_kinds P i u K.UInt h = u
two_kinds P i u K.Float h = absurd (miss (1 ∷ 2 ∷ []) 3 tt h)
two_kinds P i u K.Sequence h = absurd (miss (1 ∷ 2 ∷ []) 4 tt h)
two_kinds P i u K.Map h = absurd (miss (1 ∷ 2 ∷ []) 5 tt h)
two_kinds P i u K.Symbol h = absurd (miss (1 ∷ 2 ∷ []) 6 tt h)
two_kinds P i u K.Bytes h = absurd (miss (1 ∷ 2 ∷ []) 7 tt h)

-- Sequence, Map and Symbol, whose header says all
abbrev pub OfHeaders : Kind → Type 0
OfHeaders kind = OneOf (4 ∷ 5 ∷ 6 ∷ []) (tag_of the_type kind)

pub three_kinds : (P : Kind → Type 0) → P K.Sequence → P K.Map → P K.Symbol → (kind : Kind) → OfHeaders kind → P kind
three_kinds P s m y K.Special h = absurd (miss (4 ∷ 5 ∷ 6 ∷ []) 0 tt h)
three_kinds P s m y K.Int h = absurd (miss (4 ∷ 5 ∷ 6 ∷ []) 1 tt h)
three_kinds P s m y K.UInt h = absurd (miss (4 ∷ 5 ∷ 6 ∷ []) 2 tt h)
three_kinds P s m y K.Float h = absurd (miss (4 ∷ 5 ∷ 6 ∷ []) 3 tt h)
three_kinds P s m y K.Sequence h = s
three_kinds P s m y K.Map h = m
three_kinds P s m y K.Symbol h = y
three_kinds P s m y K.Bytes h = absurd (miss (4 ∷ 5 ∷ 6 ∷ []) 7 tt h)
