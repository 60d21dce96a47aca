-- The place in the file, and the three places of an atom. Document 01, "Two ways of reading"; document 02, K1.
use Rattle.std.specs.Prelude.{ℕ, ltb}
use Rattle.types.specs.Choice.{pick}
use Rattle.types.specs.declared.Place.{Place}
use Rattle.types.specs.declared.Places.{Places}

-- "A given place past the end counts as the end."
abbrev pub place_in : ℕ → ℕ → ℕ
place_in length place = pick (ltb length place) length place

-- "its first place, the place where its body starts and the place after it"
abbrev pub places_of : Place → Place → Place → Places
places_of first body after = record { first = first; body = body; after = after }

-- "all 0 if there was none"
abbrev pub no_places : Places
no_places = places_of (record { 0 = 0 }) (record { 0 = 0 }) (record { 0 = 0 })
