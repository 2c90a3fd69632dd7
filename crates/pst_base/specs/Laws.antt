-- Laws of the order of places.
use Rattle.std.specs.Prelude.{◌≡◌, ◌⊎◌}
use Rattle.pst_base.specs.declared.position.Place.{Place}
use Rattle.pst_base.specs.Places.{IsBefore}

-- of two places one is before the other, or they are the same
abbrev pub OneIsBefore : Type 0
OneIsBefore = (p q : Place) → IsBefore p q ⊎ ((p ≡ q) ⊎ IsBefore q p)

-- no place is before itself
abbrev pub NoneIsBeforeItself : Type 0
NoneIsBeforeItself = (p : Place) → IsBefore p p → ⊥

-- what is before a place that is before a third is before the third
abbrev pub BeforeGoesOn : Type 0
BeforeGoesOn = (p q r : Place) → IsBefore p q → IsBefore q r → IsBefore p r
