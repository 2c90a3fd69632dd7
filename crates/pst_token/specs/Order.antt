-- How places move on.
use Rattle.std.specs.Prelude.{ℕ, ◌+◌, if◌then◌else◌, List, [], ◌∷◌}
use Rattle.pst_base.specs.declared.position.Place.{Place}
use Rattle.pst_base.specs.Places.{IsBefore}
use Rattle.pst_token.specs.Parts.{is_line_feed}

-- the place after one byte more
abbrev pub after_byte : Place → ℕ → Place
after_byte place b = record place {
  line = place.line + (if is_line_feed b then 1 else 0);
  column = if is_line_feed b then 1 else place.column + 1;
}

-- each place is before the next
abbrev pub AreRising : List Place → Type 0
AreRising [] = Unit {0}
AreRising (p ∷ []) = Unit {0}
AreRising (p ∷ q ∷ places) = IsBefore p q × AreRising (q ∷ places)
