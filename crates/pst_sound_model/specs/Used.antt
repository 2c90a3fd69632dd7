-- Where an expression of the sources stands, and readings whose slots are of rows.
use Rattle.std.specs.Prelude.{ℕ, List, [], ◌∷◌}
use Rattle.pst_model.specs.ConstraintTree.{SlotTree}
use Rattle.pst_terms.specs.Terms.{Term, Reading, ANumber, AThing, AnArray}
use Rattle.pst_sound_model.specs.Blocks.{IsBlock, HasBlocks}

-- what a path stands for is a number, or a block
abbrev pub IsGood : (SlotTree → ℕ → ℕ → Type 0) → Reading SlotTree → Type 0
IsGood IsRow (ANumber n) = Unit {0}
IsGood IsRow (AThing slot) = IsBlock IsRow (slot ∷ [])
IsGood IsRow (AnArray elements) = IsBlock IsRow elements

-- each of several terms has blocks
abbrev pub AllBlocks : (SlotTree → ℕ → ℕ → Type 0) → List (Term SlotTree) → Type 0
AllBlocks IsRow [] = Unit {0}
AllBlocks IsRow (term ∷ more) = HasBlocks IsRow term × AllBlocks IsRow more
