-- The activities of derived actions by both definitions, in the source of `pst_tree`'s facts: D has an activity, E and F are derived
-- from it, and F has a body of its own.
use Rattle.std.specs.Prelude.{◌≡◌, [], ◌∷◌, Some, None}
use Rattle.pst_type_rules.specs.Members.{IsCompound}
use Rattle.pst_type_rules.specs.TriedRules.{traverse}
use Rattle.pst_tree.specs.Contents.{content_of}
use Rattle.pst_tree.specs.InheritedTried.{units, derived, compound}
use Rattle.pst_front_laws.specs.ContentLaws.{statements_in}

pub record ContentsAreTried : Type 0 where
  pub own : IsCompound units compound (traverse 12 6 32 ∷ [])
  pub own_found : statements_in (content_of units compound) ≡ Some (traverse 12 6 32 ∷ [])
  pub inherited : IsCompound units (derived 13 7 11) (traverse 12 6 32 ∷ [])
  pub inherited_found : statements_in (content_of units (derived 13 7 11)) ≡ Some (traverse 12 6 32 ∷ [])
  pub replaced_found : statements_in (content_of units (derived 15 8 11)) ≡ None
