-- What constraints speak of, each slot where its constraint stands.
use Rattle.std.specs.Prelude.{◌≡◌, ℕ, zero, suc, ◌<◌, ℤ, List, [], ◌∷◌, ◌++◌, map, Option, Some, slice_get}
use Rattle.pst_expr.specs.declared.ranges.Span.{Span}
use Rattle.pst_model.specs.ConstraintTree.{SlotTree, Own}
use Rattle.pst_model.specs.ModelTree.{ModelTree}
use Rattle.pst_scen.specs.declared.scenario.Scenario.{Scenario}
use Rattle.pst_legal.specs.Standing.{Standing, value_of, bound_of}
use Rattle.pst_constraint_sites.specs.Sites.{SiteTree, AtNode, slot_at}

-- what a slot stands for at a site
pub record Quantity : Type 0 where
  pub site : SiteTree
  pub slot : SlotTree

abbrev pub standing_of : ModelTree → Scenario → Quantity → Standing
standing_of m t q = slot_at m t q.site q.slot

-- their values in a scenario
abbrev pub quantity_values : ModelTree → Scenario → List Quantity → List (Option ℤ)
quantity_values m t qs = map (λ q. value_of (standing_of m t q)) qs

-- the bounds that are known of them
abbrev pub quantity_bounds : ModelTree → Scenario → List Quantity → List (Option Span)
quantity_bounds m s qs = map (λ q. bound_of (standing_of m s q)) qs

-- a field of the action of a node
abbrev pub own_quantity : ℕ → ℕ → Quantity
own_quantity n field = record { site = AtNode n; slot = Own field }

-- the first ones are the fields of the action of a node, so many
abbrev pub BeginWithFields : ℕ → ℕ → List Quantity → Type 0
BeginWithFields n count qs = (field : ℕ) → field < count → slice_get qs field ≡ Some (own_quantity n field)

-- the fields of the action of a node, so many
abbrev pub own_quantities : ℕ → ℕ → List Quantity
own_quantities n zero = []
own_quantities n (suc count) = own_quantities n count ++ own_quantity n count ∷ []

-- those of slots at a site
abbrev pub slot_quantities : SiteTree → List SlotTree → List Quantity
slot_quantities site slots = map (λ slot. record { site = site; slot = slot }) slots
