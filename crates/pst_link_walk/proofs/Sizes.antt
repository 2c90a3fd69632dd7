-- How many actions a walk has read.
use Rattle.std.proofs.Common.{◌≡◌, ℕ, List, ◌++◌, map, length, Option, Some, None, sym, ap, ◌∙◌, subst, append-nil}
use Rattle.std.proofs.lemmas.List.{length-map}
use Rattle.pst_model.specs.declared.model.Model.{Model}
use Rattle.pst_scen.specs.declared.act.Act.{Act}
use Rattle.pst_legal.specs.ValueReading.{answer_of}
use Rattle.pst_shape_parts.specs.Trees.{bare}
use Rattle.pst_shape.specs.Walks.{IfRead}
use Rattle.pst_supply.specs.Walks.{Kept as Supply}
use Rattle.pst_link_walk.specs.Walks.{tree_reading}
use Rattle.pst_link_walk.specs.Made.{IsInside, choices_of, Stands}
use Rattle.pst_link_walk.specs.News.{IsSize}
use Rattle.pst_link_walk.proofs.Answering.{kept_at, none_stands, none_answers, read_more}

module _ (m : Model) (root seed level : ℕ) where
  pub size_is : (xs : List ℕ) (supply : Option Supply) (leaves : List Act) → supply ≡ None → Stands m root seed level xs supply → IfRead (answer_of (tree_reading m root seed level xs)) (λ s. leaves ≡ map bare s.actions)
      → IsSize (kept_at m root seed level (xs ++ choices_of supply)) (Some (length leaves))
  size_is xs supply leaves none stands same = (
    subst (λ ys. IsInside (tree_reading m root seed level ys)) (sym (ap (λ o. xs ++ choices_of o) none ∙ append-nil xs)) (none_stands m root seed level xs supply none stands),
    subst (λ a. IfRead a (λ s. length leaves ≡ length s.actions)) (sym (none_answers m root seed level xs supply none stands))
        (read_more (answer_of (tree_reading m root seed level xs)) (λ s. leaves ≡ map bare s.actions) (λ s. length leaves ≡ length s.actions) (λ s e. ap length e ∙ length-map s.actions bare) same),
  )
