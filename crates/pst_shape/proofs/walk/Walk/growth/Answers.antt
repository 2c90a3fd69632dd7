use Rattle.std.proofs.Common.{List, [], ◌∷◌, refl, ap, sym, subst, ◌∙◌}
use Rattle.std.specs.Prelude.{reverse}
use Rattle.pst_model.specs.ModelView.{view_model}
use Rattle.pst_shape_parts.specs.Trees.{Tree, tree_of, scenario_of, cut_to}
use Rattle.pst_shape.specs.declared.walk.Made.{Made}
use Rattle.pst_shape.specs.declared.walk.Growth.{Growth}
use Rattle.pst_shape.specs.declared.walk.Walk.TheInside.{Inside}
use Rattle.pst_shape.specs.Choices.{digits_of, node_count, leaf_count, undone, growth_after}
use Rattle.pst_shape.specs.Made.{AllStand}
use Rattle.pst_shape.specs.Walks.{Kept, IfRead, answer, IsAdded, IsGrowth}
use Rattle.pst_shape.proofs.Stands.{made_reads}
use Rattle.pst_shape.proofs.Added.{added}
use Rattle.pst_shape.proofs.walk.Walk.growth.Goals as goal

abbrev kept_with : (w : Inside) → List Made → Kept
kept_with w made = record { model = w.model.now; root = w.root; seed = w.seed; choices = digits_of made }

is_growth : (w : Inside) (made : List Made) (t : Tree) → AllStand (view_model w.model.now) w.root w.seed w.start made t → IsGrowth (kept_with w made) (growth_after made)
is_growth w [] t h = refl
is_growth w (x ∷ older) t h =
    let m = view_model w.model.now in
    let g : Growth = record { nodes = node_count older; leaves = leaf_count older; value = x.value } in
    let old : Tree = undone x.value (cut_to (node_count older) (leaf_count older) t) in (
      digits_of older,
      x.digit,
      refl,
      λ level. made_reads m w.root w.seed w.start (x ∷ older) t level (λ after. IfRead (answer (kept_with w older) level) (λ s. IsAdded g s after)) h
          (made_reads m w.root w.seed w.start older old level (λ s. IsAdded g s (scenario_of m level t)) h.3 (added m w.root w.seed w.start x older t level h)),
    )

pub returns : goal.returns
returns c =
    let w = c.self.inside in
    let made = reverse w.made.items in
    subst (λ k. IsGrowth k c.growth_of.result) c.self.view_is
    (subst (IsGrowth (kept_with w made)) (sym (c.growth_of.ensures ∙ ap (λ l. growth_after (reverse l)) c.deref.ensures.value))
    (is_growth w made (tree_of w.grown) c.self.invariant))
