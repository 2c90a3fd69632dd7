-- Where no traversal has a constraint, the constraints of nodes are those of compound actions.
use Rattle.std.proofs.Common.{◌≡◌, ℕ, List, [], ◌∷◌, ◌++◌, Bool, false, Option, Some, None, refl, ap, ◌∙◌, append-nil}
use Rattle.std.specs.Prelude.{flat_map}
use Rattle.pst_model.specs.ActivityTree.{StepTree, Traverse, Sequence, Parallel, Schedule, Joined, Select, Repeat, If, Match}
use Rattle.pst_model.specs.ModelTree.{ModelTree}
use Rattle.pst_scen.specs.declared.tree.Node.{Node}
use Rattle.pst_slots.specs.Stated.{Stated, statement_of}
use Rattle.pst_refusals.specs.Inlines.{has_inlines}
use Rattle.pst_refusals.proofs.Without.{none_found}
use Rattle.pst_constraint_sites.specs.Sites.{AtTraversal}
use Rattle.pst_constraint_sites.specs.Groups.{one_group, fill_groups, compound_groups, step_groups, stated_groups, node_groups}

module _ (m : ModelTree) (without : has_inlines m ≡ false) (nodes : List Node) where
  none_stated : (n : ℕ) → stated_groups n (statement_of m nodes n) ≡ []
  none_stated n = by (statement_of m nodes n) refl
    where
      by : (o : Option Stated) → statement_of m nodes n ≡ o → stated_groups n o ≡ []
      by None is = refl
      by (Some x) is = at x.step refl
        where
          at : (step : StepTree) → x.step ≡ step → step_groups n x.top x.indices step ≡ []
          at (Traverse action handle inline) of = ap (one_group (AtTraversal n x.top x.indices)) (none_found m without nodes n x action handle inline is of)
          at (Sequence steps) of = refl
          at (Parallel steps) of = refl
          at (Schedule steps) of = refl
          at (Joined parallel join steps) of = refl
          at (Select branches) of = refl
          at (Repeat count body) of = refl
          at (If condition holds fails) of = refl
          at (Match matched arms other) of = refl

  pub fills_alone : (es : List (ℕ × Node)) → flat_map (node_groups m nodes) es ≡ flat_map (compound_groups m) es
  fills_alone [] = refl
  fills_alone (e ∷ es) =
      ap (λ gs. (fill_groups m e.0 e.1.fill ++ gs) ++ flat_map (node_groups m nodes) es) (none_stated e.0)
      ∙ ap (λ gs. gs ++ flat_map (node_groups m nodes) es) (append-nil (fill_groups m e.0 e.1.fill))
      ∙ ap (λ gs. fill_groups m e.0 e.1.fill ++ gs) (fills_alone es)
