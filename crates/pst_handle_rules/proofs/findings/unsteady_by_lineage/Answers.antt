use Rattle.std.proofs.Common.{◌≡◌, List, length, map, subst, ◌∙◌}
use Rattle.pst_ast.specs.DeclarationView.{view_action}
use Rattle.pst_ast.specs.declared.scope_declaration.Declaration.{Declaration}
use Rattle.pst_type_rules.specs.Sites.{action_of}
use Rattle.pst_steady.specs.Ranged.{AreRanged}
use Rattle.pst_handle_rules.proofs.findings.unsteady_by_lineage.Goals as goal

pub unsteady_among-requires-clause-below : goal.unsteady_among-requires-clause-below
unsteady_among-requires-clause-below c = record {
  lined = record {
    actions = map (λ a. action_of (view_action a.now)) c.args.actions.now;
    seeds = c.args.seeds.now;
    bases_are = c.requires.bases;
    seeds_are = c.requires.seeds;
    reached = c.requires.values;
    tallied = c.requires.tallies;
  };
  runs = c.in_ok-runs.ensures;
  ranged = λ right. subst (λ (ds : List Declaration). AreRanged c.args.lineage.now.places.now ds c.args.seeds.now c.args.lineage.now.bases.now c.as_slice-ranges.result.now c.as_slice-slots.result.now (length ds)) (c.as_slice-declarations.ensures ∙ c.requires.declared) (c.are_ranged-right.ensures right);
}
