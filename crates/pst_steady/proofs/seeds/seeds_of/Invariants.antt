use Rattle.std.proofs.Common.{map}
use Rattle.pst_ast.specs.DeclarationView.{view_action, view_unit}
use Rattle.pst_type_rules.specs.Sites.{action_of}
use Rattle.pst_steady.specs.Seeded.{AreSeeds}
use Rattle.pst_steady.proofs.seeds.seeds_of.Given as goal

abbrev pub invariant-loop-at : goal.invariant-loop-at
invariant-loop-at l = AreSeeds (map view_unit l.sites) l.declarations l.at (map (λ a. action_of (view_action a.now)) l.actions.items) l.seeds.items
