use Rattle.std.proofs.Common.{◌≡◌, map}
use Rattle.std.specs.HashMap.{get}
use Rattle.pst_ast.specs.DeclarationView.{view_action}
use Rattle.pst_type_rules.specs.Sites.{action_of}
use Rattle.pst_traversals.specs.declared.tally.TallyKey.{TallyKey}
use Rattle.pst_traversals.specs.Tallied.{same_key, tally_before}
use Rattle.pst_traversals.proofs.tally.tallies.Given as goal

abbrev pub invariant-loop-number : goal.invariant-loop-number
invariant-loop-number l = (q : TallyKey) → get same_key l.tallies q ≡ tally_before l.number (map (λ a. action_of (view_action a.now)) l.actions) q
