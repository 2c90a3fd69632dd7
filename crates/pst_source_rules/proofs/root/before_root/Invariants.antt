use Rattle.std.proofs.Common.{◌≡◌, ◌+◌, drop, map}
use Rattle.std.specs.List.{position_or_len}
use Rattle.pst_ast.specs.DeclarationView.{view_unit}
use Rattle.pst_elab_rules.specs.Ends.{is_root}
use Rattle.pst_source_rules.proofs.root.before_root.Given as goal

abbrev pub invariant-loop-number : goal.invariant-loop-number
invariant-loop-number l =
    l.number + position_or_len (is_root (map view_unit l.sites) l.names l.instances l.words.component.now l.words.action.now) (drop l.number l.actions)
    ≡ position_or_len (is_root (map view_unit l.sites) l.names l.instances l.words.component.now l.words.action.now) l.actions
