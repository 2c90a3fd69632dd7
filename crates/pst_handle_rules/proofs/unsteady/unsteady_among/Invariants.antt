use Rattle.std.proofs.Common.{map}
use Rattle.pst_ast.specs.DeclarationView.{view_unit}
use Rattle.pst_name_rules.specs.Leasts.{IsLeastOf}
use Rattle.pst_handle_rules.specs.Judged.{IsBrokenBefore}
use Rattle.pst_handle_rules.proofs.unsteady.unsteady_among.Given as goal

abbrev pub invariant-loop-at : goal.invariant-loop-at
invariant-loop-at l = IsLeastOf (IsBrokenBefore (map view_unit l.sites) l.judgings l.at) l.least
