use Rattle.std.proofs.Common.{◌≡◌, ℕ, map, subst, arith}
use Rattle.pst_ast.specs.DeclarationView.{view_unit}
use Rattle.pst_name_rules.specs.Leasts.{IsLeastOf}
use Rattle.pst_handle_rules.specs.Judged.{IsBrokenBefore}
use Rattle.pst_handle_rules.proofs.unsteady.unsteady_among.Goals as goal

pub returns : goal.returns
returns c = subst (λ (n : ℕ). IsLeastOf (IsBrokenBefore (map view_unit c.args.sites.now) c.args.judgings.now n) c.loop-at.least) (omega arith) c.loop-at.invariant
