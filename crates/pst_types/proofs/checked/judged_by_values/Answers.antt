use Rattle.std.proofs.Common.{List, map, sym, subst}
use Rattle.pst_ast.specs.DeclarationView.{view_unit}
use Rattle.pst_type_rules.specs.declared.typed.ConstantValue.{ConstantValue}
use Rattle.pst_type_rules.specs.Typed.{AreConstants}
use Rattle.pst_types.proofs.Checking.{is_least, is_none}
use Rattle.pst_types.proofs.checked.judged_by_values.Goals as goal

pub returns-in-Some : goal.returns-in-Some
returns-in-Some c = is_least (map view_unit c.args.sites.now) c.args.names.now c.in_ok-least.least c.in-Some.field-0 c.in-Some.is c.in_ok-least.ensures.least

pub returns-in-None : goal.returns-in-None
returns-in-None c = (
  is_none (map view_unit c.args.sites.now) c.args.names.now c.in_ok-least.least c.in-None.is c.in_ok-least.ensures.least,
  subst (λ (cs : List ConstantValue). AreConstants (map view_unit c.args.sites.now) c.args.names.now cs) (sym c.from_vec.ensures) c.in_ok-least.ensures.constants,
)
