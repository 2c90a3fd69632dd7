use Rattle.std.proofs.Common.{◌≡◌, List, map, sym, subst}
use Rattle.std.specs.Prelude.{IfErr, IfOk}
use Rattle.pst_ast.specs.DeclarationView.{view_unit}
use Rattle.pst_ast.specs.declared.declaration.Unit.{Unit}
use Rattle.pst_ast.specs.Breaches.{IsNone}
use Rattle.pst_ast.specs.Declarations.{declarations}
use Rattle.pst_ast.specs.NameRules.{NameBreach}
use Rattle.pst_types.specs.Checked.{AreTyped, IsUntyped}
use Rattle.pst_types.proofs.checked.check_units.Goals as goal

pub check_sites-requires-clause-declared : goal.check_sites-requires-clause-declared
check_sites-requires-clause-declared c = subst (λ (us : List Unit). c.args.index.now ≡ declarations (map view_unit us)) (sym c.in-Ok.ensures) c.requires.declared

pub check_sites-requires-clause-named : goal.check_sites-requires-clause-named
check_sites-requires-clause-named c = subst (λ (us : List Unit). IsNone (NameBreach (map view_unit us) c.args.names.now)) (sym c.in-Ok.ensures) c.requires.named

pub returns-in-Ok-clause-typed : goal.returns-in-Ok-clause-typed
returns-in-Ok-clause-typed c = subst (λ (us : List Unit). IfOk c.check_sites.result (λ found. AreTyped (map view_unit us) c.args.names.now found.0.constants)) c.in-Ok.ensures c.check_sites.ensures.typed

pub returns-in-Ok-clause-broken : goal.returns-in-Ok-clause-broken
returns-in-Ok-clause-broken c = subst (λ (us : List Unit). IfErr c.check_sites.result (λ end. IsUntyped (map view_unit us) c.args.names.now end)) c.in-Ok.ensures c.check_sites.ensures.broken
