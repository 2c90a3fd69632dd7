use Rattle.std.proofs.Common.{◌≡◌, List, map, sym, subst}
use Rattle.std.specs.Prelude.{IfErr, IfOk}
use Rattle.pst_ast.specs.DeclarationView.{view_unit}
use Rattle.pst_ast.specs.declared.declaration.Unit.{Unit}
use Rattle.pst_ast.specs.Declarations.{declarations}
use Rattle.pst_names.specs.Resolved.{AreResolved, IsUnresolved}
use Rattle.pst_source_rules.proofs.by_sites.scopes_of.Goals as goal

pub resolve_by-requires : goal.resolve_by-requires
resolve_by-requires c = record { declared = subst (λ (us : List Unit). c.args.index.now ≡ declarations (map view_unit us)) (sym c.sources.ensures) c.requires }

pub returns-clause-resolved : goal.returns-clause-resolved
returns-clause-resolved c = subst (λ (us : List Unit). IfOk c.resolve_by.result (λ scopes. AreResolved (map view_unit us) c.args.names.now scopes.types scopes.meanings)) c.sources.ensures c.resolve_by.ensures.resolved

pub returns-clause-broken : goal.returns-clause-broken
returns-clause-broken c = subst (λ (us : List Unit). IfErr c.resolve_by.result (λ end. IsUnresolved (map view_unit us) c.args.names.now end)) c.sources.ensures c.resolve_by.ensures.broken
