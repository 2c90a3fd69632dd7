use Rattle.std.proofs.Common.{◌≡◌, List, map, sym, subst}
use Rattle.std.specs.Prelude.{IfErr, IfOk}
use Rattle.pst_ast.specs.DeclarationView.{view_unit}
use Rattle.pst_ast.specs.declared.declaration.Unit.{Unit}
use Rattle.pst_ast.specs.Breaches.{IsNone}
use Rattle.pst_ast.specs.Declarations.{declarations}
use Rattle.pst_ast.specs.NameRules.{NameBreach}
use Rattle.pst_ast.specs.Scopes.{AreScopes}
use Rattle.pst_tree.specs.Found.{IsTreeEnd}
use Rattle.pst_tree.specs.Instances.{AreInstances}
use Rattle.pst_source_rules.proofs.by_sites.tree_of.Goals as goal

pub instances_by-requires-clause-declared : goal.instances_by-requires-clause-declared
instances_by-requires-clause-declared c = subst (λ (us : List Unit). c.args.index.now ≡ declarations (map view_unit us)) (sym c.sources.ensures) c.requires.declared

pub instances_by-requires-clause-kept : goal.instances_by-requires-clause-kept
instances_by-requires-clause-kept c = subst (λ (us : List Unit). IsNone (NameBreach (map view_unit us) c.args.names.now)) (sym c.sources.ensures) c.requires.kept

pub instances_by-requires-clause-scopes : goal.instances_by-requires-clause-scopes
instances_by-requires-clause-scopes c = subst (λ (us : List Unit). AreScopes (map view_unit us) c.args.names.now c.args.scopes.now.types c.args.scopes.now.meanings) (sym c.sources.ensures) c.requires.scopes

pub returns-clause-are : goal.returns-clause-are
returns-clause-are c = subst (λ (us : List Unit). IfOk c.instances_by.result (λ tree. AreInstances (map view_unit us) c.args.names.now tree.instances)) c.sources.ensures c.instances_by.ensures.are

pub returns-clause-end : goal.returns-clause-end
returns-clause-end c = subst (λ (us : List Unit). IfErr c.instances_by.result (λ end. IsTreeEnd (map view_unit us) c.args.names.now end)) c.sources.ensures c.instances_by.ensures.end
