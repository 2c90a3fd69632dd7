use Rattle.std.proofs.Common.{◌≡◌, List, map, sym, subst}
use Rattle.std.specs.Prelude.{IfErr, IfOk, Ok}
use Rattle.pst_ast.specs.DeclarationView.{view_unit}
use Rattle.pst_ast.specs.declared.declaration.Unit.{Unit}
use Rattle.pst_ast.specs.Declarations.{declarations}
use Rattle.pst_bind.specs.PooledSources.{ArePooled, IsPoolEnd}
use Rattle.pst_source_rules.proofs.by_sites.pools_of.Goals as goal

pub pools_by-requires : goal.pools_by-requires
pools_by-requires c = record { declared = subst (λ (us : List Unit). c.args.index.now ≡ declarations (map view_unit us)) (sym c.sources.ensures) c.requires }

pub returns-clause-pools : goal.returns-clause-pools
returns-clause-pools c = subst (λ (us : List Unit). IfOk c.pools_by.result (λ found. ArePooled (map view_unit us) c.args.instances.now (Ok found))) c.sources.ensures c.pools_by.ensures.pools

pub returns-clause-broken : goal.returns-clause-broken
returns-clause-broken c = subst (λ (us : List Unit). IfErr c.pools_by.result (λ end. IsPoolEnd (map view_unit us) c.args.instances.now end)) c.sources.ensures c.pools_by.ensures.broken
