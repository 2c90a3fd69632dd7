use Rattle.std.proofs.Common.{sym, ◌∙◌}
use Rattle.pst_ast.specs.DeclarationView.{view_pool}
use Rattle.pst_declared_parts.specs.Listed.{pool_of_tree}
use Rattle.pst_declared_parts.proofs.Found.{found_none, found_some, lent}
use Rattle.pst_declared_parts.proofs.pools.pool_in.Goals as goal

pub returns-in-None : goal.returns-in-None
returns-in-None c = found_none (λ a. pool_of_tree (view_pool a.now)) (λ a. a.name.place) c.args.pools.now c.args.places.now c.args.place c.requires (sym c.number.ensures ∙ c.in-None.is)

pub returns-in-Some : goal.returns-in-Some
returns-in-Some c =
    let item = lent c.args.pools.now c.in-Some.number c.get.result c.get.ensures.lookup.0 c.get.ensures.lookup.1 in
    found_some (λ a. pool_of_tree (view_pool a.now)) (λ a. a.name.place) c.args.pools.now c.args.places.now c.args.place c.in-Some.number _ c.requires (sym c.number.ensures ∙ c.in-Some.is) (c.copied.ensures ∙ item)
