use Rattle.std.proofs.Common.{rules, ◌≡◌, List, subst, sym, ap, ◌∙◌}
use Rattle.std.specs.Prelude.{ℕ, position}
use Rattle.std.specs.HashMap.{get}
use Rattle.std.proofs.lemmas.Iterator.Adapters.{position_from-zero}
use Rattle.pst_ast.specs.declared.scope_declaration.Declaration.{Declaration}
use Rattle.pst_bound_pools.specs.declared.pool_table.PoolKey.{PoolKey}
use Rattle.pst_bound_pools.specs.ListedPools.{pool_key, is_pool_at, same_pool, view_pools}
use Rattle.pst_bound_pools.proofs.pool_table.PoolTable.number.Goals as goal

pub returns : goal.returns
returns c =
    let key = pool_key c.args.instance c.args.pool.now in
    let at_key : c.copied.result ≡ get same_pool c.self.inside.numbers c.pool_key.result = search rules in
    let found : c.copied.result ≡ position (is_pool_at key) (view_pools c.self.inside.pools.items) =
    at_key ∙ (ap (λ (k : PoolKey). get same_pool c.self.inside.numbers k) c.pool_key.ensures ∙ (c.self.invariant.numbers key ∙ sym (position_from-zero (is_pool_at key) (view_pools c.self.inside.pools.items)))) in
    subst (λ (xs : List (ℕ × Declaration)). c.copied.result ≡ position (is_pool_at key) xs) c.self.view_is found
