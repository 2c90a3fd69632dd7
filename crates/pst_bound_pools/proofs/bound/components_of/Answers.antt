use Rattle.std.proofs.Common.{◌≡◌, IfOk, List, map, subst}
use Rattle.pst_ast.specs.declared.instance.Instance.{Instance}
use Rattle.pst_bound_pools.specs.Homes.{home_place}
use Rattle.pst_bound_pools.proofs.bound.components_of.Goals as goal

pub returns : goal.returns
returns c = subst (λ (xs : List Instance). IfOk c.homes_of.result (λ homes. homes.items ≡ map (home_place c.args.index.now) xs)) c.as_slice.ensures c.homes_of.ensures
