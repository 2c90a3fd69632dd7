use Rattle.std.proofs.Common.{List, sym, ap, ◌∙◌}
use Rattle.std.specs.Prelude.{ℕ, nat_eq, ◌&&◌, position}
use Rattle.std.specs.Option.{option_and_then}
use Rattle.pst_ast.specs.declared.scope_declaration.Declaration.{Declaration}
use Rattle.pst_ast.specs.Sorts.{same_place}
use Rattle.pst_bound_pools.specs.Pools.{pool_number}
use Rattle.pst_bound_pools.proofs.bound.pool_bound.Goals as goal

pub returns : goal.returns
returns c =
    c.number.ensures
    ∙ ap (λ (xs : List (ℕ × Declaration)). position (λ (x : ℕ × Declaration). nat_eq x.0 c.args.number && same_place x.1.name.place c.in_ok-declared.declared.name.place) xs) c.requires
    ∙ ap (option_and_then (pool_number c.args.index.now c.args.table.now c.args.number)) (sym (sym c.pool_in.ensures ∙ c.in_ok-declared.was))
