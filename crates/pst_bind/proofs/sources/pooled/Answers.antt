use Rattle.std.proofs.Common.{List, map, subst, ap, ◌∙◌}
use Rattle.pst_ast.specs.DeclarationView.{view_unit}
use Rattle.pst_ast.specs.declared.instance.Instance.{Instance}
use Rattle.pst_name_rules.specs.Leasts.{IsLeastOf}
use Rattle.pst_bound_pools.specs.Pools.{pools}
use Rattle.pst_bind.specs.Needs.{served}
use Rattle.pst_bind.specs.Pools.{place_of}
use Rattle.pst_bind.specs.PooledSources.{IsBreach}
use Rattle.pst_bind.proofs.Pooling.{none_of, least_of}
use Rattle.pst_bind.proofs.sources.pooled.Goals as goal

pub returns-in-Some : goal.returns-in-Some
returns-in-Some c =
    let units = map view_unit c.args.units.now in
    least_of units c.args.instances.now c.in-Some.finding
    (subst (λ o. IsLeastOf (IsBreach units c.args.instances.now) o) c.in-Some.is (subst (λ (xs : List Instance). IsLeastOf (IsBreach units xs) c.in_ok-judged.judged.least) c.in_ok-table.ensures c.in_ok-judged.ensures.0))

pub returns : goal.returns
returns c =
    let units = map view_unit c.args.units.now in
    let least = subst (λ o. IsLeastOf (IsBreach units c.args.instances.now) o) c.in-None.is (subst (λ (xs : List Instance). IsLeastOf (IsBreach units xs) c.in_ok-judged.judged.least) c.in_ok-table.ensures c.in_ok-judged.ensures.0) in (
      record {
        are_pools = c.from_vec.ensures ∙ c.in_ok-named-in-None.ensures ∙ ap (map place_of) (c.as_slice-in-None.ensures ∙ c.in_ok-pools.ensures ∙ (λ i. pools (c.requires i) ((c.as_slice-2.ensures ∙ c.in_ok-table.ensures) i)));
        are_served = c.from_vec-in-None.ensures ∙ c.in_ok-judged.ensures.1 ∙ ap (λ (xs : List Instance). served units xs) c.in_ok-table.ensures;
      },
      none_of units c.args.instances.now least,
    )
