use Rattle.std.proofs.Common.{ap, ◌∙◌, true, cond}
use Rattle.std.specs.Prelude.{Some}
use Rattle.std.specs.HashMap.{get}
use Rattle.pst_bound_pools.specs.declared.explicit_rows.AimKey.{AimKey}
use Rattle.pst_bound_pools.specs.declared.explicit_rows.TargetKey.{TargetKey}
use Rattle.pst_bound_pools.specs.BindRows.{numbers_in, same_aim, same_target}
use Rattle.pst_bound_pools.proofs.Aimed.{on_ok, still_aimed}
use Rattle.pst_bound_pools.proofs.explicit_rows.add.Goals as goal

pub returns-clause-aimed : goal.returns-clause-aimed
returns-clause-aimed c =
    on_ok c.add_pool.result
    (λ rows. still_aimed (get same_aim c.args.found.now.aimed) (get same_aim c.aim.new.aimed) (λ (q : TargetKey). numbers_in (get same_target c.args.found.now.rows q)) (λ (q : TargetKey). numbers_in (get same_target c.add_pool.new.rows q))
    c.args.key c.args.pool c.requires (λ a. c.in_ok-aim.ensures a ∙ ap (λ (k : AimKey). cond (same_aim a k) (Some true) (get same_aim c.args.found.now.aimed a)) c.aim_of.ensures) rows)
    c.add_pool.ensures
