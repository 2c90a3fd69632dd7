use Rattle.pst_ast.specs.DeclarationView.{view_target, view_targets}
use Rattle.pst_parse_member.proofs.pools.targets.Goals as goal
use Rattle.pst_parse_member.specs.Families.{target_family, several_targets_family, targets_family}
use Rattle.pst_reading.proofs.Reaching.{begin, step, choose, ends, fails, reads_on}
use Rattle.pst_token.specs.declared.kind.Kind.TheVariants as kind
use Rattle.std.proofs.Common.{arith, rules, true, false}
use Rattle.std.proofs.lemmas.Result.{err_from_is_err_and}

pub returns-then-is-2 : goal.returns-then-is-2
returns-then-is-2 c = reads_on (targets_family c.args.depth) c.args.tokens.now c.args.at c.args.at view_targets (several_targets_family c.args.depth) c.args.at 1 1 _ (omega arith) c.several_targets.ensures (choose (targets_family c.args.depth) c.args.tokens.now c.args.at c.args.at kind.LeftBrace _ _ c.args.at true (search rules) (choose (targets_family c.args.depth) c.args.tokens.now c.args.at c.args.at kind.Star _ _ c.args.at false (search rules) (begin (targets_family c.args.depth) c.args.tokens.now c.args.at c.args.at)))

pub returns-in_err-target : goal.returns-in_err-target
returns-in_err-target c =
    let p = err_from_is_err_and c.from_residual-in_err-target.result c.from_residual-in_err-target.ensures.1 in
    rw (p.1, p.2) (fails (targets_family c.args.depth) c.args.tokens.now c.args.at c.args.at (target_family c.args.depth) _ c.args.at c.args.at c.in_err-target.field-0.0 (omega arith) c.in_err-target.ensures (choose (targets_family c.args.depth) c.args.tokens.now c.args.at c.args.at kind.LeftBrace _ _ c.args.at false (search rules) (choose (targets_family c.args.depth) c.args.tokens.now c.args.at c.args.at kind.Star _ _ c.args.at false (search rules) (begin (targets_family c.args.depth) c.args.tokens.now c.args.at c.args.at))))

pub returns : goal.returns
returns c = record { settles = ends (targets_family c.args.depth) c.args.tokens.now c.args.at c.args.at _ c.in_ok-target.after (step (targets_family c.args.depth) c.args.tokens.now c.args.at c.args.at (target_family c.args.depth) _ c.args.at c.args.at c.in_ok-target.after (view_target c.in_ok-target.target) (omega arith) (omega (arith, c.in_ok-target.ensures.after)) c.in_ok-target.ensures.settles (choose (targets_family c.args.depth) c.args.tokens.now c.args.at c.args.at kind.LeftBrace _ _ c.args.at false (search rules) (choose (targets_family c.args.depth) c.args.tokens.now c.args.at c.args.at kind.Star _ _ c.args.at false (search rules) (begin (targets_family c.args.depth) c.args.tokens.now c.args.at c.args.at)))); after = omega (arith, c.in_ok-target.ensures.after); inside = c.in_ok-target.ensures.inside }
