use Rattle.std.proofs.Common.{◌<◌, length, refl, ap, ◌∙◌, arith}
use Rattle.std.proofs.Math.ListN.{set}
use Rattle.std.proofs.lemmas.List.{length_push}
use Rattle.pst_square.specs.declared.walk.Stage.TheVariants.{Open}
use Rattle.pst_square.proofs.Walking.{less_left, two_less_left}
use Rattle.pst_square.proofs.walk.step.Goals as goal

pub returns-in_ok-push-in-Down-2-clause-left : goal.returns-in_ok-push-in-Down-2-clause-left
returns-in_ok-push-in-Down-2-clause-left c =
    let stages = c.args.stages.now in
    let a_in : c.args.a < length stages = let staged = c.requires.walked.staged in let a_in = c.requires.a_in in omega (arith, staged, a_in) in
    let first = less_left stages c.args.a Open a_in refl in
    let turn = c.in-Down.ensures.turn in
    let to_in : c.in-Down.to < length (set stages c.args.a Open) = let staged = c.turn_at.ensures.walked.staged in let inside = turn.0 in omega (arith, staged, inside) in
    let second = two_less_left (set stages c.args.a Open) c.in-Down.to to_in turn.1 in
    let one = ap length c.in_ok-push-in-Down.ensures.items ∙ length_push c.args.path.now.items c.args.a in
    let two = ap length c.in_ok-push-in-Down-2.ensures.items ∙ length_push c.push.new.self.items c.in-Down.to in
    omega (arith, first, second, one, two)

pub returns-in-Circle-clause-left : goal.returns-in-Circle-clause-left
returns-in-Circle-clause-left c =
    let stages = c.args.stages.now in
    let a_in : c.args.a < length stages = let staged = c.requires.walked.staged in let a_in = c.requires.a_in in omega (arith, staged, a_in) in
    let first = less_left stages c.args.a Open a_in refl in
    omega (arith, first)
