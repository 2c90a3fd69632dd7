use Rattle.std.proofs.Common.{◌<◌, subst, arith}
use Rattle.std.proofs.lemmas.Result.{IfOk-weaker}
use Rattle.pst_search_loop.specs.Kept.{Kept, Shows}
use Rattle.pst_search_loop.proofs.Turns.{says_down, says_here}
use Rattle.pst_search_loop.proofs.level.deepen.Goals as goal

pub go_on-requires-clause-passed : goal.go_on-requires-clause-passed
go_on-requires-clause-passed g c = record {
  within = λ p h. let l : p < 0 = c.nothing.ensures.places p h in let bad : ⊥ = omega (arith, l) in absurd bad;
  each = λ d l. let bad : ⊥ = omega (arith, l) in absurd bad;
}

pub leave-requires-clause-stands : goal.leave-requires-clause-stands
leave-requires-clause-stands g c = c.in_ok-shown.ensures.stands

pub leave-requires-clause-conflict : goal.leave-requires-clause-conflict
leave-requires-clause-conflict g c = subst (Shows (g.W.Walker.kept c.go_on.new.walker)) c.in-Closed.is c.in_ok-shown.ensures.shows

pub returns-in-Closed : goal.returns-in-Closed
returns-in-Closed g c =
    let k : Kept = g.W.Walker.kept c.args.walker.now in
    let l : Kept = g.W.Walker.kept c.go_on.new.walker in
    IfOk-weaker c.leave.result _ _ (λ shown h. says_down k l _ c.go_on.new.frames.items _ c.in_ok-shown.shown shown c.in_ok-shown.ensures h) c.leave.ensures

pub returns-in_default : goal.returns-in_default
returns-in_default g c =
    let k : Kept = g.W.Walker.kept c.args.walker.now in
    let l : Kept = g.W.Walker.kept c.go_on.new.walker in
    says_here k l c.go_on.new.frames.items c.in_ok-shown.shown c.in_ok-shown.ensures (λ d is. c.in_default.not-Closed d is)
