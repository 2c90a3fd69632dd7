use Rattle.std.proofs.Common.{◌≡◌, ◌∙◌, ap, sym, subst, arith}
use Rattle.std.specs.Prelude.{Option, Some}
use Rattle.pst_search_loop.specs.declared.walker.Look.{Look}
use Rattle.pst_search_loop.specs.Kept.{Kept}
use Rattle.pst_search_loop.specs.Search.{Says}
use Rattle.pst_search_loop.proofs.Searching.{Searching, searching_begun, searching_on, says_further, searching_here, searching_empty, searching_ends}
use Rattle.pst_search_loop.proofs.level.search_level.Goals as goal

pub loop-spent-init : goal.loop-spent-init
loop-spent-init g c =
    let k : Kept = g.W.Walker.kept c.args.walker.now in
    let l : Kept = g.W.Walker.kept c.look.new.self in
    let shown = c.in_ok-shown.shown in
    subst (λ fs. Searching k l fs shown 0) (sym c.new-frames.ensures.items) (searching_begun k l shown c.in_ok-shown.ensures.same c.requires.start c.in_ok-shown.ensures.shows)

pub returns-in-None : goal.returns-in-None
returns-in-None g c =
    let k : Kept = g.W.Walker.kept c.args.walker.now in
    let l : Kept = g.W.Walker.kept c.loop-spent.walker in
    let n : Kept = g.W.Walker.kept c.step.new.walker in
    let later = c.step.new.frames.items in
    searching_here k l n c.loop-spent.frames.items later c.loop-spent.shown c.loop-spent.spent c.requires.facts c.loop-spent.invariant
    (subst (λ (o : Option Look). Says o l n later) c.in-None.is c.in_ok-step.ensures)

pub returns-in-Closed : goal.returns-in-Closed
returns-in-Closed g c =
    let k : Kept = g.W.Walker.kept c.args.walker.now in
    let l : Kept = g.W.Walker.kept c.loop-spent.walker in
    let n : Kept = g.W.Walker.kept c.step.new.walker in
    let later = c.step.new.frames.items in
    searching_empty k l n c.loop-spent.frames.items later c.loop-spent.shown c.in-Closed.conflict c.loop-spent.spent c.args.budget c.loop-spent.invariant (omega arith)
    (subst (λ (o : Option Look). Says o l n later) (c.in-Some.is ∙ ap Some c.in-Closed.is) c.in_ok-step.ensures)

pub loop-spent-preserved : goal.loop-spent-preserved
loop-spent-preserved g c =
    let k : Kept = g.W.Walker.kept c.args.walker.now in
    let l : Kept = g.W.Walker.kept c.loop-spent.walker in
    let n : Kept = g.W.Walker.kept c.step.new.walker in
    let later = c.step.new.frames.items in
    searching_on c.live_lists_rise.ensures k l n c.loop-spent.frames.items later c.loop-spent.shown c.in-Some.next c.loop-spent.spent c.loop-spent.invariant
    (says_further l n later c.in-Some.next (λ d is. c.in_default.not-Closed d is) (subst (λ (o : Option Look). Says o l n later) c.in-Some.is c.in_ok-step.ensures))

pub returns : goal.returns
returns g c =
    let k : Kept = g.W.Walker.kept c.args.walker.now in
    let l : Kept = g.W.Walker.kept c.loop-spent.walker in
    let fs = c.loop-spent.frames.items in
    let all : c.loop-spent.spent ≡ c.args.budget = omega arith in
    searching_ends k l fs c.loop-spent.shown c.args.budget c.requires.facts (subst (λ n. Searching k l fs c.loop-spent.shown n) all c.loop-spent.invariant) c.in_ok-found.found c.in_ok-found.ensures
