use Rattle.std.proofs.Common.{◌≡◌, sym, ◌∙◌, subst, arith}
use Rattle.pst_search_loop.specs.Conflicts.{IsJoined}
use Rattle.pst_search_loop.specs.Kept.{Kept}
use Rattle.pst_search_loop.specs.Stack.{ArePassed, Stands}
use Rattle.pst_search_loop.specs.Search.{Went}
use Rattle.pst_search_loop.proofs.Stack.{length_stands}
use Rattle.pst_search_loop.proofs.Turns.{options_same, has_options, went_on, went_out}
use Rattle.pst_search_loop.proofs.level.go_on.Goals as goal

pub skip_options-requires-clause-at : goal.skip_options-requires-clause-at
skip_options-requires-clause-at g c =
    let k : Kept = g.W.Walker.kept c.args.walker.now in
    c.len-at.ensures ∙ c.args.frames.now.ok.0 ∙ sym (length_stands k c.args.frames.now.items c.requires.stands)

pub take-requires-clause-stands : goal.take-requires-clause-stands
take-requires-clause-stands g c = subst (λ x. Stands x c.args.frames.now.items) (sym c.in_ok-frame.ensures.same) c.requires.stands

pub take-requires-clause-options : goal.take-requires-clause-options
take-requires-clause-options g c =
    let k : Kept = g.W.Walker.kept c.args.walker.now in
    let l : Kept = g.W.Walker.kept c.skip_options.new.walker in
    (c.requires.options.0, options_same k l c.requires.options.0 c.args.frame.count _ c.in_ok-frame.ensures.same c.in_ok-frame.ensures.onward.count c.requires.options.1)

pub take-requires-clause-passed : goal.take-requires-clause-passed
take-requires-clause-passed g c =
    let f = c.in_ok-frame.frame in
    subst (λ x. ArePassed x f.reasons f.digit) (sym c.in_ok-frame.ensures.same) c.in_ok-frame.ensures.onward.passed

pub rests-requires : goal.rests-requires
rests-requires g c =
    let k : Kept = g.W.Walker.kept c.args.walker.now in
    let l : Kept = g.W.Walker.kept c.skip_options.new.walker in
    has_options k l c.requires.options.0 c.args.frame.count _ c.in_ok-frame.ensures.same c.in_ok-frame.ensures.onward.count c.requires.options.1

pub returns-then-frame : goal.returns-then-frame
returns-then-frame g c =
    let k : Kept = g.W.Walker.kept c.args.walker.now in
    let l : Kept = g.W.Walker.kept c.skip_options.new.walker in
    let n : Kept = g.W.Walker.kept c.take.new.walker in
    let shown = c.in_ok-shown.shown in
    let later = c.take.new.frames.items in
    subst (λ (x : Kept). Went k x later c.args.frame.digit shown) (sym c.in_ok-shown.ensures.same)
    (went_on k l n later c.args.frame.digit c.in_ok-frame.frame.digit shown c.in_ok-frame.ensures.same c.in_ok-frame.ensures.onward.least c.in_ok-take.ensures c.in_ok-shown.ensures.shows)

pub returns : goal.returns
returns g c =
    let k : Kept = g.W.Walker.kept c.args.walker.now in
    let l : Kept = g.W.Walker.kept c.skip_options.new.walker in
    let f = c.in_ok-frame.frame in
    let on = c.in_ok-frame.ensures.onward in
    let most = on.most in
    let all : f.digit ≡ f.count = omega (arith, most) in
    let size = c.len-at.ensures ∙ c.args.frames.now.ok.0 ∙ sym (length_stands k c.args.frames.now.items c.requires.stands) in
    went_out k l c.args.frames.now.items f c.in_ok-rests.rests c.join.new.self c.args.frame.digit c.in_ok-frame.ensures.same c.requires.stands (subst (ArePassed k f.reasons) all on.passed) c.in_ok-rests.ensures
    (subst (λ n. IsJoined f.reasons c.in_ok-rests.rests n c.join.new.self) size c.in_ok-join.ensures)
