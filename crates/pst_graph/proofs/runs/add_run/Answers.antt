use Rattle.std.proofs.Common.{◌≡◌, ◌≤◌, ◌<◌, ◌∙◌, ℕ, subst, arith}
use Rattle.std.proofs.lemmas.Bool.Decides.{nat_tests}
use Rattle.pst_square.specs.Squares.{Adds, IsOneOf}
use Rattle.pst_square.proofs.Adding.{family_more}
use Rattle.pst_graph.specs.Uses.{IsApartAt}
use Rattle.pst_graph.proofs.runs.add_run.Goals as goal

pub loop-i-preserved : goal.loop-i-preserved
loop-i-preserved c =
    let i_in : c.loop-i.i < c.args.to = grind (arith, nat_tests, c.loop-i-test.true) in
    record {
      within = omega (arith, i_in);
      sized = c.add_use.ensures.sized ∙ c.loop-i.invariant.sized;
      added = λ first one. family_more (IsApartAt c.args.uses.now) first c.loop-i.square c.add_use.new.square c.loop-i.i (c.loop-i.invariant.added first one) c.add_use.ensures;
    }

pub returns-clause-added : goal.returns-clause-added
returns-clause-added c = λ first one.
    let up : c.args.to ≤ c.loop-i.i = grind (arith, nat_tests, c.loop-i-test.false) in
    let down = c.loop-i.invariant.within in
    let last : c.loop-i.i ≡ c.args.to = omega (arith, up, down) in
    subst (λ (n : ℕ). Adds first c.loop-i.square (IsOneOf (IsApartAt c.args.uses.now) n)) last (c.loop-i.invariant.added first one)
