use Rattle.std.proofs.Common.{◌≤◌, ◌∙◌, length, arith}
use Rattle.std.proofs.lemmas.Bool.Decides.{nat_tests}
use Rattle.pst_graph.proofs.UsesApart.{apart_all}
use Rattle.pst_graph.proofs.runs.add_runs.Goals as goal

pub runs-preserved : goal.runs-preserved
runs-preserved c =
    record {
      sized = c.in_ok-add_run.ensures.sized ∙ c.runs.invariant.sized;
      within = c.end_of_run-to.ensures.run.within;
      before = c.end_of_run-to.ensures.before;
      added = c.in_ok-add_run.ensures.added c.args.square.now c.runs.invariant.added;
    }

pub returns : goal.returns
returns c =
    let all : length c.args.uses.now ≤ c.runs.from = grind (arith, nat_tests, c.runs-test.false) in
    apart_all c.args.square.now c.runs.square c.args.uses.now c.runs.from all c.runs.invariant.added
