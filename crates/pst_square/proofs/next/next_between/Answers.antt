use Rattle.std.proofs.Common.{◌≤◌, arith}
use Rattle.pst_scen.specs.Rows.{Has}
use Rattle.pst_square.proofs.Nexts.{next_found, next_word}
use Rattle.pst_square.proofs.next.next_between.Goals as goal

pub returns-in-Some : goal.returns-in-Some
returns-in-Some c =
    let on = c.words.invariant.behind in
    next_found (λ b. c.args.from ≤ b) (Has c.args.rows.now c.args.a) c.words.at c.rest_of_word.result c.words.invariant.none c.rest_of_word.ensures
    c.args.to c.in-Some.k c.below.result (λ b high. omega (arith, on, high)) c.in-Some.ensures c.below.ensures

pub words-preserved : goal.words-preserved
words-preserved c =
    record {
      behind = let on = c.words.invariant.behind in omega (arith, on);
      none = next_word (λ b. c.args.from ≤ b) (Has c.args.rows.now c.args.a) c.words.at c.rest_of_word.result c.words.invariant.none c.rest_of_word.ensures c.in_default.ensures;
    }
