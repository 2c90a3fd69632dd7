use Rattle.std.proofs.Common.{◌≤◌, arith}
use Rattle.pst_square.specs.Walks.{IsOpenPair}
use Rattle.pst_square.proofs.Nexts.{next_found, next_word}
use Rattle.pst_square.proofs.walk.next_open.Goals as goal

pub returns-in-Some : goal.returns-in-Some
returns-in-Some c =
    let on = c.words.invariant.from_on in
    next_found (λ b. c.args.from ≤ b) (IsOpenPair c.args.row c.args.base.now c.args.words.now c.args.a) c.words.at c.open_word.result c.words.invariant.none c.open_word.ensures
    c.args.count c.in-Some.k c.below.result (λ b high. omega (arith, on, high)) c.in-Some.ensures c.below.ensures

pub words-preserved : goal.words-preserved
words-preserved c =
    record {
      from_on = let on = c.words.invariant.from_on in omega (arith, on);
      none = next_word (λ b. c.args.from ≤ b) (IsOpenPair c.args.row c.args.base.now c.args.words.now c.args.a) c.words.at c.open_word.result c.words.invariant.none c.open_word.ensures c.in_default.ensures;
    }
