use Rattle.std.proofs.Common.{refl, subst}
use Rattle.pst_search_loop.specs.Conflicts.{IsJoined}
use Rattle.pst_search_loop.specs.Kept.{Kept}
use Rattle.pst_search_loop.proofs.Conflicts.{skipped_passed}
use Rattle.pst_search_loop.proofs.Turns.{has_options}
use Rattle.pst_search_loop.proofs.level.skip_options.Goals as goal

pub skip-requires-clause-options : goal.skip-requires-clause-options
skip-requires-clause-options g c =
    let k : Kept = g.W.Walker.kept c.args.walker.now in
    has_options k k c.requires.options.0 c.args.frame.count c.args.frame.count refl refl c.requires.options.1

pub returns-clause-onward : goal.returns-clause-onward
returns-clause-onward g c =
    let k : Kept = g.W.Walker.kept c.args.walker.now in
    let f = c.args.frame in
    let s = c.in_ok-skipped.ensures.skips in
    record {
      count = refl;
      least = s.least;
      most = s.most;
      passed = skipped_passed k k.choices f.reasons c.in_ok-skipped.skipped.conflict c.join.new.self f.digit c.in_ok-skipped.skipped.digit c.requires.passed s.within s.each (subst (λ n. IsJoined f.reasons c.in_ok-skipped.skipped.conflict n c.join.new.self) c.requires.at c.in_ok-join.ensures);
    }
