use Rattle.std.proofs.Common.{◌<◌, ℕ, get_or, subst, length, arith}
use Rattle.std.proofs.lemmas.Bool.Decides.{nat_tests}
use Rattle.std.proofs.lemmas.Option.{slice_get-get_or}
use Rattle.pst_members.specs.Rounds.{IsCut, before}
use Rattle.pst_members.proofs.Rounds.{blank, cut_on, kept_on}
use Rattle.pst_members.proofs.tables.put_round.Goals as goal

pub loop-at-preserved : goal.loop-at-preserved
loop-at-preserved c =
    let round = c.args.round.now in
    let within : c.loop-at.at < length round = grind (arith, nat_tests, c.loop-at-test.true) in
    let cut = cut_on c.args.declarations.now round c.requires.round c.loop-at.versions c.put_members.new.versions c.loop-at.version c.in_ok-version.version c.loop-at.at c.loop-at.at (get_or round c.loop-at.at blank) (slice_get-get_or round c.loop-at.at blank within) c.loop-at.invariant.1 c.in_ok-version.ensures.over in (
      kept_on c.args.versions.now c.loop-at.versions c.put_members.new.versions c.loop-at.invariant.0 c.in_ok-version.ensures.kept,
      subst (λ (n : ℕ). IsCut c.args.declarations.now c.put_members.new.versions c.in_ok-version.version n (before round n)) (omega arith) cut,
    )
