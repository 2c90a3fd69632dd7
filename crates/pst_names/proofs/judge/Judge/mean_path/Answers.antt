use Rattle.std.proofs.Common.{◌≡◌, ◌≤◌, OnOk, length, map, subst, ◌∙◌, arith}
use Rattle.std.proofs.lemmas.Bool.Decides.{nat_tests}
use Rattle.pst_names.specs.Judged.{Judged}
use Rattle.pst_names.proofs.Judging.{last_meant}
use Rattle.pst_names.proofs.judge.Judge.mean_path.Goals as goal

pub returns : goal.returns
returns c =
    let over : length c.args.path.now.before ≤ c.loop-referent.referent-index = grind (arith, nat_tests, c.loop-referent-test.false) in
    subst (λ (j : Judged). OnOk c.mean-2.result (c.mean-2.new.self ≡ j)) (last_meant c.loop-referent.self c.loop-referent.name (map (λ p. p.name) c.loop-referent.left.now) c.args.path.now.before c.args.path.now.last c.loop-referent.referent-index over ∙ c.loop-referent.invariant) c.mean-2.ensures
