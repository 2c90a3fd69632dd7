use Rattle.std.proofs.Common.{◌≡◌, ◌-◌, List, length, subst, ap, arith}
use Rattle.std.proofs.lemmas.Bool.Decides.{nat_tests}
use Rattle.pst_scen.specs.declared.act.Act.{Act}
use Rattle.pst_scen.specs.declared.tree.Node.{Node}
use Rattle.pst_tests_scenarios.specs.Checked.{AreLeavesTo, AreInferred}
use Rattle.pst_tests_scenarios.proofs.Checks.{leaves_whole}
use Rattle.pst_tests_scenarios.proofs.built.has_leaves.Goals as goal

pub returns : goal.returns
returns c = λ t.
    let s = c.args.scenario.now in
    let count = c.in-Some.count in
    let is : AreLeavesTo s.nodes s.actions (length s.nodes) count =
    subst (λ (acts : List Act). AreLeavesTo s.nodes acts (length s.nodes) count) c.as_slice-acts.ensures
    (subst (λ (nodes : List Node). AreLeavesTo nodes c.as_slice-acts.result.now (length nodes) count) c.as_slice.ensures c.in-Some.ensures) in
    let many : length c.as_slice-acts.result.now ≡ length s.actions = ap length c.as_slice-acts.ensures in
    let level : length s.actions - count ≡ s.level = grind (arith, nat_tests, many, c.if-acts-count.false) in
    leaves_whole s count is level (subst (λ (acts : List Act). AreInferred acts count) c.as_slice-acts.ensures (c.are_inferred.ensures t))
