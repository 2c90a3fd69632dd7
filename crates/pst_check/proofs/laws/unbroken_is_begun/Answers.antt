use Rattle.pst_check.proofs.Judged.{begun_unbroken, unbroken_begun}
use Rattle.pst_check.proofs.laws.unbroken_is_begun.Goals as goal

pub returns : goal.returns
returns c s p older block links plan blocks is begun =
    let prefixes = c.prefixes_are_legal.ensures in
    let wider = c.wider_traces_are_legal.ensures in
    let by_rule = c.prefix_is_by_rule.ensures in
    let keeps = c.readers_are_kept.ensures.keeps in
    let kept = c.readers_are_kept.ensures.prefix in
    let those = c.members_are_those.ensures in
    let whole = c.groups_are_whole.ensures.whole in
    let one = c.groups_are_whole.ensures.one in (
      λ free. unbroken_begun prefixes wider by_rule keeps kept those whole one s p older block links plan blocks is begun free,
      λ b. begun_unbroken prefixes wider by_rule keeps kept those whole one s older block blocks is b,
    )
