use Rattle.std.proofs.Common.{refl}
use Rattle.pst_by_rule.specs.Blocks.{starts_in}
use Rattle.pst_check.proofs.Places.{no_true}
use Rattle.pst_check.proofs.Meanings.{free_two, free_more, least, inside_of}
use Rattle.pst_check.proofs.judge.broken_starts.Goals as goal

pub returns-then-breaks_group : goal.returns-then-breaks_group
returns-then-breaks_group c =
    let s = c.args.scenario.now in
    let t = c.args.past.now in
    let b = starts_in c.args.part.now in
    least s t b 2 (free_two s t b) (c.if-breaks_group.ensures.0 refl)

pub broken_inside-requires-clause-inside : goal.broken_inside-requires-clause-inside
broken_inside-requires-clause-inside c =
    inside_of c.args.scenario.now c.args.past.now c.args.part.now c.args.plan.now c.requires.planned.entries (λ k. no_true (c.if-breaks_group.ensures.1 k))

pub broken_inside-requires-clause-free : goal.broken_inside-requires-clause-free
broken_inside-requires-clause-free c =
    let s = c.args.scenario.now in
    let t = c.args.past.now in
    let b = starts_in c.args.part.now in
    free_more s t b 2 3 refl (free_two s t b) (λ k. no_true (c.if-breaks_group.ensures.1 k))
