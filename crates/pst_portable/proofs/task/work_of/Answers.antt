use Rattle.std.proofs.Common.{map, string_bytes, refl, sym, subst}
use Rattle.pst_words.specs.declared.command.Command.{Command}
use Rattle.pst_outcome.specs.declared.task.Work.TheVariants as work
use Rattle.pst_outcome.specs.Tasks.{IsWork}
use Rattle.pst_portable.proofs.task.work_of.Goals as goal

pub returns-in-Run : goal.returns-in-Run
returns-in-Run c =
    subst (λ (k : Command). IsWork k (map string_bytes c.args.line.now.arguments.now) (work.Run c.lanes_given-lanes.result)) (sym c.in-Run.is) (c.lanes_given-lanes.result, c.lanes_given-lanes.ensures, refl)

pub returns-in-Gen : goal.returns-in-Gen
returns-in-Gen c =
    subst (λ (k : Command). IsWork k (map string_bytes c.args.line.now.arguments.now) (work.Generate c.size_given-size.result c.lanes_given-lanes-in-Gen.result)) (sym c.in-Gen.is)
    (c.size_given-size.result, c.lanes_given-lanes-in-Gen.result, c.size_given-size.ensures, c.lanes_given-lanes-in-Gen.ensures, refl)

pub returns-in-Sweep : goal.returns-in-Sweep
returns-in-Sweep c =
    subst (λ (k : Command). IsWork k (map string_bytes c.args.line.now.arguments.now) (work.Sweep c.seeds_given-first.result.0 c.seeds_given-first.result.1)) (sym c.in-Sweep.is)
    (c.seeds_given-first.result.0, c.seeds_given-first.result.1, c.seeds_given-first.ensures.first, c.seeds_given-first.ensures.count, refl)

pub returns-in-Place : goal.returns-in-Place
returns-in-Place c =
    subst (λ (k : Command). IsWork k (map string_bytes c.args.line.now.arguments.now) (work.Place c.space_given-space.result)) (sym c.in-Place.is)
    (c.space_given-space.result.base, c.space_given-space.result.size, c.space_given-space.ensures.base, c.space_given-space.ensures.size, refl)

pub returns-in-Static : goal.returns-in-Static
returns-in-Static c =
    subst (λ (k : Command). IsWork k (map string_bytes c.args.line.now.arguments.now) (work.Static c.over_given-over.result)) (sym c.in-Static.is) (c.over_given-over.result, c.over_given-over.ensures, refl)
