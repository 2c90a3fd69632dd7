use Rattle.std.proofs.Common.{◌++◌, ◌∷◌, [], subst, sym}
use Rattle.pst_scen.specs.declared.event.Event.{Event}
use Rattle.pst_check.specs.Marks.{AreMarks}
use Rattle.pst_check.proofs.Marking.{start_noted, end_noted}
use Rattle.pst_check.proofs.marks.note_one.Goals as goal

pub returns-in-Start : goal.returns-in-Start
returns-in-Start c past are =
    subst (λ (e : Event). AreMarks (past ++ e ∷ []) c.mark.new.marks c.args.ended.now) (sym c.in-Start.is)
    (start_noted past c.in-Start.act c.in-Start.lane c.in-Start.more c.args.started.now c.args.ended.now c.mark.new.marks c.mark.ensures are)

pub returns-in-End : goal.returns-in-End
returns-in-End c past are =
    subst (λ (e : Event). AreMarks (past ++ e ∷ []) c.args.started.now c.mark-in-End.new.marks) (sym c.in-End.is)
    (end_noted past c.in-End.act c.args.started.now c.args.ended.now c.mark-in-End.new.marks c.mark-in-End.ensures are)
