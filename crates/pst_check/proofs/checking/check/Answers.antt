use Rattle.std.proofs.Common.{[], List, subst}
use Rattle.pst_scen.specs.declared.event.Event.{Event}
use Rattle.pst_check.specs.Marks.{AreMarks}
use Rattle.pst_check.proofs.Marking.{unset_marked}
use Rattle.pst_check.proofs.checking.check.Goals as goal

pub front-requires : goal.front-requires
front-requires c = (c.follow-followed.ensures c.args.scenario.now c.requires.planned).inside

pub check_marked-requires-clause-followed : goal.check_marked-requires-clause-followed
check_marked-requires-clause-followed c = c.follow-followed.ensures c.args.scenario.now c.requires.planned

pub check_marked-requires-clause-marks : goal.check_marked-requires-clause-marks
check_marked-requires-clause-marks c =
    subst (λ (t : List Event). AreMarks t c.note.new.started c.note.new.ended) c.front.ensures
    (c.note.ensures [] (unset_marked c.unmarked-started.result c.unmarked-ended.result c.unmarked-started.ensures c.unmarked-ended.ensures))
