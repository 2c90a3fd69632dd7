use Rattle.pst_static.proofs.Tied.{lane_there, end_room, ended_on}
use Rattle.pst_static.proofs.run.finish.Goals as goal

pub note-requires : goal.note-requires
note-requires c =
    end_room c.args.plan.now c.args.programs.now c.args.run.now c.requires.run c.whole_is_sound.ensures.clash c.whole_is_sound.ensures.inside c.members_are_those.ensures c.groups_are_whole.ensures.whole c.programs_are_safe.ensures.safe
    c.machine_is_safe.ensures.prefix c.prefix_is_by_rule.ensures c.rule_fits.ensures.fits c.args.lane c.args.action c.requires.at c.requires.runs

pub advance-requires-clause-lane_in : goal.advance-requires-clause-lane_in
advance-requires-clause-lane_in c = lane_there c.args.plan.now c.args.programs.now c.args.run.now c.requires.run c.args.lane _ c.requires.at

pub returns : goal.returns
returns c =
    let r = ended_on c.args.plan.now c.args.programs.now c.args.run.now c.requires.run c.args.lane c.args.action c.advance.new.places.items c.note.new.trace.items _ c.requires.at c.requires.runs c.advance.ensures c.note.ensures.items c.note.ensures.capacity in
    record { run = r.1; step = r.0 }
