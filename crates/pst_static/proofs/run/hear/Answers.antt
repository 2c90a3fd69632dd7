use Rattle.pst_static.proofs.Tied.{lane_there, heard_on}
use Rattle.pst_static.proofs.run.hear.Goals as goal

pub advance-requires-clause-lane_in : goal.advance-requires-clause-lane_in
advance-requires-clause-lane_in c = lane_there c.args.plan.now c.args.programs.now c.args.run.now c.requires.run c.args.lane _ c.requires.at

pub returns : goal.returns
returns c =
    let r = heard_on c.args.plan.now c.args.programs.now c.args.run.now c.requires.run c.args.lane c.args.action c.advance.new.places.items c.requires.at c.requires.told c.advance.ensures in
    record { run = r.1; step = r.0 }
