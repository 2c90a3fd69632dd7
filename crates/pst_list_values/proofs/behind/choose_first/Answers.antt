use Rattle.pst_list_values.proofs.Steps.{same_chosen, same_kept, sound_chosen}
use Rattle.pst_list_values.proofs.behind.choose_first.Goals as goal

pub begin-requires : goal.begin-requires
begin-requires c = sound_chosen c.args.lists.now c.choose.new.self c.args.digit c.in_ok-choose.ensures.ok c.requires.sound

pub returns-in_err-choose-clause-same : goal.returns-in_err-choose-clause-same
returns-in_err-choose-clause-same c = same_kept c.args.lists.now c.choose.new.self c.in_err-choose.ensures.err

pub returns-in_err-begun-clause-same : goal.returns-in_err-begun-clause-same
returns-in_err-begun-clause-same c = same_chosen c.args.lists.now c.choose.new.self c.args.digit c.in_ok-choose.ensures.ok

pub returns-clause-same : goal.returns-clause-same
returns-clause-same c = same_chosen c.args.lists.now c.choose.new.self c.args.digit c.in_ok-choose.ensures.ok
