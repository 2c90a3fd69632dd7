use Rattle.pst_list_walk.proofs.Choosing.{same_before, chosen_some, chosen_self, chosen_goes}
use Rattle.pst_list_walk.proofs.walk.choose_link.Goals as goal

pub begin-requires : goal.begin-requires
begin-requires c = chosen_self c.args.model.now c.args.root c.args.seed c.args.level c.args.links.now c.choose.new.self c.args.digit c.requires.links c.in_ok-choose.ensures.ok

pub back-requires : goal.back-requires
back-requires c = chosen_some c.args.links.now c.choose.new.self c.args.digit c.in_ok-choose.ensures.ok

pub returns-in-Ok-clause-ok : goal.returns-in-Ok-clause-ok
returns-in-Ok-clause-ok c =
    chosen_goes c.args.model.now c.args.root c.args.seed c.args.level c.args.links.now c.choose.new.self c.args.digit c.in-Ok.values c.requires.links c.in_ok-choose.ensures.ok c.in-Ok.ensures

pub returns-in-Err-clause-err : goal.returns-in-Err-clause-err
returns-in-Err-clause-err c = same_before c.choose.new.self c.args.links.now c.back.new.self c.args.digit c.back.ensures.0 c.in_ok-choose.ensures.ok c.back.ensures.1
