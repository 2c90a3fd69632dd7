use Rattle.pst_link_walk.proofs.Choosing.{same_before, shape_digit, chosen_self, chosen_count, chosen_used, chosen_goes}
use Rattle.pst_link_walk.proofs.walk.choose_shape.Goals as goal

pub choose-requires : goal.choose-requires
choose-requires c = shape_digit c.args.model.now c.args.root c.args.seed c.args.level c.args.shape.now c.next-stands.result c.args.digit c.requires.shape c.next-stands.ensures c.requires.digit

pub begin-requires-clause-shape : goal.begin-requires-clause-shape
begin-requires-clause-shape c = chosen_self c.args.model.now c.args.root c.args.seed c.args.level c.args.shape.now c.choose.new.self c.args.digit c.requires.shape c.in_ok-choose.ensures.ok

pub begin-requires-clause-place : goal.begin-requires-clause-place
begin-requires-clause-place c = chosen_count c.args.model.now c.args.root c.args.seed c.args.level c.args.shape.now c.choose.new.self c.args.digit c.args.made c.requires.made c.in_ok-choose.ensures.ok

pub begin-requires-clause-used : goal.begin-requires-clause-used
begin-requires-clause-used c = chosen_used c.args.model.now c.args.root c.args.seed c.args.level c.args.shape.now c.choose.new.self c.args.digit c.requires.inside c.in_ok-choose.ensures.ok

pub returns-in-Ok-clause-ok : goal.returns-in-Ok-clause-ok
returns-in-Ok-clause-ok c =
    chosen_goes c.args.model.now c.args.root c.args.seed c.args.level c.args.shape.now c.choose.new.self c.args.digit c.in-Ok.supply c.requires.shape c.in_ok-choose.ensures.ok c.in-Ok.ensures

pub returns-in-Err-clause-err : goal.returns-in-Err-clause-err
returns-in-Err-clause-err c = same_before c.choose.new.self c.args.shape.now c.back.new.self c.args.digit c.back.ensures.0 c.in_ok-choose.ensures.ok c.back.ensures.1
