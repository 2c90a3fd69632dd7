use Rattle.std.proofs.Common.{ap, sym, subst, length}
use Rattle.pst_link_walk.proofs.Choosing.{first_self, first_count, first_used, first_value}
use Rattle.pst_link_walk.specs.Opened.{AreOpened}
use Rattle.pst_link_walk.proofs.Opened.{opened_none}
use Rattle.pst_link_walk.proofs.walk.LinkWalk.new.Goals as goal

pub begin-requires-clause-shape : goal.begin-requires-clause-shape
begin-requires-clause-shape c = first_self c.args.model.now c.args.root c.args.seed c.args.level c.in_ok-shape.shape c.in_ok-shape.ensures

pub begin-requires-clause-place : goal.begin-requires-clause-place
begin-requires-clause-place c = first_count c.args.model.now c.args.root c.args.seed c.args.level c.in_ok-shape.shape c.in_ok-shape.ensures

pub begin-requires-clause-used : goal.begin-requires-clause-used
begin-requires-clause-used c = first_used c.args.model.now c.args.root c.args.seed c.args.level c.in_ok-shape.shape c.in_ok-shape.ensures

pub invariant_of-result : goal.invariant_of-result
invariant_of-result c = record {
  order = c.serves_in_order-in_order.ensures;
  shape = first_self c.args.model.now c.args.root c.args.seed c.args.level c.in_ok-shape.shape c.in_ok-shape.ensures;
  made = first_count c.args.model.now c.args.root c.args.seed c.args.level c.in_ok-shape.shape c.in_ok-shape.ensures;
  linked = ap length (sym c.in_ok-supply.ensures.fresh);
  stands = c.in_ok-supply.ensures.stands;
  opened = subst (AreOpened c.args.model.now c.args.root c.args.seed c.args.level c.in_ok-shape.shape.choices) (sym c.new-opened.ensures.items) (opened_none c.args.model.now c.args.root c.args.seed c.args.level c.in_ok-shape.shape.choices);
}

pub returns : goal.returns
returns c = first_value c.args.model.now c.args.root c.args.seed c.args.level c.in_ok-shape.shape c.in_ok-supply.supply c.in_ok-shape.ensures c.in_ok-supply.ensures
