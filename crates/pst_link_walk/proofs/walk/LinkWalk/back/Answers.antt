use Rattle.std.proofs.Common.{◌<◌, ◌∙◌, length, ap, sym, subst}
use Rattle.pst_link_walk.specs.Made.{choices_of}
use Rattle.pst_link_walk.proofs.Beginning.{behind_back}
use Rattle.pst_link_walk.proofs.Answering.{some_stands}
use Rattle.pst_link_walk.proofs.Choosing.{shape_back, shape_before}
use Rattle.pst_link_walk.proofs.Back.{linked_more, one_unlinked, links_before, shape_some, no_links, shape_less, shape_inside, links_none}
use Rattle.pst_shape.specs.Walks.{Kept as Shape}
use Rattle.pst_link_walk.proofs.Opened.{opened_back}
use Rattle.pst_link_walk.proofs.walk.LinkWalk.back.Goals as goal

pub back-requires : goal.back-requires
back-requires c =
    let w = c.self.inside in
    linked_more w.supply c.in-Some.supply w.linked c.in-Some.is c.self.invariant.linked c.if-self-gt0.true

pub invariant_of-self : goal.invariant_of-self
invariant_of-self c =
    let w = c.self.inside in
    let k = c.in-Some.supply in
    let l = c.back.new.self in
    let d = c.back.ensures.0 in
    let e = c.back.ensures.1 in
    record {
      order = c.self.invariant.order;
      shape = c.self.invariant.shape;
      made = c.self.invariant.made;
      linked = one_unlinked w.supply k l d w.linked c.in-Some.is c.self.invariant.linked e;
      stands = behind_back w.model.now w.root w.seed w.level w.shape.choices k l d (some_stands w.model.now w.root w.seed w.level w.shape.choices w.supply k c.in-Some.is c.self.invariant.stands) e;
      opened = c.self.invariant.opened;
    }

pub returns-then-self-gt0 : goal.returns-then-self-gt0
returns-then-self-gt0 c =
    let w = c.self.inside in
    (c.back.ensures.0, sym c.self.view_is ∙ links_before w.model.now w.root w.seed w.level w.shape.choices w.supply c.in-Some.supply c.back.new.self c.back.ensures.0 c.in-Some.is c.back.ensures.1)

-- a choice of the activity

pub back-requires-2 : goal.back-requires-2
back-requires-2 c =
    let w = c.self.inside in
    (shape_some w.shape.choices (choices_of w.supply) w.made w.linked c.self.invariant.made c.self.invariant.linked c.if-self-gt0.false (subst (λ k. 0 < length k.choices) (sym c.self.view_is) c.requires)).0

pub overflow_sub-self-2 : goal.overflow_sub-self-2
overflow_sub-self-2 c =
    let w = c.self.inside in
    (shape_some w.shape.choices (choices_of w.supply) w.made w.linked c.self.invariant.made c.self.invariant.linked c.if-self-gt0.false (subst (λ k. 0 < length k.choices) (sym c.self.view_is) c.requires)).1

pub invariant_of-self-2 : goal.invariant_of-self-2
invariant_of-self-2 c =
    let w = c.self.inside in
    let new = c.back-2.new.self in
    let d = c.back-2.ensures.0 in
    let e = c.back-2.ensures.1 in
    record {
      order = c.self.invariant.order;
      shape = shape_before w.model.now w.root w.seed w.level w.shape new d c.self.invariant.shape e;
      made = shape_less w.model.now w.root w.seed w.level w.shape new d w.made c.self.invariant.made e;
      linked = links_none w.model.now w.root w.seed w.level w.linked c.if-self-gt0.false;
      stands = shape_inside w.model.now w.root w.seed w.level w.shape new d w.supply e c.self.invariant.stands;
      opened = opened_back w.model.now w.root w.seed w.level w.shape.choices new.choices d w.opened.items (ap (λ (x : Shape). x.choices) e) c.self.invariant.opened;
    }

pub returns : goal.returns
returns c =
    let w = c.self.inside in
    let d = c.back-2.ensures.0 in
    (d, sym c.self.view_is ∙ shape_back w.model.now w.root w.seed w.level w.shape c.back-2.new.self d w.supply (no_links (choices_of w.supply) w.linked c.self.invariant.linked c.if-self-gt0.false) c.back-2.ensures.1)
