use Rattle.std.proofs.Common.{◌≡◌, map, sym, subst}
use Rattle.std.specs.Global.{Vec}
use Rattle.pst_scen.specs.declared.act.Act.{Act}
use Rattle.pst_shape_parts.specs.Trees.{bare}
use Rattle.pst_shape.specs.Walks.{IfRead}
use Rattle.pst_link_walk.specs.Opened.{AreOpened, IsOptions}
use Rattle.pst_link_walk.proofs.Beginning.{shape_reads}
use Rattle.pst_link_walk.proofs.Opened.{opened_more}
use Rattle.pst_link_walk.proofs.walk.LinkWalk.open.Goals as goal

pub invariant_of-self-2 : goal.invariant_of-self-2
invariant_of-self-2 c =
    let w = c.self.inside in
    let m = w.model.now in
    let leaves = c.leaves.result.now in
    let kept = c.replace-kept.result.items in
    let acts = c.in_ok-self-inside.field-0.items in
    let reads = shape_reads m w.root w.seed w.level w.shape.choices w.shape c.self.invariant.shape in
    record {
      order = c.self.invariant.order;
      shape = c.self.invariant.shape;
      made = c.self.invariant.made;
      linked = c.self.invariant.linked;
      stands = c.self.invariant.stands;
      opened = opened_more m w.root w.seed w.level w.shape.choices kept leaves acts
          (subst IsOptions reads (c.is_at_place.ensures w.level c.if-not-is_at_place.false))
          (subst (λ a. IfRead a (λ s. leaves ≡ map bare s.actions)) reads (c.leaves.ensures w.level)) c.in_ok-self-inside.ensures
          (subst (λ (v : Vec Act). AreOpened m w.root w.seed w.level w.shape.choices v.items) (sym c.replace-kept.ensures.value) c.self.invariant.opened);
    }
