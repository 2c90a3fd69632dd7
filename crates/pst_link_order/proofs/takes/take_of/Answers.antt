use Rattle.std.proofs.Common.{refl, inl, inr, ⊎_elim}
use Rattle.pst_scen.specs.declared.act.Flow.TheVariants.{StateIn, StateOut}
use Rattle.pst_link_order.proofs.Why.{no_true, refers_as}
use Rattle.pst_link_order.proofs.takes.take_of.Goals as goal

pub returns : goal.returns
returns c =
    let s = c.args.scenario.now in
    let f = c.args.filled.now in
    record {
      below = c.requires.below;
      some = λ e. no_true (c.if-is_link.ensures.1 e);
      takes = ⊎_elim (λ e. inl (refers_as s c.args.act c.args.reference f StateIn f.link c.requires.is e refl)) (λ e. inr (refers_as s c.args.act c.args.reference f StateOut f.link c.requires.is e refl))
          (c.is_state.ensures c.if-not-is_state.false);
      reads = λ e. refers_as s c.args.act c.args.reference f StateIn f.link c.requires.is (c.is_read.ensures e) refl;
    }
