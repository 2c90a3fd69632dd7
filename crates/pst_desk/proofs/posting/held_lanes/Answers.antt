use Rattle.std.proofs.Common.{◌∙◌, get_or, set, false, subst, sym, ⊎_elim, arith, length-set, get_or-set_same, get_or-set_other}
use Rattle.std.specs.Prelude.{◌↔◌, IsTrue}
use Rattle.std.proofs.lemmas.Bool.{cases_eq}
use Rattle.pst_scen.specs.Trace.{IsHeld}
use Rattle.pst_desk.proofs.posting.held_lanes.Goals as goal

pub loop-lane-preserved : goal.loop-lane-preserved
loop-lane-preserved c =
    let i = c.loop-lane.invariant in
    let lane = c.loop-lane.lane in
    let held = c.loop-lane.held in
    let now = c.is_held.result in
    record {
      many = length-set held lane now ∙ i.many;
      are = λ k b. ⊎_elim
          (λ same. subst (λ v. IsTrue (get_or (set held lane now) v false) ↔ IsHeld c.args.book.now.trace v) (sym same)
          (subst (λ w. IsTrue w ↔ IsHeld c.args.book.now.trace lane) (sym (get_or-set_same held lane now false (omega (arith, i.many, c.requires)))) c.is_held.ensures))
          (λ n. subst (λ w. IsTrue w ↔ IsHeld c.args.book.now.trace k) (sym (get_or-set_other held lane k now false n)) (i.are k (omega (arith, b, n))))
          (cases_eq k lane);
    }
