use Rattle.std.proofs.Common.{◌≤◌, ◌<◌, ℕ, ◌*◌, ◌∙◌, List, length, ap, subst, sym}
use Rattle.pst_scen.specs.declared.event.Event.{Event}
use Rattle.pst_scen.specs.Trace.{Prefix, StartsOn}
use Rattle.pst_scen.specs.Core.{Core, commands_of}
use Rattle.pst_order.specs.Rule.{open_count, close_count}
use Rattle.pst_book.specs.Books.{View}
use Rattle.pst_book.proofs.book.Book.trace.Goals as goal

pub returns : goal.returns
returns c =
    let b = c.self.inside in
    let s = b.scenario.now in
    let kept = c.self.invariant.kept in
    let r = c.core_is_by_rule.ensures s b.run.lanes b.run.trace kept.core in
    let t = c.trace.result.now in
    let e = sym c.trace.ensures.value in
    record {
      value = c.trace.ensures.value ∙ ap (λ (v : View). v.trace) c.self.view_is;
      prefix = subst (λ (v : View). Prefix v.scenario v.lanes t) c.self.view_is
          (subst (λ (u : List Event). Prefix s b.run.lanes u) e (c.rule_is_prefix.ensures s b.plan.now b.run.lanes b.run.trace kept.links kept.plan kept.wide r));
      fits = subst (λ (v : View). length t ≤ 2 * length v.scenario.actions) c.self.view_is
          (subst (λ (u : List Event). length u ≤ 2 * length s.actions) e (c.rule_fits.ensures.fits s b.run.lanes b.run.trace r));
      core = subst (λ (v : View). Core v.scenario v.lanes (commands_of t) t) c.self.view_is
          (subst (λ (u : List Event). Core s b.run.lanes (commands_of u) u) e (c.core_is_one.ensures.again s b.run.lanes b.run.trace kept.core));
      few_opens = subst (λ (v : View). open_count (commands_of t) ≤ length v.scenario.actions) c.self.view_is
          (subst (λ (u : List Event). open_count (commands_of u) ≤ length s.actions) e (c.rule_fits.ensures.few s b.run.lanes b.run.trace r).0);
      few_ends = subst (λ (v : View). close_count (commands_of t) ≤ length v.scenario.actions) c.self.view_is
          (subst (λ (u : List Event). close_count (commands_of u) ≤ length s.actions) e (c.rule_fits.ensures.few s b.run.lanes b.run.trace r).1);
      lanes = subst (λ (v : View). (a lane : ℕ) → StartsOn t a lane → lane < v.lanes) c.self.view_is c.trace.ensures.lanes;
    }
