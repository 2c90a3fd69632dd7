use Rattle.std.proofs.Common.{◌<◌, ◌≤◌, ◌^◌, length, subst}
use Rattle.pst_scen.specs.Plan.{widest}
use Rattle.pst_book.specs.Books.{View}
use Rattle.pst_book.proofs.book.Book.show_limits.Goals as goal

pub returns : goal.returns
returns c =
    let k = c.self.invariant.kept in
    record {
      lanes = subst (λ (v : View). (1 ≤ v.lanes) × (v.lanes ≤ 16)) c.self.view_is (k.some, k.few);
      wide = subst (λ (v : View). widest v.plan.groups ≤ v.lanes) c.self.view_is k.wide;
      small = subst (λ (v : View). length v.scenario.actions < 2 ^ 31) c.self.view_is k.small;
    }
