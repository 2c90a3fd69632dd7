use Rattle.std.proofs.Common.{subst}
use Rattle.std.specs.Prelude.{MatchOption}
use Rattle.pst_scen.specs.Trace.{StartsOn, Ended, IsHeld}
use Rattle.pst_book.specs.Books.{View}
use Rattle.pst_book.proofs.book.Book.running_on.Goals as goal

pub returns : goal.returns
returns c =
    subst (λ (v : View). MatchOption c.holder.result (IsHeld v.trace c.args.lane → ⊥) (λ a. StartsOn v.trace a c.args.lane × (Ended v.trace a → ⊥))) c.self.view_is c.holder.ensures
