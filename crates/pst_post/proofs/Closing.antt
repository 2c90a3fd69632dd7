-- What the rule says of the words of a table that was closed.
use Rattle.std.proofs.Common.{◌≡◌, ◌≢◌, ℕ, ◌^◌, ◌<◌, ◌≤◌, List, ◌++◌, get_or, Option, refl, sym, ap, ◌∙◌, subst, arith}
use Rattle.std.specs.Prelude.{option_to_list}
use mathlib.Core.Option.{some}
use Rattle.atomic_table.specs.Seated.{TableId}
use Rattle.atomic_table.specs.Table.{Final, Seen}
use Rattle.pst_post.specs.declared.view.Entry.{Entry}
use Rattle.pst_post.specs.declared.view.Progress.{Progress}
use Rattle.pst_post.specs.declared.view.SeatStatus.{SeatStatus}
use Rattle.pst_post.specs.declared.view.SeatStatus.TheVariants.{Undealt, Out, Gathered}
use Rattle.pst_post.specs.declared.view.View.{View}
use Rattle.pst_post.specs.Gathered.{IsOutstanding}
use Rattle.pst_post.specs.Plays.{Seated}
use Rattle.pst_post.specs.Rule.{word_of, IsProgress, Rule}
use Rattle.pst_post.specs.Seats.{IsBookSeat}
use Rattle.pst_post.specs.Views.{entries_of, entry_at, gathered_progress}
use Rattle.pst_post.proofs.SeatSteps.{old_holds}

home_progress : (views : List View) (k : ℕ) (status : SeatStatus) (p : Progress) → status ≢ Out → IsProgress views k status p → p ≡ gathered_progress status
home_progress views k Undealt p home is = is
home_progress views k Out p home is = absurd (home refl)
home_progress views k (Gathered q) p home is = is

-- what the last words say of a lane whose seat isn't out
pub record IsClosed (word : ℕ) (e : Entry) : Type 0 where
  pub outstanding : Option ℕ
  pub word_is : word ≡ word_of outstanding
  pub small : word ≤ 2 ^ 32
  pub left : IsOutstanding e outstanding

pub closes : (table : TableId) (me : Seated) (seat : IsBookSeat table me) (id : ℕ) (words xs : List ℕ) → Final (Seen Rule id me.0) words xs → (k : ℕ) → k < table.words → (entry_at (entries_of me.0) k).seat ≢ Out → IsClosed (get_or words k 0) (entry_at (entries_of me.0) k)
closes table me seat id words xs final k small home =
    let s = final.0 in
    let e : Entry = entry_at (entries_of me.0) k in
    let held = old_holds s final.1.0 id (entries_of me.0) (final.1.1 ∙ ap (λ (m : Seated). some m.0) seat.view) k (omega (arith, seat.wide)) in
    let p = home_progress s.views k e.seat held.0 home held.1 in record {
      outstanding = held.2.outstanding;
      word_is = ap (λ l. get_or l k 0) (sym final.2) ∙ held.2.word_is;
      small = subst (λ l. get_or l k 0 ≤ 2 ^ 32) final.2 held.2.small;
      left = held.2.posted ∙ ap (λ q. q.finished ++ option_to_list held.2.outstanding) p;
    }
