-- The lane's entry of a desk, once its seat is gathered and it was collected for the last time.
use Rattle.std.specs.Prelude.{◌≡◌}
use Rattle.pst_post.specs.declared.view.Entry.{Entry}
use Rattle.pst_post.specs.declared.view.Progress.{Progress}
use Rattle.pst_post.specs.declared.view.SeatStatus.TheVariants.{Gathered}
use Rattle.pst_desk.specs.Ended.{IsReturned}

-- the lane's seat is home
abbrev pub IsHome : Entry → Type 0
IsHome e = (p : Progress) × (e.seat ≡ Gathered p)

-- with this progress, and what ended is what it handed back
pub record IsSettled (p : Progress) (e : Entry) : Type 0 where
  pub home : e.seat ≡ Gathered p
  pub returned : IsReturned e p
