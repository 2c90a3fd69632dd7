-- What is known of a lane once its seat is gathered.
use Rattle.std.specs.Prelude.{◌≡◌, ◌⊎◌, ℕ, [], ◌∷◌, ◌++◌, Bool, Option, option_to_list, MatchBool}
use mathlib.Core.List.{IsPrefix}
use Rattle.pst_post.specs.declared.view.Entry.{Entry}
use Rattle.pst_post.specs.declared.view.Progress.{Progress}
use Rattle.pst_post.specs.Views.{gathered_progress}

-- what a collect tells of a gathered lane: what ended was handed back, what was fetched was handed back or is all that was posted, and by the answer all that was posted was handed back, or all but the last action
pub record CollectTells (answer : Bool) (e : Entry) (p : Progress) : Type 0 where
  pub ended : IsPrefix e.ended p.finished
  pub fetched : (p.fetched ≡ p.finished) ⊎ (p.fetched ≡ e.posted)
  pub posted : MatchBool answer (e.posted ≡ p.finished) ((a : ℕ) × (e.posted ≡ p.finished ++ a ∷ []))

-- the action that was posted and not handed back, if there is one: what was posted is what was handed back, and then this
abbrev pub IsOutstanding : Entry → Option ℕ → Type 0
IsOutstanding e o = e.posted ≡ (gathered_progress e.seat).finished ++ option_to_list o
