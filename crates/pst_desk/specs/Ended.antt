-- What collecting a lane makes of a desk.
use Rattle.std.specs.Prelude.{◌≡◌, ◌⊎◌, ℕ, [], ◌∷◌, ◌++◌, Bool, true, false}
use Rattle.pst_scen.specs.declared.event.Event.TheVariants.{End}
use Rattle.pst_scen.specs.Trace.{StartsOn, Ended}
use Rattle.pst_post.specs.declared.view.Entry.{Entry}
use Rattle.pst_post.specs.declared.view.Progress.{Progress}
use Rattle.pst_post.specs.Steps.{IsIdle, after_collect, missed}
use Rattle.pst_post.specs.Views.{entry_at}
use Rattle.pst_desk.specs.Desks.{DeskView, with_entries, entries_changed}

-- An action that was posted to the lane runs there, and was handed back: its end is recorded.
pub record DidEnd (old new : DeskView) (lane : ℕ) : Type 0 where
  pub action : ℕ
  pub posted : (entry_at old.entries lane).posted ≡ (entry_at old.entries lane).ended ++ action ∷ []
  pub starts : StartsOn old.trace action lane
  pub runs : Ended old.trace action → ⊥
  pub new_is : new ≡ record { trace = old.trace ++ End action ∷ []; entries = entries_changed old.entries lane (after_collect true); stopped = old.stopped }

-- Nothing that was posted to the lane runs, and nothing changes; or an action does that isn't handed back, and the lane has one miss more.
abbrev pub DidNotEnd : DeskView → DeskView → ℕ → Type 0
DidNotEnd old new lane =
    (IsIdle (entry_at old.entries lane) × (new ≡ old))
    ⊎ ((action : ℕ) × ((entry_at old.entries lane).posted ≡ (entry_at old.entries lane).ended ++ action ∷ []) × (new ≡ with_entries old (entries_changed old.entries lane missed)))

-- by the answer
abbrev pub Collected : Bool → DeskView → DeskView → ℕ → Type 0
Collected true old new lane = DidEnd old new lane
Collected false old new lane = DidNotEnd old new lane

-- what ended of a gathered lane is what it handed back, and what it fetched was handed back or is all that was posted
pub record IsReturned (e : Entry) (p : Progress) : Type 0 where
  pub ended : e.ended ≡ p.finished
  pub fetched : (p.fetched ≡ p.finished) ⊎ (p.fetched ≡ e.posted)
