-- What the end of a plan says.
use Rattle.std.proofs.Common.{◌≡◌, ap, sym, ◌∙◌, subst, Bool, true, false, refl}
use Rattle.std.specs.Prelude.{MatchOption}
use Rattle.std.proofs.lemmas.Option.{none-some}
use Rattle.pst_scen.specs.declared.scenario.Scenario.{Scenario}
use Rattle.pst_scen.specs.Refusals.{Refusal, IsRefused, IsUnrefused}
use Rattle.pst_scen.specs.Refusals as refusal
use Rattle.pst_graph.specs.declared.planning.PlanEnd.{PlanEnd}
use Rattle.pst_graph.specs.declared.planning.PlanEnd.TheVariants as end
use Rattle.pst_graph.specs.Ends.{refusal_of, IsEndOf}
use Rattle.pst_search.specs.Judging.{TellsEnd, TellsPlan}

-- an end that isn't want of memory is a refusal
pub end_told : (e : PlanEnd) → (e ≡ end.NoMemory → ⊥) → TellsEnd e true
end_told (end.Cycle a) other = (refusal.Cycle a, refl)
end_told (end.GroupClash a b) other = (refusal.GroupClash a b, refl)
end_told (end.ParallelOrder a b) other = (refusal.ParallelOrder a b, refl)
end_told (end.ParallelClash a b) other = (refusal.ParallelClash a b, refl)
end_told end.NoMemory other = absurd (other refl)

-- and what the plan refuses has none
pub refused_told : (s : Scenario) (e : PlanEnd) (b : Bool) → b ≡ true → TellsEnd e b → IsEndOf s e → (IsUnrefused s → e ≡ end.NoMemory) → TellsPlan s false
refused_told s e b on told refused free =
    let t = subst (TellsEnd e) on told in (
      (t.0, subst (λ o. MatchOption o (Unit {0}) (IsRefused s)) t.1 refused),
      λ unrefused. none-some t.0 (sym (ap refusal_of (free unrefused)) ∙ t.1),
    )
