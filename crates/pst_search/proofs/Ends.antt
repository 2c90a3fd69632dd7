-- What a search comes to.
use Rattle.std.proofs.Common.{◌≡◌, ℕ, ◌<◌, ◌≤◌, [], sym, ◌∙◌, subst}
use Rattle.std.specs.Prelude.{Ok, Err}
use Rattle.pst_model.specs.declared.model.Model.{Model}
use Rattle.pst_model.specs.ModelTree.{ModelTree}
use Rattle.pst_model.specs.ModelView.{view_model}
use Rattle.pst_scen.specs.declared.scenario.Scenario.{Scenario}
use Rattle.pst_scen.specs.Plan.{Entries}
use Rattle.pst_legal.specs.ValueReading.{Answer, Options, Dead, Whole}
use Rattle.pst_legal.specs.Legal.{Legal}
use Rattle.pst_legal.specs.First.{IsFirst, Spent}
use Rattle.pst_search_loop.specs.declared.levels.Outcome.{Outcome}
use Rattle.pst_search_loop.specs.declared.levels.Outcome.TheVariants as outcome
use Rattle.pst_search_loop.specs.Kept.{IsWhole}
use Rattle.pst_search_loop.specs.Levels.{Concludes}
use Rattle.pst_link_walk.specs.Walks.{Kept}
use Rattle.pst_list_walk.specs.Walks.{answer}
use Rattle.pst_list_walk.specs.Made.{kept_at}
use Rattle.pst_search.specs.declared.first.SearchEnd.{SearchEnd}
use Rattle.pst_search.specs.declared.first.SearchEnd.TheVariants as search_end
use Rattle.pst_list_values.specs.Walked.{kept_of}
use Rattle.pst_search.specs.Readings.{IsFound}
use Rattle.pst_search.specs.Searches.{Searches, IsSpentAt}

whole_here : (a : Answer) (s : Scenario) → a ≡ Whole s → IsWhole a
whole_here (Options t n) s e = absurd cc
whole_here Dead s e = absurd cc
whole_here (Whole t) s e = tt

-- the budget is spent in a level
pub spent_told : (m : ModelTree) (root seed infer budget most level : ℕ) (e : SearchEnd) → IsSpentAt budget level e → (0 < budget → most ≡ budget) → (level ≤ infer) × Spent m root seed level most → Searches m root seed infer budget (Err e)
spent_told m root seed infer budget most level search_end.NoScenario at same spent = absurd at
spent_told m root seed infer budget most level (search_end.Budget k) at same spent =
    subst (λ l. (l ≤ infer) × Spent m root seed l budget) (sym at.1) (spent.0, subst (Spent m root seed level) (same at.0) spent.1)
spent_told m root seed infer budget most level search_end.NoMemory at same spent = tt

module _ (m : Model) (root seed infer most : ℕ) (old new : Kept) (o : Outcome) (begun : old ≡ kept_at m root seed 0 []) (ends : Concludes o (kept_of old) (kept_of new) infer most) where
  at_ground : Concludes o (kept_of (kept_at m root seed 0 [])) (kept_of new) infer most
  at_ground = subst (λ k. Concludes o (kept_of k) (kept_of new) infer most) begun ends

  pub none_told : o ≡ outcome.NoScenario → (s : Scenario) → s.level ≤ infer → Legal (view_model m) root s → ⊥
  none_told is = subst (λ x. Concludes x (kept_of (kept_at m root seed 0 [])) (kept_of new) infer most) is at_ground

  pub budget_told : (level budget : ℕ) (e : SearchEnd) → o ≡ outcome.Budget level → (0 < budget → most ≡ budget) → IsSpentAt budget level e → Searches (view_model m) root seed infer budget (Err e)
  budget_told level budget e is same at =
      spent_told (view_model m) root seed infer budget most level e at same (subst (λ x. Concludes x (kept_of (kept_at m root seed 0 [])) (kept_of new) infer most) is at_ground)

  found_told : o ≡ outcome.Found → (s : Scenario) × (answer new ≡ Whole s) × IsFirst (view_model m) root seed infer s
  found_told is = subst (λ x. Concludes x (kept_of (kept_at m root seed 0 [])) (kept_of new) infer most) is at_ground

  pub found_whole : o ≡ outcome.Found → IsWhole (answer new)
  found_whole is = let f = found_told is in whole_here (answer new) f.0 f.1

  pub found_first : (budget : ℕ) (found : Scenario × Entries) → o ≡ outcome.Found → IsFound new found → Searches (view_model m) root seed infer budget (Ok found)
  found_first budget found is at =
      let f = found_told is in
      let both : Whole f.0 ≡ Whole found.0 = sym f.1 ∙ at.0 in
      let same : f.0 ≡ found.0 = cc in (
        subst (IsFirst (view_model m) root seed infer) same f.2,
        at.1,
      )
