-- Few live lists spend no budget.
use Rattle.std.proofs.Common.{◌≡◌, ◌∙◌, ℕ, ◌+◌, ◌<◌, ◌≤◌, ◌⊎◌, List, [], ◌∷◌, length, ap, sym, subst, inl, inr, arith}
use Rattle.std.specs.Prelude.{All, AllPairs, Some, slice_get}
use Rattle.std.proofs.lemmas.Bool.{cases_order}
use Rattle.std.proofs.lemmas.List.Elements.{All-nil, All-cons, All-head}
use Rattle.std.proofs.lemmas.Option.{slice_get_within}
use Rattle.pst_model.specs.ModelTree.{ModelTree}
use Rattle.pst_scen.specs.declared.scenario.Scenario.{Scenario}
use Rattle.pst_legal.specs.First.{IsBefore, ReadsLegal, IsLive, last_of, Spent}
use Rattle.pst_live_lists.specs.Few.{LevelList, level_list, FewLive, IsUpTo, IsSearched}
use Rattle.pst_live_lists.specs.Laws.{FoundWithinBudget, DoneWithinBudget}
use Rattle.pst_live_lists.proofs.Named.{before_then, pairs_head, pairs_tail, named, EachLevel, as_many, all_named, apart}

-- what is before none of the last of rising lists is before none of them
not_behind : (choices list : List ℕ) (lists : List (List ℕ)) → AllPairs IsBefore (list ∷ lists) → (IsBefore choices (last_of list lists) → ⊥) → All (λ c. IsBefore choices c → ⊥) (list ∷ lists)
not_behind choices list [] rising none = All-cons (λ c. IsBefore choices c → ⊥) list [] none (All-nil (λ c. IsBefore choices c → ⊥))
not_behind choices list (next ∷ more) rising none =
    let rest = not_behind choices next more (pairs_tail IsBefore list (next ∷ more) rising) none in
    let step : IsBefore list next = All-head (IsBefore list) next more (pairs_head IsBefore list (next ∷ more) rising) in
    All-cons (λ c. IsBefore choices c → ⊥) list (next ∷ more) (λ before. All-head (λ c. IsBefore choices c → ⊥) next more rest (before_then choices list next before step)) rest

all_not_behind : (choices : List ℕ) (lists : List (List ℕ)) → AllPairs IsBefore lists → (IsBefore choices (last_of [] lists) → ⊥) → All (λ c. IsBefore choices c → ⊥) lists
all_not_behind choices [] rising none = All-nil (λ c. IsBefore choices c → ⊥)
all_not_behind choices (list ∷ lists) rising none = not_behind choices list lists rising none

inside : {X : Type 0} {u v : X} → Some u ≡ Some v → u ≡ v
inside e = cc

module _ (m : ModelTree) (root seed budget level : ℕ) (spent : Spent m root seed level budget) where
  -- a level in which lists are counted isn't behind the one in which the budget is spent
  up_to_level : (k : ℕ) (of_level : List (List ℕ)) → slice_get spent.lists k ≡ Some of_level → k ≤ level
  up_to_level k of_level is = let within = slice_get_within spent.lists k of_level is in let levels = spent.levels in omega (arith, within, levels)

  -- so many live lists of a kind are named where all that are counted are of that kind
  pub as_many_live : (IsOfKind : LevelList → Type 0) → EachLevel (λ n of_level. All (λ c. IsOfKind (level_list n c)) of_level) 0 spent.lists → FewLive m root seed budget IsOfKind → ⊥
  as_many_live IsOfKind of_kind few =
      let live : All (λ (l : LevelList). IsLive m root seed l.level l.choices) (named 0 spent.lists) =
      all_named (λ l. IsLive m root seed l.level l.choices) 0 spent.lists
      (λ k of_level is. subst (λ n. All (λ c. IsLive m root seed n c) of_level) (omega arith) (spent.live k of_level is).live) in
      let rising = apart 0 spent.lists (λ k of_level is. (spent.live k of_level is).rising) in
      let fewer : length (named 0 spent.lists) < budget = few (named 0 spent.lists) rising live (all_named IsOfKind 0 spent.lists of_kind) in
      let same = as_many 0 spent.lists in
      let count = spent.count in
      omega (arith, fewer, same, count)

  of_searched : (infer : ℕ) → level ≤ infer → EachLevel (λ n of_level. All (λ c. n ≤ infer) of_level) 0 spent.lists
  of_searched infer few k of_level is _ _ _ = let up = up_to_level k of_level is in omega (arith, up, few)

  module _ (s : Scenario) (choices : List ℕ) (reads : ReadsLegal m root seed s.level choices s) where
    -- the budget is spent in no level behind the scenario's
    up_to_scenario : level ≤ s.level
    up_to_scenario = by_order (cases_order s.level level)
      where
        by_order : (s.level ≡ level) ⊎ ((s.level < level) ⊎ (level < s.level)) → level ≤ s.level
        by_order (inl same) = omega (arith, same)
        by_order (inr (inl below)) = absurd (spent.below s below reads.legal)
        by_order (inr (inr above)) = omega (arith, above)

    here_not_behind : s.level ≡ level → All (λ c. IsBefore choices c → ⊥) spent.here
    here_not_behind same =
        all_not_behind choices spent.here (spent.live level spent.here spent.is).rising
        (λ before. spent.before choices s before (subst (λ n. ReadsLegal m root seed n choices s) same reads))

    of_scenario : EachLevel (λ n of_level. All (λ c. IsUpTo s.level choices (level_list n c)) of_level) 0 spent.lists
    of_scenario k of_level is = by_order (cases_order k s.level)
      where
        by_order : (k ≡ s.level) ⊎ ((k < s.level) ⊎ (s.level < k)) → All (λ c. IsUpTo s.level choices (level_list (0 + k) c)) of_level
        by_order (inr (inl below)) _ _ _ = inl (omega (arith, below))
        by_order (inr (inr above)) _ _ _ = let up = up_to_level k of_level is in let to = up_to_scenario in absurd (omega (arith, above, up, to))
        by_order (inl same) j d within =
            let up = up_to_level k of_level is in
            let to = up_to_scenario in
            let last : k ≡ level = omega (arith, same, up, to) in
            let lists : spent.here ≡ of_level = inside (sym spent.is ∙ ap (slice_get spent.lists) (sym last) ∙ is) in
            inr (omega (arith, same), subst (All (λ c. IsBefore choices c → ⊥)) lists (here_not_behind (sym same ∙ last)) j d within)

pub found_within : FoundWithinBudget
found_within m root seed budget level s choices reads few spent =
    as_many_live m root seed budget level spent (IsUpTo s.level choices) (of_scenario m root seed budget level spent s choices reads) few

pub done_within : DoneWithinBudget
done_within m root seed budget infer level within few spent =
    as_many_live m root seed budget level spent (IsSearched infer) (of_searched m root seed budget level spent infer within) few
