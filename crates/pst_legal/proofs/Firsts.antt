-- The first legal scenario is one.
use Rattle.std.proofs.Common.{◌≡◌, ◌⊎◌, ℕ, ◌<◌, List, [], ◌∷◌, refl, sym, ap, ap₂, ◌∙◌, subst, inl, inr}
use Rattle.std.proofs.lemmas.Bool.{cases_order}
use Rattle.pst_model.specs.ModelTree.{ModelTree}
use Rattle.pst_scen.specs.declared.scenario.Scenario.{Scenario}
use Rattle.pst_legal.specs.ValueReading.{Answer, Options, Dead, Whole, read}
use Rattle.pst_legal.specs.First.{IsBefore, ReadsLegal, IsFirst}
use Rattle.pst_legal.specs.Laws.{FirstIsOne}

-- ---- lists of choices

-- one of two lists is before the other, unless they are equal
pub lists_are_ordered : (xs ys : List ℕ) → (xs ≡ ys) ⊎ (IsBefore xs ys ⊎ IsBefore ys xs)
lists_are_ordered [] [] = inl refl
lists_are_ordered [] (y ∷ ys) = inr (inl tt)
lists_are_ordered (x ∷ xs) [] = inr (inr tt)
lists_are_ordered (x ∷ xs) (y ∷ ys) = by_head (cases_order x y) (lists_are_ordered xs ys)
  where
    by_tail : (x ≡ y) → (xs ≡ ys) ⊎ (IsBefore xs ys ⊎ IsBefore ys xs) → ((x ∷ xs) ≡ (y ∷ ys)) ⊎ (IsBefore (x ∷ xs) (y ∷ ys) ⊎ IsBefore (y ∷ ys) (x ∷ xs))
    by_tail same (inl equal) = inl (ap₂ ◌∷◌ same equal)
    by_tail same (inr (inl before)) = inr (inl (inr (same, before)))
    by_tail same (inr (inr after)) = inr (inr (inr (sym same, after)))

    by_head : (x ≡ y) ⊎ ((x < y) ⊎ (y < x)) → (xs ≡ ys) ⊎ (IsBefore xs ys ⊎ IsBefore ys xs) → ((x ∷ xs) ≡ (y ∷ ys)) ⊎ (IsBefore (x ∷ xs) (y ∷ ys) ⊎ IsBefore (y ∷ ys) (x ∷ xs))
    by_head (inl same) rest = by_tail same rest
    by_head (inr (inl less)) rest = inr (inl (inl less))
    by_head (inr (inr more)) rest = inr (inr (inl more))

-- ---- the first scenario

abbrev scenario_or : Scenario → Answer → Scenario
scenario_or other (Whole s) = s
scenario_or other (Options s n) = other
scenario_or other Dead = other

same_level : (m : ModelTree) (root seed infer : ℕ) (s t : Scenario) → (first : IsFirst m root seed infer s) → (other : IsFirst m root seed infer t) → s.level ≡ t.level
    → (first.choices ≡ other.choices) ⊎ (IsBefore first.choices other.choices ⊎ IsBefore other.choices first.choices) → s ≡ t
same_level m root seed infer s t first other level (inl same) =
    ap (scenario_or s) (sym first.reads.reads ∙ ap₂ (read m root seed) level same ∙ other.reads.reads)
same_level m root seed infer s t first other level (inr (inl before)) =
    absurd (other.before first.choices s before (subst (λ n. ReadsLegal m root seed n first.choices s) level first.reads))
same_level m root seed infer s t first other level (inr (inr after)) =
    absurd (first.before other.choices t after (subst (λ n. ReadsLegal m root seed n other.choices t) (sym level) other.reads))

by_level : (m : ModelTree) (root seed infer : ℕ) (s t : Scenario) → IsFirst m root seed infer s → IsFirst m root seed infer t
    → (s.level ≡ t.level) ⊎ ((s.level < t.level) ⊎ (t.level < s.level)) → s ≡ t
by_level m root seed infer s t first other (inl same) =
    same_level m root seed infer s t first other same (lists_are_ordered first.choices other.choices)
by_level m root seed infer s t first other (inr (inl less)) = absurd (other.below s less first.reads.legal)
by_level m root seed infer s t first other (inr (inr more)) = absurd (first.below t more other.reads.legal)

pub first_is_one : FirstIsOne
first_is_one m root seed infer s t first other = by_level m root seed infer s t first other (cases_order s.level t.level)
