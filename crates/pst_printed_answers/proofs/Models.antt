-- A check of a model takes what a run of its first legal scenario prints.
use Rattle.std.proofs.Common.{◌≡◌, ◌≤◌, ◌⊎◌, inl, inr, ℕ, ◌+◌, List, length, map, sym, ap, subst, ◌∙◌, arith}
use Rattle.std.specs.Prelude.{Option, Some, None, ◌++◌, replicate}
use Rattle.std.proofs.lemmas.List.{length-map, length-append, length-replicate}
use Rattle.pst_model.specs.ModelTree.{ModelTree}
use Rattle.pst_scen.specs.declared.scenario.Scenario.{Scenario}
use Rattle.pst_scen.specs.Plan.{Entries}
use Rattle.pst_scen.specs.Plans.{IsPlanOf}
use Rattle.pst_scen.specs.Scenarios.{HasLeavesFirst, leaves_of}
use Rattle.pst_legal.specs.First.{IsFirst}
use Rattle.pst_legal.specs.Laws.{FirstIsOne}
use Rattle.pst_order.specs.Built.{IsBuilt}
use Rattle.pst_built.specs.Laws.{WholeReadingsAreBuilt}
use Rattle.pst_run_alone.specs.Lanes.{Lane}
use Rattle.pst_printed_traces.specs.Printed.{IsPrintable}
use Rattle.pst_outcome.specs.declared.answer.Answer.{Answer}
use Rattle.pst_outcome.specs.declared.task.Task.{Task}
use Rattle.pst_outcome.specs.declared.task.Work.{Work}
use Rattle.pst_outcome.specs.declared.task.Work.TheVariants as work
use Rattle.pst_outcome.specs.Models.{OfScenario, OfModel, HasNone, IsSpent, IsFound, IsSwept}
use Rattle.pst_outcome.specs.Laws.{IsSpentBudget}
use Rattle.pst_printed_answers.specs.Names.{ArePrinted}
use Rattle.pst_printed_answers.specs.Taken.{Takes, ScenariosAreTaken, ModelsAreTaken}

abbrev nothing : Option ℕ
nothing = None

-- no more actions are inferred than there are
few_inferred : (s : Scenario) → HasLeavesFirst s → s.level ≤ length s.actions
few_inferred s leaves =
    let all : length (map (λ act. act.node) s.actions) ≡ length (map (λ e. Some e.1) (leaves_of s.nodes) ++ replicate s.level nothing) = ap length leaves.nodes in
    let own : length (map (λ act. act.node) s.actions) ≡ length s.actions = length-map s.actions (λ act. act.node) in
    let sum : length (map (λ e. Some e.1) (leaves_of s.nodes) ++ replicate s.level nothing) ≡ length (map (λ e. Some e.1) (leaves_of s.nodes)) + length (replicate s.level nothing) =
    length-append (map (λ e. Some e.1) (leaves_of s.nodes)) (replicate s.level nothing) in
    let many : length (replicate s.level nothing) ≡ s.level = length-replicate s.level nothing in
    omega (arith, all, own, sum, many)

printable : (names : List (List ℕ)) (s : Scenario) → ArePrinted names → IsBuilt s → IsPrintable names s
printable names s printed built =
    let small = built.small.acts in
    let few = few_inferred s built.leaves in
    record { printed = printed; actions = omega (arith, small); inferred = omega (arith, small, few) }

abbrev is_check : Work → Type 0
is_check work.Check = Unit {0}
is_check other = ⊥

not_swept : (w : Work) (start many : ℕ) → w ≡ work.Sweep start many → w ≡ work.Check → ⊥
not_swept w start many one other = subst is_check (sym other ∙ one) tt

module _ (scenarios : ScenariosAreTaken) (one_first : FirstIsOne) (built : WholeReadingsAreBuilt) (names : List (List ℕ)) (m : ModelTree) (root : ℕ) (task other : Task) (trace : List ℕ) (lanes told : List Lane) (count : ℕ)
    (printed : ArePrinted names) (few : count ≤ 16) (runs : task.work ≡ work.Run count) (checks : other.work ≡ work.Check) (seeds : other.seed ≡ task.seed) (enough : task.infer ≤ other.infer) where
  -- the first legal scenario is that for more inferred actions too
  first_too : (s : Scenario) → IsFirst m root task.seed task.infer s → IsFirst m root other.seed other.infer s
  first_too s first =
      let low = first.few in
      subst (λ (seed : ℕ). IsFirst m root seed other.infer s) (sym seeds)
      (record { few = omega (arith, low, enough); below = first.below; choices = first.choices; reads = first.reads; before = first.before })

  of_found : (s r : Scenario) (p q : Entries) (answer given : Answer) (text said : List ℕ) → r ≡ s → IsFirst m root task.seed task.infer s → IsPlanOf s p
      → OfScenario names m s p trace lanes task.work answer text → OfScenario names m r q text told other.work given said → Takes answer given
  of_found s r p q answer given text said same first planned ran judged =
      let whole : IsBuilt s = (built m root task.seed s.level first.choices s first.reads.reads).0 in
      scenarios names m s p q trace lanes told count answer given text said (printable names s printed whole) whole.linked.states planned few
      (subst (λ (w : Work). OfScenario names m s p trace lanes w answer text) runs ran)
      (subst (λ (z : Scenario). OfScenario names m z q text told work.Check given said) same (subst (λ (w : Work). OfScenario names m r q text told w given said) checks judged))

  taken : (answer given : Answer) (text said : List ℕ) → OfModel names m root task trace lanes answer text → OfModel names m root other text told given said → IsSpentBudget given ⊎ Takes answer given
  taken _ given _ said (HasNone sought calm none) judged = inr tt
  taken _ given _ said (IsSpent level sought calm low spent) judged = inr tt
  taken _ given _ said (IsSwept start many rows found _ swept calm h shown) judged = inr tt
  taken answer _ text _ (IsFound s p _ _ first planned ran) (HasNone sought calm none) =
      let low = first.few in absurd (none s (omega (arith, low, enough)) first.reads.legal)
  taken answer _ text _ (IsFound s p _ _ first planned ran) (IsSpent level sought calm low spent) = inl tt
  taken answer _ text _ (IsFound s p _ _ first planned ran) (IsSwept start many rows found _ swept calm h shown) = absurd (not_swept other.work start many swept checks)
  taken answer given text said (IsFound s p _ _ first planned ran) (IsFound r q _ _ too later judged) =
      inr (of_found s r p q answer given text said (one_first m root other.seed other.infer r s too (first_too s first)) first planned ran judged)

pub models_taken : ScenariosAreTaken → FirstIsOne → WholeReadingsAreBuilt → ModelsAreTaken
models_taken scenarios one_first built names m root task other trace lanes told count answer given text said printed few runs checks seeds enough ran judged =
    taken scenarios one_first built names m root task other trace lanes told count printed few runs checks seeds enough answer given text said ran judged
