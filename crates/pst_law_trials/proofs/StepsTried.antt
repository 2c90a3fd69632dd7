-- Facts: steps of a search that pass a legal scenario, each for want of one premise.
use Rattle.std.specs.Prelude.{◌≡◌, ◌⊎◌, ◌<◌, ℕ, List, [], ◌∷◌}
use Rattle.std.proofs.Common.{zero, suc, ◌≤◌, refl, sym, ◌∙◌, subst, inl, inr, lit<, arith, not-suc-le-zero}
use Rattle.rand_core.specs.Steps.{u32_at, word_bytes}
use Rattle.rand_core.specs.Pcg32Seed.{pcg32_seed}
use Rattle.pst_rng.specs.Words.{generator_at}
use Rattle.pst_expr.specs.Spans.{numbers_from}
use Rattle.pst_scen.specs.declared.scenario.Scenario.{Scenario}
use Rattle.pst_legal.specs.First.{ReadsLegal, NoneBefore}
use Rattle.pst_legal.specs.ValueReading.{Options, Dead, Whole, read}
use Rattle.pst_built.specs.LongerLaws.{ChoicesNameOptions}
use Rattle.pst_built.specs.OrderStaysLaws.{IsBarren}
use Rattle.pst_list_order.specs.Passed.{IsPassed, NonePassed}
use Rattle.pst_trials.specs.Parts.{root_node, scenario_of}
use Rattle.pst_trials.specs.Inference.{model as inferring, scenario as inferred, InferenceIsTried}
use Rattle.pst_trials.specs.States.{one, filling, choices, StatesAreTried}
use Rattle.pst_law_trials.specs.Steps.{no_source}

options_whole : (s t : Scenario) (n : ℕ) → Options s n ≡ Whole t → ⊥
options_whole s t n e = cc

dead_whole : (t : Scenario) → Dead ≡ Whole t → ⊥
dead_whole t e = cc

-- ---- behind what is legal

behind : (more : List ℕ) → read inferring 2 1 1 (1 ∷ more) ≡ Dead
unfolding generator_at u32_at pcg32_seed word_bytes numbers_from
behind more = refl

pub dead_end : IsBarren inferring 2 1 1 (1 ∷ [])
dead_end more t reads = dead_whole t (sym (behind more) ∙ reads.reads)

pub next_reads : InferenceIsTried → ReadsLegal inferring 2 1 1 (0 ∷ 0 ∷ 0 ∷ []) inferred
next_reads tried = record { reads = tried.reads; legal = tried.legal }

pub not_down_behind : InferenceIsTried → NoneBefore inferring 2 1 1 (1 ∷ 0 ∷ []) → ⊥
not_down_behind tried none = none (0 ∷ 0 ∷ 0 ∷ []) inferred (inl (lit< tt)) (next_reads tried)

pub not_over_behind : InferenceIsTried → NonePassed inferring 2 1 1 (1 ∷ []) → ⊥
not_over_behind tried none = none (0 ∷ 0 ∷ 0 ∷ []) inferred (inl (lit< tt)) (next_reads tried)

pub not_next : InferenceIsTried → NoneBefore inferring 2 1 1 (1 ∷ []) → ⊥
not_next tried none = none (0 ∷ 0 ∷ 0 ∷ []) inferred (inl (lit< tt)) (next_reads tried)

-- ---- two options

pub two_options : read one 2 1 1 (0 ∷ 0 ∷ []) ≡ Options no_source 2
unfolding generator_at u32_at pcg32_seed word_bytes numbers_from
two_options = refl

first_dies : (more : List ℕ) → read one 2 1 1 (0 ∷ 0 ∷ 0 ∷ more) ≡ Dead
unfolding generator_at u32_at pcg32_seed word_bytes numbers_from
first_dies [] = refl
first_dies (digit ∷ more) = refl

-- nothing is below zero
zero_first : {A : Type 0} (y : ℕ) → (y < 0) ⊎ ((y ≡ 0) × A) → (y ≡ 0) × A
zero_first y (inl less) = absurd (not-suc-le-zero less)
zero_first y (inr same) = same

-- a list that begins with zeros, or is none, is no whole one
one_none : (s : Scenario) → read one 2 1 1 [] ≡ Whole s → ⊥
unfolding generator_at u32_at pcg32_seed word_bytes numbers_from
one_none s e = options_whole _ s 1 e

one_root : (s : Scenario) → read one 2 1 1 (0 ∷ []) ≡ Whole s → ⊥
unfolding generator_at u32_at pcg32_seed word_bytes numbers_from
one_root s e = options_whole _ s 1 e

pub first_passed : (other : List ℕ) (s : Scenario) → IsPassed (0 ∷ 0 ∷ 0 ∷ []) other → ReadsLegal one 2 1 1 other s → ⊥
first_passed [] s passed reads = one_none s reads.reads
first_passed (y ∷ []) s passed reads =
    let first : (y ≡ 0) × Unit {0} = zero_first y passed in
    one_root s (subst (λ (k : ℕ). read one 2 1 1 (k ∷ []) ≡ Whole s) first.0 reads.reads)
first_passed (y ∷ z ∷ []) s passed reads =
    let first : (y ≡ 0) × ((z < 0) ⊎ ((z ≡ 0) × Unit {0})) = zero_first y passed in
    let second : (z ≡ 0) × Unit {0} = zero_first z first.1 in
    let here : read one 2 1 1 (0 ∷ z ∷ []) ≡ Whole s = subst (λ (k : ℕ). read one 2 1 1 (k ∷ z ∷ []) ≡ Whole s) first.0 reads.reads in
    let now : read one 2 1 1 (0 ∷ 0 ∷ []) ≡ Whole s = subst (λ (k : ℕ). read one 2 1 1 (0 ∷ k ∷ []) ≡ Whole s) second.0 here in
    options_whole no_source s 2 (sym two_options ∙ now)
first_passed (y ∷ z ∷ w ∷ more) s passed reads =
    let first : (y ≡ 0) × ((z < 0) ⊎ ((z ≡ 0) × ((w < 0) ⊎ ((w ≡ 0) × Unit {0})))) = zero_first y passed in
    let second : (z ≡ 0) × ((w < 0) ⊎ ((w ≡ 0) × Unit {0})) = zero_first z first.1 in
    let third : (w ≡ 0) × Unit {0} = zero_first w second.1 in
    let one_zero : read one 2 1 1 (0 ∷ z ∷ w ∷ more) ≡ Whole s = subst (λ (k : ℕ). read one 2 1 1 (k ∷ z ∷ w ∷ more) ≡ Whole s) first.0 reads.reads in
    let two_zeros : read one 2 1 1 (0 ∷ 0 ∷ w ∷ more) ≡ Whole s = subst (λ (k : ℕ). read one 2 1 1 (0 ∷ k ∷ w ∷ more) ≡ Whole s) second.0 one_zero in
    let three_zeros : read one 2 1 1 (0 ∷ 0 ∷ 0 ∷ more) ≡ Whole s = subst (λ (k : ℕ). read one 2 1 1 (0 ∷ 0 ∷ k ∷ more) ≡ Whole s) third.0 two_zeros in
    dead_whole s (sym (first_dies more) ∙ three_zeros)

pub second_reads : StatesAreTried → ReadsLegal one 2 1 1 choices filling
second_reads tried = record { reads = tried.reads; legal = tried.legal }

pub not_up : StatesAreTried → NonePassed one 2 1 1 (0 ∷ 0 ∷ []) → ⊥
not_up tried none = none choices filling (inr (refl, inr (refl, tt))) (second_reads tried)

-- ---- a level that has none

level_none : read inferring 2 1 0 [] ≡ Options (scenario_of 0 [] [] []) 1
unfolding generator_at u32_at pcg32_seed word_bytes numbers_from
level_none = refl

level_root : read inferring 2 1 0 (0 ∷ []) ≡ Options (scenario_of 0 (root_node 2 [] ∷ []) [] []) 1
unfolding generator_at u32_at pcg32_seed word_bytes numbers_from
level_root = refl

pub level_passed : ChoicesNameOptions → InferenceIsTried → (other : List ℕ) (s : Scenario) → IsPassed [] other → ReadsLegal inferring 2 1 0 other s → ⊥
level_passed names tried [] s passed reads = options_whole (scenario_of 0 [] [] []) s 1 (sym level_none ∙ reads.reads)
level_passed names tried (zero ∷ []) s passed reads = options_whole (scenario_of 0 (root_node 2 [] ∷ []) [] []) s 1 (sym level_root ∙ reads.reads)
level_passed names tried (zero ∷ zero ∷ more) s passed reads = dead_whole s (sym (tried.dead_without more) ∙ reads.reads)
level_passed names tried (zero ∷ suc d ∷ more) s passed reads =
    let least : 1 ≤ suc d = omega arith in
    dead_whole s (sym (names inferring 2 1 0 (0 ∷ []) (scenario_of 0 (root_node 2 [] ∷ []) [] []) 1 (suc d) more level_root least) ∙ reads.reads)
level_passed names tried (suc d ∷ more) s passed reads =
    let least : 1 ≤ suc d = omega arith in
    dead_whole s (sym (names inferring 2 1 0 [] (scenario_of 0 [] [] []) 1 (suc d) more level_none least) ∙ reads.reads)
