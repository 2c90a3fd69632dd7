-- Facts: Component instances: where an action may run; and pools of more than one resource instance.
use Rattle.std.specs.Prelude.{◌≡◌, ℕ, [], ◌∷◌, false, Some, None}
use Rattle.pst_legal.specs.Types.{instances_of, is_under}
use Rattle.pst_scen.specs.Plans.{KeepsParallel}
use Rattle.pst_legal.specs.ValueReading.{Whole, read}
use Rattle.pst_trials.specs.Parts.{name, places}
use Rattle.std.proofs.Common.{refl}
use Rattle.rand_core.specs.Steps.{u32_at, word_bytes}
use Rattle.rand_core.specs.Pcg32Seed.{pcg32_seed}
use Rattle.pst_rng.specs.Words.{generator_at}
use Rattle.pst_expr.specs.Spans.{numbers_from}
use Rattle.pst_trials.specs.Instances.{model, scenario, two_resources, apart}
use Rattle.pst_scen.specs.Plans.{Contend}
use Rattle.pst_scen.specs.Order.{Must}
use Rattle.pst_scen.specs.Laws.{IsPreorder}
use Rattle.pst_trials.proofs.Orders.{each_contend, each_must_alone, each_cause, each_before}
use Rattle.pst_trials.proofs.Traces.{preorder_by}

pub of_component : instances_of model (name 1) None ≡ 1 ∷ 2 ∷ []
unfolding generator_at u32_at pcg32_seed word_bytes numbers_from
of_component = refl

pub of_subtree : instances_of model (name 1) (Some 1) ≡ 1 ∷ []
unfolding generator_at u32_at pcg32_seed word_bytes numbers_from
of_subtree = refl

pub of_top : instances_of model (name 0) (Some 0) ≡ 0 ∷ []
unfolding generator_at u32_at pcg32_seed word_bytes numbers_from
of_top = refl

pub none_outside : instances_of model (name 0) (Some 1) ≡ []
unfolding generator_at u32_at pcg32_seed word_bytes numbers_from
none_outside = refl

pub not_under : is_under model (Some 1) 2 ≡ false
unfolding generator_at u32_at pcg32_seed word_bytes numbers_from
not_under = refl

pub options : places model 2 1 0 (0 ∷ 0 ∷ 0 ∷ 0 ∷ []) ≡ Some 1 ∷ Some 2 ∷ Some 2 ∷ Some 1 ∷ []
unfolding generator_at u32_at pcg32_seed word_bytes numbers_from
options = refl

pub reads : read model 2 1 0 (0 ∷ 0 ∷ 0 ∷ 0 ∷ []) ≡ Whole scenario
unfolding generator_at u32_at pcg32_seed word_bytes numbers_from
reads = refl

pub resource_options : places two_resources 1 1 0 (0 ∷ 0 ∷ 0 ∷ 0 ∷ 0 ∷ []) ≡ Some 1 ∷ Some 1 ∷ Some 1 ∷ Some 2 ∷ Some 2 ∷ []
unfolding generator_at u32_at pcg32_seed word_bytes numbers_from
resource_options = refl

pub reads_apart : read two_resources 1 1 0 (0 ∷ 0 ∷ 0 ∷ 0 ∷ 0 ∷ []) ≡ Whole apart
unfolding generator_at u32_at pcg32_seed word_bytes numbers_from
reads_apart = refl

-- ---- in parallel

in_order : IsPreorder apart.nodes
in_order = preorder_by apart.nodes (refl, (refl, (refl, (refl, tt))))

no_order : (a b : ℕ) → Must apart a b → ⊥
no_order = each_must_alone (λ a b. ⊥) apart tt (λ a c b first second. first) (each_cause (λ a b. ⊥) apart (each_before (λ a b. ⊥) apart in_order tt) tt)

-- each lock contends with itself alone
own : (a b : ℕ) → Contend apart a b → a ≡ b
own = each_contend (λ a b. a ≡ b) apart (refl, (refl, tt))

pub apart_is_kept : KeepsParallel apart
apart_is_kept = record { unordered = λ a b stand. no_order a b; undisputed = λ a b stand different contend. different (own a b contend) }
