-- Facts: The laws of reading on small models.
use Rattle.std.specs.Prelude.{◌≡◌, ◌++◌, [], ◌∷◌, true}
use Rattle.std.proofs.Common.{inl, inr, refl, lit<}
use Rattle.pst_scen.specs.declared.tree.Fill.TheVariants as fill
use Rattle.pst_legal.specs.Fits.{Fits}
use Rattle.pst_legal.specs.Growing.{nothing_yet}
use Rattle.pst_legal.specs.Reading.{Reads, read_tree}
use Rattle.pst_legal.specs.SupplyReading.{read_supply}
use Rattle.pst_legal.specs.ValueReading.{Options, Dead, Whole, read, read_values, answer_of}
use Rattle.pst_legal.specs.First.{IsBefore, NoneBefore}
use Rattle.rand_core.specs.Steps.{u32_at, word_bytes}
use Rattle.rand_core.specs.Pcg32Seed.{pcg32_seed}
use Rattle.pst_rng.specs.Words.{generator_at}
use Rattle.pst_expr.specs.Spans.{numbers_from}
use Rattle.pst_trials.specs.Locks.{scenario, choices}
use Rattle.pst_trials.specs.Readings.{locks, begun, half, tree, unserved, alone}
use Rattle.pst_trials.proofs.Cases.{none_some}
use Rattle.pst_trials.proofs.LocksTried.{reads_any_order, locks_are_legal}

pub place : read locks 1 1 0 (0 ∷ []) ≡ Options begun 1
unfolding generator_at u32_at pcg32_seed word_bytes numbers_from
place = refl

pub goes_on : read locks 1 1 0 (0 ∷ 0 ∷ []) ≡ Options half 1
unfolding generator_at u32_at pcg32_seed word_bytes numbers_from
goes_on = refl

pub no_option : read locks 1 1 0 (0 ∷ 1 ∷ []) ≡ Dead
unfolding generator_at u32_at pcg32_seed word_bytes numbers_from
no_option = refl

pub stays_dead : read locks 1 1 0 (0 ∷ 1 ∷ 0 ∷ []) ≡ Dead
unfolding generator_at u32_at pcg32_seed word_bytes numbers_from
stays_dead = refl

pub whole_ends : read locks 1 1 0 (choices ++ 0 ∷ []) ≡ Dead
unfolding generator_at u32_at pcg32_seed word_bytes numbers_from
whole_ends = refl

pub activity : read_tree locks 1 1 (nothing_yet 0) 0 (0 ∷ 0 ∷ 0 ∷ []) ≡ Reads tree 3 []
unfolding generator_at u32_at pcg32_seed word_bytes numbers_from
activity = refl

pub sources : read_supply locks 1 tree 3 [] ≡ Reads tree 3 []
unfolding generator_at u32_at pcg32_seed word_bytes numbers_from
sources = refl

pub values : answer_of (read_values locks 1 tree 3 (0 ∷ 0 ∷ [])) ≡ Whole (scenario true fill.Schedule)
unfolding generator_at u32_at pcg32_seed word_bytes numbers_from
values = refl

pub one_left : read_tree locks 1 1 (nothing_yet 0) 0 (0 ∷ 0 ∷ 0 ∷ 0 ∷ []) ≡ Reads tree 3 (0 ∷ [])
unfolding generator_at u32_at pcg32_seed word_bytes numbers_from
one_left = refl

pub other_level : read locks 1 1 1 choices ≡ Dead
unfolding generator_at u32_at pcg32_seed word_bytes numbers_from
other_level = refl

pub abstract_is_read : read unserved 0 1 0 (0 ∷ []) ≡ Whole alone
unfolding generator_at u32_at pcg32_seed word_bytes numbers_from
abstract_is_read = refl

pub abstract_does_not_fit : Fits unserved 0 alone → ⊥
abstract_does_not_fit fits =
    let act = fits.values.acts 0 _ refl in
    let reference = act.references 0 _ refl in
    none_some 0 reference.pool

pub prefix_first : IsBefore (0 ∷ []) (0 ∷ 5 ∷ [])
prefix_first = inr (refl, tt)

pub less_first : IsBefore (0 ∷ 5 ∷ []) (1 ∷ [])
less_first = inl (lit< tt)

pub down_passes : NoneBefore locks 1 1 0 (choices ++ 0 ∷ []) → ⊥
down_passes none = none choices (scenario true fill.Schedule) (inr (refl, inr (refl, inr (refl, inr (refl, inr (refl, tt)))))) (record { reads = reads_any_order; legal = locks_are_legal })
