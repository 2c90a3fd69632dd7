-- Facts: which scenarios of six small models are read.
use Rattle.std.specs.Prelude.{◌≡◌, [], ◌∷◌}
use Rattle.std.proofs.Common.{refl}
use Rattle.rand_core.specs.Steps.{u32_at, word_bytes}
use Rattle.rand_core.specs.Pcg32Seed.{pcg32_seed}
use Rattle.pst_rng.specs.Words.{generator_at}
use Rattle.pst_expr.specs.Spans.{numbers_from}
use Rattle.pst_legal.specs.ValueReading.{Whole, read}
use Rattle.pst_law_trials.specs.Readings.{readings, held_readings}
use Rattle.pst_law_trials.specs.Models.{buffers, one_producer, two_producers, streams, each_other, new_partners, states, reads_first, reads_one, reads_second, claims, claiming, selects, taken, joins, joined}

pub buffers_at_0 : readings buffers 2 0 ≡ []
unfolding generator_at u32_at pcg32_seed word_bytes numbers_from
buffers_at_0 = refl

pub buffers_at_1 : readings buffers 2 1 ≡ one_producer ∷ []
unfolding generator_at u32_at pcg32_seed word_bytes numbers_from
buffers_at_1 = refl

pub buffers_at_2 : readings buffers 2 2 ≡ two_producers ∷ []
unfolding generator_at u32_at pcg32_seed word_bytes numbers_from
buffers_at_2 = refl

pub streams_at_0 : readings streams 2 0 ≡ each_other ∷ []
unfolding generator_at u32_at pcg32_seed word_bytes numbers_from
streams_at_0 = refl

pub streams_at_1 : readings streams 2 1 ≡ []
unfolding generator_at u32_at pcg32_seed word_bytes numbers_from
streams_at_1 = refl

pub streams_at_2 : readings streams 2 2 ≡ new_partners ∷ []
unfolding generator_at u32_at pcg32_seed word_bytes numbers_from
streams_at_2 = refl

pub selects_at_0 : readings selects 2 0 ≡ taken 1 1 ∷ taken 0 0 ∷ taken 0 1 ∷ []
unfolding generator_at u32_at pcg32_seed word_bytes numbers_from
selects_at_0 = refl

pub selects_at_1 : readings selects 2 1 ≡ []
unfolding generator_at u32_at pcg32_seed word_bytes numbers_from
selects_at_1 = refl

pub selects_at_2 : readings selects 2 2 ≡ []
unfolding generator_at u32_at pcg32_seed word_bytes numbers_from
selects_at_2 = refl

pub joins_at_0 : readings joins 2 0 ≡ joined 2 ∷ joined 1 ∷ []
unfolding generator_at u32_at pcg32_seed word_bytes numbers_from
joins_at_0 = refl

pub joins_at_1 : readings joins 2 1 ≡ []
unfolding generator_at u32_at pcg32_seed word_bytes numbers_from
joins_at_1 = refl

pub joins_at_2 : readings joins 2 2 ≡ []
unfolding generator_at u32_at pcg32_seed word_bytes numbers_from
joins_at_2 = refl

pub claims_at_0 : readings claims 2 0 ≡ claiming 1 0 ∷ claiming 1 1 ∷ claiming 0 0 ∷ claiming 0 1 ∷ []
unfolding generator_at u32_at pcg32_seed word_bytes numbers_from
claims_at_0 = refl

pub claims_at_1 : readings claims 2 1 ≡ []
unfolding generator_at u32_at pcg32_seed word_bytes numbers_from
claims_at_1 = refl

pub claims_at_2 : readings claims 2 2 ≡ []
unfolding generator_at u32_at pcg32_seed word_bytes numbers_from
claims_at_2 = refl

pub states_at_0 : held_readings states 2 0 ≡ reads_first ∷ []
unfolding generator_at u32_at pcg32_seed word_bytes numbers_from
states_at_0 = refl

pub states_at_1 : held_readings states 2 1 ≡ reads_one ∷ []
unfolding generator_at u32_at pcg32_seed word_bytes numbers_from
states_at_1 = refl

pub states_at_2 : held_readings states 2 2 ≡ reads_second ∷ []
unfolding generator_at u32_at pcg32_seed word_bytes numbers_from
states_at_2 = refl

pub reads_first_value : read states 2 1 0 (0 ∷ 0 ∷ 0 ∷ 2 ∷ []) ≡ Whole reads_first
unfolding generator_at u32_at pcg32_seed word_bytes numbers_from
reads_first_value = refl

pub reads_one_writer : read states 2 1 1 (0 ∷ 0 ∷ 1 ∷ 0 ∷ 0 ∷ 2 ∷ []) ≡ Whole reads_one
unfolding generator_at u32_at pcg32_seed word_bytes numbers_from
reads_one_writer = refl

pub reads_two_writers : read states 2 1 2 (0 ∷ 0 ∷ 1 ∷ 0 ∷ 0 ∷ 1 ∷ 1 ∷ 2 ∷ []) ≡ Whole reads_second
unfolding generator_at u32_at pcg32_seed word_bytes numbers_from
reads_two_writers = refl
