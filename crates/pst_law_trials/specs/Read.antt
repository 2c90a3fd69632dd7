-- Which scenarios of six small models are read, at the levels 0 to 2. The legal ones of each level were found apart from this, by
-- trying all trees, links, claims and values against the rules of legality.
use Rattle.std.specs.Prelude.{◌≡◌, [], ◌∷◌}
use Rattle.pst_legal.specs.ValueReading.{Whole, read}
use Rattle.pst_law_trials.specs.Readings.{readings, held_readings}
use Rattle.pst_law_trials.specs.Models.{buffers, one_producer, two_producers, streams, each_other, new_partners, states, reads_first, reads_one, reads_second, claims, claiming, selects, taken, joins, joined}

-- What is read whole at each level, and nothing else is: all of it legal.
pub record AllAreRead : Type 0 where
  -- without a producer the consumers have no source; at level 1 both have one producer, at level 2 each its own
  pub buffers_at_0 : readings buffers 2 0 ≡ []
  pub buffers_at_1 : readings buffers 2 1 ≡ one_producer ∷ []
  pub buffers_at_2 : readings buffers 2 2 ≡ two_producers ∷ []
  -- one partner alone can't be inferred
  pub streams_at_0 : readings streams 2 0 ≡ each_other ∷ []
  pub streams_at_1 : readings streams 2 1 ≡ []
  pub streams_at_2 : readings streams 2 2 ≡ new_partners ∷ []
  -- where n is 1 the second branch alone stands, where it is 0 both
  pub selects_at_0 : readings selects 2 0 ≡ taken 1 1 ∷ taken 0 0 ∷ taken 0 1 ∷ []
  pub selects_at_1 : readings selects 2 1 ≡ []
  pub selects_at_2 : readings selects 2 2 ≡ []
  -- the consumer's source is the one that is bound
  pub joins_at_0 : readings joins 2 0 ≡ joined 2 ∷ joined 1 ∷ []
  pub joins_at_1 : readings joins 2 1 ≡ []
  pub joins_at_2 : readings joins 2 2 ≡ []

-- With claims and values more is read whole than is legal.
pub record LegalOnesAreRead : Type 0 where
  -- two of the four contend in different branches of a parallel block
  pub claims_at_0 : readings claims 2 0 ≡ claiming 1 0 ∷ claiming 1 1 ∷ claiming 0 0 ∷ claiming 0 1 ∷ []
  pub claims_at_1 : readings claims 2 1 ≡ []
  pub claims_at_2 : readings claims 2 2 ≡ []
  -- with all constraints there is one for each level: each object has one more than the one before
  pub states_at_0 : held_readings states 2 0 ≡ reads_first ∷ []
  pub states_at_1 : held_readings states 2 1 ≡ reads_one ∷ []
  pub states_at_2 : held_readings states 2 2 ≡ reads_second ∷ []
  -- the lists that read them
  pub reads_first_value : read states 2 1 0 (0 ∷ 0 ∷ 0 ∷ 2 ∷ []) ≡ Whole reads_first
  pub reads_one_writer : read states 2 1 1 (0 ∷ 0 ∷ 1 ∷ 0 ∷ 0 ∷ 2 ∷ []) ≡ Whole reads_one
  pub reads_two_writers : read states 2 1 2 (0 ∷ 0 ∷ 1 ∷ 0 ∷ 0 ∷ 1 ∷ 1 ∷ 2 ∷ []) ≡ Whole reads_second
