-- The words that a seed gives: those of the generator Pcg64 made from it, one for each place.
use Rattle.std.specs.Prelude.{ℕ, zero, suc, ◌%◌}
use Rattle.rand_core.specs.Pcg32Seed.{pcg32_seed}
use Rattle.rand_pcg.specs.Lcg.{Lcg}
use Rattle.rand_pcg.specs.Pcg.{pcg64, pcg64_of_seed}

-- the generator as the seed makes it
abbrev pub seeded : ℕ → Lcg
seeded seed = pcg64_of_seed (pcg32_seed 32 seed)

-- the generator after so many words, one step for each
unfoldable pub generator_at : ℕ → ℕ → Lcg
generator_at seed zero = seeded seed
generator_at seed (suc place) = (pcg64 (generator_at seed place)).1

-- the word at a place; places count from 0
abbrev pub word_of : ℕ → ℕ → ℕ
word_of seed place = (pcg64 (generator_at seed place)).0

-- where the seed begins among n options
abbrev pub start_of : ℕ → ℕ → ℕ → ℕ
start_of seed place n = word_of seed place % n
