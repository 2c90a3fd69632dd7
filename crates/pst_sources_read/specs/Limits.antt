-- The limit on the tokens of sources.
use Rattle.std.specs.Prelude.{ℕ}

-- the most tokens of all sources together, the end of a source not counted
abbrev pub most_tokens : ℕ
most_tokens = 262144
