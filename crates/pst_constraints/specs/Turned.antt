-- Within and behind the scope of an index.
use Rattle.std.specs.Prelude.{drop}
use Rattle.pst_terms.specs.Readings.{Setting}

-- behind the scope of the innermost index
abbrev pub without_turn : Setting → Setting
without_turn setting = record { at = record setting.at { inner = drop 1 setting.at.inner }; turns = drop 1 setting.turns; locals = setting.locals }
