-- How the uses of types are kept.
use Rattle.std.specs.Prelude.{ℕ, List, map}
use Rattle.std.specs.List.{range_with_len}
use Rattle.pst_sweep_table.specs.declared.uses.Uses.TheInside.{Inside}
use Rattle.pst_sweep_table.specs.Uses.{used_in, AreAscending}

-- the count of each type
abbrev pub counts_in : Inside → List ℕ
counts_in uses = map (used_in uses.used.items) (range_with_len 0 uses.types)

abbrev pub AreKept : Inside → Type 0
AreKept uses = AreAscending uses.used.items
