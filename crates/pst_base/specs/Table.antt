-- How a table of names is kept.
use Rattle.std.specs.Prelude.{ℕ, ◌^◌, ◌-◌, ◌≤◌, List, map, string_bytes}
use Rattle.indexmap.specs.IndexSet.{index_set_len}
use Rattle.pst_base.specs.declared.table.Names.TheInside.{Inside}
use Rattle.pst_base.specs.Names.{AreDifferent}

-- the bytes of each text in order
abbrev pub texts_of : Inside → List (List ℕ)
texts_of names = map string_bytes names.texts.keys

-- different texts, each with a number, and one number to spare
pub record IsTable (names : Inside) : Type 0 where
  pub fits : index_set_len names.texts ≤ 2 ^ 32 - 1
  pub different : AreDifferent (texts_of names)
