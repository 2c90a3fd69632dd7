-- References and claims with what the default binds come to for them.
use Rattle.std.specs.Prelude.{◌≡◌, ℕ, List, Some, map, slice_get}
use Rattle.pst_ast.specs.declared.instance.Instance.{Instance}
use Rattle.pst_ast.specs.declared.scope_declaration.Declaration.{Declaration}
use Rattle.pst_bind.specs.declared.choices.Choice.{Choice}
use Rattle.pst_bound_pools.specs.declared.default_rows.DefaultRows.{DefaultRows}
use Rattle.pst_bind.specs.declared.wants.Wanted.{Wanted}
use Rattle.pst_bind.specs.Choices.{choice_of}
use Rattle.pst_bind.specs.Nearest.{default_row_of}
use Rattle.pst_bound_pools.specs.Serving.{first_filled, with_those_above}

abbrev pub need_in : Wanted → Declaration
need_in w = w.need

abbrev pub default_choice_of : List Declaration → DefaultRows → List Instance → Declaration → ℕ → Choice
default_choice_of ds rows instances need n = choice_of (first_filled (map (default_row_of ds rows need) (with_those_above instances n)))

abbrev pub IsWanted : List Declaration → DefaultRows → List Instance → Wanted → Type 0
IsWanted ds rows instances w = (n : ℕ) (c : Choice) → slice_get w.choices.now n ≡ Some c → c ≡ default_choice_of ds rows instances w.need n

abbrev pub AreWanted : List Declaration → DefaultRows → List Instance → List Wanted → Type 0
AreWanted ds rows instances all = (k : ℕ) (w : Wanted) → slice_get all k ≡ Some w → IsWanted ds rows instances w
