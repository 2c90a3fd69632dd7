-- What references and claims break, and what serves them, by rows of binds.
use Rattle.std.specs.Prelude.{◌≡◌, ℕ, List, ◌++◌, option_to_list, Option}
use Rattle.std.specs.List.{filter_map}
use Rattle.std.specs.Option.{option_map}
use Rattle.pst_ast.specs.declared.instance.Instance.{Instance}
use Rattle.pst_ast.specs.declared.scope_declaration.Declaration.{Declaration}
use Rattle.pst_ast.specs.declared.referent.Finding.{Finding}
use Rattle.pst_name_rules.specs.Leasts.{least_at}
use Rattle.pst_bind.specs.declared.choices.Choice.{Choice}
use Rattle.pst_bound_pools.specs.declared.explicit_rows.ExplicitRows.{ExplicitRows}
use Rattle.pst_bound_pools.specs.declared.default_rows.DefaultRows.{DefaultRows}
use Rattle.pst_bind.specs.declared.judging.Judged.{Judged}
use Rattle.pst_bind.specs.declared.pool_map.Served.{Served}
use Rattle.pst_bound_pools.specs.Serving.{with_those_above}
use Rattle.pst_bind.specs.Needs.{Need, served_by}
use Rattle.pst_bind.specs.Nearest.{candidates_by}
use Rattle.pst_bind.specs.Choices.{choice_of, finding_at, pool_of}

-- what the candidates of a reference or claim of an action type in an instance come to
abbrev pub choice_by : List Declaration → ExplicitRows → DefaultRows → List Instance → Declaration → Declaration → ℕ → Choice
choice_by ds explicit defaults instances action need n = choice_of (candidates_by ds explicit defaults (with_those_above instances n) n action need)

abbrev pub choice_for : List Declaration → ExplicitRows → DefaultRows → List Instance → Need → Choice
choice_for ds explicit defaults instances n = choice_by ds explicit defaults instances n.action n.need n.instance

-- what is broken, and what serves it, where that is how the choice is made
abbrev pub found_with : (Need → Choice) → Need → Option Finding
found_with choice n = finding_at n.need.name.place (choice n)

abbrev pub served_with : (Need → Choice) → Need → Option Served
served_with choice n = option_map (served_by n) (pool_of (choice n))

abbrev pub served_by_choice : Need → Choice → List Served
served_by_choice n c = option_to_list (option_map (served_by n) (pool_of c))

-- these references and claims were judged too
pub record AreMore (choice : Need → Choice) (needs : List Need) (old new : Judged) : Type 0 where
  pub least : new.least ≡ least_at (found_with choice) needs old.least
  pub served : new.served.items ≡ old.served.items ++ filter_map (served_with choice) needs
