-- The pools of an instance.
use Rattle.std.specs.Prelude.{ℕ, List, map}
use Rattle.pst_model.specs.declared.model.Pool.{Pool}
use Rattle.pst_elab_rules.specs.Model.{model_pool}
use Rattle.pst_ast.specs.declared.scope_declaration.Declaration.{Declaration}
use Rattle.pst_ast.specs.Sorts.{is_pool}
use Rattle.pst_terms.specs.Sources.{Sources}
use Rattle.pst_type_rules.specs.Members.{those_that}

-- those of declarations that are pools, in an instance
abbrev pub row_pools : Sources → ℕ → List Declaration → List Pool
row_pools s number ds = map (λ d. model_pool s (number, d)) (those_that is_pool ds)
