-- Binds as they are found.
use Rattle.std.specs.Prelude.{List, [], ◌∷◌, ◌++◌, map, Option, Some, None}
use Rattle.pst_base.specs.declared.position.Place.{Place}
use Rattle.pst_ast.specs.DeclarationTree.{PoolBindTree, ComponentPartPoolBind}
use Rattle.pst_ast.specs.Uses.{Use}
use Rattle.pst_pool_binds.specs.declared.found_binds.FoundBind.{FoundBind}
use Rattle.pst_pool_binds.specs.declared.found_binds.FoundDefault.{FoundDefault}
use Rattle.pst_pool_binds.specs.PoolBinds.{ExplicitBind, DefaultBind, explicit_of, default_in_part}

abbrev pub view_bind : FoundBind → ExplicitBind
view_bind b = record { component = b.component; pool = b.pool; instances = b.instances.items; action = b.action; need = b.need }

abbrev pub view_binds : List FoundBind → List ExplicitBind
view_binds binds = map view_bind binds

abbrev pub view_default : FoundDefault → DefaultBind
view_default b = record { component = b.component; pool = b.pool }

abbrev pub view_defaults : List FoundDefault → List DefaultBind
view_defaults binds = map view_default binds

-- the binds so far, and what a further use adds
abbrev pub with_bind : List ExplicitBind → Option ExplicitBind → List ExplicitBind
with_bind binds None = binds
with_bind binds (Some b) = binds ++ b ∷ []

abbrev pub with_use : List ExplicitBind → Use → List ExplicitBind
with_use binds u = with_bind binds (explicit_of u)

-- the default bind that a bind is
abbrev pub default_in_bind : Place → PoolBindTree → List DefaultBind
default_in_bind component bind = default_in_part component (ComponentPartPoolBind bind)
