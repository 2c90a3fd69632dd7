-- How the indices and locals in scope are kept.
use Rattle.std.specs.Prelude.{◌≡◌, nat_eq, List, [], ◌∷◌, map}
use Rattle.std.specs.HashMap.{get}
use Rattle.pst_base.specs.declared.table.NameId.{NameId}
use Rattle.pst_ast.specs.declared.leaf.Name.{Name}
use Rattle.pst_ast.specs.declared.inner.InnerName.{InnerName}
use Rattle.pst_ast.specs.declared.inner.Inner.TheInside.{Inside}
use Rattle.pst_ast.specs.Inner.{inner_named}

abbrev pub names_of : List InnerName → List Name
names_of inner = map (λ n. n.name) inner

-- each keeps the next outer one of its name
abbrev pub AreHiding : List InnerName → Type 0
AreHiding [] = Unit {0}
AreHiding (n ∷ outer) = (n.hides ≡ inner_named (names_of outer) n.name.id) × AreHiding outer

-- the map has the innermost of each name
pub record IsInner (inner : Inside) : Type 0 where
  pub latest : (q : NameId) → get nat_eq inner.latest q.0 ≡ inner_named (names_of inner.names.items) q
  pub hiding : AreHiding inner.names.items
