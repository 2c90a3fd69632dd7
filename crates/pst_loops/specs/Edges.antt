-- Edges that are added to a graph, and those that declarations give.
use Rattle.std.specs.Prelude.{ℕ, ◌≡◌, ◌<◌, ◌⊎◌, List, Option, Some, None, if◌then◌else◌, slice_get, length, IsTrue}
use Rattle.pst_base.specs.declared.position.Place.{Place}
use Rattle.pst_ast.specs.declared.scope_declaration.Declaration.{Declaration}
use Rattle.pst_ast.specs.declared.scope_declaration.Scope.{Scope}
use Rattle.pst_ast.specs.declared.scope_declaration.Scope.TheVariants.{Files, Part}
use Rattle.pst_ast.specs.Lookups.{base_of, type_of}
use Rattle.pst_ast.specs.Sorts.{is_instance}
use Rattle.pst_loops.specs.Graph.{Graph, HasEdge}
use Rattle.pst_loops.specs.Numbers.{IsNumber}

-- those edges were added, and no others
pub record IsAdded (Added : ℕ → ℕ → Type 0) (old new : Graph) : Type 0 where
  pub long : length new ≡ length old
  pub kept : (a b : ℕ) → HasEdge old a b → HasEdge new a b
  pub added : (a b : ℕ) → Added a b → HasEdge new a b
  pub only : (a b : ℕ) → HasEdge new a b → HasEdge old a b ⊎ Added a b

abbrev pub IsEdge : ℕ → ℕ → ℕ → ℕ → Type 0
IsEdge from to a b = (a ≡ from) × (b ≡ to)

-- a declaration whose name is at that place stands there
abbrev pub IsAt : List Declaration → Place → ℕ → Type 0
IsAt ds place a = (d : Declaration) × (slice_get ds a ≡ Some d) × (d.name.place ≡ place)

-- from each declaration at a place
abbrev pub IsEdgeFrom : List Declaration → Place → ℕ → ℕ → ℕ → Type 0
IsEdgeFrom ds place to a b = IsAt ds place a × (b ≡ to)

-- the k-th declaration is an action, which leads to its base
abbrev pub IsBaseBy : List Declaration → ℕ → ℕ → Declaration → Type 0
IsBaseBy ds k a e = (d : Declaration) × (a ≡ k) × (slice_get ds k ≡ Some d) × (base_of ds d ≡ Some e)

-- the k-th declaration is an instance: what is declared at the place of its scope leads to its component
abbrev pub IsComponentBy : List Declaration → ℕ → ℕ → Declaration → Type 0
IsComponentBy ds k a e =
    (d owner : Declaration) × (slice_get ds a ≡ Some owner) × (slice_get ds k ≡ Some d) × (d.scope ≡ Part owner.name.place) × IsTrue (is_instance d.sort) × (type_of ds d ≡ Some e)

abbrev pub place_of : Scope → Option Place
place_of Files = None
place_of (Part place) = Some place

-- the place of the scope in which an instance is declared
abbrev pub scope_of_instance : Declaration → Option Place
scope_of_instance d = if is_instance d.sort then place_of d.scope else None

-- one of the first n
abbrev pub IsGivenBy : ℕ → List Declaration → ℕ → Declaration → Type 0
IsGivenBy n ds a e = (k : ℕ) × (k < n) × (IsBaseBy ds k a e ⊎ IsComponentBy ds k a e)

-- from each place edges lead to the numbers of exactly those to which it leads
pub record HasEdges (ds : List Declaration) (Leads : ℕ → Declaration → Type 0) (g : Graph) : Type 0 where
  pub long : length g ≡ length ds
  pub sound : (a b : ℕ) → HasEdge g a b → (e : Declaration) × IsNumber ds e b × Leads a e
  pub whole : (a : ℕ) (e : Declaration) → Leads a e → (b : ℕ) × IsNumber ds e b × HasEdge g a b

-- these were added to it
pub record AddsEdges (ds : List Declaration) (Leads : ℕ → Declaration → Type 0) (old new : Graph) : Type 0 where
  pub long : length new ≡ length old
  pub kept : (a b : ℕ) → HasEdge old a b → HasEdge new a b
  pub sound : (a b : ℕ) → HasEdge new a b → HasEdge old a b ⊎ ((e : Declaration) × IsNumber ds e b × Leads a e)
  pub whole : (a : ℕ) (e : Declaration) → Leads a e → (b : ℕ) × IsNumber ds e b × HasEdge new a b
