-- Declarations as vertices of a graph.
use Rattle.std.specs.Prelude.{ℕ, ◌≡◌, ◌<◌, List, Option, Some, None, slice_get, slice_index_or, length}
use Rattle.pst_base.specs.declared.position.Place.{Place}
use Rattle.pst_base.specs.Places.{IsBefore}
use Rattle.pst_ast.specs.declared.scope_declaration.Declaration.{Declaration}
use Rattle.pst_ast.specs.NameRules.{LeadsTo}
use Rattle.pst_loops.specs.Graph.{Graph, HasEdge}

-- a declaration stands there for the first time (a list may have it more than once)
pub record IsNumber (ds : List Declaration) (d : Declaration) (i : ℕ) : Type 0 where
  pub there : slice_get ds i ≡ Some d
  pub first : (k : ℕ) → k < i → slice_get ds k ≡ Some d → ⊥

-- its number, or none where it isn't in the list
abbrev pub IsNumberOf : List Declaration → Declaration → Option ℕ → Type 0
IsNumberOf ds d None = (k : ℕ) → slice_get ds k ≡ Some d → ⊥
IsNumberOf ds d (Some i) = IsNumber ds d i

-- the numbers of the first n
abbrev pub AreNumbersTo : ℕ → List Declaration → List ℕ → Type 0
AreNumbersTo n ds numbers = (i : ℕ) (d : Declaration) → i < n → slice_get ds i ≡ Some d → IsNumber ds d (slice_index_or numbers i 0)

-- the numbers of all of them
pub record AreNumbers (ds : List Declaration) (numbers : List ℕ) : Type 0 where
  pub long : length numbers ≡ length ds
  pub each : (i : ℕ) (d : Declaration) → slice_get ds i ≡ Some d → IsNumber ds d (slice_index_or numbers i 0)

-- where one stands whose name is at a place, or none where none does
abbrev pub IsAtPlace : List Declaration → Place → Option ℕ → Type 0
IsAtPlace ds place None = (k : ℕ) (d : Declaration) → slice_get ds k ≡ Some d → d.name.place ≡ place → ⊥
IsAtPlace ds place (Some k) = (d : Declaration) × (slice_get ds k ≡ Some d) × (d.name.place ≡ place)

-- each of the first n stands before the next
abbrev pub AreInOrderTo : ℕ → List Declaration → Type 0
AreInOrderTo n ds = (i k : ℕ) (d e : Declaration) → i < k → k < n → slice_get ds i ≡ Some d → slice_get ds k ≡ Some e → IsBefore d.name.place e.name.place

-- from each place in the list an edge leads to the numbers of exactly those to which its declaration leads
pub record AreRows (ds : List Declaration) (g : Graph) : Type 0 where
  pub long : length g ≡ length ds
  pub sound : (i j : ℕ) (d : Declaration) → slice_get ds i ≡ Some d → HasEdge g i j → (e : Declaration) × IsNumber ds e j × LeadsTo ds d e
  pub whole : (i : ℕ) (d e : Declaration) → slice_get ds i ≡ Some d → LeadsTo ds d e → (j : ℕ) × IsNumber ds e j × HasEdge g i j
