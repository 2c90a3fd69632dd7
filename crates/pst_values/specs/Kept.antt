-- The invariant of a search for values.
use Rattle.std.specs.Prelude.{◌≡◌, ◌≢◌, ℕ, ◌+◌, ◌-◌, ◌^◌, ◌<◌, ◌≤◌, ℤ, ◌≤ℤ◌, List, [], ◌∷◌, ◌++◌, length, slice_index_or, map, take, true, Option, Some, None, vec_capacity}
use Rattle.pst_expr.specs.declared.tree.Expr.{Expr}
use Rattle.pst_expr.specs.declared.ranges.Span.{Span}
use Rattle.pst_expr.specs.Spans.{IsInSpan, IsInSpans}
use Rattle.pst_expr.specs.Tree.{view}
use Rattle.pst_domain.specs.Bounds.{bound_of, AreUpright, AreWithin, IsInside, Holds}
use Rattle.pst_narrow.specs.declared.trail.Former.{Former}
use Rattle.pst_values.specs.declared.tried.Tried.{Tried}
use Rattle.pst_values.specs.declared.tried.Level.{Level}
use Rattle.pst_values.specs.declared.search.ValueSearch.TheInside.{Inside}
use Rattle.pst_narrow.specs.Narrowing.{AreOpen}
use Rattle.pst_narrow.specs.Watch.{IsWatch}
use Rattle.pst_values.specs.Solver.{bounds_at, IsReady}
use Rattle.pst_values.specs.Search.{Search, IsSolution, Agree, HoldsPossible}

abbrev pub tried_of : Level → Tried
tried_of level = level.tried

abbrev pub view_of : Inside → Search
view_of s = record {
  domains = s.domains.items;
  constraints = s.solver.constraints.items;
  seed = s.seed;
  place = s.place;
  earlier = map tried_of s.earlier.items;
  current = s.current.tried;
}

-- the bounds hold all solutions that agree with values
abbrev pub HoldSolutions : List (List Span) → List Expr → List Tried → List (Option Span) → Type 0
HoldSolutions domains constraints tried bounds =
    (values : List (Option ℤ)) → IsSolution domains (map view constraints) values → Agree tried values → AreWithin bounds values

-- at a mark the bounds hold all solutions that agree with the values before it
pub record IsLayer (domains : List (List Span)) (constraints : List Expr) (tried : List Tried) (mark : ℕ) (trail : List Former) (bounds : List (Option Span)) : Type 0 where
  pub ready : IsReady constraints mark trail bounds
  pub holds : HoldSolutions domains constraints tried (bounds_at mark trail bounds)

-- so do the layers of all variables up to the current one
pub record AreLayers (domains : List (List Span)) (constraints : List Expr) (earlier : List Level) (current : Level) (trail : List Former) (bounds : List (Option Span)) : Type 0 where
  pub now : IsLayer domains constraints (map tried_of earlier) current.mark trail bounds
  pub before : (i : ℕ) (d : Level) → i < length earlier → IsLayer domains constraints (map tried_of (take i earlier)) (slice_index_or earlier i d).mark trail bounds
  pub rising : (i : ℕ) (d : Level) → i < length earlier → (slice_index_or earlier i d).mark ≤ current.mark
  pub ordered : (i j : ℕ) (d : Level) → i < j → j < length earlier → (slice_index_or earlier i d).mark ≤ (slice_index_or earlier j d).mark

-- the bounds have no more than it takes to hold the values that the variables may have
abbrev pub AreTight : List (List Span) → List Tried → List (Option Span) → Type 0
AreTight domains tried bounds = (i : ℕ) → i < length domains → (outer : Option Span) → HoldsPossible domains tried i outer → IsInside (bound_of bounds i) outer

-- so it is, and where there are values no constraint is refused
pub record IsKnownAt (domains : List (List Span)) (constraints : List Expr) (tried : List Tried) (bounds : List (Option Span)) : Type 0 where
  pub tight : AreTight domains tried bounds
  pub unrefused : 0 < length tried → AreOpen (map view constraints) bounds

-- so it is at the mark of each variable whose bounds know the values before it
pub record AreKnown (domains : List (List Span)) (constraints : List Expr) (earlier : List Level) (current : Level) (trail : List Former) (bounds : List (Option Span)) : Type 0 where
  pub now : current.known ≡ true → IsKnownAt domains constraints (map tried_of earlier) (bounds_at current.mark trail bounds)
  pub before : (i : ℕ) (d : Level) → i < length earlier → (slice_index_or earlier i d).known ≡ true → IsKnownAt domains constraints (map tried_of (take i earlier)) (bounds_at (slice_index_or earlier i d).mark trail bounds)

pub record IsKept (s : Inside) : Type 0 where
  pub number : length s.earlier.items < length s.domains.items
  pub small : length s.domains.items < 2 ^ 32
  pub places : s.place + length s.domains.items ≤ 2 ^ 64 - 1
  pub count : length s.solver.bounds ≡ length s.domains.items
  pub room : length s.domains.items ≤ vec_capacity s.earlier
  pub upright : AreUpright s.solver.bounds
  pub layers : AreLayers s.domains.items s.solver.constraints.items s.earlier.items s.current s.solver.trail s.solver.bounds
  pub watch : IsWatch (map view s.solver.constraints.items) (length s.domains.items) s.solver.watch
  pub known : AreKnown s.domains.items s.solver.constraints.items s.earlier.items s.current s.solver.trail s.solver.bounds
  pub tight : s.is_known ≡ true → IsKnownAt s.domains.items s.solver.constraints.items (map tried_of s.earlier.items ++ s.current.tried ∷ []) s.solver.bounds
  pub holds : s.current.tried.value ≢ None → HoldSolutions s.domains.items s.solver.constraints.items (map tried_of s.earlier.items ++ s.current.tried ∷ []) s.solver.bounds

-- a span holds all values of a domain, of which its ends are two, and isn't reversed
abbrev pub IsHull : List Span → Option Span → Type 0
IsHull domain None = ⊥
IsHull domain (Some s) = (s.low ≤ℤ s.high) × ((v : ℤ) → IsInSpans v domain → IsInSpan v s) × IsInSpans s.low domain × IsInSpans s.high domain

-- the spans of the first n domains
pub record AreHulls (domains : List (List Span)) (n : ℕ) (spans : List (Option Span)) : Type 0 where
  pub count : length spans ≡ n
  pub each : (i : ℕ) (d : List Span) (e : Option Span) → i < n → IsHull (slice_index_or domains i d) (slice_index_or spans i e)
