-- The pools that serve references and claims.
use Rattle.std.specs.Prelude.{◌≡◌, ℕ, ◌<◌, ◌⊎◌, List, [], ◌∷◌, ◌++◌, map, length, slice_get, AllPairs, Bool, false, ◌&&◌, nat_eq, if◌then◌else◌, Option, Some, None, IsSome}
use Rattle.std.specs.Option.{IsSomeAnd}
use Rattle.pst_model.specs.declared.model.Part.{Part}
use Rattle.pst_model.specs.declared.model.Serve.{Serve}
use Rattle.pst_model.specs.ModelTree.{ContentTree, Atomic, Compound, ActionTree, ModelTree}

-- the object types of an action's references, and then of its claims
abbrev pub objects_of : ActionTree → List ℕ
objects_of action = map (λ r. r.object) action.references ++ map (λ c. c.object) action.claims

-- the entry is of that action type, instance and reference
abbrev pub is_entry : ℕ → ℕ → ℕ → Serve → Bool
is_entry action instance reference s = nat_eq s.action action && (nat_eq s.instance instance && nat_eq s.reference reference)

-- the pool of the first entry of that action type, instance and reference, none where there is none
abbrev pub pool_in : List Serve → ℕ → ℕ → ℕ → Option ℕ
pool_in [] action instance reference = None
pool_in (s ∷ more) action instance reference = if is_entry action instance reference s then Some s.pool else pool_in more action instance reference

-- one entry stands before another: by action, then instance, then reference
abbrev pub ComesBefore : Serve → Serve → Type 0
ComesBefore s t = (s.action < t.action) ⊎ ((s.action ≡ t.action) × ((s.instance < t.instance) ⊎ ((s.instance ≡ t.instance) × (s.reference < t.reference))))

-- an entry stands before the first of these, if there is one
abbrev pub ComesBeforeFirst : Serve → List Serve → Type 0
ComesBeforeFirst s [] = Unit {0}
ComesBeforeFirst s (t ∷ more) = ComesBefore s t

-- the entries stand in order, at most one for each action, instance and reference
abbrev pub IsInOrder : List Serve → Type 0
IsInOrder served = AllPairs ComesBefore served

-- the numbers of an entry name an action, an instance, a reference or claim of the action, and a pool of its object type
pub record IsSoundServe (model : ModelTree) (serve : Serve) : Type 0 where
  pub instance : serve.instance < length model.instances
  pub pool : IsSomeAnd (slice_get model.actions serve.action) (λ action. IsSomeAnd (slice_get model.pools serve.pool) (λ pool. slice_get (objects_of action) serve.reference ≡ Some pool.object))

abbrev pub IsAtomic : ContentTree → Type 0
IsAtomic (Atomic body) = Unit {0}
IsAtomic (Compound activity) = ⊥

-- all references and claims of an action type are served in an instance, where it is one of the action's component
abbrev pub IsServedIn : ModelTree → ℕ → ActionTree → ℕ → Part → Type 0
IsServedIn model number action instance part = part.component ≡ action.component → (reference : ℕ) → reference < length (objects_of action) → IsSome (pool_in model.served number instance reference)

-- an action type, where it is atomic and not abstract, is served in each instance of its component
abbrev pub IsServed : ModelTree → ℕ → ActionTree → Type 0
IsServed model number action = IsAtomic action.content → action.is_abstract ≡ false → (instance : ℕ) (part : Part) → slice_get model.instances instance ≡ Some part → IsServedIn model number action instance part

-- each action type is
abbrev pub IsServedWhole : ModelTree → Type 0
IsServedWhole model = (number : ℕ) (action : ActionTree) → slice_get model.actions number ≡ Some action → IsServed model number action
