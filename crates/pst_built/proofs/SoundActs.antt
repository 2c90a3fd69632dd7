-- In a sound model the actions that are read have state pools for their states, and for nothing else.
use Rattle.std.proofs.Common.{◌≡◌, ◌≢◌, ℕ, zero, suc, List, [], ◌∷◌, ◌++◌, map, length, Bool, true, false, nat_eq, ◌&&◌, if◌then◌else◌, Option, Some, None, is_some, All, refl, sym, ap, ◌∙◌, subst, inl, inr, ⊎_elim}
use Rattle.std.specs.Prelude.{slice_get}
use Rattle.std.specs.List.{enumerate_from, filter}
use Rattle.std.specs.Option.{option_map, option_and_then, unwrap_or, IsSomeAnd}
use Rattle.std.proofs.lemmas.List.Elements.{All-get_or}
use Rattle.std.proofs.lemmas.Option.{none-some, same_Some, slice_get-map, slice_get_within, get_or_from_slice_get}
use Rattle.std.proofs.lemmas.Bool.{false≢true, not-true, and_parts, eqb-true}
use Rattle.pst_base.specs.declared.table.NameId.{NameId}
use Rattle.pst_model.specs.declared.action.Reference.{Reference}
use Rattle.pst_model.specs.declared.model.Part.{Part}
use Rattle.pst_model.specs.declared.model.Pool.{Pool}
use Rattle.pst_model.specs.declared.model.Serve.{Serve}
use Rattle.pst_model.specs.declared.object.ObjectKind.{ObjectKind}
use Rattle.pst_model.specs.declared.object.ObjectKind.TheVariants.{Buffer, Stream, State, Resource}
use Rattle.pst_model.specs.ModelTree.{ModelTree, ActionTree, ObjectTree, ContentTree, Atomic, Compound}
use Rattle.pst_model.specs.Served.{objects_of, is_entry, pool_in, IsSoundServe, IsAtomic}
use Rattle.pst_model.specs.Sound.{IsSoundAction, IsSound}
use Rattle.pst_scen.specs.declared.act.Act.{Act}
use Rattle.pst_scen.specs.declared.act.Filled.{Filled}
use Rattle.pst_scen.specs.declared.act.Link.{Link}
use Rattle.pst_scen.specs.declared.act.Link.TheVariants as link
use Rattle.pst_scen.specs.declared.scenario.Scenario.{Scenario}
use Rattle.pst_scen.specs.Scenarios.{reference_at}
use Rattle.pst_scen.specs.declared.act.Flow.TheVariants.{BufferIn}
use Rattle.pst_legal.specs.Types.{type_of, same_kind, has_kind, is_state_pool, same_name, is_under, action_instances, served, flow_of, reference_flow}
use Rattle.pst_legal.specs.Growing.{open_act, open_reference, open_references}
use Rattle.pst_legal.specs.SupplyReading.{Spot, Source, Initially, From, New, is_state, is_stream, is_inferable, put_link, linked_to, supplied_by}
use Rattle.pst_built.proofs.Bares.{Bare, bare, bares_in, bares, bare_at, bare_from, put_bare, bares_put}
use Rattle.pst_built.proofs.Parents.{get_more}
use Rattle.pst_built.proofs.Members.{In, in_get, in_map, in_filter, in_numbered}
use Rattle.pst_built.proofs.Opens.{bare_cases, bares_push}
use Rattle.pst_built.proofs.Links.{put_still, put_cases}
use Rattle.pst_built.proofs.Spots.{IsNew, Suits}
use Rattle.pst_built.proofs.Linking.{IsTurn}
use Rattle.pst_built.proofs.Supply.{reference_more, reference_last}

-- ---- elements of which a fact holds

pub all_get : {A : Type 0} (P : A → Type 0) (xs : List A) (k : ℕ) (x : A) → All P xs → slice_get xs k ≡ Some x → P x
all_get P xs k x all is = subst P (get_or_from_slice_get xs k x x is) (All-get_or P xs k x (slice_get_within xs k x is) all)

pub in_place : {A : Type 0} (xs : List A) (x : A) → In x xs → (k : ℕ) × (slice_get xs k ≡ Some x)
in_place [] x has = absurd has
in_place (y ∷ ys) x (inl e) = (zero, ap Some e)
in_place (y ∷ ys) x (inr has) = let r = in_place ys x has in (suc r.0, r.1)

pub all_in : {A : Type 0} (P : A → Type 0) (xs : List A) (x : A) → All P xs → In x xs → P x
all_in P xs x all has = let k = in_place xs x has in all_get P xs k.0 x all k.1

-- ---- instances

name_of : ℕ → NameId
name_of n = record { 0 = n }

same_names : (a b : NameId) → same_name a b ≡ true → a ≡ b
unfolding name_of
same_names a b e = ap name_of (eqb-true a.0 b.0 e)

-- an instance of an action's component
instance_is : (m : ModelTree) (type : ActionTree) (top : Option ℕ) (instance : ℕ) → In instance (action_instances m (Some type) top) → (part : Part) × (slice_get m.instances instance ≡ Some part) × (part.component ≡ type.component)
instance_is m type top instance has =
    let test : ℕ × Part → Bool = λ e. same_name e.1.component type.component && is_under m top e.0 in
    let i = in_map (λ (e : ℕ × Part). e.0) (filter test (enumerate_from 0 m.instances)) instance has in
    let e = i.0 in
    let f = in_filter test (enumerate_from 0 m.instances) e i.1 in
    let at : slice_get m.instances instance ≡ Some e.1 = subst (λ k. slice_get m.instances k ≡ Some e.1) i.2 (in_numbered m.instances e f.0) in
    (e.1, at, same_names e.1.component type.component (and_parts (same_name e.1.component type.component) (is_under m top e.0) f.1).0)

-- ---- served references

by_entry : (served : List Serve) (action instance reference p : ℕ) (s : Serve) → (test : Bool) → is_entry action instance reference s ≡ test
    → (if test then Some s.pool else pool_in served action instance reference) ≡ Some p
    → (pool_in served action instance reference ≡ Some p → (t : Serve) × In t served × (is_entry action instance reference t ≡ true) × (t.pool ≡ p))
    → (t : Serve) × In t (s ∷ served) × (is_entry action instance reference t ≡ true) × (t.pool ≡ p)
by_entry served action instance reference p s true is e rest = (s, inl refl, is, same_Some s.pool p e)
by_entry served action instance reference p s false is e rest = let r = rest e in (r.0, inr r.1, r.2, r.3)

entry_of : (served : List Serve) (action instance reference p : ℕ) → pool_in served action instance reference ≡ Some p → (t : Serve) × In t served × (is_entry action instance reference t ≡ true) × (t.pool ≡ p)
entry_of [] action instance reference p e = absurd (none-some p e)
entry_of (s ∷ more) action instance reference p e = by_entry more action instance reference p s (is_entry action instance reference s) refl e (entry_of more action instance reference p)

pub some_and : {A : Type 0} (o : Option A) (P : A → Type 0) → IsSomeAnd o P → (x : A) × (o ≡ Some x) × P x
some_and None P holds = absurd holds
some_and (Some x) P holds = (x, refl, holds)

some_of : {A : Type 0} (o : Option A) → is_some o ≡ true → (x : A) × (o ≡ Some x)
some_of None e = absurd (false≢true e)
some_of (Some x) e = (x, refl)

-- the pool's objects are of the reference's type
pub served_pool : (m : ModelTree) → IsSound m → (action instance reference p : ℕ) (type : ActionTree) → type_of m action ≡ Some type → pool_in m.served action instance reference ≡ Some p
    → (pool : Pool) × (slice_get m.pools p ≡ Some pool) × (slice_get (objects_of type) reference ≡ Some pool.object)
served_pool m sound action instance reference p type is e =
    let t = entry_of m.served action instance reference p e in
    let s = t.0 in
    let parts = and_parts (nat_eq s.action action) (nat_eq s.instance instance && nat_eq s.reference reference) t.2 in
    let more = and_parts (nat_eq s.instance instance) (nat_eq s.reference reference) parts.1 in
    let whole = all_in (IsSoundServe m) m.served s sound.served t.1 in
    let a = some_and (slice_get m.actions s.action) (λ (x : ActionTree). IsSomeAnd (slice_get m.pools s.pool) (λ pool. slice_get (objects_of x) s.reference ≡ Some pool.object)) whole.pool in
    let q = some_and (slice_get m.pools s.pool) (λ (pool : Pool). slice_get (objects_of a.0) s.reference ≡ Some pool.object) a.2 in
    let same : a.0 ≡ type = same_Some a.0 type (sym a.1 ∙ subst (λ k. slice_get m.actions k ≡ Some type) (sym (eqb-true s.action action parts.0)) is) in (
      q.0,
      subst (λ k. slice_get m.pools k ≡ Some q.0) t.3 q.1,
      subst (λ k. slice_get (objects_of type) k ≡ Some q.0.object) (eqb-true s.reference reference more.1) (subst (λ (v : ActionTree). slice_get (objects_of v) s.reference ≡ Some q.0.object) same q.2),
    )

by_kind : (kind : ObjectKind) (output : Bool) → kind ≢ Resource → same_kind kind State ≡ is_state (unwrap_or (flow_of kind output) BufferIn)
by_kind Buffer true other = refl
by_kind Buffer false other = refl
by_kind Stream true other = refl
by_kind Stream false other = refl
by_kind State true other = refl
by_kind State false other = refl
by_kind Resource output other = absurd (other refl)

-- ---- actions

-- a reference has a state pool exactly where it is of a state
abbrev pub IsPooled : ModelTree → Bare → Type 0
IsPooled m x = is_state_pool m x.pool ≡ is_state x.flow

abbrev pub IsPooledRow : ModelTree → List Bare → Type 0
IsPooledRow m row = (r : ℕ) (x : Bare) → slice_get row r ≡ Some x → IsPooled m x

abbrev pub ArePooled : ModelTree → List (List Bare) → Type 0
ArePooled m rows = (a r : ℕ) (x : Bare) → bare_at rows a r ≡ Some x → IsPooled m x

-- an action of a type that is atomic and not abstract, in an instance of its component
pub record IsConcrete (m : ModelTree) (action instance : ℕ) : Type 0 where
  pub type : ActionTree
  pub is : type_of m action ≡ Some type
  pub atomic : IsAtomic type.content
  pub concrete : type.is_abstract ≡ false
  pub top : Option ℕ
  pub inside : In instance (action_instances m (Some type) top)

module _ (m : ModelTree) (sound : IsSound m) (action instance : ℕ) (is : IsConcrete m action instance) where
  reference_pooled : (k : ℕ) (reference : Reference) → slice_get is.type.references k ≡ Some reference → IsPooled m (bare (open_reference m action instance (k, reference)))
  reference_pooled k reference at =
      let part = instance_is m is.type is.top instance is.inside in
      let l = slice_get_within is.type.references k reference at in
      let in_objects : slice_get (objects_of is.type) k ≡ Some reference.object =
      get_more (map (λ (r : Reference). r.object) is.type.references) _ k reference.object (slice_get-map (λ (r : Reference). r.object) is.type.references k ∙ ap (option_map (λ (r : Reference). r.object)) at) in
      let pool = some_of (pool_in m.served action instance k) (sound.whole action is.type is.is is.atomic is.concrete instance part.0 part.1 part.2 k (slice_get_within (objects_of is.type) k reference.object in_objects)) in
      let from = served_pool m sound action instance k pool.0 is.type is.is pool.1 in
      let same : from.0.object ≡ reference.object = same_Some from.0.object reference.object (sym from.2 ∙ in_objects) in
      let action_is = all_get (IsSoundAction m) m.actions action is.type sound.actions is.is in
      let object = some_and (slice_get m.objects reference.object) (λ (o : ObjectTree). o.kind ≢ Resource) (all_get (λ (r : Reference). IsSomeAnd (slice_get m.objects r.object) (λ object. object.kind ≢ Resource)) is.type.references k reference action_is.references at) in
      let first : is_state_pool m (unwrap_or (served m action instance k) 0) ≡ same_kind object.0.kind State =
      ap (λ (p : Option ℕ). is_state_pool m (unwrap_or p 0)) pool.1
      ∙ ap (λ (p : Option Pool). has_kind State (option_and_then (λ q. slice_get m.objects q.object) p)) from.1
      ∙ ap (λ n. has_kind State (slice_get m.objects n)) same
      ∙ ap (has_kind State) object.1 in
      let second : is_state (unwrap_or (reference_flow m reference) BufferIn) ≡ is_state (unwrap_or (flow_of object.0.kind reference.output) BufferIn) =
      ap (λ (o : Option ObjectTree). is_state (unwrap_or (option_and_then (λ q. flow_of q.kind reference.output) o) BufferIn)) object.1 in
      first ∙ by_kind object.0.kind reference.output object.2 ∙ sym second

  by_type : (type : Option ActionTree) → type ≡ Some is.type → IsPooledRow m (map bare (open_references m action instance type))
  by_type None e r x at = absurd (none-some is.type e)
  by_type (Some type) e r x at =
      let numbered = enumerate_from 0 type.references in
      let i = in_map bare (map (open_reference m action instance) numbered) x (in_get (map bare (map (open_reference m action instance) numbered)) r x at) in
      let j = in_map (open_reference m action instance) numbered i.0 i.1 in
      let same : type ≡ is.type = same_Some type is.type e in
      let k = subst (λ (v : ActionTree). slice_get v.references j.0.0 ≡ Some j.0.1) same (in_numbered type.references j.0 j.1) in
      subst (IsPooled m) (ap bare j.2 ∙ i.2) (reference_pooled j.0.0 j.0.1 k)

  pub act_is_pooled : (node : Option ℕ) → IsPooledRow m (bares_in (open_act m action instance node))
  act_is_pooled at = by_type (type_of m action) is.is

-- an action that is inferred is concrete
inferable_is : (type : ActionTree) (content : ContentTree) → is_inferable type content ≡ true → IsAtomic content × (type.is_abstract ≡ false)
inferable_is type (Atomic body) e = (tt, not-true type.is_abstract e)
inferable_is type (Compound activity) e = absurd (false≢true e)

new_is_concrete : (m : ModelTree) (s : Scenario) (need : Spot) (action instance q : ℕ) → IsNew m s need action instance q → IsConcrete m action instance
new_is_concrete m s need action instance q new =
    let i = inferable_is new.type new.type.content new.inferable in
    record { type = new.type; is = new.is; atomic = i.0; concrete = i.1; top = None; inside = new.inside }

-- ---- what keeps it

pub pooled_push : (m : ModelTree) (rows : List (List Bare)) (row : List Bare) → ArePooled m rows → IsPooledRow m row → ArePooled m (rows ++ row ∷ [])
pooled_push m rows row pooled more a r x is = ⊎_elim (λ old. pooled a r x old) (λ new. more r x new.1) (bare_cases rows row a r x is)

pooled_put : (m : ModelTree) (rows : List (List Bare)) (a r : ℕ) (x : Bare) (to : Link) → ArePooled m rows → bare_at rows a r ≡ Some x → ArePooled m (put_bare a r to rows)
pooled_put m rows a r x to pooled is b q y at = ⊎_elim (λ new. subst (IsPooled m) new.2 (pooled a r x is)) (λ old. pooled b q y old.1) (put_cases rows a r to x b q y is at)

module _ (m : ModelTree) (acts : List Act) (need : Spot) (b q : ℕ) (source : Filled) (at : reference_at acts need.act need.reference ≡ Some need.filled) (is : reference_at acts b q ≡ Some source)
    (pooled : ArePooled m (bares acts)) where
  once : ArePooled m (put_bare need.act need.reference (link.Act b q) (bares acts))
  once = pooled_put m (bares acts) need.act need.reference (bare need.filled) (link.Act b q) pooled (bare_from acts need.act need.reference need.filled at)

  twice : ArePooled m (put_bare b q (link.Act need.act need.reference) (put_bare need.act need.reference (link.Act b q) (bares acts)))
  twice =
      let still = put_still (bares acts) need.act need.reference (link.Act b q) b q (bare source) (bare_from acts b q source is) in
      pooled_put m (put_bare need.act need.reference (link.Act b q) (bares acts)) b q still.now (link.Act need.act need.reference) once still.is

  by_stream : (test : Bool)
      → ArePooled m (bares (if test then put_link b q (link.Act need.act need.reference) (put_link need.act need.reference (link.Act b q) acts) else put_link need.act need.reference (link.Act b q) acts))
  by_stream true =
      subst (ArePooled m)
      (ap (put_bare b q (link.Act need.act need.reference)) (sym (bares_put need.act need.reference (link.Act b q) acts))
      ∙ sym (bares_put b q (link.Act need.act need.reference) (put_link need.act need.reference (link.Act b q) acts))) twice
  by_stream false = subst (ArePooled m) (sym (bares_put need.act need.reference (link.Act b q) acts)) once

  pooled_linked : ArePooled m (bares (linked_to need b q acts))
  pooled_linked = by_stream (is_stream need.filled.flow)

-- each source of a need keeps it
pub pooled_supplied : (m : ModelTree) → IsSound m → (s : Scenario) (need : Spot) (source : Source) → ArePooled m (bares s.actions) → IsTurn s.actions need → Suits m s need source
    → ArePooled m (bares (supplied_by m s need source).actions)
pooled_supplied m sound s need Initially pooled turn suit =
    subst (ArePooled m) (sym (bares_put need.act need.reference link.Initial s.actions))
    (pooled_put m (bares s.actions) need.act need.reference (bare need.filled) link.Initial pooled (bare_from s.actions need.act need.reference need.filled turn.at))
pooled_supplied m sound s need (From b q) pooled turn suit = pooled_linked m s.actions need b q suit.0 turn.at suit.1 pooled
pooled_supplied m sound s need (New action instance q) pooled turn suit =
    let act = open_act m action instance None in
    pooled_linked m (s.actions ++ act ∷ []) need (length s.actions) q suit.filled
    (reference_more s.actions act need.act need.reference need.filled turn.at)
    (reference_last s.actions act q ∙ suit.at)
    (subst (ArePooled m) (sym (bares_push s.actions act))
    (pooled_push m (bares s.actions) (bares_in act) pooled (act_is_pooled m sound action instance (new_is_concrete m s need action instance q suit) None)))
