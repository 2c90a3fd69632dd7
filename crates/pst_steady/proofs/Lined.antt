-- The activity that comes to an action is the one that it has.
use Rattle.std.proofs.Common.{◌≡◌, ◌⊎◌, inl, inr, ℕ, ◌+◌, ◌<◌, Bool, true, false, List, [], ◌∷◌, length, Option, refl, sym, ap, subst, ◌∙◌, arith, true≢false}
use Rattle.std.specs.Prelude.{Some, None, IsSome, IsTrue, is_some, slice_get, ◌↔◌}
use Rattle.std.specs.HashMap.{HashMap, get}
use Rattle.std.specs.List.{flat_map}
use Rattle.std.specs.Option.{option_and_then, option_map_or}
use Rattle.pst_base.specs.declared.table.NameId.{NameId}
use Rattle.pst_ast.specs.ActivityTree.{StatementTree}
use Rattle.pst_ast.specs.DeclarationTree.{UnitTree}
use Rattle.pst_ast.specs.declared.scope_declaration.Declaration.{Declaration}
use Rattle.pst_ast.specs.Declarations.{declarations}
use Rattle.pst_ast.specs.Lookups.{base_of}
use Rattle.pst_type_rules.specs.Handles.{traversals, IsSteady, IsSteadyIn}
use Rattle.pst_type_rules.specs.Members.{activities_of, bodies_of, IsCompound, Own, Inherited}
use Rattle.pst_type_rules.specs.Sites.{DeclaredAction, action_at}
use Rattle.pst_traversals.specs.declared.tally.TallyKey.{TallyKey}
use Rattle.pst_traversals.specs.Own.{first_in, has_any, own_activity, has_body}
use Rattle.pst_traversals.specs.Tallied.{same_key, name_in, own_traversals, tally, tally_of}
use Rattle.pst_traversals.proofs.Alone.{once, once_too}
use Rattle.pst_steady.specs.declared.reach.Seed.{Seed}
use Rattle.pst_steady.specs.declared.reach.Seed.TheVariants as seed
use Rattle.pst_steady.specs.Numbered.{AreBases, numbered}
use Rattle.pst_steady.specs.Reached.{Reaches, Here, On, value_at, AreReached}
use Rattle.pst_steady.specs.Seeded.{IsSeed, AreSeeds}
use Rattle.pst_steady.specs.Lined.{AreLined, is_once}
use Rattle.pst_steady.proofs.Lists.{some_is, no_some, there_is, within}

pub first_none : {X : Type 0} (xs : List X) → first_in xs ≡ None → xs ≡ []
first_none [] e = refl
first_none (x ∷ xs) e = absurd (no_some (sym e))

pub first_some : {X : Type 0} (xs : List X) (x : X) → first_in xs ≡ Some x → (more : List X) × (xs ≡ x ∷ more)
first_some [] x e = absurd (no_some e)
first_some (y ∷ xs) x e = (xs, ap (λ (z : _). z ∷ xs) (some_is e))

pub any_none : {X : Type 0} (xs : List X) → has_any xs ≡ false → xs ≡ []
any_none [] e = refl
any_none (x ∷ xs) e = absurd (true≢false e)

pub some_of : {X : Type 0} (o : Option X) → IsSome o → (x : X) × (o ≡ Some x)
some_of None is = absurd (true≢false (sym is))
some_of (Some x) is = (x, refl)

-- an action's activity, by the list of those with one
pub record Has (units : List UnitTree) (actions : List DeclaredAction) (d : Declaration) (k : ℕ) : Type 0 where
  pub action : DeclaredAction
  pub statements : List StatementTree
  pub there : slice_get actions k ≡ Some action
  pub own : own_activity action ≡ Some statements
  pub compound : IsCompound units d statements

module _ (units : List UnitTree) (actions : List DeclaredAction) (seeds : List Seed) (bases : List (Option ℕ))
    (are_bases : AreBases (declarations units) bases) (are_seeds : AreSeeds units (declarations units) (length (declarations units)) actions seeds) where
  abbrev ds : List Declaration
  ds = declarations units

  seed_there : (i k : ℕ) → Reaches seeds bases i k → i < length ds
  seed_there i k (Here a b own) = subst (λ (n : ℕ). i < n) are_seeds.long (within seeds i (seed.Own k) own)
  seed_there i k (On a j b takes led on) = subst (λ (n : ℕ). i < n) are_seeds.long (within seeds i seed.Inherit takes)

  pub has : (i k : ℕ) (d : Declaration) → slice_get ds i ≡ Some d → Reaches seeds bases i k → Has units actions d k
  has i k d at (Here a b own) =
      let is = are_seeds.each i d (seed.Own k) at own in
      let s = some_of (own_activity is.is) is.active in
      let more = first_some (activities_of is.is) s.0 s.1 in
      record { action = is.is; statements = s.0; there = is.there; own = s.1; compound = Own d is.is s.0 more.0 is.found more.1 }
  has i k d at (On a j b takes led on) =
      let is = are_seeds.each i d seed.Inherit at takes in
      let e = there_is ds j (seed_there j k on) in
      let base : base_of ds d ≡ Some e.0 = sym (are_bases.each i d (Some j) at led) ∙ e.1 in
      let h = has j k e.0 e.1 on in
      record {
        action = h.action;
        statements = h.statements;
        there = h.there;
        own = h.own;
        compound = Inherited d e.0 is.is h.statements is.found (first_none (activities_of is.is) is.without) (any_none (bodies_of is.is) is.bodiless) base h.compound;
      }

  abbrev Comes : ℕ → List StatementTree → Type 0
  Comes i s = (k : ℕ) × Reaches seeds bases i k × ((a : DeclaredAction) × (slice_get actions k ≡ Some a) × (own_activity a ≡ Some s))

  own_comes : (i : ℕ) (d : Declaration) (a : DeclaredAction) (s : List StatementTree) (t : Seed) → slice_get seeds i ≡ Some t → action_at units d.name.place ≡ Some a → own_activity a ≡ Some s
      → IsSeed (action_at units d.name.place) actions t → Comes i s
  own_comes i d a s (seed.Own k) there found own is =
      let same : is.is ≡ a = some_is (sym is.found ∙ found) in
      (k, Here i k there, (is.is, is.there, ap own_activity same ∙ own))
  own_comes i d a s seed.Stop there found own is = absurd (idle (subst (λ (o : Option DeclaredAction). IsSeed o actions seed.Stop) found is))
    where
      idle : (own_activity a ≡ None) × (has_body a ≡ true) → ⊥
      idle h = no_some (sym h.0 ∙ own)
  own_comes i d a s seed.Inherit there found own is =
      let same : is.is ≡ a = some_is (sym is.found ∙ found) in
      absurd (no_some (sym is.without ∙ (ap own_activity same ∙ own)))

  base_led : (i : ℕ) (d b : Declaration) (o : Option ℕ) → numbered ds o ≡ Some b → slice_get bases i ≡ Some o → (j : ℕ) × (slice_get bases i ≡ Some (Some j)) × (slice_get ds j ≡ Some b)
  base_led i d b None is at = absurd (no_some is)
  base_led i d b (Some j) is at = (j, at, is)

  taken : (i : ℕ) (d : Declaration) (a : DeclaredAction) (t : Seed) → slice_get seeds i ≡ Some t → action_at units d.name.place ≡ Some a → activities_of a ≡ [] → bodies_of a ≡ []
      → IsSeed (action_at units d.name.place) actions t → slice_get seeds i ≡ Some seed.Inherit
  taken i d a (seed.Own k) there found none bodiless is =
      let same : is.is ≡ a = some_is (sym is.found ∙ found) in
      let s = some_of (own_activity is.is) is.active in
      absurd (no_some (sym (ap own_activity same ∙ ap first_in none) ∙ s.1))
  taken i d a seed.Stop there found none bodiless is = absurd (idle (subst (λ (o : Option DeclaredAction). IsSeed o actions seed.Stop) found is))
    where
      idle : (own_activity a ≡ None) × (has_body a ≡ true) → ⊥
      idle h = true≢false (sym h.1 ∙ ap has_any bodiless)
  taken i d a seed.Inherit there found none bodiless is = there

  pub comes : (i : ℕ) (d : Declaration) (s : List StatementTree) → slice_get ds i ≡ Some d → IsCompound units d s → Comes i s
  comes i d s at (Own e a t more found acts) =
      let seed_at = there_is seeds i (subst (λ (n : ℕ). i < n) (sym are_seeds.long) (within ds i d at)) in
      own_comes i d a s seed_at.0 seed_at.1 found (ap first_in acts) (are_seeds.each i d seed_at.0 at seed_at.1)
  comes i d s at (Inherited e base a t found none bodiless led comp) =
      let seed_at = there_is seeds i (subst (λ (n : ℕ). i < n) (sym are_seeds.long) (within ds i d at)) in
      let base_at = there_is bases i (subst (λ (n : ℕ). i < n) (sym are_bases.long) (within ds i d at)) in
      let j = base_led i d base base_at.0 (are_bases.each i d base_at.0 at base_at.1 ∙ led) base_at.1 in
      let on = comes j.0 base s j.2 comp in
      (on.0, On i j.0 on.0 (taken i d a seed_at.0 seed_at.1 found none bodiless (are_seeds.each i d seed_at.0 at seed_at.1)) j.1 on.1, on.2)

-- ---- by the tallies

once_true : (o : Option Bool) → is_once o ≡ true → o ≡ Some true
once_true None e = absurd (true≢false (sym e))
once_true (Some true) e = refl
once_true (Some false) e = absurd (true≢false (sym e))

key : ℕ → NameId → TallyKey
key k h = record { action = k; handle = h.0 }

module _ {S : Type 0} (units : List UnitTree) (bases values : List (Option ℕ)) (tallies : HashMap TallyKey Bool S) (lined : AreLined units bases values tallies) where
  tally_is : (k : ℕ) (h : NameId) (a : DeclaredAction) (s : List StatementTree) → slice_get lined.actions k ≡ Some a → own_activity a ≡ Some s → get same_key tallies (record { action = k; handle = h.0 }) ≡ tally (flat_map (traversals h false) s)
  tally_is k h a s there own =
      lined.tallied (record { action = k; handle = h.0 })
      ∙ (ap (λ (o : Option DeclaredAction). option_and_then (λ b. tally (own_traversals h b)) o) there
      ∙ ap (λ (o : Option (List StatementTree)). tally (option_map_or (flat_map (traversals h false)) o [])) own)

  pub steady_to : (i k : ℕ) (d : Declaration) (h : NameId) → slice_get (declarations units) i ≡ Some d → value_at values i ≡ Some k → is_once (get same_key tallies (record { action = k; handle = h.0 })) ≡ true → IsSteadyIn units d h
  steady_to i k d h at value is =
      let p = has units lined.actions lined.seeds bases lined.bases_are lined.seeds_are i k d at ((lined.reached i k).0 value) in
      record {
        statements = p.statements;
        compound = p.compound;
        steady = once (flat_map (traversals h false) p.statements) (sym (tally_is k h p.action p.statements p.there p.own) ∙ once_true (get same_key tallies (record { action = k; handle = h.0 })) is);
      }

  pub steady_from : (i : ℕ) (d : Declaration) (h : NameId) → slice_get (declarations units) i ≡ Some d → IsSteadyIn units d h → (k : ℕ) × (value_at values i ≡ Some k) × (is_once (get same_key tallies (record { action = k; handle = h.0 })) ≡ true)
  steady_from i d h at is =
      let c = comes units lined.actions lined.seeds bases lined.bases_are lined.seeds_are i d is.statements at is.compound in
      (c.0, (lined.reached i c.0).1 c.1, ap is_once (tally_is c.0 h c.2.0 is.statements c.2.1 c.2.2 ∙ once_too (flat_map (traversals h false) is.statements) is.steady))

  pub by_none : (i : ℕ) (d : Declaration) (h : NameId) → slice_get (declarations units) i ≡ Some d → value_at values i ≡ None → (IsTrue false → IsSteadyIn units d h) × (IsSteadyIn units d h → IsTrue false)
  by_none i d h at none = ((λ e. absurd (true≢false (sym e))), λ is. let k = steady_from i d h at is in absurd (no_some (sym none ∙ k.1)))

  pub by_value : (i : ℕ) (d : Declaration) (h : NameId) → slice_get (declarations units) i ≡ Some d → (k : ℕ) → value_at values i ≡ Some k → (so : Bool) → so ≡ is_once (get same_key tallies (record { action = k; handle = h.0 }))
      → (IsTrue so → IsSteadyIn units d h) × (IsSteadyIn units d h → IsTrue so)
  by_value i d h at k value so is = (
    (λ e. steady_to i k d h at value (sym is ∙ e)),
    λ st. let m = steady_from i d h at st in
        is ∙ (ap (λ (n : ℕ). is_once (get same_key tallies (record { action = n; handle = h.0 }))) (some_is (sym value ∙ m.1)) ∙ m.2),
  )
