-- The counts of types with their bases.
use Rattle.std.proofs.Common.{◌≡◌, ◌⊎◌, inl, inr, ⊎_elim, ℕ, suc, ◌+◌, ◌<◌, Bool, true, false, ◌||◌, List, [], ◌∷◌, ◌++◌, map, length, nat_lt, set, get_or, Option, refl, sym, ap, subst, ◌∙◌, arith, true≢false}
use Rattle.std.specs.Prelude.{Some, None, is_some, slice_get, slice_index_or, IsTrue, if◌then◌else◌}
use Rattle.std.specs.Option.{option_map, unwrap_or}
use Rattle.std.proofs.lemmas.List.{get_or-set_same, get_or-set_other}
use Rattle.std.proofs.lemmas.Bool.Decides.{eqb_tells}
use Rattle.pst_ast.specs.ActivityTree.{StatementTree}
use Rattle.pst_ast.specs.BodyTree.{BodyTree}
use Rattle.pst_ast.specs.declared.scope_declaration.Declaration.{Declaration}
use Rattle.pst_ast.specs.Lookups.{base_of}
use Rattle.pst_type_rules.specs.Members.{AreMembers, WithoutBase, WithBase, Own, Inherited, own_members, activities_of, bodies_of, IsTwofold, TwoActivities, TwoBodies, ActivityAndBody, TwofoldBase}
use Rattle.pst_type_rules.specs.Sites.{DeclaredAction, action_at}
use Rattle.pst_declaration_rules.specs.declared.counted.Kind.{Kind}
use Rattle.pst_declaration_rules.specs.declared.counted.Kind.TheVariants.{Claim, Field, Reference}
use Rattle.pst_declaration_rules.specs.declared.member.Member.{Member}
use Rattle.pst_declaration_rules.specs.declared.sources.TypeSources.{TypeSources}
use Rattle.pst_declaration_rules.specs.declared.tally.Tally.{Tally}
use Rattle.pst_declaration_rules.specs.Counted.{most_of, plus, total, weight}
use Rattle.pst_declaration_rules.specs.Judged.{own_of, shape_in}
use Rattle.pst_declaration_rules.specs.Shapes.{is_compound, is_twofold, shape_of}
use Rattle.pst_declaration_rules.specs.Tallies.{nothing, with_own}
use Rattle.pst_declaration_rules.specs.Tallied.{AreInherited, AreKnown, AreTallied, BaseHas, HasActivity, IsStart, IsTallied, NoBase, OfBase, adding, units_of}

pub some_is : {A : Type 0} (x y : A) → Some x ≡ Some y → x ≡ y
some_is x y e = ap (λ o. unwrap_or o x) e

pub none_is_some : {A : Type 0} (x : A) → None ≡ Some x → ⊥
none_is_some x e = true≢false (sym (ap is_some e))

-- ---- starts

pub start_nothing : (k : TypeSources) (d : Declaration) → base_of k.index.now d ≡ None → IsStart k d nothing
start_nothing k d is = record {
  members = [];
  are = NoBase is;
  totals = record { references = refl; claims = refl; fields = refl };
  compound = (λ e. absurd (true≢false (sym e)), λ (has : BaseHas k d (HasActivity k)). absurd (none_is_some has.0 (sym is ∙ has.1)));
  twofold = (λ e. absurd (true≢false (sym e)), λ (has : BaseHas k d (IsTwofold (units_of k))). absurd (none_is_some has.0 (sym is ∙ has.1)));
}

pub start_kept : (k : TypeSources) (d base : Declaration) (t : Tally) → base_of k.index.now d ≡ Some base → IsTallied k base t → IsStart k d t
start_kept k d base t is it = record {
  members = it.members;
  are = OfBase base it.members is it.are;
  totals = it.totals;
  compound = (λ so. (base, is, it.compound.0 so), λ (has : BaseHas k d (HasActivity k)). it.compound.1 (subst (HasActivity k) (some_is has.0 base (sym has.1 ∙ is)) has.2));
  twofold = (λ so. (base, is, it.twofold.0 so), λ (has : BaseHas k d (IsTwofold (units_of k))). it.twofold.1 (subst (IsTwofold (units_of k)) (some_is has.0 base (sym has.1 ∙ is)) has.2));
}

-- ---- totals

pub total_append : (k : Kind) (sum : Option ℕ) (xs ys : List Member) → total k sum (xs ++ ys) ≡ total k (total k sum xs) ys
total_append k sum [] ys = refl
total_append k sum (x ∷ xs) ys = total_append k (plus (most_of k) sum (weight k x)) xs ys

pub map_both : {X Y : Type 0} (f : X → Y) (xs ys : List X) → map f (xs ++ ys) ≡ map f xs ++ map f ys
map_both f [] ys = refl
map_both f (x ∷ xs) ys = ap (λ zs. f x ∷ zs) (map_both f xs ys)

pub total_of_both : (k : Kind) (f : Declaration → Member) (start : Option ℕ) (xs ys : List Declaration) → start ≡ total k (Some 0) (map f xs) → total k start (map f ys) ≡ total k (Some 0) (map f (xs ++ ys))
total_of_both k f start xs ys is =
    ap (λ (n : Option ℕ). total k n (map f ys)) is
    ∙ (sym (total_append k (Some 0) (map f xs) (map f ys)) ∙ ap (total k (Some 0)) (sym (map_both f xs ys)))

-- ---- activities

pub positive : (n : ℕ) → nat_lt 0 (suc n) ≡ true
positive n = grind arith

module _ (k : TypeSources) (known : AreKnown k) (d : Declaration) (inherited : Bool) (bases : (IsTrue inherited → BaseHas k d (HasActivity k)) × (BaseHas k d (HasActivity k) → IsTrue inherited)) where
  abbrev Both : Bool → Type 0
  Both b = (IsTrue b → HasActivity k d) × (HasActivity k d → IsTrue b)

  abbrev here : Option DeclaredAction
  here = action_at (units_of k) d.name.place

  no_action : here ≡ None → HasActivity k d → ⊥
  no_action is (statements, Own _ a _ more at own) = none_is_some a (sym is ∙ at)
  no_action is (statements, Inherited _ base a _ at none bare has_base has) = none_is_some a (sym is ∙ at)

  nil_is_cons : {X : Type 0} {x : X} {xs : List X} → [] ≡ x ∷ xs → ⊥
  nil_is_cons e = absurd (omega (arith, ap length e))

  compound_first : (n m : ℕ) → is_compound (Some (record { activities = suc n; bodies = m })) inherited ≡ true
  compound_first n m = ap (λ (b : Bool). if b then true else (if nat_lt 0 m then false else inherited)) (positive n)

  compound_second : (n : ℕ) → is_compound (Some (record { activities = 0; bodies = suc n })) inherited ≡ false
  compound_second n = ap (λ (b : Bool). if b then false else inherited) (positive n)

  by_lists : (a : DeclaredAction) (activities : List (List StatementTree)) (bodies : List BodyTree) → here ≡ Some a → activities_of a ≡ activities → bodies_of a ≡ bodies
      → Both (is_compound (Some (record { activities = length activities; bodies = length bodies })) inherited)
  by_lists a (x ∷ more) bodies at are bare = subst Both (sym (compound_first (length more) (length bodies))) (λ e. (x, Own d a x more at are), λ has. refl)
  by_lists a [] (b ∷ more) at are bare = subst Both (sym (compound_second (length more))) (λ e. absurd (true≢false (sym e)), λ has. absurd (neither has))
    where
      neither : HasActivity k d → ⊥
      neither (statements, Own _ a2 _ rest at2 own) = nil_is_cons (sym are ∙ (ap activities_of (some_is a a2 (sym at ∙ at2)) ∙ own))
      neither (statements, Inherited _ base a2 _ at2 none bare2 has_base has) = nil_is_cons (sym bare2 ∙ (ap bodies_of (some_is a2 a (sym at2 ∙ at)) ∙ bare))
  by_lists a [] [] at are bare = (to, from)
    where
      to : IsTrue inherited → HasActivity k d
      to so =
          let (base, is, (statements, has)) = bases.0 so in
          (statements, Inherited d base a statements at are bare (subst (λ (ds : List Declaration). base_of ds d ≡ Some base) known.declared is) has)

      from : HasActivity k d → IsTrue inherited
      from (statements, Own _ a2 _ rest at2 own) = absurd (nil_is_cons (sym are ∙ (ap activities_of (some_is a a2 (sym at ∙ at2)) ∙ own)))
      from (statements, Inherited _ base a2 _ at2 none bare2 has_base has) =
          bases.1 (base, subst (λ (ds : List Declaration). base_of ds d ≡ Some base) (sym known.declared) has_base, (statements, has))

  by_action : (o : Option DeclaredAction) → here ≡ o → Both (is_compound (option_map shape_of o) inherited)
  by_action None is = (λ e. absurd (true≢false (sym e)), λ has. absurd (no_action is has))
  by_action (Some a) is = by_lists a (activities_of a) (bodies_of a) is refl refl

  pub compound_so : Both (is_compound (shape_in k d) inherited)
  compound_so = by_action here refl

-- ---- two activities, two bodies, or one of each

more_than_one : (n : ℕ) → nat_lt 1 (suc (suc n)) ≡ true
more_than_one n = grind arith

module _ (k : TypeSources) (known : AreKnown k) (d : Declaration) (inherited : Bool) (bases : (IsTrue inherited → BaseHas k d (IsTwofold (units_of k))) × (BaseHas k d (IsTwofold (units_of k)) → IsTrue inherited)) where
  abbrev BothWays : Bool → Type 0
  BothWays b = (IsTrue b → IsTwofold (units_of k) d) × (IsTwofold (units_of k) d → IsTrue b)

  abbrev its_action : Option DeclaredAction
  its_action = action_at (units_of k) d.name.place

  never_so : (IsTwofold (units_of k) d → ⊥) → BothWays false
  never_so never = (λ e. absurd (true≢false (sym e)), λ has. absurd (never has))

  always_so : (b : Bool) → b ≡ true → IsTwofold (units_of k) d → BothWays b
  always_so b is has = (λ e. has, λ h. is)

  missing : its_action ≡ None → IsTwofold (units_of k) d → ⊥
  missing is (TwoActivities _ a first second more at own) = none_is_some a (sym is ∙ at)
  missing is (TwoBodies _ a first second more at own) = none_is_some a (sym is ∙ at)
  missing is (ActivityAndBody _ a activity body activities bodies at own also) = none_is_some a (sym is ∙ at)
  missing is (TwofoldBase _ base a at none bare has_base has) = none_is_some a (sym is ∙ at)

  -- two or more of its own, or those of the base
  abbrev HasTwo : DeclaredAction → Type 0
  HasTwo a = 1 < length (activities_of a) + length (bodies_of a)

  abbrev TakesTwo : DeclaredAction → Type 0
  TakesTwo a = (length (activities_of a) + length (bodies_of a) ≡ 0) × BaseHas k d (IsTwofold (units_of k))

  counted : IsTwofold (units_of k) d → (a : DeclaredAction) → its_action ≡ Some a → HasTwo a ⊎ TakesTwo a
  counted (TwoActivities _ b first second more at own) a is = inl (omega (arith, ap length (ap activities_of (some_is a b (sym is ∙ at)) ∙ own)))
  counted (TwoBodies _ b first second more at own) a is = inl (omega (arith, ap length (ap bodies_of (some_is a b (sym is ∙ at)) ∙ own)))
  counted (ActivityAndBody _ b activity body activities bodies at own also) a is =
      inl (omega (arith, ap length (ap activities_of (some_is a b (sym is ∙ at)) ∙ own), ap length (ap bodies_of (some_is a b (sym is ∙ at)) ∙ also)))
  counted (TwofoldBase _ base b at none bare has_base has) a is =
      inr (
        omega (arith, ap length (ap activities_of (some_is a b (sym is ∙ at)) ∙ none), ap length (ap bodies_of (some_is a b (sym is ∙ at)) ∙ bare)),
        (base, subst (λ (ds : List Declaration). base_of ds d ≡ Some base) (sym known.declared) has_base, has),
      )

  single : (a : DeclaredAction) → its_action ≡ Some a → length (activities_of a) + length (bodies_of a) ≡ 1 → IsTwofold (units_of k) d → ⊥
  single a at one has = ⊎_elim (λ (two : HasTwo a). absurd (omega (arith, one, two))) (λ (none : TakesTwo a). absurd (omega (arith, one, none.0))) (counted has a at)

  abbrev answer : ℕ → ℕ → Bool
  answer n m = is_twofold (Some (record { activities = n; bodies = m })) inherited

  by_first : (n m : ℕ) → answer (suc n) m ≡ (nat_lt 1 (suc n) || nat_lt 0 m)
  by_first n m = ap (λ (b : Bool). if b then nat_lt 1 (suc n) || nat_lt 0 m else (if nat_lt 0 m then nat_lt 1 m else inherited)) (positive n)

  by_second : (m : ℕ) → answer 0 (suc m) ≡ nat_lt 1 (suc m)
  by_second m = ap (λ (b : Bool). if b then nat_lt 1 (suc m) else inherited) (positive m)

  by_two : (a : DeclaredAction) (activities : List (List StatementTree)) (bodies : List BodyTree) → its_action ≡ Some a → activities_of a ≡ activities → bodies_of a ≡ bodies → BothWays (answer (length activities) (length bodies))
  by_two a (x ∷ y ∷ more) bodies at are bare =
      always_so _ (by_first (suc (length more)) (length bodies) ∙ ap (λ (b : Bool). b || nat_lt 0 (length bodies)) (more_than_one (length more))) (TwoActivities d a x y more at are)
  by_two a (x ∷ []) (b ∷ more) at are bare = always_so _ (by_first 0 (suc (length more)) ∙ positive (length more)) (ActivityAndBody d a x b [] more at are bare)
  by_two a (x ∷ []) [] at are bare = never_so (single a at (omega (arith, ap length are, ap length bare)))
  by_two a [] (b ∷ c ∷ more) at are bare = always_so _ (by_second (suc (length more)) ∙ more_than_one (length more)) (TwoBodies d a b c more at bare)
  by_two a [] (b ∷ []) at are bare = never_so (single a at (omega (arith, ap length are, ap length bare)))
  by_two a [] [] at are bare = (to, from)
    where
      to : IsTrue inherited → IsTwofold (units_of k) d
      to so = let (base, is, has) = bases.0 so in TwofoldBase d base a at are bare (subst (λ (ds : List Declaration). base_of ds d ≡ Some base) known.declared is) has

      from : IsTwofold (units_of k) d → IsTrue inherited
      from has = ⊎_elim (λ (two : HasTwo a). absurd (omega (arith, two, ap length are, ap length bare))) (λ (none : TakesTwo a). bases.1 none.1) (counted has a at)

  by_its_action : (o : Option DeclaredAction) → its_action ≡ o → BothWays (is_twofold (option_map shape_of o) inherited)
  by_its_action None is = never_so (missing is)
  by_its_action (Some a) is = by_two a (activities_of a) (bodies_of a) is refl refl

  pub twofold_so : BothWays (is_twofold (shape_in k d) inherited)
  twofold_so = by_its_action its_action refl

-- ---- one type more

module _ (k : TypeSources) (known : AreKnown k) (d : Declaration) (t : Tally) (start : IsStart k d t) where
  pub members_by : (members : List Declaration) → AreInherited k d members → AreMembers k.index.now d (members ++ own_members k.index.now d)
  members_by _ (NoBase is) = WithoutBase d is
  members_by _ (OfBase base members is are) = WithBase d base members is are

  pub tallied : IsTallied k d (with_own t (own_of k d) (shape_in k d))
  tallied = record {
    members = start.members ++ own_members k.index.now d;
    are = members_by start.members start.are;
    totals = record {
      references = total_of_both Reference (adding k) t.references start.members (own_members k.index.now d) start.totals.references;
      claims = total_of_both Claim (adding k) t.claims start.members (own_members k.index.now d) start.totals.claims;
      fields = total_of_both Field (adding k) t.fields start.members (own_members k.index.now d) start.totals.fields;
    };
    compound = compound_so k known d t.compound start.compound;
    twofold = twofold_so k known d t.twofold start.twofold;
  }

-- ---- keeping counts

same_or : (n m : ℕ) → (n ≡ m) ⊎ (n ≡ m → ⊥)
same_or n m = ⊎_elim (λ t. inl t.1) (λ f. inr f.1) (eqb_tells n m)

pub none_tallied : (k : TypeSources) (tallies : List (Option Tally)) → ((n : ℕ) → slice_index_or tallies n None ≡ None) → AreTallied k tallies
none_tallied k tallies none n m t there is = absurd (none_is_some t (sym (none n) ∙ is))

module _ (k : TypeSources) (tallies : List (Option Tally)) (are : AreTallied k tallies) (at : ℕ) (w : Tally) (within : at < length tallies)
    (right : (m : Member) → slice_get k.members.now at ≡ Some m → IsTallied k m.declaration w) where
  pub keeps : AreTallied k (set tallies at (Some w))
  keeps n m t there is = ⊎_elim
      (λ same.
      let kept : Some w ≡ Some t = sym (get_or-set_same tallies at (Some w) None within) ∙ (ap (λ (i : ℕ). get_or (set tallies at (Some w)) i None) (sym same) ∙ is) in
      subst (λ (x : Tally). IsTallied k m.declaration x) (some_is w t kept) (right m (subst (λ (i : ℕ). slice_get k.members.now i ≡ Some m) same there)))
      (λ other. are n m t there (sym (get_or-set_other tallies at n (Some w) None other) ∙ is))
      (same_or n at)
