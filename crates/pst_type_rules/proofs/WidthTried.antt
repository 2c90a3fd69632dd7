-- A source with one type that is too wide: that is its first breach.
use Rattle.std.proofs.Common.{◌≡◌, inl, inr, arith, refl, sym, subst, ap, ◌∙◌, true≢false, zero, suc}
use Rattle.std.specs.Prelude.{ℕ, ◌<◌, ◌+◌, ◌≤◌, List, [], ◌∷◌, ◌++◌, length, Bool, true, false, Option, Some, None, IsTrue, if◌then◌else◌}
use Rattle.std.specs.List.{Contains, filter}
use Rattle.std.specs.Option.{option_and_then, option_map_or}
use Rattle.std.proofs.lemmas.List.{length-append}
use Rattle.pst_base.specs.declared.position.Place.{Place}
use Rattle.pst_ast.specs.ExpressionTree.{MakePart, NoIndex}
use Rattle.pst_ast.specs.SharedTree.{TypePlain}
use Rattle.pst_ast.specs.ActivityTree.{StatementTree}
use Rattle.pst_ast.specs.DeclarationTree.{UnitTree, MakeAction, ActionPartField, MakeField}
use Rattle.pst_ast.specs.declared.scope_declaration.Declaration.{Declaration}
use Rattle.pst_ast.specs.declared.scope_declaration.Scope.TheVariants.{Part}
use Rattle.pst_ast.specs.declared.environment.Environment.{Environment}
use Rattle.pst_ast.specs.declared.referent.Owner.TheVariants.{OfAction}
use Rattle.pst_ast.specs.Breaches.{IsNoLater, IsLeast}
use Rattle.pst_ast.specs.Declarations.{declarations, action_declared}
use Rattle.pst_ast.specs.Sorts.{same_place, same_scope, is_item, is_field, is_reference, is_claim}
use Rattle.pst_ast.specs.Lookups.{look_up, base_of}
use Rattle.pst_ast.specs.Uses.{Use, HasType, HasPlain, Judges, Width, environment, uses}
use Rattle.pst_type_rules.specs.Sites.{DeclaredAction, DeclaredField, action_of, action_at, field_at}
use Rattle.pst_type_rules.specs.Members.{own_members, AreMembers, WithoutBase, WithBase, activities_of, bodies_of, IsCompound, Own, Inherited, IsTwofold, TwoActivities, TwoBodies, ActivityAndBody, TwofoldBase}
use Rattle.pst_type_rules.specs.Limits.{is_parameter, is_local_of, IsLimited, Items, Parameters, Locals, References, Claims, AddsFields, One, Array, WrongArray, AddTogether, Nothing, More}
use Rattle.pst_type_rules.specs.Handles.{Mention, mentions}
use Rattle.pst_type_rules.specs.Binds.{pairs}
use Rattle.pst_type_rules.specs.TypeRules.{UseBreaks, WidthOutside, LowestNotZero, ReversedInDomain, Empty, InnerIn, NotConstant, ValueOutside, DeclarationBreaks, TooMany, ManyFields, ReferenceOfResource, ClaimOfNoResource, Twofold, CompoundWithNeed, TypeBreach, OfUse, OfEnum, OfDeclaration, Unsteady, BoundTwice}
use Rattle.pst_type_rules.specs.Tried.{on, name, number, names, bits, wide}
use Rattle.pst_type_rules.proofs.SourcesTried.{is_missing, width}

abbrev units : List UnitTree
units = wide ∷ []

abbrev action : Declaration
action = action_declared (on 1 11) None (name 1 (on 1 28))

abbrev inside : Environment
inside = environment (Some (on 1 11)) (OfAction action)

abbrev NoLater : Place → ℕ → Type 0
NoLater p r = IsNoLater (on 1 37) 9 p r

abbrev pub none_of : {A : Type 0} (x : A) → Contains [] x → ⊥
none_of x c = omega (arith, c.1)

-- ---- uses

of_type : (p : Place) (r : ℕ) → UseBreaks units names (HasType inside (TypePlain (bits 64 43) None)) p r → NoLater p r
of_type p r (ReversedInDomain _ _ range s among is below) = absurd (none_of range among)
of_type p r (Empty _ _ known none) = inr (refl, omega arith)

of_plain : (p : Place) (r : ℕ) → UseBreaks units names (HasPlain inside (bits 64 43)) p r → NoLater p r
of_plain p r (WidthOutside _ _ width w is has outside) = inr (refl, omega arith)
of_plain p r (LowestNotZero _ _ expr v is has other) = inr (refl, omega arith)

of_width : (p : Place) (r : ℕ) → UseBreaks units names (Judges inside (Width false) (number 64 (on 1 41))) p r → NoLater p r
of_width p r (InnerIn _ _ _ place among) = absurd (none_of place among)
of_width p r (NotConstant _ _ _ must none) = inl (inr (refl, inr (refl, omega arith)))
of_width p r (ValueOutside _ _ _ limits v is has outside) = absurd (is_missing limits is)

of_use : (u : Use) (p : Place) (r : ℕ) → Contains (uses units) u → UseBreaks units names u p r → NoLater p r
of_use u p r (zero, less, is) breaks = of_type p r (subst (λ (v : Use). UseBreaks units names v p r) (sym is) breaks)
of_use u p r (suc zero, less, is) breaks = of_plain p r (subst (λ (v : Use). UseBreaks units names v p r) (sym is) breaks)
of_use u p r (suc (suc zero), less, is) breaks = of_width p r (subst (λ (v : Use). UseBreaks units names v p r) (sym is) breaks)
of_use u p r (suc (suc (suc k)), less, is) breaks = absurd (omega (arith, less))

-- ---- declarations

abbrev ds : List Declaration
ds = declarations units

kept_short : {A : Type 0} (b : Bool) (x : A) (xs : List A) (n : ℕ) → length xs ≤ n → length (if b then x ∷ xs else xs) ≤ n + 1
kept_short true x xs n h = omega (arith, h)
kept_short false x xs n h = omega (arith, h)

not_longer : {A : Type 0} (test : A → Bool) (xs : List A) → length (filter test xs) ≤ length xs
not_longer test [] = omega arith
not_longer test (x ∷ xs) = omega (arith, kept_short (test x) x (filter test xs) (length xs) (not_longer test xs))

filter_short : {A : Type 0} (test : A → Bool) (xs : List A) (n : ℕ) → length xs ≤ n → length (filter test xs) ≤ n
filter_short test xs n h = omega (arith, h, not_longer test xs)

pub longer : {A : Type 0} (xs front more : List A) (x : A) → xs ≡ front ++ x ∷ more → length front < length xs
longer xs front more x e = omega (arith, ap length e, length-append front (x ∷ more))

without_base : (d : Declaration) → Contains ds d → base_of ds d ≡ None
unfolding look_up base_of
without_base d (zero, less, is) = subst (λ (e : Declaration). base_of ds e ≡ None) is refl
without_base d (suc zero, less, is) = subst (λ (e : Declaration). base_of ds e ≡ None) is refl
without_base d (suc (suc zero), less, is) = subst (λ (e : Declaration). base_of ds e ≡ None) is refl
without_base d (suc (suc (suc k)), less, is) = absurd (omega (arith, less))

abbrev HasNoType : Declaration → Type 0
HasNoType d = (is_reference d.sort ≡ false) × (is_claim d.sort ≡ false)

no_type : (d : Declaration) → Contains ds d → HasNoType d
no_type d (zero, less, is) = subst HasNoType is (refl, refl)
no_type d (suc zero, less, is) = subst HasNoType is (refl, refl)
no_type d (suc (suc zero), less, is) = subst HasNoType is (refl, refl)
no_type d (suc (suc (suc k)), less, is) = absurd (omega (arith, less))

few_own : (d : Declaration) → length (own_members ds d) ≤ 3
few_own d = filter_short (λ (m : Declaration). same_scope m.scope (Part d.name.place)) ds 3 (omega arith)

few_members : (d : Declaration) (members : List Declaration) → AreMembers ds d members → base_of ds d ≡ None → length members ≤ 3
few_members d members (WithoutBase _ none) is = few_own d
few_members d members (WithBase _ base ms some rest) is = absurd (is_missing base (sym is ∙ some))

not_many : (d : Declaration) (counted : List Declaration) (most : ℕ) → base_of ds d ≡ None → IsLimited ds d counted most → (length counted ≤ 3) × (16 ≤ most)
not_many d counted most none Items = (filter_short (λ (m : Declaration). is_item m.sort) (own_members ds d) 3 (few_own d), omega arith)
not_many d counted most none Parameters = (filter_short (λ (m : Declaration). is_parameter m.sort) (own_members ds d) 3 (few_own d), omega arith)
not_many d counted most none Locals = (filter_short (is_local_of d) ds 3 (omega arith), omega arith)
not_many d counted most none (References members are) = (filter_short (λ (m : Declaration). is_reference m.sort) members 3 (few_members d members are none), omega arith)
not_many d counted most none (Claims members are) = (filter_short (λ (m : Declaration). is_claim m.sort) members 3 (few_members d members are none), omega arith)

abbrev its_field : DeclaredField
its_field = record { at = inside; type = TypePlain (bits 64 43) None; name = name 2 (on 1 45); size = None }

no_size : (b : Bool) (f : DeclaredField) → (if b then Some its_field else None) ≡ Some f → f.size ≡ None
no_size true f e = subst (λ (o : Option DeclaredField). option_and_then (λ (g : DeclaredField). g.size) o ≡ None) e refl
no_size false f e = absurd (is_missing f e)

without_size : (place : Place) (f : DeclaredField) → field_at units place ≡ Some f → f.size ≡ None
unfolding field_at
without_size place f e = no_size (same_place (on 1 45) place) f e

adds_one : (d : Declaration) (k : ℕ) → AddsFields units names d k → k ≤ 1
adds_one d k (One _ f found none) = omega arith
adds_one d k (Array _ f size n found some is least most) = absurd (is_missing size (sym (without_size d.name.place f found) ∙ some))
adds_one d k (WrongArray _ f size found some wrong) = omega arith

adds_few : (list : List Declaration) (n : ℕ) → AddTogether units names list n → n ≤ length list
adds_few list n Nothing = omega arith
adds_few list n (More d more k m one rest) = omega (arith, adds_one d k one, adds_few more m rest)

abbrev its_action : DeclaredAction
its_action = action_of (MakeAction None (on 1 21) (name 1 (on 1 28)) None (on 1 30) (ActionPartField (MakeField (on 1 32) (TypePlain (bits 64 43) None) (MakePart (name 2 (on 1 45)) NoIndex) [] (on 1 46)) ∷ []) (on 1 80))

nothing_in : (b : Bool) (a : DeclaredAction) → (if b then Some its_action else None) ≡ Some a → (activities_of a ≡ []) × (bodies_of a ≡ [])
nothing_in true a e = subst (λ (o : Option DeclaredAction). (option_map_or activities_of o [] ≡ []) × (option_map_or bodies_of o [] ≡ [])) e (refl, refl)
nothing_in false a e = absurd (is_missing a e)

performs_nothing : (place : Place) (a : DeclaredAction) → action_at units place ≡ Some a → (activities_of a ≡ []) × (bodies_of a ≡ [])
unfolding action_at
performs_nothing place a e = nothing_in (same_place (on 1 28) place) a e

abbrev pub IsFilled : {A : Type 0} → List A → Type 0
IsFilled [] = ⊥
IsFilled (x ∷ more) = Unit {0}

not_filled : {A : Type 0} (xs more : List A) (x : A) → xs ≡ [] → xs ≡ x ∷ more → ⊥
not_filled xs more x none some = subst IsFilled (sym some ∙ none) tt

not_compound : (d : Declaration) (statements : List StatementTree) → base_of ds d ≡ None → IsCompound units d statements → ⊥
not_compound d statements none (Own _ a _ more found is) = not_filled _ _ _ (performs_nothing d.name.place a found).0 is
not_compound d statements none (Inherited _ base a _ found no_activity no_body some rest) = is_missing base (sym none ∙ some)

not_twofold : (d : Declaration) → base_of ds d ≡ None → IsTwofold units d → ⊥
not_twofold d none (TwoActivities _ a first second more found is) = not_filled _ _ _ (performs_nothing d.name.place a found).0 is
not_twofold d none (TwoBodies _ a first second more found is) = not_filled _ _ _ (performs_nothing d.name.place a found).1 is
not_twofold d none (ActivityAndBody _ a activity body activities bodies found is also) = not_filled _ _ _ (performs_nothing d.name.place a found).0 is
not_twofold d none (TwofoldBase _ base a found no_activity no_body some rest) = is_missing base (sym none ∙ some)

true_or_false : (b : Bool) → b ≡ false → IsTrue b → ⊥
true_or_false b none some = true≢false (sym some ∙ none)

of_declaration : (d : Declaration) (p : Place) (r : ℕ) → Contains ds d → DeclarationBreaks units names d p r → ⊥
of_declaration d p r among (TooMany counted front more m most limited is long) =
    let few = not_many d counted most (without_base d among) limited in omega (arith, few.0, few.1, longer counted front more m is, long)
of_declaration d p r among (ManyFields members front more m n k are is together adds few many) =
    omega (arith, filter_short (λ (x : Declaration). is_field x.sort) members 3 (few_members d members are (without_base d among)), longer _ front more m is, adds_few front n together, adds_one m k adds, many)
of_declaration d p r among (ReferenceOfResource type name must has is resource) = true_or_false _ (no_type d among).0 must
of_declaration d p r among (ClaimOfNoResource type name must has is resource) = true_or_false _ (no_type d among).1 must
of_declaration d p r among (Twofold twofold) = not_twofold d (without_base d among) twofold
of_declaration d p r among (CompoundWithNeed statements members m compound are has need) = not_compound d statements (without_base d among) compound

-- ---- all

no_mention : (u : Use) (m : Mention) → Contains (uses units) u → Contains (mentions u) m → ⊥
no_mention u m (zero, less, is) has = none_of m (subst (λ (v : Use). Contains (mentions v) m) (sym is) has)
no_mention u m (suc zero, less, is) has = none_of m (subst (λ (v : Use). Contains (mentions v) m) (sym is) has)
no_mention u m (suc (suc zero), less, is) has = none_of m (subst (λ (v : Use). Contains (mentions v) m) (sym is) has)
no_mention u m (suc (suc (suc k)), less, is) has = absurd (omega (arith, less))

no_earlier : (p : Place) (r : ℕ) → TypeBreach units names p r → NoLater p r
no_earlier p r (OfUse u _ _ among breaks) = of_use u p r among breaks
no_earlier p r (OfEnum e _ _ among breaks) = absurd (none_of e among)
no_earlier p r (OfDeclaration d _ _ among breaks) = absurd (of_declaration d p r among breaks)
no_earlier p r (Unsteady u m handle action among has stands is judged unsteady) = absurd (no_mention u m among has)
no_earlier p r (BoundTwice front more earlier later is among twice) = absurd (omega (arith, longer (pairs units) front more later is))

pub first_breach : IsLeast (TypeBreach units names) (on 1 37) 9
first_breach = record { is = width; least = no_earlier }
