-- The activity that an action has by the rules of types is the one that is found.
use Rattle.std.proofs.Common.{◌≡◌, ◌↔◌, ◌≤◌, refl, sym, subst, ap, arith, ◌∙◌, true≢false}
use Rattle.std.specs.Prelude.{ℕ, zero, suc, nat_eq, Bool, true, false, ◌||◌, List, [], ◌∷◌, ◌++◌, map, length, slice_get, Option, Some, None, IsTrue}
use Rattle.std.specs.List.{filter_map, flat_map, list_any, Contains, IsDistinct, AllByRecursion}
use Rattle.std.specs.Option.{option_map, option_map_or, option_or, option_and_then}
use Rattle.std.proofs.lemmas.Bool.{eqb-true, eq-eqb, or_left, or_right}
use Rattle.std.proofs.lemmas.Map.Steps.{length-le_from_distinct_below}
use Rattle.std.proofs.lemmas.Option.{none-some, same_Some, slice_get_within}
use Rattle.pst_ast.specs.ActivityTree.{StatementTree, ActivityTree, MakeActivity}
use Rattle.pst_ast.specs.BodyTree.{BodyTree}
use Rattle.pst_ast.specs.DeclarationTree.{UnitTree, ActionPartTree, ActionPartField, ActionPartReference, ActionPartClaim, ActionPartMembers, ActionPartConstraint, ActionPartActivity, ActionPartBody, ActionPartEmpty}
use Rattle.pst_ast.specs.declared.scope_declaration.Declaration.{Declaration}
use Rattle.pst_ast.specs.Declarations.{declarations}
use Rattle.pst_ast.specs.Lookups.{base_of}
use Rattle.pst_type_rules.specs.Members.{activities_in, bodies_in, activities_of, bodies_of, IsCompound, Own, Inherited}
use Rattle.pst_type_rules.specs.Sites.{DeclaredAction, action_at}
use Rattle.pst_tree.specs.Bases.{bases_within, with_bases}
use Rattle.pst_tree.specs.Contents.{Content, Activity, Body, activity_in, body_in, first_of, content_in, own_content, last_content, content_of, is_activity, is_compound}
use Rattle.pst_front_laws.specs.ContentLaws.{statements_in}
use Rattle.pst_front_laws.proofs.Elements.{IsThere, is_there, in_get}
use Rattle.pst_front_laws.proofs.Bases.{base_there, derived_action}
use Rattle.pst_front_laws.proofs.Actions.{declared_action}

-- ---- the parts of one action

abbrev statements_of : ActivityTree → List StatementTree
statements_of (MakeActivity word left statements right) = statements

found_statements : (d : Declaration) (x : ActivityTree) → statements_in (Some (Activity d x)) ≡ Some (statements_of x)
found_statements d (MakeActivity word left statements right) = refl

activities_are : (parts : List ActionPartTree) → flat_map activities_in parts ≡ map statements_of (filter_map activity_in parts)
activities_are [] = refl
activities_are (ActionPartField field ∷ more) = activities_are more
activities_are (ActionPartReference reference ∷ more) = activities_are more
activities_are (ActionPartClaim claim ∷ more) = activities_are more
activities_are (ActionPartMembers members ∷ more) = activities_are more
activities_are (ActionPartConstraint constraint ∷ more) = activities_are more
activities_are (ActionPartActivity (MakeActivity word left statements right) ∷ more) = ap (λ (xs : List (List StatementTree)). statements ∷ xs) (activities_are more)
activities_are (ActionPartBody body ∷ more) = activities_are more
activities_are (ActionPartEmpty place ∷ more) = activities_are more

bodies_are : (parts : List ActionPartTree) → flat_map bodies_in parts ≡ filter_map body_in parts
bodies_are [] = refl
bodies_are (ActionPartField field ∷ more) = bodies_are more
bodies_are (ActionPartReference reference ∷ more) = bodies_are more
bodies_are (ActionPartClaim claim ∷ more) = bodies_are more
bodies_are (ActionPartMembers members ∷ more) = bodies_are more
bodies_are (ActionPartConstraint constraint ∷ more) = bodies_are more
bodies_are (ActionPartActivity activity ∷ more) = bodies_are more
bodies_are (ActionPartBody body ∷ more) = ap (λ (xs : List BodyTree). body ∷ xs) (bodies_are more)
bodies_are (ActionPartEmpty place ∷ more) = bodies_are more

-- what an action with these activities and bodies does itself
abbrev content_by : Declaration → List ActivityTree → List BodyTree → Option Content
content_by d activities bodies = option_or (option_map (Activity d) (first_of activities)) (option_map (Body d) (first_of bodies))

-- ---- what is found among bases

module _ (units : List UnitTree) where
  abbrev ds : List Declaration
  ds = declarations units

  or_assoc : (a b c : Option Content) → option_or (option_or a b) c ≡ option_or a (option_or b c)
  or_assoc None b c = refl
  or_assoc (Some x) b c = refl

  or_nothing : (a : Option Content) → a ≡ option_or a None
  or_nothing None = refl
  or_nothing (Some x) = refl

  last_of : (xs : List Declaration) (d : Declaration) → last_content units (xs ++ d ∷ []) ≡ option_or (own_content units d) (last_content units xs)
  last_of [] d = or_nothing (own_content units d)
  last_of (x ∷ xs) d = ap (λ (o : Option Content). option_or o (own_content units x)) (last_of xs d) ∙ or_assoc (own_content units d) (last_content units xs) (own_content units x)

  -- what is found for an action, one base more allowed
  abbrev above : ℕ → Option Declaration → Option Content
  above k base = last_content units (option_map_or (bases_within k ds) base [])

  one_more : (k : ℕ) (d : Declaration) → last_content units (bases_within (suc k) ds d) ≡ option_or (own_content units d) (above k (base_of ds d))
  one_more k d = last_of (option_map_or (bases_within k ds) (base_of ds d) []) d

  own_is : (d : Declaration) (a : DeclaredAction) → action_at units d.name.place ≡ Some a → own_content units d ≡ content_by d (filter_map activity_in a.parts) (filter_map body_in a.parts)
  own_is d a at = ap (option_and_then (content_in d)) at

  -- an activity of its own is found, whatever stands above
  own_found : (d : Declaration) (a : DeclaredAction) (statements : List StatementTree) (more : List (List StatementTree)) → action_at units d.name.place ≡ Some a → activities_of a ≡ statements ∷ more
      → (o : Option Content) → statements_in (option_or (own_content units d) o) ≡ Some statements
  own_found d a statements more at are o =
      ap (λ (c : Option Content). statements_in (option_or c o)) (own_is d a at) ∙ by (filter_map activity_in a.parts) (sym (activities_are a.parts) ∙ are)
    where
      by : (activities : List ActivityTree) → map statements_of activities ≡ statements ∷ more → statements_in (option_or (content_by d activities (filter_map body_in a.parts)) o) ≡ Some statements
      by [] e = let never : ⊥ = cc in absurd never
      by (x ∷ xs) e = let same : statements_of x ≡ statements = cc in found_statements d x ∙ ap (λ (s : List StatementTree). Some s) same

  -- nothing of its own is found
  own_nothing : (d : Declaration) (a : DeclaredAction) → action_at units d.name.place ≡ Some a → activities_of a ≡ [] → bodies_of a ≡ [] → own_content units d ≡ None
  own_nothing d a at none also = own_is d a at ∙ by (filter_map activity_in a.parts) (filter_map body_in a.parts) (sym (activities_are a.parts) ∙ none) (sym (bodies_are a.parts) ∙ also)
    where
      by : (activities : List ActivityTree) (bodies : List BodyTree) → map statements_of activities ≡ [] → bodies ≡ [] → content_by d activities bodies ≡ None
      by [] bodies e same = ap (λ (xs : List BodyTree). option_map (Body d) (first_of xs)) same
      by (x ∷ xs) bodies e same = let never : ⊥ = cc in absurd never

  -- ---- from the rules to what is found

  -- how many actions there are on the way to the activity
  abbrev steps : (d : Declaration) (statements : List StatementTree) → IsCompound units d statements → ℕ
  steps d statements (Own _ a _ more at are) = 1
  steps d statements (Inherited _ base a _ at none also is rest) = suc (steps base statements rest)

  found_within : (k : ℕ) (d : Declaration) (statements : List StatementTree) (m : IsCompound units d statements) → steps d statements m ≤ k → statements_in (last_content units (bases_within k ds d)) ≡ Some statements
  found_within zero d statements (Own _ a _ more at are) less = absurd (omega (arith, less))
  found_within zero d statements (Inherited _ base a _ at none also is rest) less = absurd (omega (arith, less))
  found_within (suc k) d statements (Own _ a _ more at are) less =
      ap statements_in (one_more k d) ∙ own_found d a statements more at are (above k (base_of ds d))
  found_within (suc k) d statements (Inherited _ base a _ at none also is rest) less =
      ap statements_in (one_more k d)
      ∙ (ap (λ (c : Option Content). statements_in (option_or c (above k (base_of ds d)))) (own_nothing d a at none also)
      ∙ (ap (λ (o : Option Declaration). statements_in (above k o)) is ∙ found_within k base statements rest (omega (arith, less))))

  same_action : (d e : Declaration) (a b : DeclaredAction) → d ≡ e → action_at units d.name.place ≡ Some a → action_at units e.name.place ≡ Some b → a ≡ b
  same_action d e a b same at also = same_Some a b (sym at ∙ (ap (λ (x : Declaration). action_at units x.name.place) same ∙ also))

  not_both : (a b : DeclaredAction) (statements : List StatementTree) (more : List (List StatementTree)) → a ≡ b → activities_of a ≡ statements ∷ more → activities_of b ≡ [] → ⊥
  not_both a b statements more same are none = let e : statements ∷ more ≡ [] = sym are ∙ (ap (λ (x : DeclaredAction). activities_of x) same ∙ none) in cc

  -- one action has one number of steps
  same_steps : (d e : Declaration) (s t : List StatementTree) → d ≡ e → (m : IsCompound units d s) (n : IsCompound units e t) → steps d s m ≡ steps e t n
  same_steps d e s t same (Own _ a _ more at are) (Own _ b _ others there also) = refl
  same_steps d e s t same (Own _ a _ more at are) (Inherited _ base b _ there none bodiless is rest) = absurd (not_both a b s more (same_action d e a b same at there) are none)
  same_steps d e s t same (Inherited _ base a _ at none bodiless is rest) (Own _ b _ others there also) = absurd (not_both b a t others (sym (same_action d e a b same at there)) also none)
  same_steps d e s t same (Inherited _ base a _ at none bodiless is rest) (Inherited _ other b _ there also never leads behind) =
      ap suc (same_steps base other s t (same_Some base other (sym is ∙ (ap (base_of ds) same ∙ leads))) rest behind)

  -- the numbers of the actions on the way
  abbrev numbers : (d : Declaration) (s : List StatementTree) → IsCompound units d s → IsThere ds d → List ℕ
  numbers d s (Own _ a _ more at are) here = here.0 ∷ []
  numbers d s (Inherited _ base a _ at none bodiless is rest) here = here.0 ∷ numbers base s rest (base_there ds d base is)

  as_many : (d : Declaration) (s : List StatementTree) (m : IsCompound units d s) (here : IsThere ds d) → length (numbers d s m here) ≡ steps d s m
  as_many d s (Own _ a _ more at are) here = refl
  as_many d s (Inherited _ base a _ at none bodiless is rest) here = ap suc (as_many base s rest (base_there ds d base is))

  -- what stands at a number has no more steps
  record IsOnTheWay (q most : ℕ) : Type 0 where
    action : Declaration
    statements : List StatementTree
    are : IsCompound units action statements
    stands : slice_get ds q ≡ Some action
    few : steps action statements are ≤ most

  any_by : (q p : ℕ) (more : List ℕ) (most : ℕ) → IsOnTheWay p most → (list_any (nat_eq q) more ≡ true → IsOnTheWay q most) → (b : Bool) → nat_eq q p ≡ b → (b || list_any (nat_eq q) more) ≡ true → IsOnTheWay q most
  any_by q p more most first on true same any = subst (λ (k : ℕ). IsOnTheWay k most) (sym (eqb-true q p same)) first
  any_by q p more most first on false other any = on any

  weaker : (q n m : ℕ) → n ≤ m → IsOnTheWay q n → IsOnTheWay q m
  weaker q n m less way = record { action = way.action; statements = way.statements; are = way.are; stands = way.stands; few = omega (arith, way.few, less) }

  on_the_way : (d : Declaration) (s : List StatementTree) (m : IsCompound units d s) (here : IsThere ds d) (q : ℕ) → list_any (nat_eq q) (numbers d s m here) ≡ true → IsOnTheWay q (steps d s m)
  on_the_way d s (Own _ a _ more at are) here q any =
      any_by q here.0 [] 1 (record { action = d; statements = s; are = Own d a s more at are; stands = here.1; few = omega arith }) (λ e. absurd (true≢false (sym e))) (nat_eq q here.0) refl any
  on_the_way d s (Inherited _ base a _ at none bodiless is rest) here q any =
      any_by q here.0 (numbers base s rest (base_there ds d base is)) (suc (steps base s rest))
      (record { action = d; statements = s; are = Inherited d base a s at none bodiless is rest; stands = here.1; few = omega arith })
      (λ e. weaker q (steps base s rest) (suc (steps base s rest)) (omega arith) (on_the_way base s rest (base_there ds d base is) q e)) (nat_eq q here.0) refl any

  other_by : (p q : ℕ) → (p ≡ q → ⊥) → (b : Bool) → nat_eq p q ≡ b → nat_eq p q ≡ false
  other_by p q h true same = absurd (h (eqb-true p q same))
  other_by p q h false other = other

  all_others : (p : ℕ) (xs : List ℕ) → ((q : ℕ) → list_any (nat_eq q) xs ≡ true → p ≡ q → ⊥) → AllByRecursion (λ q. nat_eq p q ≡ false) xs
  all_others p [] h = tt
  all_others p (x ∷ xs) h = (other_by p x (h x (or_left (nat_eq x x) (list_any (nat_eq x) xs) (eq-eqb x x refl))) (nat_eq p x) refl, all_others p xs (λ q e. h q (or_right (nat_eq q x) (list_any (nat_eq q) xs) e)))

  distinct : (d : Declaration) (s : List StatementTree) (m : IsCompound units d s) (here : IsThere ds d) → IsDistinct nat_eq (numbers d s m here)
  unfolding IsDistinct
  distinct d s (Own _ a _ more at are) here = (tt, tt)
  distinct d s (Inherited _ base a _ at none bodiless is rest) here = (all_others here.0 (numbers base s rest (base_there ds d base is)) never, distinct base s rest (base_there ds d base is))
    where
      again : (q : ℕ) → here.0 ≡ q → IsOnTheWay q (steps base s rest) → ⊥
      again q e way =
          let same : way.action ≡ d = same_Some way.action d (sym way.stands ∙ (ap (slice_get ds) (sym e) ∙ here.1)) in
          omega (arith, way.few, same_steps way.action d way.statements s same way.are (Inherited d base a s at none bodiless is rest))

      never : (q : ℕ) → list_any (nat_eq q) (numbers base s rest (base_there ds d base is)) ≡ true → here.0 ≡ q → ⊥
      never q any e = again q e (on_the_way base s rest (base_there ds d base is) q any)

  few_steps : (d : Declaration) (s : List StatementTree) (m : IsCompound units d s) → IsThere ds d → steps d s m ≤ length ds
  few_steps d s m here =
      subst (λ (n : ℕ). n ≤ length ds) (as_many d s m here)
      (length-le_from_distinct_below (numbers d s m here) (length ds) (distinct d s m here)
      (λ q any. let way = on_the_way d s m here q any in slice_get_within ds q way.action way.stands))

  -- ---- from what is found to the rules

  found_by : (k : ℕ) (d : Declaration) (statements : List StatementTree) → ((b : Declaration) → base_of ds d ≡ Some b → statements_in (last_content units (bases_within k ds b)) ≡ Some statements → IsCompound units b statements)
      → ((b : Declaration) → base_of ds d ≡ Some b → (a : DeclaredAction) × (action_at units d.name.place ≡ Some a)) → statements_in (option_or (own_content units d) (above k (base_of ds d))) ≡ Some statements → IsCompound units d statements
  found_by k d statements on has e = by_action (action_at units d.name.place) refl
    where
      in_base : (a : DeclaredAction) → action_at units d.name.place ≡ Some a → activities_of a ≡ [] → bodies_of a ≡ [] → (o : Option Declaration) → base_of ds d ≡ o → statements_in (above k o) ≡ Some statements → IsCompound units d statements
      in_base a at none bodiless None is found = absurd (none-some statements found)
      in_base a at none bodiless (Some b) is found = Inherited d b a statements at none bodiless is (on b is found)

      by_parts : (a : DeclaredAction) → action_at units d.name.place ≡ Some a → (activities : List ActivityTree) → filter_map activity_in a.parts ≡ activities → (bodies : List BodyTree) → filter_map body_in a.parts ≡ bodies
          → statements_in (option_or (content_by d activities bodies) (above k (base_of ds d))) ≡ Some statements → IsCompound units d statements
      by_parts a at [] none [] bodiless found =
          in_base a at (activities_are a.parts ∙ ap (λ (xs : List ActivityTree). map statements_of xs) none) (bodies_are a.parts ∙ bodiless) (base_of ds d) refl found
      by_parts a at [] none (y ∷ ys) are found = absurd (none-some statements found)
      by_parts a at (x ∷ xs) are bodies also found =
          let same : statements_of x ≡ statements = same_Some (statements_of x) statements (sym (found_statements d x) ∙ found) in
          Own d a statements (map statements_of xs) at
          (activities_are a.parts ∙ (ap (λ (ys : List ActivityTree). map statements_of ys) are ∙ ap (λ (s : List StatementTree). s ∷ map statements_of xs) same))

      by_none : (o : Option Declaration) → base_of ds d ≡ o → action_at units d.name.place ≡ None → statements_in (above k o) ≡ Some statements → IsCompound units d statements
      by_none None is at found = absurd (none-some statements found)
      by_none (Some b) is at found = let a = has b is in absurd (none-some a.0 (sym at ∙ a.1))

      by_action : (o : Option DeclaredAction) → action_at units d.name.place ≡ o → IsCompound units d statements
      by_action None at = by_none (base_of ds d) refl at (sym (ap (λ (o : Option DeclaredAction). statements_in (option_or (option_and_then (content_in d) o) (above k (base_of ds d)))) at) ∙ e)
      by_action (Some a) at =
          by_parts a at (filter_map activity_in a.parts) refl (filter_map body_in a.parts) refl
          (sym (ap (λ (o : Option DeclaredAction). statements_in (option_or (option_and_then (content_in d) o) (above k (base_of ds d)))) at) ∙ e)

  compound_within : (k : ℕ) (d : Declaration) (statements : List StatementTree) → IsThere ds d → statements_in (last_content units (bases_within k ds d)) ≡ Some statements → IsCompound units d statements
  compound_within zero d statements here e = absurd (none-some statements e)
  compound_within (suc k) d statements here e =
      found_by k d statements (λ b is found. compound_within k b statements (base_there ds d b is) found) (λ b is. declared_action units d (in_get ds here.0 d here.1) (derived_action ds d b is))
      (sym (ap statements_in (one_more k d)) ∙ e)

pub activities_are_found : (units : List UnitTree) (d : Declaration) (statements : List StatementTree) → Contains (declarations units) d → IsCompound units d statements ↔ (statements_in (content_of units d) ≡ Some statements)
unfolding with_bases
activities_are_found units d statements among =
    let here = is_there (declarations units) d among in (
      λ m. found_within units (length (declarations units)) d statements m (few_steps units d statements m here),
      λ e. compound_within units (length (declarations units)) d statements here e,
    )

-- an activity that was found has statements
some_statements : (o : Option Content) → is_activity o ≡ true → (statements : List StatementTree) × (statements_in o ≡ Some statements)
some_statements None e = absurd (true≢false (sym e))
some_statements (Some (Activity d (MakeActivity word left statements right))) e = (statements, refl)
some_statements (Some (Body d body)) e = absurd (true≢false (sym e))

is_found : (o : Option Content) (statements : List StatementTree) → statements_in o ≡ Some statements → is_activity o ≡ true
is_found None statements e = absurd (none-some statements e)
is_found (Some (Activity d activity)) statements e = refl
is_found (Some (Body d body)) statements e = absurd (none-some statements e)

pub compounds_are_found : (units : List UnitTree) (d : Declaration) → Contains (declarations units) d → IsTrue (is_compound units d) ↔ ((statements : List StatementTree) × IsCompound units d statements)
compounds_are_found units d among = (
  λ is. let s = some_statements (content_of units d) is in (s.0, (activities_are_found units d s.0 among).1 s.1),
  λ s. is_found (content_of units d) s.0 ((activities_are_found units d s.0 among).0 s.1),
)
