-- Facts about the source with inherited activities.
use Rattle.std.proofs.Common.{◌≡◌, arith, refl, sym, subst, ap, ◌∙◌}
use Rattle.std.specs.Prelude.{List, [], ◌∷◌, Some, None}
use Rattle.pst_ast.specs.ActivityTree.{StatementTree}
use Rattle.pst_ast.specs.DeclarationTree.{UnitTree}
use Rattle.pst_ast.specs.declared.scope_declaration.Declaration.{Declaration}
use Rattle.pst_ast.specs.Declarations.{action_declared}
use Rattle.pst_ast.specs.Lookups.{look_up, declared_at, base_of, member_of, item_at, value_named, type_of, traversed, stands_for}
use Rattle.pst_type_rules.specs.Sites.{DeclaredAction, action_at}
use Rattle.pst_type_rules.specs.Members.{IsCompound, Own, Inherited, activities_of, bodies_of, IsTwofold, TwoActivities, TwoBodies, ActivityAndBody, TwofoldBase}
use Rattle.pst_type_rules.specs.Handles.{ByOwner}
use Rattle.pst_type_rules.specs.TypeRules.{Twofold, NoLocal, OfUse, OfDeclaration, Unsteady}
use Rattle.pst_type_rules.specs.Tried.{on, name}
use Rattle.pst_type_rules.specs.TriedParts.{source, Breaks, replacing, body, assigned}
use Rattle.pst_type_rules.proofs.RulesTried.{some_is}
use Rattle.pst_type_rules.proofs.WidthTried.{IsFilled}

abbrev units : List UnitTree
units = source ∷ []

pub twice : Breaks 2 10 16
unfolding action_at
twice = OfDeclaration _ _ _ (1, omega arith, refl) (Twofold (TwoActivities _ _ _ _ _ refl refl))

pub inherited_twice : Breaks 3 10 16
unfolding look_up base_of action_at
inherited_twice = OfDeclaration _ _ _ (2, omega arith, refl) (Twofold (TwofoldBase _ _ _ refl refl refl refl (TwoActivities _ _ _ _ _ refl refl)))

-- ---- an activity or body in place of those of the base

AreTwo : {A : Type 0} → List A → Type 0
AreTwo [] = ⊥
AreTwo (x ∷ []) = ⊥
AreTwo (x ∷ y ∷ more) = Unit {0}

its_parts : (d : Declaration) (a : DeclaredAction) → action_at units d.name.place ≡ Some a → d ≡ replacing → ([] ≡ activities_of a) × (body [] ∷ [] ≡ bodies_of a)
unfolding action_at
its_parts d a found same =
    let here = some_is _ a (subst (λ (e : Declaration). action_at units e.name.place ≡ Some a) same found) in
    (ap activities_of here, ap bodies_of here)

not_twofold : (d : Declaration) → IsTwofold units d → d ≡ replacing → ⊥
unfolding AreTwo
not_twofold d (TwoActivities _ a first second more found is) same = subst IsFilled (sym ((its_parts d a found same).0 ∙ is)) tt
not_twofold d (TwoBodies _ a first second more found is) same = subst AreTwo (sym ((its_parts d a found same).1 ∙ is)) tt
not_twofold d (ActivityAndBody _ a activity body activities bodies found is also) same = subst IsFilled (sym ((its_parts d a found same).0 ∙ is)) tt
not_twofold d (TwofoldBase _ base a found none nothing_else has twofold) same = subst IsFilled ((its_parts d a found same).1 ∙ nothing_else) tt

pub replaced : IsTwofold units replacing → ⊥
replaced twofold = not_twofold replacing twofold refl

-- ---- a body that assigns to a handle

abbrev assigning : Declaration
assigning = action_declared (on 1 11) None (name 4 (on 5 10))

its_own : (d : Declaration) (a : DeclaredAction) → action_at units d.name.place ≡ Some a → d ≡ assigning → ([] ≡ activities_of a) × (body (assigned ∷ []) ∷ [] ≡ bodies_of a)
unfolding action_at
its_own d a found same =
    let here = some_is _ a (subst (λ (e : Declaration). action_at units e.name.place ≡ Some a) same found) in
    (ap activities_of here, ap bodies_of here)

not_compound : (d : Declaration) (statements : List StatementTree) → IsCompound units d statements → d ≡ assigning → ⊥
not_compound d statements (Own _ a _ more found is) same = subst IsFilled (sym ((its_own d a found same).0 ∙ is)) tt
not_compound d statements (Inherited _ base a _ found none nothing_else has compound) same = subst IsFilled ((its_own d a found same).1 ∙ nothing_else) tt

pub assigned_handle : Breaks 5 31 18
unfolding look_up declared_at base_of member_of item_at value_named type_of traversed stands_for
assigned_handle = Unsteady _ _ _ assigning (3, omega arith, refl) (0, omega arith, refl) refl refl (ByOwner _ refl refl) (λ s. not_compound assigning s.statements s.compound refl)

pub no_local : Breaks 5 31 21
unfolding look_up declared_at base_of member_of item_at value_named type_of traversed stands_for
no_local = OfUse _ _ _ (3, omega arith, refl) (NoLocal _ _ _ refl refl)
