-- Facts about a source that breaks many rules.
use Rattle.std.proofs.Common.{◌≡◌, arith, refl, sym, subst, ap, ◌∙◌, true≢false}
use Rattle.std.specs.Prelude.{ℤ, pos, List, [], ◌∷◌, true, false, Some, None}
use Rattle.std.specs.List.{flat_map}
use Rattle.std.specs.Option.{unwrap_or}
use Rattle.pst_base.specs.declared.position.Place.{Place}
use Rattle.pst_ast.specs.ActivityTree.{StatementTree}
use Rattle.pst_ast.specs.DeclarationTree.{UnitTree}
use Rattle.pst_ast.specs.declared.scope_declaration.Declaration.{Declaration}
use Rattle.pst_ast.specs.Declarations.{action_declared}
use Rattle.pst_ast.specs.Lookups.{look_up, declared_at, base_of, member_of, item_at as an_item_at, value_named, type_of, traversed, stands_for}
use Rattle.pst_type_rules.specs.Enums.{item_at}
use Rattle.pst_type_rules.specs.Constants.{IsItemValue, Given, Next}
use Rattle.pst_type_rules.specs.Domains.{span, Single, Between}
use Rattle.pst_type_rules.specs.Sites.{DeclaredAction, action_at, function_at}
use Rattle.pst_type_rules.specs.Members.{WithoutBase, WithBase, activities_of, IsCompound, Own, Inherited}
use Rattle.pst_type_rules.specs.Handles.{traversals, IsSteadyIn, ByOwner}
use Rattle.pst_type_rules.specs.TypeRules.{InnerIn, NotConstant, Meeting, TwoDefaults, SizeOfNoResources, AbstractTraversed, NotInCondition, UnfitEnds, OtherObject, WrongArguments, NoAnswer, NoLocal, SameValue, ItemOutside, ReferenceOfResource, ClaimOfNoResource, CompoundWithNeed, OfUse, OfEnum, OfDeclaration, Unsteady}
use Rattle.pst_type_rules.specs.Tried.{on, name}
use Rattle.pst_type_rules.specs.TriedRules.{source, names, Breaks, performs, zero_to_one, only_one, range_label, default_label}
use Rattle.pst_type_rules.proofs.SourcesTried.{nothing, is_missing, number_is}

abbrev units : List UnitTree
units = source ∷ []

-- ---- expressions

pub inner_in : Breaks 10 61 10
inner_in = OfUse _ _ _ (21, omega arith, refl) (InnerIn _ _ _ _ (0, omega arith, refl))

pub quotient_by_0 : Breaks 9 48 11
quotient_by_0 = OfUse _ _ _ (15, omega arith, refl) (NotConstant _ _ _ refl (λ v c. is_missing v c.value.value))

-- ---- enums

of_nothing : (p : Place) (w : ℤ) → nothing p ≡ Some w → IsItemValue units names p w
of_nothing p w e = absurd (is_missing w e)

item_a : IsItemValue units names (on 14 12) (pos 1)
unfolding item_at
item_a = Given _ _ _ nothing _ refl refl of_nothing refl

item_y : IsItemValue units names (on 14 19) (pos 1)
unfolding item_at
item_y = Given _ _ _ nothing _ refl refl of_nothing refl

item_f : IsItemValue units names (on 14 26) (pos 2147483647)
unfolding item_at
item_f = Given _ _ _ nothing _ refl refl of_nothing refl

item_g : IsItemValue units names (on 14 42) (pos 2147483648)
unfolding item_at
item_g = Next _ _ (name 26 (on 14 26)) (pos 2147483647) _ refl refl refl item_f refl

pub same_value : Breaks 14 23 12
same_value = OfEnum _ _ _ (0, omega arith, refl) (SameValue (_ ∷ []) _ _ _ (pos 1) refl (0, omega arith, refl) item_a item_y)

pub item_too_large : Breaks 14 42 12
item_too_large = OfEnum _ _ _ (0, omega arith, refl) (ItemOutside _ (pos 2147483648) (3, omega arith, refl) refl item_g (λ h. omega (arith, h.1)))

-- ---- a `match`

pub meeting : Breaks 12 32 13
meeting =
    OfUse _ _ _ (36, omega arith, refl)
    (Meeting _ _ (zero_to_one ∷ []) [] zero_to_one only_one (span (pos 0) (pos 1)) (span (pos 1) (pos 1)) (pos 1) refl (0, omega arith, refl)
    (Between _ _ _ _ _ (number_is _ _ _ 0 (on 12 22) (pos 0) refl) (number_is _ _ _ 1 (on 12 25) (pos 1) refl)) (Single _ _ (number_is _ _ _ 1 (on 12 32) (pos 1) refl))
    (omega arith, omega arith) (omega arith, omega arith))

pub second_default : Breaks 12 49 13
second_default = OfUse _ _ _ (36, omega arith, refl) (TwoDefaults _ _ (range_label zero_to_one ∷ range_label only_one ∷ default_label 38 ∷ []) [] (on 12 38) (on 12 49) refl (2, omega arith, refl))

-- ---- types

pub size_of_buffers : Breaks 4 9 14
unfolding look_up
size_of_buffers = OfUse _ _ _ (2, omega arith, refl) (SizeOfNoResources _ _ _ _ refl refl)

pub claim_of_buffer : Breaks 8 43 15
unfolding look_up declared_at type_of
claim_of_buffer = OfDeclaration _ _ _ (11, omega arith, refl) (ClaimOfNoResource _ _ refl refl refl refl)

pub reference_of_resource : Breaks 9 20 15
unfolding look_up declared_at type_of
reference_of_resource = OfDeclaration _ _ _ (13, omega arith, refl) (ReferenceOfResource _ _ refl refl refl refl)

pub compound_with_claim : Breaks 10 10 16
unfolding look_up declared_at base_of action_at
compound_with_claim = OfDeclaration _ _ _ (16, omega arith, refl) (CompoundWithNeed performs _ _ (Own _ _ _ _ refl refl) (WithoutBase _ refl) (3, omega arith, refl) refl)

pub derived_with_claim : Breaks 15 10 16
unfolding look_up declared_at base_of action_at
derived_with_claim = OfDeclaration _ _ _ (29, omega arith, refl) (CompoundWithNeed _ _ _ (Own _ _ _ _ refl refl) (WithBase _ _ _ refl (WithoutBase _ refl)) (3, omega arith, refl) refl)

-- ---- activities

pub abstract_traversed : Breaks 11 33 17
unfolding look_up traversed action_at
abstract_traversed = OfUse _ _ _ (27, omega arith, refl) (AbstractTraversed _ _ _ _ _ refl refl refl)

abbrev compound : Declaration
compound = action_declared (on 1 11) None (name 15 (on 10 10))

pub condition : Breaks 11 46 19
unfolding look_up declared_at base_of member_of an_item_at value_named type_of traversed stands_for
condition = OfUse _ _ _ (29, omega arith, refl) (NotInCondition _ _ _ _ _ _ (0, omega arith, refl) refl refl)

pub from_input : Breaks 11 63 20
unfolding look_up declared_at base_of member_of an_item_at value_named type_of traversed stands_for
from_input = OfUse _ _ _ (33, omega arith, refl) (UnfitEnds _ _ _ _ _ _ (0, omega arith, refl) refl refl (λ e. true≢false (sym e.gives)))

pub other_object : Breaks 5 10 20
unfolding look_up declared_at base_of member_of an_item_at value_named type_of traversed stands_for
other_object = OfUse _ _ _ (5, omega arith, refl) (OtherObject _ _ _ _ _ _ _ _ _ refl refl refl refl (λ e. omega (arith, ap (λ (d : Declaration). d.name.place.line) e)))

-- ---- bodies

pub no_argument : Breaks 13 38 21
unfolding look_up function_at
no_argument = OfUse _ _ _ (45, omega arith, refl) (WrongArguments _ _ _ _ _ _ refl refl (λ e. omega (arith, e)))

pub void_value : Breaks 13 51 21
unfolding look_up function_at
void_value = OfUse _ _ _ (48, omega arith, refl) (NoAnswer _ _ _ _ _ _ refl refl refl)

pub assigned_field : Breaks 13 57 21
unfolding look_up declared_at base_of member_of an_item_at value_named type_of traversed stands_for
assigned_field = OfUse _ _ _ (50, omega arith, refl) (NoLocal _ _ _ refl refl)

-- ---- a handle within a `select`

pub some_is : {A : Type 0} (x y : A) → Some x ≡ Some y → x ≡ y
some_is x y e = ap (λ o. unwrap_or o x) e

abbrev pub first_or : {A : Type 0} → A → List A → A
first_or x [] = x
first_or x (y ∷ more) = y

abbrev IsFilled : {A : Type 0} → List A → Type 0
IsFilled [] = ⊥
IsFilled (x ∷ more) = Unit {0}

its_activities : (a : DeclaredAction) → action_at units (on 10 10) ≡ Some a → performs ∷ [] ≡ activities_of a
unfolding action_at
its_activities a found = ap activities_of (some_is _ a found)

its_statements : (d : Declaration) (statements : List StatementTree) → IsCompound units d statements → d ≡ compound → performs ≡ statements
its_statements d statements (Own _ a s more found is) same =
    ap (first_or s) (its_activities a (subst (λ (e : Declaration). action_at units e.name.place ≡ Some a) same found) ∙ is)
its_statements d statements (Inherited _ base a s found none nothing_else b c) same =
    absurd (subst IsFilled (its_activities a (subst (λ (e : Declaration). action_at units e.name.place ≡ Some a) same found) ∙ none) tt)

is_unsteady : IsSteadyIn units compound (record { 0 = 16 }) → ⊥
is_unsteady s =
    let e = subst (λ (ss : List StatementTree). flat_map (traversals (record { 0 = 16 }) false) ss ≡ false ∷ []) (sym (its_statements compound s.statements s.compound refl)) s.steady in
    true≢false (ap (first_or true) e)

pub within_select : Breaks 10 57 18
unfolding look_up declared_at base_of member_of an_item_at value_named type_of traversed stands_for
within_select = Unsteady _ _ _ compound (21, omega arith, refl) (0, omega arith, refl) refl refl (ByOwner _ refl refl) is_unsteady
