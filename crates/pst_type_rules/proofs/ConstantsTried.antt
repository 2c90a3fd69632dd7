-- Facts about two small enums.
use Rattle.std.proofs.Common.{arith, true≢false, ◌≡◌, refl, sym, subst}
use Rattle.std.specs.Prelude.{ℕ, ℤ, pos, nat_eq, Bool, true, false, ◌&&◌, [], Option, Some, None, if◌then◌else◌}
use Rattle.std.proofs.lemmas.Bool.{eqb-true}
use Rattle.pst_base.specs.declared.position.Place.{Place}
use Rattle.pst_ast.specs.ExpressionTree.{ExprTree}
use Rattle.pst_ast.specs.declared.referent.Owner.TheVariants.{Nobody}
use Rattle.pst_ast.specs.Declarations.{declarations}
use Rattle.pst_ast.specs.Uses.{Reads, environment}
use Rattle.pst_ast.specs.Sorts.{same_place}
use Rattle.pst_ast.specs.Lookups.{look_up, declared_at, base_of, member_of, item_at as an_item_at, value_named, type_of, traversed, stands_for}
use Rattle.pst_ast.specs.Paths.{read_path}
use Rattle.pst_ast.specs.Tried.{at, name}
use Rattle.pst_type_rules.specs.Enums.{DeclaredItem, item_at}
use Rattle.pst_type_rules.specs.Constants.{value_by, IsItemValue, First, Next, Given, HasValue, IsConstant}
use Rattle.pst_type_rules.specs.ConstantsTried.{units, names, Item, top, named, inside, quotient, with_nothing}
use Rattle.pst_type_rules.proofs.OneValue.{some_is, not_both}

-- ---- what is known of items

abbrev pub nothing : Place → Option ℤ
nothing p = None

pub of_nothing : (p : Place) (w : ℤ) → nothing p ≡ Some w → IsItemValue units names p w
of_nothing p w e = absurd (not_both (nothing p) w refl e)

abbrev only : ℕ → ℤ → Place → Option ℤ
only column v p = if same_place p (at column) then Some v else None

left_of : (a b : Bool) → (a && b) ≡ true → a ≡ true
left_of true b e = refl
left_of false b e = e

right_of : (a b : Bool) → (a && b) ≡ true → b ≡ true
right_of true b e = e
right_of false b e = absurd (true≢false (sym e))

same_places : (a b : Place) → same_place a b ≡ true → a ≡ b
same_places a b e =
    let lines = right_of (nat_eq a.file b.file) (nat_eq a.line b.line && nat_eq a.column b.column) e in
    let files = eqb-true a.file b.file (left_of (nat_eq a.file b.file) (nat_eq a.line b.line && nat_eq a.column b.column) e) in
    let line = eqb-true a.line b.line (left_of (nat_eq a.line b.line) (nat_eq a.column b.column) lines) in
    let column = eqb-true a.column b.column (right_of (nat_eq a.line b.line) (nat_eq a.column b.column) lines) in
    λ i. record { file = files i; line = line i; column = column i }

only_by : (column : ℕ) (v : ℤ) → Item column v → (p : Place) (w : ℤ) (b : Bool) → same_place p (at column) ≡ b → (if b then Some v else None) ≡ Some w → IsItemValue units names p w
only_by column v known p w true same e = subst (λ (q : Place). IsItemValue units names q w) (sym (same_places p (at column) same)) (subst (λ (z : ℤ). Item column z) (some_is v w e) known)
only_by column v known p w false same e = absurd (not_both (nothing p) w refl e)

of_only : (column : ℕ) (v : ℤ) → Item column v → (p : Place) (w : ℤ) → only column v p ≡ Some w → IsItemValue units names p w
of_only column v known p w e = only_by column v known p w (same_place p (at column)) refl e

-- ---- items

pub first : Item 2 (pos 0)
unfolding item_at
first = First _ _ refl refl refl

pub given : Item 3 (pos 16)
unfolding item_at look_up declared_at base_of member_of an_item_at value_named type_of traversed stands_for read_path
given = Given _ _ _ nothing _ refl refl of_nothing refl

pub next : Item 7 (pos 17)
unfolding item_at
next = Next _ _ (name 2 3) (pos 16) _ refl refl refl given refl

pub of_other : Item 21 (pos 17)
unfolding item_at look_up declared_at base_of member_of an_item_at value_named type_of traversed stands_for read_path
of_other = Given _ _ _ (only 7 (pos 17)) _ refl refl (of_only 7 (pos 17) next) refl

pub behind_other : Item 23 (pos 18)
unfolding item_at
behind_other = Next _ _ (name 6 21) (pos 17) _ refl refl refl of_other refl

pub with_enum : Item 8 (pos 36)
unfolding item_at look_up declared_at base_of member_of an_item_at value_named type_of traversed stands_for read_path
with_enum = Given _ _ _ (only 23 (pos 18)) _ refl refl (of_only 23 (pos 18) behind_other) refl

pub not_needed : Item 26 (pos 0)
unfolding item_at look_up declared_at base_of member_of an_item_at value_named type_of traversed stands_for read_path
not_needed = Given _ _ _ nothing _ refl refl of_nothing refl

abbrev needing_itself : DeclaredItem
needing_itself = record { component = None; name = name 8 24; before = Some (name 7 23); expr = Some (named 8 25) }

the_item : (p : Place) (i : DeclaredItem) → p ≡ at 24 → item_at units p ≡ Some i → needing_itself ≡ i
unfolding item_at
the_item p i same found = some_is needing_itself i (subst (λ (q : Place). item_at units q ≡ Some i) same found)

its_value : (known : Place → Option ℤ) (v : ℤ) → value_by (declarations units) names known top (named 8 25) ≡ Some v → known (at 24) ≡ Some v
unfolding item_at look_up declared_at base_of member_of an_item_at value_named type_of traversed stands_for read_path
its_value known v e = e

of_item : (i : DeclaredItem) (e : ExprTree) (known : Place → Option ℤ) (v : ℤ) → needing_itself ≡ i → i.expr ≡ Some e
    → value_by (declarations units) names known (environment i.component Nobody) e ≡ Some v → value_by (declarations units) names known top (named 8 25) ≡ Some v
of_item i e known v same is value =
    let expr : named 8 25 ≡ e = some_is (named 8 25) e (subst (λ (k : DeclaredItem). k.expr ≡ Some e) (sym same) is) in
    subst (λ (x : ExprTree). value_by (declarations units) names known top x ≡ Some v) (sym expr)
    (subst (λ (k : DeclaredItem). value_by (declarations units) names known (environment k.component Nobody) e ≡ Some v) (sym same) value)

itself_at : (p : Place) (v : ℤ) → IsItemValue units names p v → p ≡ at 24 → ⊥
itself_at p v (First _ i found none before) same =
    not_both i.expr (named 8 25) none (subst (λ (k : DeclaredItem). k.expr ≡ Some (named 8 25)) (the_item p i same found) refl)
itself_at p v (Next _ i b x y found none before d s) same =
    not_both i.expr (named 8 25) none (subst (λ (k : DeclaredItem). k.expr ≡ Some (named 8 25)) (the_item p i same found) refl)
itself_at p v (Given _ i e known x found is items value) same = itself_at (at 24) x (items (at 24) x (its_value known x (of_item i e known x (the_item p i same found) is value))) refl

pub itself : (v : ℤ) → Item 24 v → ⊥
itself v d = itself_at (at 24) v d refl

-- ---- expressions

pub in_second : HasValue units names top inside (pos 1)
in_second = record { known = nothing; items = of_nothing; value = refl }

pub no_quotient : (v : ℤ) → HasValue units names top quotient v → ⊥
no_quotient v h = not_both (value_by (declarations units) names h.known top quotient) v refl h.value

pub right_not_needed : HasValue units names top with_nothing (pos 1)
right_not_needed = record { known = nothing; items = of_nothing; value = refl }

pub no_constant : (v : ℤ) → IsConstant units names top with_nothing v → ⊥
unfolding item_at look_up declared_at base_of member_of an_item_at value_named type_of traversed stands_for read_path
no_constant v c = true≢false (sym (c.items (Reads top (record { name = name 10 42; index = false }) []) (0, omega arith, refl)))
