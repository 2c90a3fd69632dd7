-- A declaration is found by a key just where it has the name and scope, the place, or the level and name of that key.
use Rattle.std.proofs.Common.{◌≡◌, ℕ, Bool, true, false, ◌&&◌, List, [], ◌∷◌, nat_eq, refl, sym, ap, ◌∙◌, cond, Option}
use Rattle.std.specs.Prelude.{Some, None, if◌then◌else◌}
use Rattle.std.proofs.Math.Bool.{and_assoc}
use Rattle.std.specs.Cmp.{nat_eq_equiv}
use Rattle.std.specs.List.{find}
use Rattle.std.specs.Option.{option_map_or}
use Rattle.pst_base.specs.declared.position.Place.{Place}
use Rattle.pst_base.specs.declared.table.NameId.{NameId}
use Rattle.pst_ast.specs.declared.scope_declaration.Declaration.{Declaration}
use Rattle.pst_ast.specs.declared.scope_declaration.Scope.{Scope}
use Rattle.pst_ast.specs.declared.scope_declaration.Scope.TheVariants.{Files, Part}
use Rattle.pst_ast.specs.declared.scope_declaration.Sort.{Sort}
use Rattle.pst_ast.specs.declared.scope_declaration.Sort.TheVariants as sort
use Rattle.pst_ast.specs.Sorts.{same_name, same_place, same_scope, is_field}
use Rattle.pst_ast.specs.Lookups.{look_up, declared_at, item_at, is_item_at, field_of}
use Rattle.pst_index.specs.declared.key.Key.{Key}
use Rattle.pst_index.specs.declared.key.By.TheVariants as by
use Rattle.pst_index.specs.Keys.{place_key, name_key, item_key}
use Rattle.pst_index.specs.Found.{has_key, same_key}

flip : (a b : ℕ) → nat_eq a b ≡ nat_eq b a
flip a b = nat_eq_equiv.symm a b

pub find_same : (p q : Declaration → Bool) → ((d : Declaration) → p d ≡ q d) → (ds : List Declaration) → find p ds ≡ find q ds
find_same p q same [] = refl
find_same p q same (d ∷ ds) =
    ap (λ (b : Bool). cond b (Some d) (find p ds)) (same d) ∙ ap (λ (found : Option Declaration). cond (q d) (Some d) found) (find_same p q same ds)

regroup : (a b c d : Bool) → (a && (b && (c && d))) ≡ ((a && (b && c)) && d)
regroup false b c d = refl
regroup true false c d = refl
regroup true true c d = refl

-- the same with each test turned round
turned : (p q : Place) (n m : ℕ) → (nat_eq p.file q.file && (nat_eq p.line q.line && (nat_eq p.column q.column && nat_eq n m))) ≡ (same_place q p && nat_eq m n)
turned p q n m =
    ap (λ (b : Bool). b && (nat_eq p.line q.line && (nat_eq p.column q.column && nat_eq n m))) (flip p.file q.file)
    ∙ ap (λ (b : Bool). nat_eq q.file p.file && (b && (nat_eq p.column q.column && nat_eq n m))) (flip p.line q.line)
    ∙ ap (λ (b : Bool). nat_eq q.file p.file && (nat_eq q.line p.line && (b && nat_eq n m))) (flip p.column q.column)
    ∙ ap (λ (b : Bool). nat_eq q.file p.file && (nat_eq q.line p.line && (nat_eq q.column p.column && b))) (flip n m)
    ∙ regroup (nat_eq q.file p.file) (nat_eq q.line p.line) (nat_eq q.column p.column) (nat_eq m n)

same_names : (s t : Scope) (n m : NameId) → same_key (name_key s n) (name_key t m) ≡ (same_scope t s && same_name m n)
same_names Files Files n m = flip n.0 m.0
same_names Files (Part q) n m = refl
same_names (Part p) Files n m = refl
same_names (Part p) (Part q) n m = turned p q n.0 m.0

and_true : (b : Bool) → (b && true) ≡ b
and_true true = refl
and_true false = refl

and_false : (b : Bool) → (b && false) ≡ false
and_false true = refl
and_false false = refl

same_places : (p q : Place) → same_key (place_key p) (place_key q) ≡ same_place q p
same_places p q = turned p q 0 0 ∙ and_true (same_place q p)

pub item_has : (s : Sort) (level : Scope) (n m : NameId) → option_map_or (same_key (name_key level n)) (item_key s m) false ≡ (is_item_at level s && same_name m n)
item_has (sort.Item at) level n m = same_names level at n m
item_has sort.Component level n m = refl
item_has (sort.Action base) level n m = refl
item_has (sort.Object word) level n m = refl
item_has sort.Enumeration level n m = refl
item_has sort.Function level n m = refl
item_has (sort.Instance of) level n m = refl
item_has (sort.Pool of) level n m = refl
item_has (sort.Field array) level n m = refl
item_has (sort.Reference of output) level n m = refl
item_has (sort.Claim of) level n m = refl
item_has (sort.Handle of) level n m = refl
item_has sort.Constraint level n m = refl
item_has sort.Parameter level n m = refl
item_has sort.Local level n m = refl
item_has sort.Index level n m = refl

pub is_name : (ds : List Declaration) (scope : Scope) (name : NameId) → find (has_key by.Name (name_key scope name)) ds ≡ look_up ds scope name
unfolding look_up
is_name ds scope name =
    find_same (has_key by.Name (name_key scope name)) (λ d. same_scope d.scope scope && same_name d.name.id name) (λ d. same_names scope d.scope name d.name.id) ds

pub is_place : (ds : List Declaration) (place : Place) → find (has_key by.Place (place_key place)) ds ≡ declared_at ds place
unfolding declared_at
is_place ds place =
    find_same (has_key by.Place (place_key place)) (λ d. same_place d.name.place place) (λ d. same_places place d.name.place) ds

pub is_item : (ds : List Declaration) (level : Scope) (name : NameId) → find (has_key by.Item (name_key level name)) ds ≡ item_at ds level name
unfolding item_at
is_item ds level name =
    find_same (has_key by.Item (name_key level name)) (λ d. is_item_at level d.sort && same_name d.name.id name) (λ d. item_has d.sort level name d.name.id) ds

field_has : (b : Bool) (k : Key) (key : Key) → option_map_or (same_key key) (if b then Some k else None) false ≡ (same_key key k && b)
field_has true k key = sym (and_true (same_key key k))
field_has false k key = sym (and_false (same_key key k))

pub is_field_named : (ds : List Declaration) (object : Declaration) (name : NameId) → find (has_key by.Field (name_key (Part object.name.place) name)) ds ≡ field_of ds object name
is_field_named ds object name =
    find_same (has_key by.Field (name_key (Part object.name.place) name)) (λ d. same_scope d.scope (Part object.name.place) && (same_name d.name.id name && is_field d.sort))
    (λ d. field_has (is_field d.sort) (name_key d.scope d.name.id) (name_key (Part object.name.place) name)
    ∙ ap (λ (b : Bool). b && is_field d.sort) (same_names (Part object.name.place) d.scope name d.name.id)
    ∙ and_assoc (same_scope d.scope (Part object.name.place)) (same_name d.name.id name) (is_field d.sort)) ds
