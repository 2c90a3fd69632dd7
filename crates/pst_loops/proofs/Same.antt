-- What a comparison of declarations tells.
use Rattle.std.proofs.Common.{◌≡◌, Bool, true, false, ◌&&◌, refl, ap, ◌∙◌, Option, Some, None, arith}
use Rattle.std.proofs.lemmas.Bool.Decides.{nat_tests}
use Rattle.pst_base.specs.declared.position.Place.{Place}
use Rattle.pst_ast.specs.declared.leaf.Name.{Name}
use Rattle.pst_ast.specs.declared.shared.TypeName.{TypeName}
use Rattle.pst_ast.specs.declared.shared.ScopedName.{ScopedName}
use Rattle.pst_ast.specs.declared.scope_declaration.Declaration.{Declaration}
use Rattle.pst_ast.specs.declared.scope_declaration.Scope.{Scope}
use Rattle.pst_ast.specs.declared.scope_declaration.Scope.TheVariants.{Files, Part}
use Rattle.pst_ast.specs.declared.scope_declaration.Sort.{Sort}
use Rattle.pst_ast.specs.declared.scope_declaration.Sort.TheVariants as sort
use Rattle.pst_base.specs.contracts.position.PlacePartialEq.TheImpl as place
use Rattle.pst_ast.specs.contracts.leaf.NamePartialEq.TheImpl as name
use Rattle.pst_ast.specs.contracts.scope_declaration.ScopePartialEq.TheImpl as scope
use Rattle.pst_ast.specs.contracts.scope_declaration.SortPartialEq.TheImpl as sorts
use Rattle.pst_ast.specs.contracts.scope_declaration.DeclarationPartialEq.TheImpl as declaration
use Rattle.pst_ast.specs.contracts.shared.TypeNamePartialEq.TheImpl as type_name
use Rattle.pst_ast.specs.contracts.shared.ScopedNamePartialEq.TheImpl as scoped
use Rattle.pst_ast.specs.contracts.declaration.ObjectWordPartialEq.TheImpl as word
use Rattle.pst_ast.specs.declared.declaration.ObjectWord.{ObjectWord}
use Rattle.pst_ast.specs.declared.declaration.ObjectWord.TheVariants as words

never : false ≡ true → ⊥
never e = cc

pub same_place : (a b : Place) → place.eq-value.it a b ≡ true → a ≡ b
same_place a b e = grind (arith, nat_tests)

pub same_name : (a b : Name) → name.eq-value.it a b ≡ true → a ≡ b
same_name a b e = grind (arith, nat_tests)

pub same_scope : (a b : Scope) → scope.eq-value.it a b ≡ true → a ≡ b
same_scope Files Files e = refl
same_scope Files (Part b) e = absurd (never e)
same_scope (Part a) Files e = absurd (never e)
same_scope (Part a) (Part b) e = ap Part (same_place a b e)

same_scoped : (a b : ScopedName) → scoped.eq-value.it a b ≡ true → a ≡ b
same_scoped a b e = grind (arith, nat_tests)

same_word : (a b : ObjectWord) → word.eq-value.it a b ≡ true → a ≡ b
same_word words.Buffer words.Buffer e = refl
same_word words.Stream words.Stream e = refl
same_word words.State words.State e = refl
same_word words.Resource words.Resource e = refl
same_word a b e = absurd (never e)

both : (a b : Bool) → (a && b) ≡ true → (a ≡ true) × (b ≡ true)
both true true e = (refl, refl)
both true false e = cc
both false b e = cc

same_in_type : (m n : Name) (s t : Option ScopedName) → type_name.eq-value.it (record { first = m; second = s }) (record { first = n; second = t }) ≡ true → (m ≡ n) × (s ≡ t)
same_in_type m n None None e = (same_name m n (both (name.eq-value.it m n) true e).0, refl)
same_in_type m n None (Some t) e = absurd (never (both (name.eq-value.it m n) false e).1)
same_in_type m n (Some s) None e = absurd (never (both (name.eq-value.it m n) false e).1)
same_in_type m n (Some s) (Some t) e =
    let b = both (name.eq-value.it m n) (scoped.eq-value.it s t) e in
    (same_name m n b.0, ap Some (same_scoped s t b.1))

same_type : (a b : TypeName) → type_name.eq-value.it a b ≡ true → a ≡ b
same_type a b e =
    let p = same_in_type a.first b.first a.second b.second e in
    ap (λ (x : Name). record { first = x; second = a.second }) p.0 ∙ ap (λ (x : Option ScopedName). record { first = b.first; second = x }) p.1

same_reference : (a b : TypeName) (x y : Bool) → sorts.eq-value.it (sort.Reference a x) (sort.Reference b y) ≡ true → sort.Reference a x ≡ sort.Reference b y
same_reference a b true true e = ap (λ z. sort.Reference z true) (same_type a b (both (type_name.eq-value.it a b) true e).0)
same_reference a b false false e = ap (λ z. sort.Reference z false) (same_type a b (both (type_name.eq-value.it a b) true e).0)
same_reference a b true false e = absurd (never (both (type_name.eq-value.it a b) false e).1)
same_reference a b false true e = absurd (never (both (type_name.eq-value.it a b) false e).1)

same_sort : (a b : Sort) → sorts.eq-value.it a b ≡ true → a ≡ b
same_sort sort.Component sort.Component e = refl
same_sort (sort.Action None) (sort.Action None) e = refl
same_sort (sort.Action (Some a)) (sort.Action (Some b)) e = ap (λ x. sort.Action (Some x)) (same_type a b e)
same_sort (sort.Object a) (sort.Object b) e = ap sort.Object (same_word a b e)
same_sort sort.Enumeration sort.Enumeration e = refl
same_sort sort.Function sort.Function e = refl
same_sort (sort.Instance a) (sort.Instance b) e = ap sort.Instance (same_type a b e)
same_sort (sort.Pool a) (sort.Pool b) e = ap sort.Pool (same_type a b e)
same_sort (sort.Item a) (sort.Item b) e = ap sort.Item (same_scope a b e)
same_sort (sort.Field true) (sort.Field true) e = refl
same_sort (sort.Field false) (sort.Field false) e = refl
same_sort (sort.Reference a x) (sort.Reference b y) e = same_reference a b x y e
same_sort (sort.Claim a) (sort.Claim b) e = ap sort.Claim (same_type a b e)
same_sort (sort.Handle a) (sort.Handle b) e = ap sort.Handle (same_type a b e)
same_sort sort.Constraint sort.Constraint e = refl
same_sort sort.Parameter sort.Parameter e = refl
same_sort sort.Local sort.Local e = refl
same_sort sort.Index sort.Index e = refl
same_sort a b e = absurd (never e)

-- both stand in the text of the same type, or both at file level
abbrev inside_is : Option Place → Option Place → Bool
inside_is None None = true
inside_is None (Some b) = false
inside_is (Some a) None = false
inside_is (Some a) (Some b) = place.eq-value.it a b

same_inside : (a b : Option Place) → inside_is a b ≡ true → a ≡ b
same_inside None None e = refl
same_inside None (Some b) e = cc
same_inside (Some a) None e = cc
same_inside (Some a) (Some b) e = ap Some (same_place a b e)

in_parts : (m n : Name) (s t : Scope) (i j : Option Place) (x y : Sort) → declaration.eq-value.it (record { name = m; scope = s; inside = i; sort = x }) (record { name = n; scope = t; inside = j; sort = y }) ≡ true → (name.eq-value.it m n && (scope.eq-value.it s t && (inside_is i j && sorts.eq-value.it x y))) ≡ true
in_parts m n s t None None x y e = e
in_parts m n s t None (Some j) x y e = e
in_parts m n s t (Some i) None x y e = e
in_parts m n s t (Some i) (Some j) x y e = e

pub same_declaration : (a b : Declaration) → declaration.eq-value.it a b ≡ true → a ≡ b
same_declaration a b e =
    let p = both (name.eq-value.it a.name b.name) (scope.eq-value.it a.scope b.scope && (inside_is a.inside b.inside && sorts.eq-value.it a.sort b.sort)) (in_parts a.name b.name a.scope b.scope a.inside b.inside a.sort b.sort e) in
    let q = both (scope.eq-value.it a.scope b.scope) (inside_is a.inside b.inside && sorts.eq-value.it a.sort b.sort) p.1 in
    let r = both (inside_is a.inside b.inside) (sorts.eq-value.it a.sort b.sort) q.1 in
    ap (λ (z : Name). record { name = z; scope = a.scope; inside = a.inside; sort = a.sort }) (same_name a.name b.name p.0)
    ∙ ap (λ (z : Scope). record { name = b.name; scope = z; inside = a.inside; sort = a.sort }) (same_scope a.scope b.scope q.0)
    ∙ ap (λ (z : Option Place). record { name = b.name; scope = b.scope; inside = z; sort = a.sort }) (same_inside a.inside b.inside r.0)
    ∙ ap (λ (z : Sort). record { name = b.name; scope = b.scope; inside = b.inside; sort = z }) (same_sort a.sort b.sort r.1)
