-- What is kept of the fields of types are their numbers.
use Rattle.std.proofs.Common.{◌≡◌, refl, sym, ap, subst, ◌∙◌, arith}
use Rattle.std.specs.Prelude.{ℕ, zero, suc, ◌+◌, length, Bool, true, false, List, [], ◌∷◌, ◌++◌, Option, Some, None, IfSome, if◌then◌else◌, slice_get}
use Rattle.std.specs.List.{filter, flat_map}
use Rattle.std.specs.Option.{option_and_then, option_map_or}
use Rattle.pst_base.specs.declared.position.Place.{Place}
use Rattle.pst_ast.specs.declared.shared.TypeName.{TypeName}
use Rattle.pst_ast.specs.declared.scope_declaration.Declaration.{Declaration}
use Rattle.pst_ast.specs.declared.scope_declaration.Scope.TheVariants.{Part}
use Rattle.pst_ast.specs.declared.scope_declaration.Sort.{Sort}
use Rattle.pst_ast.specs.declared.scope_declaration.Sort.TheVariants as sort
use Rattle.pst_ast.specs.Lookups.{action_beside, base_in, base_of, type_named}
use Rattle.pst_ast.specs.Sorts.{is_field, is_object, same_place, same_scope}
use Rattle.pst_type_rules.specs.Members.{those_that, own_members}
use Rattle.pst_tree.specs.Bases.{bases_within, with_bases, fields_of}
use Rattle.pst_terms.specs.Sources.{Sources, declared_in}
use Rattle.pst_terms.specs.Fields.{count_of, field_number, field_number_in}
use Rattle.pst_sources.specs.declared.fields.FieldNumber.{FieldNumber}
use Rattle.pst_sources.specs.declared.fields.FieldRow.{FieldRow}
use Rattle.pst_sources.specs.Numbered.{numbered, number_at, AreNumbersOf, AreFieldRows}

-- ---- fields of a list

step : (b : Bool) (n count rest : ℕ) (later : Option ℕ) → IfSome later (λ k. k ≡ n + count + rest) → IfSome (if b then Some n else later) (λ k. k ≡ n + (if b then 0 else count + rest))
step true n count rest later is = omega arith
step false n count rest None is = tt
step false n count rest (Some k) is = omega (arith, is)

numbers_from : (s : Sources) (n : ℕ) (fields : List Declaration) (d : Declaration) → IfSome (number_at (numbered s n fields) d.name.place) (λ k. k ≡ n + field_number_in s fields d)
numbers_from s n [] d = tt
numbers_from s n (m ∷ more) d =
    step (same_place m.name.place d.name.place) n (count_of s m) (field_number_in s more d) (number_at (numbered s (n + count_of s m) more) d.name.place) (numbers_from s (n + count_of s m) more d)

from_zero : (o : Option ℕ) (number : ℕ) → IfSome o (λ k. k ≡ 0 + number) → IfSome o (λ k. k ≡ number)
from_zero None number is = tt
from_zero (Some k) number is = omega (arith, is)

pub numbers_are : (s : Sources) (owner : Declaration) (fields : List Declaration) (kept : List FieldNumber) → fields ≡ fields_of (declared_in s) owner → kept ≡ numbered s 0 fields → AreNumbersOf s owner kept
numbers_are s owner fields kept are is = λ d.
    subst (λ (xs : List FieldNumber). IfSome (number_at xs d.name.place) (λ k. k ≡ field_number s owner d)) (sym (is ∙ ap (numbered s 0) are))
    (from_zero (number_at (numbered s 0 (fields_of (declared_in s) owner)) d.name.place) (field_number s owner d) (numbers_from s 0 (fields_of (declared_in s) owner) d))

-- ---- types at one place

never : false ≡ true → ⊥
never e = cc

no_base_in : (s : Sort) → is_object s ≡ true → base_in s ≡ None
no_base_in (sort.Action base) e = absurd (never e)
no_base_in s e = refl

no_base : (ds : List Declaration) (d : Declaration) → is_object d.sort ≡ true → base_of ds d ≡ None
unfolding base_of
no_base ds d e = ap (λ (name : Option TypeName). option_and_then (action_beside d) (option_and_then (type_named ds d.inside) name)) (no_base_in d.sort e)

module _ (ds : List Declaration) where
  alone : (n : ℕ) (d : Declaration) → is_object d.sort ≡ true → bases_within (suc n) ds d ≡ d ∷ []
  alone n d e = ap (λ (base : Option Declaration). option_map_or (bases_within n ds) base [] ++ d ∷ []) (no_base ds d e)

  abbrev fields_in : List Declaration → List Declaration
  fields_in types = those_that is_field (flat_map (own_members ds) types)

  abbrev fields_at : Place → List Declaration
  fields_at place = those_that is_field (filter (λ m. same_scope m.scope (Part place)) ds ++ [])

  same_within : (n : ℕ) (a b : Declaration) → is_object a.sort ≡ true → is_object b.sort ≡ true → a.name.place ≡ b.name.place → fields_in (bases_within n ds a) ≡ fields_in (bases_within n ds b)
  same_within zero a b one other place = refl
  same_within (suc n) a b one other place = ap fields_in (alone n a one) ∙ ap fields_at place ∙ sym (ap fields_in (alone n b other))

  pub same_fields : (a b : Declaration) → is_object a.sort ≡ true → is_object b.sort ≡ true → a.name.place ≡ b.name.place → fields_of ds a ≡ fields_of ds b
  unfolding with_bases
  same_fields a b one other place = same_within (length ds) a b one other place

-- ---- rows

nothing_at : {x : FieldRow} → None ≡ Some x → ⊥
nothing_at {x} e = cc

some_at : {x y : FieldRow} → Some x ≡ Some y → x ≡ y
some_at {x} {y} e = cc

module _ (s : Sources) where
  pub no_rows : (rows : List FieldRow) → rows ≡ [] → AreFieldRows s rows
  no_rows rows none k row at = absurd (nothing_at (sym (ap (λ (xs : List FieldRow). slice_get xs k) none) ∙ at))

  one_more : (rows : List FieldRow) (row : FieldRow) → AreFieldRows s rows → AreNumbersOf s row.owner row.fields.items → AreFieldRows s (rows ++ row ∷ [])
  one_more [] row are is zero found at = subst (λ (r : FieldRow). AreNumbersOf s r.owner r.fields.items) (some_at at) is
  one_more [] row are is (suc k) found at = absurd (nothing_at at)
  one_more (r ∷ rows) row are is zero found at = are zero found at
  one_more (r ∷ rows) row are is (suc k) found at = one_more rows row (λ j x e. are (suc j) x e) is k found at

  pub row_added : (rows more : List FieldRow) (row : FieldRow) → more ≡ rows ++ row ∷ [] → AreNumbersOf s row.owner row.fields.items → AreFieldRows s rows → AreFieldRows s more
  row_added rows more row added is are = subst (AreFieldRows s) (sym added) (one_more rows row are is)

  -- what is kept of a type is its number
  pub number_kept : (rows : List FieldRow) (k : ℕ) (row : FieldRow) (owner d : Declaration) (found : Option ℕ) → slice_get rows k ≡ Some row → fields_of (declared_in s) row.owner ≡ fields_of (declared_in s) owner
      → found ≡ number_at row.fields.items d.name.place → AreFieldRows s rows → IfSome found (λ n. n ≡ field_number s owner d)
  number_kept rows k row owner d found at same is are =
      subst (λ (o : Option ℕ). IfSome o (λ n. n ≡ field_number s owner d)) (sym is)
      (subst (λ (fields : List Declaration). IfSome (number_at row.fields.items d.name.place) (λ n. n ≡ field_number_in s fields d)) same (are k row at d))
