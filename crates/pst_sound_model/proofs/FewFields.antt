-- No type has too many fields.
use Rattle.std.proofs.Common.{◌≡◌, ◌⊎◌, ◌<◌, ◌≤◌, inl, inr, refl, sym, ap, subst, arith, ◌∙◌}
use Rattle.std.specs.Prelude.{ℕ, ◌+◌, true, ℤ, pos, negsuc, unsigned_abs, List, [], ◌∷◌, ◌++◌, length, All, Option, Some, None}
use Rattle.std.specs.Option.{option_map, option_map_or, option_and_then}
use Rattle.std.proofs.lemmas.Bool.{cases_lt}
use Rattle.std.proofs.lemmas.Int.{ints}
use Rattle.std.proofs.lemmas.List.Elements.{All-map}
use Rattle.pst_ast.specs.ExpressionTree.{ExprTree}
use Rattle.pst_ast.specs.DeclarationTree.{UnitTree}
use Rattle.pst_model.specs.Limits.{most_fields, most_elements}
use Rattle.pst_model.specs.ModelTree.{ModelTree}
use Rattle.pst_ast.specs.Breaches.{IsNone}
use Rattle.pst_ast.specs.declared.scope_declaration.Declaration.{Declaration}
use Rattle.pst_ast.specs.Declarations.{declarations}
use Rattle.pst_ast.specs.NameRules.{NameBreach}
use Rattle.pst_ast.specs.Sorts.{is_action, is_object, is_field, same_place}
use Rattle.pst_ast.specs.Uses.{Judges, ArraySize, uses}
use Rattle.pst_type_rules.specs.Constants.{IsConstant}
use Rattle.pst_type_rules.specs.Domains.{span}
use Rattle.pst_type_rules.specs.Limits.{AddsFields, One, Array, AddTogether, Nothing, More}
use Rattle.pst_type_rules.specs.Members.{those_that}
use Rattle.pst_type_rules.specs.Places.{expr_place}
use Rattle.pst_type_rules.specs.Sites.{DeclaredField, fields, field_at}
use Rattle.pst_type_rules.specs.TypeRules.{TypeBreach, OfUse, OfDeclaration, ValueOutside, ManyFields}
use Rattle.pst_tree.specs.Bases.{members, fields_of}
use Rattle.pst_terms.specs.Sources.{Sources, value_of, amount_of}
use Rattle.pst_terms.specs.Fields.{elements_in, count_of}
use Rattle.pst_elab_rules.specs.Model.{sources, IsModel}
use Rattle.pst_elab_rules.specs.Types.{model_fields, model_action, model_object}
use Rattle.pst_sound_model.proofs.Members.{In, in_find, to_contains}
use Rattle.pst_sound_model.proofs.Owned.{those_declared, member_declared, same_itself}
use Rattle.pst_sound_model.proofs.FieldRows.{count_all, model_length}
use Rattle.pst_sound_model.proofs.Walks.{sized}
use Rattle.pst_sound_model.proofs.ConstantsIn.{by_value, within_limits}
use Rattle.pst_sound_model.proofs.Typed.{some_found}
use Rattle.pst_sound_model.proofs.FieldsSound.{field_declared}
use Rattle.pst_sound_model.proofs.FewNeeds.{its_members}
use Rattle.pst_sound_model.proofs.NeedsSound.{all_in}

module _ (units : List UnitTree) (names : List (List ℕ)) (right : IsNone (NameBreach units names)) (kept : IsNone (TypeBreach units names)) (model : ModelTree) (is : IsModel units names model) where
  abbrev s : Sources
  s = sources units names is.constants

  abbrev ds : List Declaration
  ds = declarations units

  abbrev Adds : Declaration → Type 0
  Adds d = AddsFields units names d (count_of s d)

  -- a value of the size of an array
  size_value : (f : DeclaredField) → In f (fields units) → (expr : ExprTree) → f.size ≡ Some expr → (v : ℤ) → IsConstant units names f.at expr v → value_of s expr ≡ Some v → IsConstant units names f.at expr (pos (amount_of s expr))
  size_value f there expr e (pos n) c found = let same : n ≡ amount_of s expr = sym (ap (λ (o : Option ℤ). option_map_or unsigned_abs o 0) found) in subst (λ (k : ℕ). IsConstant units names f.at expr (pos k)) same c
  size_value f there expr e (negsuc n) c found =
      absurd (kept (expr_place expr) 12 (OfUse (Judges f.at ArraySize expr) (expr_place expr) 12 (to_contains (uses units) (Judges f.at ArraySize expr) (sized units f there expr e))
      (ValueOutside f.at ArraySize expr (span (pos 1) (pos most_elements)) (negsuc n) refl c (λ inside. absurd (omega (arith, ints, inside))))))

  adds_by : (P : Type 0) → (P ⊎ (P → ⊥)) → (d : Declaration) (f : DeclaredField) → field_at units d.name.place ≡ Some f → In f (fields units) → (size : Option ExprTree) → f.size ≡ size → (AddsFields units names d (elements_in (option_map (amount_of s) size)) → P) → P
  adds_by P dec d f found there None e k = k (One d f found e)
  adds_by P dec d f found there (Some expr) e k =
      let few = within_limits units names is.constants is.are_constants kept f.at ArraySize expr 1 most_elements (sized units f there expr e) refl refl in
      by_value units names is.constants is.are_constants kept P dec f.at ArraySize expr (sized units f there expr e) refl
      (λ v c had. k (Array d f expr (amount_of s expr) found e (size_value f there expr e v c had) few.0 few.1))

  adds : (P : Type 0) → (P ⊎ (P → ⊥)) → (d : Declaration) → In d ds → is_field d.sort ≡ true → (Adds d → P) → P
  unfolding field_at
  adds P dec d there is_it k =
      let g = field_declared units d there is_it in
      let f = some_found (λ f. same_place f.name.place d.name.place) (fields units) g.0 g.1 (ap (λ n. same_place n.place d.name.place) g.2 ∙ same_itself d) in
      let found : field_at units d.name.place ≡ Some f.0 = f.1 in
      let among = (in_find (λ f. same_place f.name.place d.name.place) (fields units) f.0 f.1).0 in
      adds_by P dec d f.0 found among f.0.size refl
      (λ a. k (subst (λ (o : Option DeclaredField). AddsFields units names d (elements_in (option_map (amount_of s) (option_and_then (λ f. f.size) o)))) (sym found) a))

  abbrev AllAdd : List Declaration → Type 0
  AllAdd [] = Unit {0}
  AllAdd (d ∷ more) = Adds d × AllAdd more

  all_add : (P : Type 0) → (P ⊎ (P → ⊥)) → (list : List Declaration) → ((d : Declaration) → In d list → In d ds × (is_field d.sort ≡ true)) → (AllAdd list → P) → P
  all_add P dec [] are k = k tt
  all_add P dec (d ∷ more) are k = let a = are d (inl refl) in adds P dec d a.0 a.1 (λ x. all_add P dec more (λ e there. are e (inr there)) (λ y. k (x, y)))

  -- where the fields become too many
  record IsCrossing (list : List Declaration) (before : ℕ) : Type 0 where
    front : List Declaration
    m : Declaration
    more : List Declaration
    split : list ≡ front ++ m ∷ more
    n : ℕ
    together : AddTogether units names front n
    adds_m : Adds m
    few : before + n ≤ most_fields
    many : most_fields < before + n + count_of s m

  crossing : (list : List Declaration) (before : ℕ) → AllAdd list → before ≤ most_fields → most_fields < before + count_all s list → IsCrossing list before
  crossing [] before all few many = absurd (omega (arith, few, many))
  crossing (d ∷ more) before all few many = by (cases_lt most_fields (before + count_of s d)) (λ less. crossing more (before + count_of s d) all.1 less (omega (arith, many)))
    where
      by : (most_fields < before + count_of s d) ⊎ (before + count_of s d ≤ most_fields) → (before + count_of s d ≤ most_fields → IsCrossing more (before + count_of s d)) → IsCrossing (d ∷ more) before
      by (inl over) on = record { front = []; m = d; more = more; split = refl; n = 0; together = Nothing; adds_m = all.0; few = omega (arith, few); many = omega (arith, over) }
      by (inr less) on =
          let r = on less in
          record {
            front = d ∷ r.front;
            m = r.m;
            more = r.more;
            split = ap (λ (xs : List Declaration). d ∷ xs) r.split;
            n = count_of s d + r.n;
            together = More d r.front (count_of s d) r.n all.0 r.together;
            adds_m = r.adds_m;
            few = omega (arith, r.few);
            many = omega (arith, r.many);
          }

  pub few_fields : (d : Declaration) → In d ds → length (model_fields s is.domains d) ≤ most_fields
  few_fields d there = by (cases_lt most_fields (count_all s (fields_of ds d)))
    where
      are : (e : Declaration) → In e (fields_of ds d) → In e ds × (is_field e.sort ≡ true)
      are e h = member_declared is_field ds d e h

      too_many : most_fields < count_all s (fields_of ds d) → AllAdd (fields_of ds d) → ⊥
      too_many over all =
          let c = crossing (fields_of ds d) 0 all (omega arith) (omega (arith, over)) in
          kept c.m.name.place 12 (OfDeclaration d c.m.name.place 12 (to_contains ds d there)
          (ManyFields (members ds d) c.front c.more c.m c.n (count_of s c.m) (its_members units names right kept d there) c.split c.together c.adds_m (omega (arith, c.few)) (omega (arith, c.many))))

      by : (most_fields < count_all s (fields_of ds d)) ⊎ (count_all s (fields_of ds d) ≤ most_fields) → length (model_fields s is.domains d) ≤ most_fields
      by (inr less) = let same = model_length s is.domains d in omega (arith, same, less)
      by (inl over) = absurd (all_add ⊥ (inr (λ x. x)) (fields_of ds d) are (too_many over))

  pub fields_few : All (λ action. length action.fields ≤ most_fields) model.actions × All (λ object. length object.fields ≤ most_fields) model.objects
  fields_few =
      subst (λ (m : ModelTree). All (λ action. length action.fields ≤ most_fields) m.actions × All (λ object. length object.fields ≤ most_fields) m.objects) (sym is.is) (
        All-map (λ action. length action.fields ≤ most_fields) (model_action s is.domains) (those_that is_action ds)
            (all_in (λ d. length (model_fields s is.domains d) ≤ most_fields) (those_that is_action ds) (λ d there. few_fields d (those_declared is_action ds d there).0)),
        All-map (λ object. length object.fields ≤ most_fields) (model_object s is.domains) (those_that is_object ds)
            (all_in (λ d. length (model_fields s is.domains d) ≤ most_fields) (those_that is_object ds) (λ d there. few_fields d (those_declared is_object ds d there).0)),
      )
