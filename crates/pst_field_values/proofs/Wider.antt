-- Constraints over more and more quantities.
use Rattle.std.proofs.Common.{◌≡◌, ◌⊎◌, ℕ, ◌+◌, ◌<◌, ◌≤◌, ℤ, List, [], ◌∷◌, ◌++◌, length, map, All, Option, Some, None, refl, sym, ap, ◌∙◌, subst, inl, inr, length-append, arith}
use Rattle.std.specs.Prelude.{slice_get}
use Rattle.std.proofs.lemmas.Option.{slice_get_within}
use Rattle.pst_expr.specs.declared.ranges.Span.{Span}
use Rattle.pst_expr.specs.declared.tree.Expr.{Expr}
use Rattle.pst_expr.specs.Tree.{Expression, Constant, Variable, Unary, Binary, Element, view}
use Rattle.pst_expr.specs.Value.{value, variable_value}
use Rattle.pst_domain.specs.Bounds.{HasVariablesBelow}
use Rattle.pst_narrow.specs.Solutions.{IsTruth}
use Rattle.pst_model.specs.ConstraintTree.{SlotTree, ConstraintTree}
use Rattle.pst_model.specs.ModelTree.{ModelTree}
use Rattle.pst_model.specs.Sound.{IsSound}
use Rattle.pst_scen.specs.declared.scenario.Scenario.{Scenario}
use Rattle.pst_legal.specs.Standing.{value_of, bound_of}
use Rattle.pst_built.proofs.Lists.{get_below, get_mapped}
use Rattle.pst_constraint_sites.specs.Sites.{SiteTree, slot_at}
use Rattle.pst_written_constraints.specs.declared.term.Term.{Term}
use Rattle.pst_written_constraints.specs.declared.term.Term.TheVariants as term
use Rattle.pst_written_constraints.specs.Terms.{HasTerm, IsMirror}
use Rattle.pst_written_constraints.specs.Written.{slot_values}
use Rattle.pst_written_constraints.proofs.Sites.{same_values, truth, all_pushed}
use Rattle.pst_field_values.specs.declared.subject.Subject.{Subject}
use Rattle.pst_field_values.specs.declared.subject.Position.{Position}
use Rattle.pst_field_values.specs.Fields.{IsLater}
use Rattle.pst_field_values.specs.Quantities.{Quantity, standing_of, quantity_bounds, own_quantity, own_quantities, slot_quantities, BeginWithFields}
use Rattle.pst_field_values.specs.Subjects.{site_of, IsFieldAt, IsThere, IsReached}
use Rattle.pst_field_values.specs.Writing.{IsTermAt, AreTermsAt, Lasts, AreValuesOf, IsKept, AreOverAt}
use Rattle.pst_field_values.proofs.Later.{field_named}
use Rattle.pst_field_values.proofs.Tables.{get_left, get_right, length_mapped, value_mapped, begin_with, own_there, slots_there, both_there, more_bounds}

-- ---- more quantities

variables_below_more : (n k : ℕ) (e : Expression) → n ≤ k → HasVariablesBelow n e → HasVariablesBelow k e
variables_below_more n k (Constant z) less h = tt
variables_below_more n k (Variable i) less h = omega (arith, h, less)
variables_below_more n k (Unary op e) less h = variables_below_more n k e less h
variables_below_more n k (Binary op a b) less h = (variables_below_more n k a less h.0, variables_below_more n k b less h.1)
variables_below_more n k (Element first count e) less h = (λ i small. let at = h.0 i small in omega (arith, at, less), variables_below_more n k e less h.1)

pub kept_wider : (m : ModelTree) (s : Scenario) (qs more : List Quantity) (e : Expression) → IsKept m s qs e → IsKept m s (qs ++ more) e
kept_wider m s qs more e kept = record {
  variables = let l = length-append qs more in variables_below_more (length qs) (length (qs ++ more)) e (omega (arith, l)) kept.variables;
  met = λ t values later holds are. kept.met t values later holds (λ i q is. are i q (get_left qs more i q is));
}

pub all_wider : (m : ModelTree) (s : Scenario) (qs more : List Quantity) (es : List Expression) → All (IsKept m s qs) es → All (IsKept m s (qs ++ more)) es
all_wider m s qs more es all k d l = kept_wider m s qs more _ (all k d l)

-- ---- one constraint more

module _ (m : ModelTree) (s : Scenario) (sound : IsSound m) (subject : Subject) (position : Position) (reached : IsReached m s.nodes subject)
    (qs : List Quantity) (own : BeginWithFields subject.node subject.fields qs) (base : ℕ) (count : base ≡ length qs) where
  abbrev site : SiteTree
  site = site_of subject position

  module _ (slots : List SlotTree) where
    abbrev every : List Quantity
    every = qs ++ slot_quantities site slots

    slot_there : (i : ℕ) (slot : SlotTree) (v : ℕ) → v ≡ base + i → slice_get slots i ≡ Some slot → slice_get every v ≡ Some (record { site = site; slot = slot })
    slot_there i slot v e is =
        get_right qs (slot_quantities site slots) i v (omega (arith, e, count)) ∙ get_mapped (λ (x : SlotTree). record { site = site; slot = x }) slots i slot is

    field_there : (v : ℕ) → v < subject.fields → slice_get every v ≡ Some (own_quantity subject.node v)
    field_there v l = get_left qs (slot_quantities site slots) v (own_quantity subject.node v) (own v l)

    term_agrees : (t : Scenario) (values : List (Option ℤ)) → IsLater m s t → AreValuesOf m t every values → (i : ℕ) (slot : SlotTree) (x : Term) → slice_get slots i ≡ Some slot
        → IsTermAt subject position slot base i x → HasTerm (Some x) values (value_of (slot_at m t site slot))
    term_agrees t values later are i slot (term.Number v) is term = absurd term
    term_agrees t values later are i slot (term.Variable v) is (inl e) = sym (are v (record { site = site; slot = slot }) (slot_there i slot v e is))
    term_agrees t values later are i slot (term.Variable v) is (inr own_field) =
        ap value_of (field_named m s t sound later subject position slot v reached own_field.1) ∙ sym (are v (own_quantity subject.node v) (field_there v own_field.0))
    term_agrees t values later are i slot term.Nothing is term = absurd term
    term_agrees t values later are i slot term.Unknown is term = tt

    module _ (terms : List Term) (at : AreTermsAt subject position slots base terms) where
      slot_of : (j : ℕ) (x : Term) → slice_get terms j ≡ Some x → (slot : SlotTree) × (slice_get slots j ≡ Some slot)
      slot_of j x is = let l = slice_get_within terms j x is in let long = at.long in get_below slots j (omega (arith, l, long))

      agree : (t : Scenario) (values : List (Option ℤ)) → IsLater m s t → AreValuesOf m t every values → (j : ℕ) (o : Option Term) → slice_get terms j ≡ o
          → HasTerm o values (variable_value (slot_values m t site slots) j)
      agree t values later are j None is = tt
      agree t values later are j (Some x) is =
          let slot = slot_of j x is in
          subst (HasTerm (Some x) values) (sym (value_mapped (λ z. value_of (slot_at m t site z)) slots j slot.0 slot.1))
          (term_agrees t values later are j slot.0 x slot.1 (at.each j slot.0 x slot.1 is))

      below : (j i : ℕ) → slice_get terms j ≡ Some (term.Variable i) → i < length every
      below j i is =
          let slot = slot_of j (term.Variable i) is in
          by slot.0 slot.1 (at.each j slot.0 (term.Variable i) slot.1 is)
        where
          by : (x : SlotTree) → slice_get slots j ≡ Some x → (i ≡ base + j) ⊎ ((i < subject.fields) × IsFieldAt subject position x i) → i < length every
          by x there (inl e) = slice_get_within every i (record { site = site; slot = x }) (slot_there j x i e there)
          by x there (inr field) = slice_get_within every i (own_quantity subject.node i) (field_there i field.0)

  pub kept_new : (k : ConstraintTree) (terms : List Term) (e : Expression) → AreTermsAt subject position k.slots base terms → IsMirror terms k.expression e → Lasts m s site k
      → IsKept m s (qs ++ slot_quantities site k.slots) e
  kept_new k terms e at mirror lasts = record {
    variables = mirror.variables (length (every k.slots)) (below k.slots terms at);
    met = λ t values later holds are.
        let has = lasts t later in
        let same : value e values ≡ value k.expression (map (λ slot. value_of (has.0 slot)) k.slots) =
        mirror.values values (slot_values m t site k.slots) (λ j. agree k.slots terms at t values later are j (slice_get terms j) refl)
        ∙ ap (value k.expression) (same_values m t site has.0 has.2 k.slots) in
        subst IsTruth (sym same) (truth (value k.expression (map (λ slot. value_of (has.0 slot)) k.slots)) (holds k has.0 has.1));
  }

-- one constraint more, over its slots too
pub over_more : (m : ModelTree) (s : Scenario) → IsSound m → (subject : Subject) (position : Position) → IsReached m s.nodes subject → IsThere s.nodes (site_of subject position)
    → (es new_es : List Expr) (bounds new : List (Option Span)) (base : ℕ) → AreOverAt m s subject.node subject.fields (map view es) bounds → base ≡ length bounds
    → (k : ConstraintTree) (terms : List Term) (e : Expr) → AreTermsAt subject position k.slots base terms → IsMirror terms k.expression (view e) → Lasts m s (site_of subject position) k
    → new ≡ bounds ++ map (λ slot. bound_of (slot_at m s (site_of subject position) slot)) k.slots → new_es ≡ es ++ e ∷ []
    → AreOverAt m s subject.node subject.fields (map view new_es) new
over_more m s sound subject position reached there es new_es bounds new base over count k terms e at mirror lasts more pushed =
    let qs = over.quantities in
    let site = site_of subject position in
    let added = slot_quantities site k.slots in
    let many : base ≡ length qs = count ∙ ap length over.bounds_are ∙ length_mapped (λ q. bound_of (standing_of m s q)) qs in
    record {
      quantities = qs ++ added;
      own = λ field l. get_left qs added field (own_quantity subject.node field) (over.own field l);
      there = both_there s.nodes qs added over.there (slots_there s.nodes site k.slots there);
      bounds_are = more_bounds m s qs site k.slots bounds new over.bounds_are more;
      kept = all_pushed (IsKept m s (qs ++ added)) es new_es e pushed (all_wider m s qs added (map view es) over.kept)
          (kept_new m s sound subject position reached qs over.own base many k terms (view e) at mirror lasts);
    }

-- no constraint yet, over the fields alone
pub over_none : (m : ModelTree) (s : Scenario) (subject : Subject) → IsReached m s.nodes subject → (es : List Expr) (bounds : List (Option Span)) → es ≡ []
    → bounds ≡ quantity_bounds m s (own_quantities subject.node subject.fields) → AreOverAt m s subject.node subject.fields (map view es) bounds
over_none m s subject reached es bounds none is =
    record {
      quantities = own_quantities subject.node subject.fields;
      own = begin_with subject.node subject.fields;
      there = own_there m s.nodes subject.node subject.fields (let e = reached.fields in omega (arith, e));
      bounds_are = is;
      kept = subst (λ xs. All (IsKept m s (own_quantities subject.node subject.fields)) (map view xs)) (sym none) (λ k d l. absurd (omega (arith, l)));
    }
