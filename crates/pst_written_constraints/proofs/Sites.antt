-- Constraints that are written at their sites.
use Rattle.std.proofs.Common.{◌≡◌, ℕ, zero, suc, ◌<◌, ℤ, pos, List, [], ◌∷◌, ◌++◌, map, length, get_or, Contains, All, true, Option, Some, None, IfSome, refl, sym, ap, ◌∙◌, subst, arith}
use Rattle.std.specs.Prelude.{slice_get}
use Rattle.std.proofs.lemmas.Bool.{false≢true, not-true}
use Rattle.std.proofs.lemmas.Bool.Decides.{Decides-int_eq}
use Rattle.std.proofs.lemmas.Int.{ints}
use Rattle.std.proofs.lemmas.List.Elements.{All-push}
use Rattle.std.proofs.lemmas.Option.{none-some, same_Some, slice_get_within}
use Rattle.pst_expr.specs.declared.ranges.Span.{Span}
use Rattle.pst_expr.specs.declared.tree.Expr.{Expr}
use Rattle.pst_expr.specs.Tree.{Expression, view}
use Rattle.pst_expr.specs.Value.{value, variable_value, is_false}
use Rattle.pst_domain.specs.Bounds.{HasVariablesBelow, IsInside, bound_of as bound_at}
use Rattle.pst_domain.specs.Interval.{interval}
use Rattle.pst_domain.specs.Laws.{NarrowerBoundsGiveInnerSpans}
use Rattle.pst_narrow.specs.Solutions.{IsTruth}
use Rattle.pst_model.specs.ConstraintTree.{SlotTree, ConstraintTree}
use Rattle.pst_model.specs.ModelTree.{ModelTree}
use Rattle.pst_scen.specs.declared.scenario.Scenario.{Scenario}
use Rattle.pst_legal.specs.Blanks.{Blank, used_state_pools, domain_of}
use Rattle.pst_legal.specs.Pieces.{is_true}
use Rattle.pst_legal.specs.Standing.{Standing, Known, value_of, bound_of, value_or, open_value, hull}
use Rattle.pst_legal.specs.ValueReading.{with_firsts}
use Rattle.pst_few_places.specs.Fillings.{all_blanks, filled}
use Rattle.pst_built.proofs.Lists.{get_below}
use Rattle.pst_blank_values.specs.Rows.{stands_in}
use Rattle.pst_blank_values.specs.Values.{blank_values, AreBare, IsSameButValues}
use Rattle.pst_blank_values.specs.Laws.{FilledBlanksStand}
use Rattle.pst_blank_values.proofs.Fills.{empty_pools}
use Rattle.pst_constraint_sites.specs.Sites.{SiteTree, slot_at}
use Rattle.pst_constraint_sites.specs.Senses.{sense_at, LinksJoin, Tells}
use Rattle.pst_constraint_sites.specs.Groups.{GroupTree, groups}
use Rattle.pst_constraint_sites.specs.Laws.{SensesTell, HasFirstObjects, GroupsHaveConstraints}
use Rattle.pst_written_constraints.specs.declared.term.Term.{Term}
use Rattle.pst_written_constraints.specs.declared.term.Term.TheVariants as term
use Rattle.pst_written_constraints.specs.Terms.{IsTermOf, AreTermsOf, HasTerm, HasBound, IsMirror}
use Rattle.pst_written_constraints.specs.Written.{slot_values, slot_bounds, LieInBlanks, IsWriting, IsImplied, AreWritten}

-- ---- one constraint

value_of_open : (o : Option ℤ) (blank : Blank) (span : Option Span) → value_of (value_or o (open_value blank span)) ≡ o
value_of_open None blank None = refl
value_of_open None blank (Some span) = refl
value_of_open (Some v) blank span = refl

mapped_value : {A : Type 0} (f : A → Option ℤ) (xs : List A) (j : ℕ) (x : A) → slice_get xs j ≡ Some x → variable_value (map f xs) j ≡ f x
mapped_value f [] j x is = absurd (none-some x is)
mapped_value f (y ∷ ys) zero x is = ap f (same_Some y x is)
mapped_value f (y ∷ ys) (suc j) x is = mapped_value f ys j x is

inside_itself : (o : Option Span) → IsInside o o
inside_itself None = tt
inside_itself (Some span) = (omega (arith, ints), omega (arith, ints))

-- the bounds of slots by those of blanks, where they are written
abbrev term_bound : List (Option Span) → Term → Option Span → Option Span
term_bound bounds (term.Number n) other = Some (record { low = n; high = n })
term_bound bounds (term.Variable i) other = bound_at bounds i
term_bound bounds term.Nothing other = None
term_bound bounds term.Unknown other = other

abbrev term_bounds : List (Option Span) → List Term → List (Option Span) → List (Option Span)
term_bounds bounds [] others = []
term_bounds bounds (x ∷ terms) [] = []
term_bounds bounds (x ∷ terms) (other ∷ others) = term_bound bounds x other ∷ term_bounds bounds terms others

pub length_mapped : {A B : Type 0} (f : A → B) (xs : List A) → length (map f xs) ≡ length xs
length_mapped f [] = refl
length_mapped f (x ∷ xs) = ap suc (length_mapped f xs)

length_bounds : (bounds : List (Option Span)) (terms : List Term) (others : List (Option Span)) → length others ≡ length terms → length (term_bounds bounds terms others) ≡ length terms
length_bounds bounds [] others long = refl
length_bounds bounds (x ∷ terms) [] long = absurd (omega (arith, long))
length_bounds bounds (x ∷ terms) (other ∷ others) long = ap suc (length_bounds bounds terms others (omega (arith, long)))

bound_agrees : (bounds : List (Option Span)) (x : Term) (other : Option Span) → HasBound (Some x) bounds (term_bound bounds x other)
bound_agrees bounds (term.Number n) other = refl
bound_agrees bounds (term.Variable i) other = refl
bound_agrees bounds term.Nothing other = refl
bound_agrees bounds term.Unknown other = tt

bounds_agree : (bounds : List (Option Span)) (terms : List Term) (others : List (Option Span)) → length others ≡ length terms → (j : ℕ) → HasBound (slice_get terms j) bounds (bound_at (term_bounds bounds terms others) j)
bounds_agree bounds [] others long j = tt
bounds_agree bounds (x ∷ terms) [] long j = absurd (omega (arith, long))
bounds_agree bounds (x ∷ terms) (other ∷ others) long zero = bound_agrees bounds x other
bounds_agree bounds (x ∷ terms) (other ∷ others) long (suc j) = bounds_agree bounds terms others (omega (arith, long)) j

module _ (tell : SensesTell) (narrow : NarrowerBoundsGiveInnerSpans) (m : ModelTree) (s : Scenario) (blanks : List Blank) (site : SiteTree) where
  term_tells : (t : Scenario) (values : List (Option ℤ)) → IsSameButValues s t → ((i : ℕ) (blank : Blank) → slice_get blanks i ≡ Some blank → stands_in t blank ≡ variable_value values i)
      → (slot : SlotTree) (x : Term) → IsTermOf blanks (sense_at m s site slot) x → HasTerm (Some x) values (value_of (slot_at m t site slot))
  term_tells t values same stands slot (term.Number n) is = ap value_of (subst (λ sense. Tells m t sense (slot_at m t site slot)) is (tell m s t same site slot))
  term_tells t values same stands slot (term.Variable i) is =
      let told = subst (λ sense. Tells m t sense (slot_at m t site slot)) is.1 (tell m s t same site slot) in
      ap value_of told.1 ∙ value_of_open (stands_in t is.0) is.0 told.0 ∙ stands i is.0 is.2
  term_tells t values same stands slot term.Nothing is = ap value_of (subst (λ sense. Tells m t sense (slot_at m t site slot)) is (tell m s t same site slot))
  term_tells t values same stands slot term.Unknown is = tt

  -- ---- bounds

  term_inside : (t : Scenario) (bounds : List (Option Span)) → IsSameButValues s t → LinksJoin t.actions → LieInBlanks m t blanks bounds
      → (slot : SlotTree) (x : Term) → IsTermOf blanks (sense_at m s site slot) x → IsInside (term_bound bounds x (bound_of (slot_at m t site slot))) (bound_of (slot_at m t site slot))
  term_inside t bounds same joins lie slot (term.Number n) is =
      let told : slot_at m t site slot ≡ Known n = subst (λ sense. Tells m t sense (slot_at m t site slot)) is (tell m s t same site slot) in
      subst (λ standing. IsInside (Some (record { low = n; high = n })) (bound_of standing)) (sym told) (omega (arith, ints), omega (arith, ints))
  term_inside t bounds same joins lie slot (term.Variable i) is =
      let told = subst (λ sense. Tells m t sense (slot_at m t site slot)) is.1 (tell m s t same site slot) in
      let stands : slot_at m t site slot ≡ value_or (stands_in t is.0) (open_value is.0 (hull (domain_of m t.actions is.0))) =
      told.1 ∙ ap (λ span. value_or (stands_in t is.0) (open_value is.0 span)) (told.2 joins) in
      subst (λ standing. IsInside (bound_at bounds i) (bound_of standing)) (sym stands) (lie.each i is.0 is.2)
  term_inside t bounds same joins lie slot term.Nothing is = tt
  term_inside t bounds same joins lie slot term.Unknown is = inside_itself (bound_of (slot_at m t site slot))

  module _ (t : Scenario) (bounds : List (Option Span)) (same : IsSameButValues s t) (joins : LinksJoin t.actions) (lie : LieInBlanks m t blanks bounds) where
    terms_inside : (slots : List SlotTree) (terms : List Term) → length terms ≡ length slots
        → ((i : ℕ) (slot : SlotTree) (x : Term) → slice_get slots i ≡ Some slot → slice_get terms i ≡ Some x → IsTermOf blanks (sense_at m s site slot) x)
        → (j : ℕ) → IsInside (bound_at (term_bounds bounds terms (slot_bounds m t site slots)) j) (bound_at (slot_bounds m t site slots) j)
    terms_inside [] [] long each j = tt
    terms_inside [] (x ∷ terms) long each j = absurd (omega (arith, long))
    terms_inside (slot ∷ slots) [] long each j = tt
    terms_inside (slot ∷ slots) (x ∷ terms) long each zero = term_inside t bounds same joins lie slot x (each zero slot x refl refl)
    terms_inside (slot ∷ slots) (x ∷ terms) long each (suc j) = terms_inside slots terms (omega (arith, long)) (λ i a b p q. each (suc i) a b p q) j

  pub writing : (k : ConstraintTree) (terms : List Term) (e : Expression) → AreTermsOf blanks (sense_at m s site) k.slots terms → IsMirror terms k.expression e → IsWriting m s blanks site k e
  writing k terms e are mirror = record {
    variables = mirror.variables (length blanks) (λ j i is. below j i is);
    value_is = λ t values same stands. mirror.values values (slot_values m t site k.slots) (λ j. agree t values same stands j (slice_get terms j) refl);
    span_is = λ t bounds same joins lie.
        let actual = slot_bounds m t site k.slots in
        let seen = term_bounds bounds terms actual in
        let many : length actual ≡ length terms = length_mapped (λ slot. bound_of (slot_at m t site slot)) k.slots ∙ sym are.long in
        subst (λ o. IsInside o (interval k.expression actual))
        (sym (mirror.spans bounds seen (record { long = length_bounds bounds terms actual many; below = λ j i is. subst (λ n. i < n) (sym lie.long) (below j i is); each = bounds_agree bounds terms actual many })))
        (narrow k.expression seen actual (terms_inside t bounds same joins lie k.slots terms are.long are.each));
  }
    where
      slot_of : (j : ℕ) (x : Term) → slice_get terms j ≡ Some x → (slot : SlotTree) × (slice_get k.slots j ≡ Some slot)
      slot_of j x is = let l = slice_get_within terms j x is in let long = are.long in get_below k.slots j (omega (arith, l, long))

      below : (j i : ℕ) → slice_get terms j ≡ Some (term.Variable i) → i < length blanks
      below j i is =
          let slot = slot_of j (term.Variable i) is in
          let x = are.each j slot.0 (term.Variable i) slot.1 is in
          slice_get_within blanks i x.0 x.2

      agree : (t : Scenario) (values : List (Option ℤ)) → IsSameButValues s t → ((i : ℕ) (blank : Blank) → slice_get blanks i ≡ Some blank → stands_in t blank ≡ variable_value values i)
          → (j : ℕ) (o : Option Term) → slice_get terms j ≡ o → HasTerm o values (variable_value (slot_values m t site k.slots) j)
      agree t values same stands j None is = tt
      agree t values same stands j (Some x) is =
          let slot = slot_of j x is in
          subst (HasTerm (Some x) values) (sym (mapped_value (λ z. value_of (slot_at m t site z)) k.slots j slot.0 slot.1))
          (term_tells t values same stands slot.0 x (are.each j slot.0 x slot.1 is))

-- ---- where every constraint holds

pub same_values : (m : ModelTree) (t : Scenario) (site : SiteTree) (standing : SlotTree → Standing) → ((slot : SlotTree) → slot_at m t site slot ≡ standing slot) → (slots : List SlotTree)
    → slot_values m t site slots ≡ map (λ slot. value_of (standing slot)) slots
same_values m t site standing same [] = refl
same_values m t site standing same (slot ∷ slots) = λ i. value_of (same slot i) ∷ same_values m t site standing same slots i

pub truth : (o : Option ℤ) → is_true o ≡ true → IsTruth o
truth None e = absurd (false≢true e)
truth (Some v) e = λ z. false≢true (sym (not-true (is_false v) e) ∙ (Decides-int_eq v (pos 0)).1 z)

pub implied : GroupsHaveConstraints → (m : ModelTree) (s : Scenario) (blanks : List Blank) → HasFirstObjects m s → blanks ≡ all_blanks m s → (group : GroupTree) → Contains (groups m s) group
    → (k : ConstraintTree) → Contains group.constraints k → (e : Expression) → IsWriting m s blanks group.site k e → IsImplied m s e
implied have m s blanks firsts all group is k inside e written = record {
  variables = subst (λ bs. HasVariablesBelow (length bs) e) all written.variables;
  met = λ t values with_values holds.
      let has = have m s t firsts with_values.same group is k inside in
      let same : value e values ≡ value k.expression (map (λ slot. value_of (has.0 slot)) k.slots) =
      written.value_is t values with_values.same (λ i blank at. with_values.stands i blank (subst (λ bs. slice_get bs i ≡ Some blank) all at))
      ∙ ap (value k.expression) (same_values m t group.site has.0 has.2 k.slots) in
      subst IsTruth (sym same) (truth (value k.expression (map (λ slot. value_of (has.0 slot)) k.slots)) (holds k has.0 has.1));
}

pub all_pushed : (P : Expression → Type 0) (old new : List Expr) (e : Expr) → new ≡ old ++ e ∷ [] → All P (map view old) → P (view e) → All P (map view new)
all_pushed P old new e is all here = subst (λ xs. All P xs) (sym (ap (map view) is ∙ pushed old)) (All-push P (map view old) (view e) all here)
  where
    pushed : (xs : List Expr) → map view (xs ++ e ∷ []) ≡ map view xs ++ view e ∷ []
    pushed [] = refl
    pushed (x ∷ xs) = ap (λ l. view x ∷ l) (pushed xs)

-- a constraint that is written, if it is, is written so
abbrev pub IfWritten : ModelTree → Scenario → List Blank → SiteTree → ConstraintTree → Option Expr → Type 0
IfWritten m s blanks site k found = IfSome found (λ e. IsWriting m s blanks site k (view e))

-- what is seen of an element
pub viewed : {A B : Type 0} (f : A → B) (xs : List A) (i : ℕ) (x : A) → i < length xs → x ≡ get_or xs i x → Contains (map f xs) (f x)
viewed f [] i x l e = absurd (omega (arith, l))
viewed f (y ∷ ys) zero x l e = (0, omega arith, ap f (sym e))
viewed f (y ∷ ys) (suc i) x l e = let more = viewed f ys i x (omega (arith, l)) e in (suc more.0, omega (arith, more.1), more.2)

-- ---- the whole scenario

pub has_firsts : (m : ModelTree) (u : Scenario) → HasFirstObjects m (with_firsts m u)
has_firsts m u = empty_pools (used_state_pools m u.actions)

pub all_written : FilledBlanksStand → (m : ModelTree) (u : Scenario) (es : List Expression) → AreBare u.actions → All (IsImplied m (with_firsts m u)) es → AreWritten m u es
all_written stand m u es bare all = record {
  variables = λ k d l. (all k d l).variables;
  met = λ chosen options holds k d l.
      let w = stand m u chosen bare in
      (all k d l).met (filled m (all_blanks m u) chosen (with_firsts m u)) (blank_values m u.actions (all_blanks m u) chosen)
      (record { same = record { nodes = w.same.nodes; acts = w.same.acts }; stands = w.stands }) holds;
}

pub none_written : (m : ModelTree) (u : Scenario) → AreWritten m u []
none_written m u = record { variables = λ k d l. absurd (omega (arith, l)); met = λ chosen options holds k d l. absurd (omega (arith, l)) }
