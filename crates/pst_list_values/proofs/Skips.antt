-- Options whose values are excluded.
use Rattle.std.proofs.Common.{◌≡◌, ℕ, zero, suc, ◌+◌, ◌%◌, ◌<◌, ◌≤◌, ℤ, pos, List, [], ◌∷◌, ◌++◌, length, get_or, Bool, Some, refl, sym, ap, ◌∙◌, subst, ⊎_elim, length-append, arith}
use Rattle.std.specs.Prelude.{slice_get, Contains}
use Rattle.std.proofs.Math.Nat.{mod-lt}
use Rattle.std.proofs.lemmas.Option.{none-some, same_Some}
use Rattle.pst_rng.specs.Words.{word_of, start_of}
use Rattle.pst_expr.specs.declared.ranges.Span.{Span}
use Rattle.pst_expr.specs.Spans.{values, size_of}
use Rattle.pst_expr.specs.Laws.{ListsValues}
use Rattle.pst_model.specs.ModelView.{view_model}
use Rattle.pst_model.specs.ModelTree.{ModelTree}
use Rattle.pst_scen.specs.declared.act.Act.{Act}
use Rattle.pst_legal.specs.Blanks.{Blank, Instance, OfFirst, OfAct, OfOutput, OfClaim, domain_of, options}
use Rattle.pst_legal.specs.Reading.{option_at}
use Rattle.pst_legal.specs.ValueReading.{Answer, Options, Dead, Whole}
use Rattle.pst_blanks.specs.Blanks.{blank_value, IsDomainOf}
use Rattle.pst_value_walk.specs.Choices.{value_by}
use Rattle.pst_shape.specs.Walks.{IfRead, HasDigit}
use Rattle.pst_link_walk.specs.Walks.{Kept}
use Rattle.pst_list_walk.specs.Walks.{answer, HasValue, HasDomain}
use Rattle.pst_fitting.specs.declared.fitting.Fitting.{Fitting}
use Rattle.pst_search_loop.specs.declared.conflict.Conflict.{Conflict}
use Rattle.pst_search_loop.specs.Kept.{HasOptions, IsWithin, Excludes, Skips}
use Rattle.pst_search_places.specs.Laws.{IsOfPlaces, NoneHold, FewPlacesExclude}
use Rattle.pst_value_search.specs.Values.{Kept as Given}
use Rattle.pst_value_search.specs.Values.{Skips as SkipsValues}
use Rattle.pst_value_search.specs.Laws.{AreNamed, ExcludedValuesHoldNothing}
use Rattle.pst_list_values.specs.Walked.{kept_of}
use Rattle.pst_list_values.specs.Tied.{IsOf, behind_of}
use Rattle.pst_list_values.proofs.Ties.{value_is}

-- ---- the values of a domain

some_value : (xs : List ℤ) (i : ℕ) → i < length xs → slice_get xs i ≡ Some (get_or xs i (pos 0))
some_value [] i l = let bad : ⊥ = omega (arith, l) in absurd bad
some_value (x ∷ xs) zero l = refl
some_value (x ∷ xs) (suc i) l = some_value xs i (omega (arith, l))

value_there : (xs : List ℤ) (i : ℕ) (v : ℤ) → slice_get xs i ≡ Some v → v ≡ get_or xs i (pos 0)
value_there [] i v e = absurd (none-some v e)
value_there (x ∷ xs) zero v e = sym (same_Some x v e)
value_there (x ∷ xs) (suc i) v e = value_there xs i v e

module _ (m : ModelTree) (acts : List Act) (seed place d : ℕ) (v : ℤ) (spans : List Span) (own : v ≡ get_or (values spans) ((start_of seed place (size_of spans) + d) % size_of spans) (pos 0)) where
  of_spans : (other : List Span) → spans ≡ other → v ≡ get_or (values other) ((start_of seed place (size_of other) + d) % size_of other) (pos 0)
  of_spans other e = subst (λ xs. v ≡ get_or (values xs) ((start_of seed place (size_of xs) + d) % size_of xs) (pos 0)) e own

  of_blank : (b : Blank) → IsDomainOf m acts b spans → v ≡ blank_value m acts b (option_at (start_of seed place (options m acts b)) (options m acts b) d)
  of_blank (Instance act claim) e = absurd e
  of_blank (OfFirst pool field) e = of_spans (domain_of m acts (OfFirst pool field)) e
  of_blank (OfAct act field) e = of_spans (domain_of m acts (OfAct act field)) e
  of_blank (OfOutput act reference field) e = of_spans (domain_of m acts (OfOutput act reference field)) e
  of_blank (OfClaim act claim field) e = of_spans (domain_of m acts (OfClaim act claim field)) e

domain_then : (m : ModelTree) (a : Answer) (b : Blank) (spans : List Span) (seed place d : ℕ) (v : ℤ) → v ≡ get_or (values spans) ((start_of seed place (size_of spans) + d) % size_of spans) (pos 0)
    → IfRead a (λ s. IsDomainOf m s.actions b spans) → IfRead a (λ s. v ≡ value_by m seed place s b d)
domain_then m (Options s n) b spans seed place d v own e = of_blank m s.actions seed place d v spans own b e
domain_then m Dead b spans seed place d v own e = tt
domain_then m (Whole s) b spans seed place d v own e = of_blank m s.actions seed place d v spans own b e

digit_of : (a : Answer) (count d : ℕ) → HasOptions a count → d < count → HasDigit a d
digit_of (Options s n) count d is l = subst (λ k. d < k) (sym is) l
digit_of Dead count d is l = absurd is
digit_of (Whole s) count d is l = absurd is

-- ---- where the seed begins

pub start_below : (seed place n : ℕ) → 0 < n → start_of seed place n < n
start_below seed place n some = mod-lt (word_of seed place) some

-- ---- the place at hand

module _ (k : Kept) (front : ℕ) (whole : Bool) (g : Given) (of : IsOf k (behind_of front whole g)) (spans : List Span) (has : HasDomain k spans) (start count : ℕ)
    (start_is : start ≡ start_of k.seed (length k.choices) count) (size : size_of spans ≡ count) where
  abbrev m : ModelTree
  m = view_model k.model

  value_told : (d : ℕ) (v : ℤ) → slice_get (values spans) ((start + d) % size_of spans) ≡ Some v → HasValue k d v
  value_told d v at =
      let place = length has.front + length has.present in
      let here : length k.choices ≡ place = ap length has.choices ∙ length-append has.front has.present in
      let begins : start ≡ start_of k.seed place (size_of spans) = start_is ∙ ap (λ p. start_of k.seed p count) here ∙ ap (start_of k.seed place) (sym size) in
      let own : v ≡ get_or (values spans) ((start_of k.seed place (size_of spans) + d) % size_of spans) (pos 0) =
      value_there (values spans) ((start + d) % size_of spans) v at ∙ ap (λ n. get_or (values spans) ((n + d) % size_of spans) (pos 0)) begins in
      record {
        front = has.front;
        present = has.present;
        choices = has.choices;
        linked = has.linked;
        reads = has.reads;
        blank = has.blank;
        is = has.is;
        value = domain_then m (answer k) has.blank spans k.seed place d v own has.domain;
      }

  many_given : length g.values ≡ length of.present
  many_given = of.valued.1.many

  inside : (found : Fitting) (from : ℕ) → SkipsValues g spans start from found → (i : ℕ) → Contains found.reasons.items i → i < length of.present
  inside found from skips i there = let l = skips.within i there in let e = many_given in omega (arith, l, e)

  within : (found : Fitting) (from : ℕ) (c : Conflict) → SkipsValues g spans start from found → IsOfPlaces c front found.reasons.items → IsWithin (kept_of k) c
  within found from c skips is p there =
      let all : length k.choices ≡ length of.front + length of.present = ap length of.choices ∙ length-append of.front of.present in
      let many : front ≡ length of.front = of.count in
      ⊎_elim
      (λ (l : p < front). omega (arith, l, all, many))
      (λ (h : (i : ℕ) × Contains found.reasons.items i × (p ≡ front + i)). let l = inside found from skips h.0 h.1 in let e = h.2 in omega (arith, l, e, all, many))
      (is.within p there)

  excluded_there : ExcludedValuesHoldNothing → FewPlacesExclude → ListsValues spans → HasOptions (answer k) count → (from : ℕ) (found : Fitting) (c : Conflict) → SkipsValues g spans start from found
      → IsOfPlaces c front found.reasons.items → (d : ℕ) → from ≤ d → d < found.place → Excludes (kept_of k) c d
  excluded_there none exclude lists options from found c skips is d low high =
      let u = of.linked in
      let place = length of.front in
      let most = skips.most in
      let below : d < count = omega (arith, high, most, size) in
      let some : 0 < size_of spans = omega (arith, high, most) in
      let n = (start + d) % size_of spans in
      let v = get_or (values spans) n (pos 0) in
      let small : n < size_of spans = mod-lt (start + d) some in
      let long = lists.count in
      let at : slice_get (values spans) n ≡ Some v = some_value (values spans) n (omega (arith, small, long)) in
      let names : AreNamed m k.seed u place (of.present ++ d ∷ []) (g.values ++ v ∷ []) =
      value_is k (behind_of front whole g) of d v (digit_of (answer k) count d options below) (value_told d v at) g.values of.valued.1 in
      let holds : NoneHold m k.seed u place (of.present ++ d ∷ []) (length of.present ∷ found.reasons.items) =
      none m k.seed u place of.present d g found.reasons.items v of.valued.0 names (skips.each d low high v at) in
      exclude (kept_of k) c of.front of.present found.reasons.items d u refl (record { choices = of.choices; reads = of.reads }) (inside found from skips) holds
      (subst (λ q. IsOfPlaces c q found.reasons.items) of.count is)

  pub skips_here : ExcludedValuesHoldNothing → FewPlacesExclude → ListsValues spans → HasOptions (answer k) count → (from : ℕ) (found : Fitting) (c : Conflict) → SkipsValues g spans start from found
      → IsOfPlaces c front found.reasons.items → Skips (kept_of k) from count (record { digit = found.place; conflict = c })
  skips_here none exclude lists options from found c skips is = record {
    least = skips.least;
    most = subst (λ q. found.place ≤ q) size skips.most;
    within = within found from c skips is;
    each = excluded_there none exclude lists options from found c skips is;
  }
