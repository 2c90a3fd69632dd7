-- What a walk answers, by the walk over the values if there is one.
use Rattle.std.proofs.Common.{◌≡◌, ℕ, ℤ, ◌+◌, List, [], ◌∷◌, ◌++◌, length, Option, Some, None, refl, sym, ap, ◌∙◌, subst, append_assoc, length-append, arith}
use Rattle.pst_expr.specs.declared.ranges.Span.{Span}
use Rattle.pst_model.specs.declared.model.Model.{Model}
use Rattle.pst_model.specs.ModelView.{view_model}
use Rattle.pst_scen.specs.declared.scenario.Scenario.{Scenario}
use Rattle.pst_legal.specs.ValueReading.{Answer, Options, Dead, Whole}
use Rattle.pst_plan_so_far.specs.Laws.{ReadsSources}
use Rattle.pst_shape.specs.Walks.{next_of, IfRead, HasDigit}
use Rattle.std.specs.Prelude.{slice_get}
use Rattle.pst_value_walk.specs.Walks.{Kept as Values, answer as value_answer}
use Rattle.pst_value_walk.specs.Walks.{next_of as value_next_of, IfRead as ValueRead, HasDigit as ValueDigit}
use Rattle.pst_link_walk.specs.Walks.{Kept, with_choice, reading, IsEnd, AtEnd}
use Rattle.pst_link_walk.specs.Walks.{answer as link_answer}
use Rattle.pst_link_walk.specs.Made.{IsInside}
use Rattle.pst_link_walk.proofs.Ends.{link_on}
use Rattle.pst_legal.specs.Reading.{Reads}
use Rattle.pst_blanks.specs.Blanks.{all_blanks, IsDomainOf}
use Rattle.pst_value_walk.specs.Choices.{value_by, IsValueOf, IsDomainAt}
use Rattle.pst_list_walk.specs.Walks.{answer, HasFront, HasValue, HasDomain}
use Rattle.pst_list_walk.specs.Made.{choices_of, kept_at, IsBehind, Stands}
use Rattle.pst_list_walk.proofs.Parts.{inside_answers, behind_answers}

pub next_same : (a : Answer) → value_next_of a ≡ next_of a
next_same (Options s n) = refl
next_same Dead = refl
next_same (Whole s) = refl

pub read_same : (a : Answer) (P : Scenario → Type 0) → ValueRead a P → IfRead a P
read_same (Options s n) P h = h
read_same Dead P h = tt
read_same (Whole s) P h = h

pub digit_same : (a : Answer) (d : ℕ) → HasDigit a d → ValueDigit a d
digit_same (Options s n) d h = h
digit_same Dead d h = absurd h
digit_same (Whole s) d h = absurd h

module _ (m : Model) (root seed level : ℕ) where
  pub none_stands : (xs : List ℕ) (values : Option Values) → values ≡ None → Stands m root seed level xs values → IsInside (reading (kept_at m root seed level xs))
  none_stands xs values e stands = subst (Stands m root seed level xs) e stands

  pub some_stands : (xs : List ℕ) (values : Option Values) (k : Values) → values ≡ Some k → Stands m root seed level xs values → IsBehind m root seed level xs k
  some_stands xs values k e stands = subst (Stands m root seed level xs) e stands

  pub none_answers : (xs : List ℕ) (values : Option Values) → values ≡ None → Stands m root seed level xs values → answer (kept_at m root seed level (xs ++ choices_of values)) ≡ link_answer (kept_at m root seed level xs)
  none_answers xs values e stands = ap (λ o. answer (kept_at m root seed level (xs ++ choices_of o))) e ∙ inside_answers m root seed level xs (none_stands xs values e stands)

  pub some_answers : (xs : List ℕ) (values : Option Values) (k : Values) → values ≡ Some k → Stands m root seed level xs values → answer (kept_at m root seed level (xs ++ choices_of values)) ≡ value_answer k
  some_answers xs values k e stands = ap (λ o. answer (kept_at m root seed level (xs ++ choices_of o))) e ∙ sym (behind_answers m root seed level xs k (some_stands xs values k e stands))

  pub many : (xs : List ℕ) (values : Option Values) (links valued n : ℕ) → links ≡ length xs → valued ≡ length (choices_of values) → n ≡ links + valued → n ≡ length (xs ++ choices_of values)
  many xs values links valued n a b e = let sum : length (xs ++ choices_of values) ≡ length xs + length (choices_of values) = length-append xs (choices_of values) in omega (arith, a, b, e, sum)

  pub more_values : (xs : List ℕ) (k l : Values) (d : ℕ) → l ≡ record k { choices = k.choices ++ d ∷ [] } → kept_at m root seed level (xs ++ l.choices) ≡ with_choice (kept_at m root seed level (xs ++ k.choices)) d
  more_values xs k l d e = ap (λ (x : Values). kept_at m root seed level (xs ++ x.choices)) e ∙ ap (kept_at m root seed level) (sym (append_assoc xs k.choices (d ∷ [])))

  pub one_valued : (k l : Values) (d n : ℕ) → n ≡ length k.choices → l ≡ record k { choices = k.choices ++ d ∷ [] } → n + 1 ≡ length l.choices
  one_valued k l d n many e =
      let sum : length (k.choices ++ d ∷ []) ≡ length k.choices + 1 = length-append k.choices (d ∷ []) in
      let longer : length l.choices ≡ length (k.choices ++ d ∷ []) = ap (λ (x : Values). length x.choices) e in
      omega (arith, many, sum, longer)

  -- behind the sources, the list reads them
  pub behind_sources : (xs : List ℕ) (k : Values) → IsBehind m root seed level xs k → ReadsSources (view_model m) root seed level (xs ++ k.choices)
  behind_sources xs k behind = (behind.linked, behind.place, k.choices, link_on m root seed level xs behind.linked behind.place [] behind.reads k.choices)

  -- and so many choices do
  pub front_is : (links : Kept) (values : Option Values) (k : Values) (n : ℕ) → links ≡ kept_at m root seed level links.choices → values ≡ Some k → Stands m root seed level links.choices values → AtEnd links (reading links)
      → n ≡ length links.choices → HasFront (kept_at m root seed level (links.choices ++ choices_of values)) n
  front_is links values k n is e stands end count =
      let behind = some_stands links.choices values k e stands in
      let own : AtEnd (kept_at m root seed level links.choices) (reading (kept_at m root seed level links.choices)) = subst (λ (x : Kept). AtEnd x (reading x)) is end in
      let at : IsEnd (kept_at m root seed level links.choices) behind.linked behind.place [] = subst (AtEnd (kept_at m root seed level links.choices)) behind.reads own in
      record {
        front = links.choices;
        present = choices_of values;
        choices = refl;
        count = count;
        linked = behind.linked;
        reads = behind.reads ∙ ap (λ p. Reads behind.linked p []) at.counts;
      }

  -- the value of an option of the blank at hand
  pub value_is : (links : Kept) (values : Option Values) (k : Values) (digit : ℕ) (v : ℤ) → links ≡ kept_at m root seed level links.choices → values ≡ Some k → Stands m root seed level links.choices values → AtEnd links (reading links)
      → IsValueOf k digit v → HasValue (kept_at m root seed level (links.choices ++ choices_of values)) digit v
  value_is links values k digit v is e stands end of =
      let behind = some_stands links.choices values k e stands in
      let own : AtEnd (kept_at m root seed level links.choices) (reading (kept_at m root seed level links.choices)) = subst (λ (x : Kept). AtEnd x (reading x)) is end in
      let at : IsEnd (kept_at m root seed level links.choices) behind.linked behind.place [] = subst (AtEnd (kept_at m root seed level links.choices)) behind.reads own in
      let same : choices_of values ≡ k.choices = ap choices_of e in
      let answers = some_answers links.choices values k e stands in
      let place : k.place ≡ length links.choices = ap (λ (x : Values). x.place) behind.is ∙ at.counts in
      let model : view_model k.model ≡ view_model m = ap (λ (x : Values). view_model x.model) behind.is in
      let seeds : k.seed ≡ seed = ap (λ (x : Values). x.seed) behind.is in
      record {
        front = links.choices;
        present = choices_of values;
        choices = refl;
        linked = behind.linked;
        reads = behind.reads ∙ ap (λ p. Reads behind.linked p []) at.counts;
        blank = of.blank;
        is = ap (λ xs. slice_get (all_blanks (view_model m) behind.linked.actions) (length xs)) same
            ∙ ap (λ (x : Values). slice_get (all_blanks (view_model x.model) x.linked.actions) (length k.choices)) (sym behind.is) ∙ of.is;
        value = subst (λ a. IfRead a (λ s. v ≡ value_by (view_model m) seed (length links.choices + length (choices_of values)) s of.blank digit)) (sym answers)
            (subst (λ xs. IfRead (value_answer k) (λ s. v ≡ value_by (view_model m) seed (length links.choices + length xs) s of.blank digit)) (sym same)
            (subst (λ p. IfRead (value_answer k) (λ s. v ≡ value_by (view_model m) seed (p + length k.choices) s of.blank digit)) place
            (subst (λ n. IfRead (value_answer k) (λ s. v ≡ value_by (view_model m) n (k.place + length k.choices) s of.blank digit)) seeds
            (subst (λ t. IfRead (value_answer k) (λ s. v ≡ value_by t k.seed (k.place + length k.choices) s of.blank digit)) model
            (read_same (value_answer k) (λ s. v ≡ value_by (view_model k.model) k.seed (k.place + length k.choices) s of.blank digit) of.value)))));
      }

  -- the values that it may have
  pub domain_is : (links : Kept) (values : Option Values) (k : Values) (spans : List Span) → links ≡ kept_at m root seed level links.choices → values ≡ Some k → Stands m root seed level links.choices values → AtEnd links (reading links)
      → IsDomainAt k spans → HasDomain (kept_at m root seed level (links.choices ++ choices_of values)) spans
  domain_is links values k spans is e stands end of =
      let behind = some_stands links.choices values k e stands in
      let own : AtEnd (kept_at m root seed level links.choices) (reading (kept_at m root seed level links.choices)) = subst (λ (x : Kept). AtEnd x (reading x)) is end in
      let at : IsEnd (kept_at m root seed level links.choices) behind.linked behind.place [] = subst (AtEnd (kept_at m root seed level links.choices)) behind.reads own in
      let same : choices_of values ≡ k.choices = ap choices_of e in
      let answers = some_answers links.choices values k e stands in
      let model : view_model k.model ≡ view_model m = ap (λ (x : Values). view_model x.model) behind.is in
      record {
        front = links.choices;
        present = choices_of values;
        choices = refl;
        linked = behind.linked;
        reads = behind.reads ∙ ap (λ p. Reads behind.linked p []) at.counts;
        blank = of.blank;
        is = ap (λ xs. slice_get (all_blanks (view_model m) behind.linked.actions) (length xs)) same
            ∙ ap (λ (x : Values). slice_get (all_blanks (view_model x.model) x.linked.actions) (length k.choices)) (sym behind.is) ∙ of.is;
        domain = subst (λ a. IfRead a (λ s. IsDomainOf (view_model m) s.actions of.blank spans)) (sym answers)
            (subst (λ t. IfRead (value_answer k) (λ s. IsDomainOf t s.actions of.blank spans)) model
            (read_same (value_answer k) (λ s. IsDomainOf (view_model k.model) s.actions of.blank spans) of.domain));
      }
