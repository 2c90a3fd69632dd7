-- A choice of the activity, of a source or of a value, and taking it back.
use Rattle.std.proofs.Common.{◌≡◌, ℕ, ◌+◌, ◌-◌, ◌<◌, ◌≤◌, List, [], ◌∷◌, ◌++◌, length, Option, Some, None, refl, sym, ap, ◌∙◌, subst, append-nil, length-append, arith}
use Rattle.pst_model.specs.declared.model.Model.{Model}
use Rattle.pst_shape.specs.Walks.{HasDigit}
use Rattle.pst_value_walk.specs.Walks.{Kept as Values}
use Rattle.pst_link_walk.specs.Walks.{Kept, with_choice, reading}
use Rattle.pst_link_walk.specs.Walks.{answer as link_answer}
use Rattle.pst_link_walk.specs.Made.{IsInside}
use Rattle.pst_link_walk.proofs.Choosing.{snoc_same}
use Rattle.pst_list_walk.specs.Walks.{answer}
use Rattle.pst_list_walk.specs.Made.{choices_of, kept_at, Begins, Stands, Goes}
use Rattle.pst_list_walk.proofs.Parts.{inside_back}
use Rattle.pst_list_walk.proofs.Answering.{none_answers, more_values}

-- what is taken back is what was there before
pub same_before : (a o b : Kept) (d e : ℕ) → a ≡ with_choice o d → a ≡ with_choice b e → b ≡ o
same_before a o b d e one other =
    let both : with_choice b e ≡ with_choice o d = sym other ∙ one in
    ap (λ m. kept_at m b.root b.seed b.level b.choices) (ap (λ (x : Kept). x.model) both)
    ∙ ap (λ r. kept_at o.model r b.seed b.level b.choices) (ap (λ (x : Kept). x.root) both)
    ∙ ap (λ s. kept_at o.model o.root s b.level b.choices) (ap (λ (x : Kept). x.seed) both)
    ∙ ap (λ l. kept_at o.model o.root o.seed l b.choices) (ap (λ (x : Kept). x.level) both)
    ∙ ap (λ xs. kept_at o.model o.root o.seed o.level xs) (snoc_same b.choices o.choices e d (ap (λ (x : Kept). x.choices) both))

-- there is a choice to take back
pub chosen_some : (old new : Kept) (d : ℕ) → new ≡ with_choice old d → 0 < length new.choices
chosen_some old new d e =
    let sum : length (old.choices ++ d ∷ []) ≡ length old.choices + 1 = length-append old.choices (d ∷ []) in
    let longer : length new.choices ≡ length (old.choices ++ d ∷ []) = ap (λ (x : Kept). length x.choices) e in
    omega (arith, sum, longer)

module _ (m : Model) (root seed level : ℕ) where
  pub chosen_is : (old new : Kept) (d : ℕ) → old ≡ kept_at m root seed level old.choices → new ≡ with_choice old d → new ≡ kept_at m root seed level (old.choices ++ d ∷ [])
  chosen_is old new d is e = e ∙ ap (λ (x : Kept). kept_at x.model x.root x.seed x.level (old.choices ++ d ∷ [])) is

  pub chosen_self : (old new : Kept) (d : ℕ) → old ≡ kept_at m root seed level old.choices → new ≡ with_choice old d → new ≡ kept_at m root seed level new.choices
  chosen_self old new d is e = chosen_is old new d is e ∙ ap (kept_at m root seed level) (sym (ap (λ (x : Kept). x.choices) e))

  pub chosen_goes : (old new : Kept) (d : ℕ) (values : Option Values) → old ≡ kept_at m root seed level old.choices → new ≡ with_choice old d → Begins m root seed level new.choices values → Goes m root seed level old.choices d new values
  chosen_goes old new d values is e begins = record {
    is = chosen_is old new d is e;
    begins = subst (λ xs. Begins m root seed level xs values) (ap (λ (x : Kept). x.choices) e) begins;
  }

  -- ---- the walk without a choice

  pub first_self : (links : Kept) → links ≡ kept_at m root seed level [] → links ≡ kept_at m root seed level links.choices
  first_self links e = e ∙ ap (kept_at m root seed level) (sym (ap (λ (x : Kept). x.choices) e))

  pub first_value : (links : Kept) (values : Option Values) → links ≡ kept_at m root seed level [] → Begins m root seed level links.choices values → kept_at m root seed level (links.choices ++ choices_of values) ≡ kept_at m root seed level []
  first_value links values e begins = ap (λ (x : Kept). kept_at m root seed level (x.choices ++ choices_of values)) e ∙ ap (kept_at m root seed level) begins.fresh

  -- ---- a choice of the activity or of a source

  pub link_digit : (links : Kept) (values : Option Values) (d : ℕ) → links ≡ kept_at m root seed level links.choices → values ≡ None → Stands m root seed level links.choices values
      → HasDigit (answer (kept_at m root seed level (links.choices ++ choices_of values))) d → HasDigit (link_answer links) d
  link_digit links values d is none stands has = subst (λ a. HasDigit a d) (none_answers m root seed level links.choices values none stands ∙ ap link_answer (sym is)) has

  pub goes_self : (xs : List ℕ) (new : Kept) (d : ℕ) (after : Option Values) → Goes m root seed level xs d new after → new ≡ kept_at m root seed level new.choices
  goes_self xs new d after goes = goes.is ∙ ap (kept_at m root seed level) (sym (ap (λ (x : Kept). x.choices) goes.is))

  pub goes_values : (xs : List ℕ) (new : Kept) (d n : ℕ) (values after : Option Values) → values ≡ None → n ≡ length (choices_of values) → Goes m root seed level xs d new after → n ≡ length (choices_of after)
  goes_values xs new d n values after none many goes = many ∙ ap (λ o. length (choices_of o)) none ∙ ap length (sym goes.begins.fresh)

  pub goes_stands : (xs : List ℕ) (new : Kept) (d : ℕ) (after : Option Values) → Goes m root seed level xs d new after → Stands m root seed level new.choices after
  goes_stands xs new d after goes = subst (λ ys. Stands m root seed level ys after) (sym (ap (λ (x : Kept). x.choices) goes.is)) goes.begins.stands

  pub link_value : (xs : List ℕ) (new : Kept) (d : ℕ) (values after : Option Values) → values ≡ None → Goes m root seed level xs d new after
      → kept_at m root seed level (new.choices ++ choices_of after) ≡ with_choice (kept_at m root seed level (xs ++ choices_of values)) d
  link_value xs new d values after none goes =
      ap (λ (x : Kept). kept_at m root seed level (x.choices ++ choices_of after)) goes.is
      ∙ ap (λ ys. kept_at m root seed level ((xs ++ d ∷ []) ++ ys)) goes.begins.fresh
      ∙ ap (kept_at m root seed level) (append-nil (xs ++ d ∷ []))
      ∙ ap (λ ys. kept_at m root seed level (ys ++ d ∷ [])) (sym (append-nil xs))
      ∙ ap (λ o. kept_at m root seed level ((xs ++ choices_of o) ++ d ∷ [])) (sym none)

  -- ---- a choice of a value

  pub values_more : (xs : List ℕ) (values : Option Values) (k l : Values) (d : ℕ) → values ≡ Some k → l ≡ record k { choices = k.choices ++ d ∷ [] }
      → kept_at m root seed level (xs ++ l.choices) ≡ with_choice (kept_at m root seed level (xs ++ choices_of values)) d
  values_more xs values k l d is e = more_values m root seed level xs k l d e ∙ ap (λ o. with_choice (kept_at m root seed level (xs ++ choices_of o)) d) (sym is)

  pub values_before : (xs : List ℕ) (values : Option Values) (k l : Values) (d : ℕ) → values ≡ Some k → k ≡ record l { choices = l.choices ++ d ∷ [] }
      → kept_at m root seed level (xs ++ choices_of values) ≡ with_choice (kept_at m root seed level (xs ++ l.choices)) d
  values_before xs values k l d is e = ap (λ o. kept_at m root seed level (xs ++ choices_of o)) is ∙ more_values m root seed level xs l k d e

  -- ---- one choice less of what stands before the values

  pub link_before : (old new : Kept) (d : ℕ) → old ≡ kept_at m root seed level old.choices → old ≡ with_choice new d → new ≡ kept_at m root seed level new.choices
  link_before old new d is e =
      let both : with_choice new d ≡ kept_at m root seed level old.choices = sym e ∙ is in
      ap (λ x. kept_at x new.root new.seed new.level new.choices) (ap (λ (x : Kept). x.model) both)
      ∙ ap (λ r. kept_at m r new.seed new.level new.choices) (ap (λ (x : Kept). x.root) both)
      ∙ ap (λ s. kept_at m root s new.level new.choices) (ap (λ (x : Kept). x.seed) both)
      ∙ ap (λ l. kept_at m root seed l new.choices) (ap (λ (x : Kept). x.level) both)

  pub link_inside : (old new : Kept) (d : ℕ) (values : Option Values) → old ≡ with_choice new d → Stands m root seed level old.choices values → IsInside (reading (kept_at m root seed level new.choices))
  link_inside old new d values e stands =
      inside_back m root seed level new.choices d values (subst (λ xs. Stands m root seed level xs values) (ap (λ (x : Kept). x.choices) e) stands)

  nothing : (ys : List ℕ) → length ys ≡ 0 → ys ≡ []
  nothing [] e = refl
  nothing (y ∷ ys) e = absurd (omega (arith, e))

  pub link_back : (old new : Kept) (d : ℕ) (values : Option Values) → length (choices_of values) ≡ 0 → old ≡ with_choice new d
      → kept_at m root seed level (old.choices ++ choices_of values) ≡ with_choice (kept_at m root seed level (new.choices ++ [])) d
  link_back old new d values none e =
      ap (λ ys. kept_at m root seed level (old.choices ++ ys)) (nothing (choices_of values) none)
      ∙ ap (kept_at m root seed level) (append-nil old.choices)
      ∙ ap (λ (x : Kept). kept_at m root seed level x.choices) e
      ∙ ap (λ ys. kept_at m root seed level (ys ++ d ∷ [])) (sym (append-nil new.choices))

-- ---- how many choices of values there are

pub valued_some : (values : Option Values) (n : ℕ) → n ≡ length (choices_of values) → 0 < n → values ≡ None → ⊥
valued_some values n many some none = let no : n ≡ 0 = many ∙ ap (λ o. length (choices_of o)) none in omega (arith, some, no)

pub valued_more : (values : Option Values) (k : Values) (n : ℕ) → values ≡ Some k → n ≡ length (choices_of values) → 0 < n → 0 < length k.choices
valued_more values k n is many some = let same : n ≡ length k.choices = many ∙ ap (λ o. length (choices_of o)) is in omega (arith, some, same)

pub one_unvalued : (values : Option Values) (k l : Values) (d n : ℕ) → values ≡ Some k → n ≡ length (choices_of values) → k ≡ record l { choices = l.choices ++ d ∷ [] } → n - 1 ≡ length l.choices
one_unvalued values k l d n is many e =
    let same : n ≡ length k.choices = many ∙ ap (λ o. length (choices_of o)) is in
    let sum : length (l.choices ++ d ∷ []) ≡ length l.choices + 1 = length-append l.choices (d ∷ []) in
    let longer : length k.choices ≡ length (l.choices ++ d ∷ []) = ap (λ (x : Values). length x.choices) e in
    omega (arith, same, sum, longer)

pub no_values : (values : Option Values) (n : ℕ) → n ≡ length (choices_of values) → n ≤ 0 → length (choices_of values) ≡ 0
no_values values n many none = omega (arith, many, none)

pub links_some : (xs ys : List ℕ) (n : ℕ) → n ≡ length ys → n ≤ 0 → 0 < length (xs ++ ys) → 0 < length xs
links_some xs ys n many none some = let sum : length (xs ++ ys) ≡ length xs + length ys = length-append xs ys in omega (arith, many, none, some, sum)
