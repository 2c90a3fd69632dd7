-- A choice of the activity, and taking it back.
use Rattle.std.proofs.Common.{◌≡◌, ℕ, ◌+◌, ◌<◌, List, [], ◌∷◌, ◌++◌, length, Option, None, refl, sym, ap, ◌∙◌, subst, append-nil, length-append, arith}
use Rattle.pst_model.specs.declared.model.Model.{Model}
use Rattle.pst_model.specs.ModelView.{view_model}
use Rattle.pst_scen.specs.declared.next.Next.{Next}
use Rattle.pst_legal.specs.ValueReading.{answer_of}
use Rattle.pst_shape.specs.Walks.{Kept as Shape, answer as shape_answer, with_choice as shape_choice, next_of, HasDigit}
use Rattle.pst_supply.specs.Walks.{Kept as Supply}
use Rattle.pst_link_walk.specs.Walks.{Kept, with_choice, tree_reading, IsUsed}
use Rattle.pst_link_walk.specs.Made.{IsInside, choices_of, Begins, Stands, Goes, shape_of}
use Rattle.pst_link_walk.proofs.Walking.{tree_nil, tree_next}
use Rattle.pst_link_walk.proofs.Beginning.{shape_reads, has_same}

-- lists that end with one more element
head_is : (x y : ℕ) (xs ys : List ℕ) → (x ∷ xs) ≡ (y ∷ ys) → x ≡ y
head_is x y xs ys e = cc

tail_is : (x y : ℕ) (xs ys : List ℕ) → (x ∷ xs) ≡ (y ∷ ys) → xs ≡ ys
tail_is x y xs ys e = cc

no_end : (x : ℕ) (xs : List ℕ) (d e : ℕ) → d ∷ [] ≡ x ∷ (xs ++ e ∷ []) → ⊥
no_end x [] d e h = cc
no_end x (y ∷ ys) d e h = cc

pub snoc_same : (xs ys : List ℕ) (d e : ℕ) → xs ++ d ∷ [] ≡ ys ++ e ∷ [] → xs ≡ ys
snoc_same [] [] d e h = refl
snoc_same [] (y ∷ ys) d e h = absurd (no_end y ys d e h)
snoc_same (x ∷ xs) [] d e h = absurd (no_end x xs e d (sym h))
snoc_same (x ∷ xs) (y ∷ ys) d e h =
    ap (λ z. z ∷ xs) (head_is x y (xs ++ d ∷ []) (ys ++ e ∷ []) h) ∙ ap (λ zs. y ∷ zs) (snoc_same xs ys d e (tail_is x y (xs ++ d ∷ []) (ys ++ e ∷ []) h))

abbrev shape_by : Model → ℕ → ℕ → List ℕ → Shape
shape_by m root seed choices = record { model = m; root = root; seed = seed; choices = choices }

-- what is taken back is what was there before
pub same_before : (a o b : Shape) (d e : ℕ) → a ≡ shape_choice o d → a ≡ shape_choice b e → b ≡ o
same_before a o b d e one other =
    let both : shape_choice b e ≡ shape_choice o d = sym other ∙ one in
    ap (λ m. shape_by m b.root b.seed b.choices) (ap (λ (x : Shape). x.model) both)
    ∙ ap (λ r. shape_by o.model r b.seed b.choices) (ap (λ (x : Shape). x.root) both)
    ∙ ap (λ s. shape_by o.model o.root s b.choices) (ap (λ (x : Shape). x.seed) both)
    ∙ ap (λ xs. shape_by o.model o.root o.seed xs) (snoc_same b.choices o.choices e d (ap (λ (x : Shape). x.choices) both))

module _ (m : Model) (root seed level : ℕ) where
  -- the digit is one at every level
  pub shape_digit : (shape : Shape) (stands : Next) (d : ℕ) → shape ≡ shape_of m root seed shape.choices → ((l : ℕ) → stands ≡ next_of (shape_answer shape l)) → HasDigit (answer_of (tree_reading m root seed level shape.choices)) d
      → HasDigit (shape_answer shape 0) d
  shape_digit shape stands d is shown has =
      has_same (answer_of (tree_reading m root seed level shape.choices)) (shape_answer shape 0) d
      (ap next_of (sym (shape_reads m root seed level shape.choices shape is)) ∙ sym (shown level) ∙ shown 0) has

  pub chosen_is : (old new : Shape) (d : ℕ) → old ≡ shape_of m root seed old.choices → new ≡ shape_choice old d → new ≡ shape_of m root seed (old.choices ++ d ∷ [])
  chosen_is old new d is e = e ∙ ap (λ (x : Shape). shape_by x.model x.root x.seed (old.choices ++ d ∷ [])) is

  pub chosen_self : (old new : Shape) (d : ℕ) → old ≡ shape_of m root seed old.choices → new ≡ shape_choice old d → new ≡ shape_of m root seed new.choices
  chosen_self old new d is e = chosen_is old new d is e ∙ ap (shape_of m root seed) (sym (ap (λ (x : Shape). x.choices) e))

  pub chosen_count : (old new : Shape) (d n : ℕ) → n ≡ length old.choices + 1 → new ≡ shape_choice old d → n ≡ length new.choices
  chosen_count old new d n many e =
      let sum : length (old.choices ++ d ∷ []) ≡ length old.choices + 1 = length-append old.choices (d ∷ []) in
      let longer : length new.choices ≡ length (old.choices ++ d ∷ []) = ap (λ (x : Shape). length x.choices) e in
      omega (arith, many, sum, longer)

  pub chosen_used : (old new : Shape) (d : ℕ) → IsInside (tree_reading m root seed level old.choices) → new ≡ shape_choice old d → IsUsed (tree_reading m root seed level new.choices)
  chosen_used old new d inside e =
      subst (λ xs. IsUsed (tree_reading m root seed level xs)) (sym (ap (λ (x : Shape). x.choices) e)) (tree_next (view_model m) seed root level old.choices d inside)

  pub chosen_goes : (old new : Shape) (d : ℕ) (supply : Option Supply) → old ≡ shape_of m root seed old.choices → new ≡ shape_choice old d → Begins m root seed level new.choices supply → Goes m root seed level old.choices d new supply
  chosen_goes old new d supply is e begins = record {
    is = chosen_is old new d is e;
    begins = subst (λ xs. Begins m root seed level xs supply) (ap (λ (x : Shape). x.choices) e) begins;
  }

  -- so there is one to take back
  pub chosen_some : (old new : Shape) (d : ℕ) → new ≡ shape_choice old d → 0 < length new.choices
  chosen_some old new d e = let n = chosen_count old new d (length old.choices + 1) refl e in omega (arith, n)

  pub goes_self : (xs : List ℕ) (new : Shape) (d : ℕ) (after : Option Supply) → Goes m root seed level xs d new after → new ≡ shape_of m root seed new.choices
  goes_self xs new d after goes = goes.is ∙ ap (shape_of m root seed) (sym (ap (λ (x : Shape). x.choices) goes.is))

  pub goes_count : (xs : List ℕ) (new : Shape) (d n : ℕ) (after : Option Supply) → n ≡ length xs + 1 → Goes m root seed level xs d new after → n ≡ length new.choices
  goes_count xs new d n after many goes =
      let sum : length (xs ++ d ∷ []) ≡ length xs + 1 = length-append xs (d ∷ []) in
      let longer : length new.choices ≡ length (xs ++ d ∷ []) = ap (λ (x : Shape). length x.choices) goes.is in
      omega (arith, many, sum, longer)

  pub goes_links : (xs : List ℕ) (new : Shape) (d n : ℕ) (supply after : Option Supply) → supply ≡ None → n ≡ length (choices_of supply) → Goes m root seed level xs d new after → n ≡ length (choices_of after)
  goes_links xs new d n supply after none many goes = many ∙ ap (λ o. length (choices_of o)) none ∙ ap length (sym goes.begins.fresh)

  pub goes_stands : (xs : List ℕ) (new : Shape) (d : ℕ) (after : Option Supply) → Goes m root seed level xs d new after → Stands m root seed level new.choices after
  goes_stands xs new d after goes = subst (λ ys. Stands m root seed level ys after) (sym (ap (λ (x : Shape). x.choices) goes.is)) goes.begins.stands

  -- ---- the walk without a choice

  pub first_self : (shape : Shape) → shape ≡ shape_of m root seed [] → shape ≡ shape_of m root seed shape.choices
  first_self shape e = e ∙ ap (shape_of m root seed) (sym (ap (λ (x : Shape). x.choices) e))

  pub first_count : (shape : Shape) → shape ≡ shape_of m root seed [] → 0 ≡ length shape.choices
  first_count shape e = ap (λ (x : Shape). length x.choices) (sym e)

  pub first_used : (shape : Shape) → shape ≡ shape_of m root seed [] → IsUsed (tree_reading m root seed level shape.choices)
  first_used shape e = subst (λ xs. IsUsed (tree_reading m root seed level xs)) (sym (ap (λ (x : Shape). x.choices) e)) (tree_nil (view_model m) seed root level)

  abbrev at_list : List ℕ → Kept
  at_list choices = record { model = m; root = root; seed = seed; level = level; choices = choices }

  pub first_value : (shape : Shape) (supply : Option Supply) → shape ≡ shape_of m root seed [] → Begins m root seed level shape.choices supply → at_list (shape.choices ++ choices_of supply) ≡ at_list []
  first_value shape supply e begins = ap (λ (x : Shape). at_list (x.choices ++ choices_of supply)) e ∙ ap at_list begins.fresh

  -- ---- what the choices are

  -- behind one choice more of the activity
  pub shape_value : (xs : List ℕ) (new : Shape) (d : ℕ) (supply after : Option Supply) → supply ≡ None → Goes m root seed level xs d new after → at_list (new.choices ++ choices_of after) ≡ with_choice (at_list (xs ++ choices_of supply)) d
  shape_value xs new d supply after none goes =
      ap (λ (x : Shape). at_list (x.choices ++ choices_of after)) goes.is
      ∙ ap (λ ys. at_list ((xs ++ d ∷ []) ++ ys)) goes.begins.fresh
      ∙ ap at_list (append-nil (xs ++ d ∷ []))
      ∙ ap (λ ys. at_list (ys ++ d ∷ [])) (sym (append-nil xs))
      ∙ ap (λ o. at_list ((xs ++ choices_of o) ++ d ∷ [])) (sym none)

  nothing : (ys : List ℕ) → length ys ≡ 0 → ys ≡ []
  nothing [] e = refl
  nothing (y ∷ ys) e = absurd (omega (arith, e))

  -- and one choice less
  pub shape_back : (old new : Shape) (d : ℕ) (supply : Option Supply) → length (choices_of supply) ≡ 0 → old ≡ shape_choice new d → at_list (old.choices ++ choices_of supply) ≡ with_choice (at_list (new.choices ++ [])) d
  shape_back old new d supply none e =
      ap (λ ys. at_list (old.choices ++ ys)) (nothing (choices_of supply) none)
      ∙ ap at_list (append-nil old.choices)
      ∙ ap (λ (x : Shape). at_list x.choices) e
      ∙ ap (λ ys. at_list (ys ++ d ∷ [])) (sym (append-nil new.choices))

  -- what is taken back of the activity is of the same model, root and seed
  pub shape_before : (old new : Shape) (d : ℕ) → old ≡ shape_of m root seed old.choices → old ≡ shape_choice new d → new ≡ shape_of m root seed new.choices
  shape_before old new d is e =
      let both : shape_choice new d ≡ shape_of m root seed old.choices = sym e ∙ is in
      ap (λ x. shape_by x new.root new.seed new.choices) (ap (λ (x : Shape). x.model) both)
      ∙ ap (λ r. shape_by m r new.seed new.choices) (ap (λ (x : Shape). x.root) both)
      ∙ ap (λ s. shape_by m root s new.choices) (ap (λ (x : Shape). x.seed) both)

  pub one_less : (old new : Shape) (d n : ℕ) → n ≡ length old.choices → old ≡ shape_choice new d → n ≡ length new.choices + 1
  one_less old new d n many e =
      let sum : length (new.choices ++ d ∷ []) ≡ length new.choices + 1 = length-append new.choices (d ∷ []) in
      let longer : length old.choices ≡ length (new.choices ++ d ∷ []) = ap (λ (x : Shape). length x.choices) e in
      omega (arith, many, sum, longer)
