-- How many beginnings of a list are known to refuse no constraint.
use Rattle.std.proofs.Common.{◌≡◌, ℕ, ◌+◌, ◌-◌, ◌<◌, ◌≤◌, List, [], ◌∷◌, ◌++◌, length, take, Bool, true, false, not, sym, ap, ◌∙◌, subst, inl, inr, ⊎_elim, length-append, arith}
use Rattle.std.proofs.lemmas.List.{take_all, take-append-le}
use Rattle.std.proofs.lemmas.Bool.{false≢true, cases_lt}
use Rattle.pst_model.specs.declared.model.Model.{Model}
use Rattle.pst_model.specs.ModelTree.{ModelTree}
use Rattle.pst_model.specs.ModelView.{view_model}
use Rattle.pst_legal.specs.First.{NoneRefused}
use Rattle.pst_legal.specs.ValueReading.{Answer, Options, Dead, Whole}
use Rattle.pst_shape.specs.Walks.{IfRead}
use Rattle.pst_new_refusals.specs.Newly.{IfNot}
use Rattle.pst_link_walk.specs.Walks.{Kept, with_choice, answer}
use Rattle.pst_list_walk.specs.Free.{kept_at, IfPlace, RefusesNone, IsFree, Frees}
use Rattle.pst_list_walk.proofs.Growing.{nothing_refused}

pub not_so : (b : Bool) (P : Type 0) → IfNot b P → not b ≡ true → P
not_so true P h e = absurd (false≢true e)
not_so false P h e = h

-- where there are no nodes and no actions
pub nothing_read : (m : ModelTree) (a : Answer) (size nodes : ℕ) → IfRead a (λ s. size ≡ length s.actions) → IfRead a (λ s. nodes ≡ length s.nodes) → size ≤ 0 → nodes ≤ 0 → IfPlace a (NoneRefused m)
nothing_read m (Options s n) size nodes acts same few none = nothing_refused m s (omega (arith, same, none)) (omega (arith, acts, few))
nothing_read m Dead size nodes acts same few none = tt
nothing_read m (Whole s) size nodes acts same few none = tt

take_none : (k : ℕ) (xs : List ℕ) → xs ≡ [] → take k xs ≡ []
take_none k xs e = ap (take k) e ∙ take_all k [] (omega arith)

take_front : (xs ys : List ℕ) (k : ℕ) → k ≤ length xs → take k (xs ++ ys) ≡ take k xs
take_front xs ys k l = take-append-le k xs ys l

module _ (m : Model) (root seed level : ℕ) where
  pub free_first : (links : Kept) (free : ℕ) → links ≡ kept_at m root seed level [] → free ≤ 1 → (0 < free → IfPlace (answer links) (NoneRefused (view_model links.model))) → IsFree m root seed level links.choices free
  free_first links free e few none = record {
    few = omega (arith, few);
    none = λ k l.
        let is : take k links.choices ≡ [] = take_none k links.choices (ap (λ (x : Kept). x.choices) e) in
        let some : 0 < free = omega (arith, l) in
        subst (RefusesNone m root seed level) (sym is) (subst (λ (x : Kept). IfPlace (answer x) (NoneRefused (view_model x.model))) e (none some));
  }

  -- the whole list is one of its beginnings
  pub free_here : (xs : List ℕ) (free linked : ℕ) → IsFree m root seed level xs free → linked ≡ length xs → linked < free → RefusesNone m root seed level xs
  free_here xs free linked is many l =
      let under : length xs < free = omega (arith, many, l) in
      subst (RefusesNone m root seed level) (take_all (length xs) xs (omega arith)) (is.none (length xs) under)

  -- one choice more
  keeps : (xs : List ℕ) (d free : ℕ) → IsFree m root seed level xs free → (k : ℕ) → k < free → RefusesNone m root seed level (take k (xs ++ d ∷ []))
  keeps xs d free is k l =
      let few = is.few in
      subst (RefusesNone m root seed level) (sym (take_front xs (d ∷ []) k (omega (arith, few, l)))) (is.none k l)

  pub free_next : (xs : List ℕ) (d free count new : ℕ) (is_freed : Bool) → IsFree m root seed level xs free → count ≡ length xs → Frees free count is_freed new
      → (is_freed ≡ true → RefusesNone m root seed level xs → RefusesNone m root seed level (xs ++ d ∷ [])) → IsFree m root seed level (xs ++ d ∷ []) new
  free_next xs d free count new is_freed is many (inl same) step =
      let few = is.few in
      let long = length-append xs (d ∷ []) in
      record { few = omega (arith, few, long, same); none = λ k l. keeps xs d free is k (omega (arith, l, same)) }
  free_next xs d free count new is_freed is many (inr more) step =
      let few = is.few in
      let long = length-append xs (d ∷ []) in
      let on = more.0 in
      let l = more.1 in
      let e = more.2 in
      let all = step on (free_here xs free count is many l) in
      record {
        few = omega (arith, long, e, many);
        none = λ k below. ⊎_elim (λ old. keeps xs d free is k old)
            (λ past.
            let whole : take k (xs ++ d ∷ []) ≡ xs ++ d ∷ [] = take_all k (xs ++ d ∷ []) (omega (arith, long, many, l, past)) in
            subst (RefusesNone m root seed level) (sym whole) all) (cases_lt k free);
      }

  -- and one less
  pub free_before : (old new : Kept) (d free linked less : ℕ) → old ≡ with_choice new d → linked ≡ length old.choices → less ≤ free → less ≤ linked → IsFree m root seed level old.choices free → IsFree m root seed level new.choices less
  free_before old new d free linked less e many first second is =
      let same : old.choices ≡ new.choices ++ d ∷ [] = ap (λ (x : Kept). x.choices) e in
      let long : length (new.choices ++ d ∷ []) ≡ length new.choices + 1 = length-append new.choices (d ∷ []) in
      let longer : length old.choices ≡ length (new.choices ++ d ∷ []) = ap length same in
      record {
        few = omega (arith, many, second, long, longer);
        none = λ k l.
            let short : k ≤ length new.choices = omega (arith, l, second, many, long, longer) in
            let under : k < free = omega (arith, l, first) in
            subst (RefusesNone m root seed level) (ap (take k) same ∙ take_front new.choices (d ∷ []) k short) (is.none k under);
      }

  pub linked_before : (old new : Kept) (d linked : ℕ) → old ≡ with_choice new d → linked ≡ length old.choices → linked - 1 ≡ length new.choices
  linked_before old new d linked e many =
      let long : length (new.choices ++ d ∷ []) ≡ length new.choices + 1 = length-append new.choices (d ∷ []) in
      let longer : length old.choices ≡ length (new.choices ++ d ∷ []) = ap (λ (x : Kept). length x.choices) e in
      omega (arith, many, long, longer)
