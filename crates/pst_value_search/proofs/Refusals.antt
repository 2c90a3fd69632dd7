-- What values that are refused say of options.
use Rattle.std.proofs.Common.{◌≡◌, ℕ, zero, suc, List, [], ◌∷◌, ◌++◌, length, Some, None, refl, sym, ap, ◌∙◌, length-append, arith}
use Rattle.std.specs.Prelude.{slice_get, Contains}
use Rattle.std.proofs.lemmas.Option.{none-some, same_Some}
use Rattle.pst_expr.specs.Value.{variable_value}
use Rattle.pst_model.specs.ModelTree.{ModelTree}
use Rattle.pst_scen.specs.declared.act.Act.{Act}
use Rattle.pst_legal.specs.Blanks.{Blank}
use Rattle.pst_few_places.specs.Fillings.{all_blanks, named}
use Rattle.pst_blank_values.specs.Values.{blank_values, value_of_option}
use Rattle.pst_value_search.specs.Laws.{RefusalsHoldNothing, ExcludedValuesHoldNothing}
use Rattle.pst_value_search.proofs.Points.{get_more, get_next, contains_more, values_agree}

-- the same options have the same values
pub same_values : (m : ModelTree) (acts : List Act) (blanks : List Blank) (xs ys : List ℕ) (i : ℕ) → slice_get xs i ≡ slice_get ys i → variable_value (blank_values m acts blanks xs) i ≡ variable_value (blank_values m acts blanks ys) i
same_values m acts [] xs ys i e = refl
same_values m acts (b ∷ blanks) [] [] i e = refl
same_values m acts (b ∷ blanks) [] (y ∷ ys) zero e = absurd (none-some y e)
same_values m acts (b ∷ blanks) [] (y ∷ ys) (suc i) e = none_here blanks ys i e
  where
    none_here : (blanks : List Blank) (ys : List ℕ) (i : ℕ) → None ≡ slice_get ys i → None ≡ variable_value (blank_values m acts blanks ys) i
    none_here [] ys i e = refl
    none_here (b ∷ blanks) [] i e = refl
    none_here (b ∷ blanks) (y ∷ ys) zero e = absurd (none-some y e)
    none_here (b ∷ blanks) (y ∷ ys) (suc i) e = none_here blanks ys i e
same_values m acts (b ∷ blanks) (x ∷ xs) [] zero e = absurd (none-some x (sym e))
same_values m acts (b ∷ blanks) (x ∷ xs) [] (suc i) e = none_there blanks xs i e
  where
    none_there : (blanks : List Blank) (ys : List ℕ) (i : ℕ) → slice_get ys i ≡ None → variable_value (blank_values m acts blanks ys) i ≡ None
    none_there [] ys i e = refl
    none_there (b ∷ blanks) [] i e = refl
    none_there (b ∷ blanks) (y ∷ ys) zero e = absurd (none-some y (sym e))
    none_there (b ∷ blanks) (y ∷ ys) (suc i) e = none_there blanks ys i e
same_values m acts (b ∷ blanks) (x ∷ xs) (y ∷ ys) zero e = ap (λ k. Some (value_of_option m acts b k)) (same_Some x y e)
same_values m acts (b ∷ blanks) (x ∷ xs) (y ∷ ys) (suc i) e = same_values m acts blanks xs ys i e

pub refusals : RefusalsHoldNothing
refusals m seed u place present k places kept names refuses chosen options agree holds unrefused =
    let blanks = all_blanks m u in
    let now = named m seed u.actions blanks place present in
    refuses.reasons (blank_values m u.actions blanks chosen) (kept.met chosen options holds unrefused) (kept.within chosen options holds unrefused)
    (values_agree places k.values (blank_values m u.actions blanks chosen)
    (λ i v there is. same_values m u.actions blanks chosen now i (agree i there) ∙ names.each i v is))

pub excluded : ExcludedValuesHoldNothing
excluded m seed u place present digit k places value kept names excludes chosen options agree holds unrefused =
    let blanks = all_blanks m u in
    let now = named m seed u.actions blanks place (present ++ digit ∷ []) in
    let vs = blank_values m u.actions blanks chosen in
    let one = length-append k.values (value ∷ []) in
    let two = length-append present (digit ∷ []) in
    let many = names.many in
    let count : length k.values ≡ length present = omega (arith, one, two, many) in
    let here : Contains (length present ∷ places) (length present) = (0, omega arith, refl) in
    excludes vs (kept.met chosen options holds unrefused) (kept.within chosen options holds unrefused)
    (values_agree places k.values vs
    (λ i v there is. same_values m u.actions blanks chosen now i (agree i (contains_more (length present) places i there)) ∙ names.each i v (get_more k.values (value ∷ []) i v is)))
    (ap (variable_value vs) count ∙ same_values m u.actions blanks chosen now (length present) (agree (length present) here)
    ∙ names.each (length present) value (ap (slice_get (k.values ++ value ∷ [])) (sym count) ∙ get_next k.values value))
