-- Values of blanks, with one choice more and with one less.
use Rattle.std.proofs.Common.{◌≡◌, ℕ, zero, suc, ◌+◌, ◌<◌, ℤ, pos, List, [], ◌∷◌, ◌++◌, length, get_or, Option, Some, refl, sym, ap, ◌∙◌, ⊎_elim, ◌≤◌, length-append, arith}
use Rattle.std.specs.Prelude.{slice_get}
use Rattle.std.proofs.lemmas.Bool.{cases_lt}
use Rattle.std.proofs.lemmas.Option.{none-some, same_Some, slice_get_within}
use Rattle.pst_rng.specs.Words.{start_of}
use Rattle.pst_expr.specs.Spans.{values, size_of}
use Rattle.pst_expr.specs.Value.{variable_value}
use Rattle.pst_model.specs.ModelTree.{ModelTree}
use Rattle.pst_scen.specs.declared.act.Act.{Act}
use Rattle.pst_scen.specs.declared.scenario.Scenario.{Scenario}
use Rattle.pst_legal.specs.Blanks.{Blank, Instance, OfFirst, OfAct, OfOutput, OfClaim, domain_of, options}
use Rattle.pst_legal.specs.Reading.{option_at}
use Rattle.pst_built.proofs.Values.{IsSameOrder}
use Rattle.pst_read_domains.proofs.Same.{same_domain}
use Rattle.pst_few_places.specs.Fillings.{all_blanks, named}
use Rattle.pst_blanks.specs.Blanks.{blank_value}
use Rattle.pst_value_walk.specs.Choices.{value_by}
use Rattle.pst_blank_values.specs.Values.{blank_values, value_of_option}
use Rattle.pst_value_search.specs.Laws.{AreNamed}

get_last_of : (xs : List ℤ) (x : ℤ) → slice_get (xs ++ x ∷ []) (length xs) ≡ Some x
get_last_of [] x = refl
get_last_of (y ∷ ys) x = get_last_of ys x

get_front_of : (xs ys : List ℤ) (i : ℕ) (w : ℤ) → i < length xs → slice_get (xs ++ ys) i ≡ Some w → slice_get xs i ≡ Some w
get_front_of [] ys i w l e = let bad : ⊥ = omega (arith, l) in absurd bad
get_front_of (x ∷ xs) ys zero w l e = e
get_front_of (x ∷ xs) ys (suc i) w l e = get_front_of xs ys i w (omega (arith, l)) e

get_front_more : (xs ys : List ℤ) (i : ℕ) (w : ℤ) → slice_get xs i ≡ Some w → slice_get (xs ++ ys) i ≡ Some w
get_front_more [] ys i w e = absurd (none-some w e)
get_front_more (x ∷ xs) ys zero w e = e
get_front_more (x ∷ xs) ys (suc i) w e = get_front_more xs ys i w e

value_same : (m : ModelTree) (acts : List Act) (blank : Blank) (k : ℕ) → blank_value m acts blank k ≡ value_of_option m acts blank k
value_same m acts (Instance act claim) k = refl
value_same m acts (OfFirst pool field) k = refl
value_same m acts (OfAct act field) k = refl
value_same m acts (OfOutput act reference field) k = refl
value_same m acts (OfClaim act claim field) k = refl

module _ (m : ModelTree) (seed : ℕ) (acts : List Act) where
  abbrev values_named : List Blank → ℕ → List ℕ → List (Option ℤ)
  values_named blanks place choices = blank_values m acts blanks (named m seed acts blanks place choices)

  -- the values before the last one
  earlier_same : (blanks : List Blank) (place : ℕ) (xs : List ℕ) (d i : ℕ) → i < length xs → variable_value (values_named blanks place (xs ++ d ∷ [])) i ≡ variable_value (values_named blanks place xs) i
  earlier_same [] place xs d i l = refl
  earlier_same (b ∷ blanks) place [] d i l = let bad : ⊥ = omega (arith, l) in absurd bad
  earlier_same (b ∷ blanks) place (x ∷ xs) d zero l = refl
  earlier_same (b ∷ blanks) place (x ∷ xs) d (suc i) l = earlier_same blanks (place + 1) xs d i (omega (arith, l))

  -- the last one
  last_is : (blanks : List Blank) (place : ℕ) (xs : List ℕ) (d : ℕ) (b : Blank) → slice_get blanks (length xs) ≡ Some b
      → variable_value (values_named blanks place (xs ++ d ∷ [])) (length xs) ≡ Some (value_of_option m acts b (option_at (start_of seed (place + length xs) (options m acts b)) (options m acts b) d))
  last_is [] place xs d b is = absurd (none-some b is)
  last_is (x ∷ blanks) place [] d b is =
      let e : place ≡ place + 0 = omega arith in
      ap (λ c. Some (value_of_option m acts c (option_at (start_of seed place (options m acts c)) (options m acts c) d))) (same_Some x b is)
      ∙ ap (λ p. Some (value_of_option m acts b (option_at (start_of seed p (options m acts b)) (options m acts b) d))) e
  last_is (x ∷ blanks) place (y ∷ ys) d b is =
      let e : place + 1 + length ys ≡ place + length (y ∷ ys) = omega arith in
      last_is blanks (place + 1) ys d b is ∙ ap (λ p. Some (value_of_option m acts b (option_at (start_of seed p (options m acts b)) (options m acts b) d))) e

module _ (m : ModelTree) (seed : ℕ) (u : Scenario) (place : ℕ) where
  -- one value more
  pub more_named : (present : List ℕ) (vs : List ℤ) (d : ℕ) (b : Blank) (v : ℤ) → slice_get (all_blanks m u) (length present) ≡ Some b
      → v ≡ value_of_option m u.actions b (option_at (start_of seed (place + length present) (options m u.actions b)) (options m u.actions b) d)
      → AreNamed m seed u place present vs → AreNamed m seed u place (present ++ d ∷ []) (vs ++ v ∷ [])
  more_named present vs d b v is e names = record {
    many = (let one = length-append vs (v ∷ []) in let two = length-append present (d ∷ []) in let three = names.many in omega (arith, one, two, three));
    each = λ i w at. by_place i w at;
  }
    where
      here : variable_value (values_named m seed u.actions (all_blanks m u) place (present ++ d ∷ [])) (length present) ≡ Some v
      here = last_is m seed u.actions (all_blanks m u) place present d b is ∙ ap Some (sym e)

      last_here : (i : ℕ) (w : ℤ) → slice_get (vs ++ v ∷ []) i ≡ Some w → i ≡ length present → variable_value (values_named m seed u.actions (all_blanks m u) place (present ++ d ∷ [])) i ≡ Some w
      last_here i w at same =
          let own : slice_get (vs ++ v ∷ []) (length vs) ≡ Some v = get_last_of vs v in
          let both : Some v ≡ Some w = sym own ∙ ap (slice_get (vs ++ v ∷ [])) (names.many ∙ sym same) ∙ at in
          ap (variable_value (values_named m seed u.actions (all_blanks m u) place (present ++ d ∷ []))) same ∙ here ∙ both

      by_place : (i : ℕ) (w : ℤ) → slice_get (vs ++ v ∷ []) i ≡ Some w → variable_value (values_named m seed u.actions (all_blanks m u) place (present ++ d ∷ [])) i ≡ Some w
      by_place i w at = ⊎_elim
          (λ (l : i < length present).
          let small : i < length vs = (let e = names.many in omega (arith, l, e)) in
          earlier_same m seed u.actions (all_blanks m u) place present d i l ∙ names.each i w (get_front_of vs (v ∷ []) i w small at))
          (λ (l : length present ≤ i).
          let below = slice_get_within (vs ++ v ∷ []) i w at in
          let long = length-append vs (v ∷ []) in
          let e = names.many in
          last_here i w at (omega (arith, l, below, long, e)))
          (cases_lt i (length present))

  -- one value less
  pub fewer_named : (present : List ℕ) (vs : List ℤ) (d : ℕ) (v : ℤ) → AreNamed m seed u place (present ++ d ∷ []) (vs ++ v ∷ []) → AreNamed m seed u place present vs
  fewer_named present vs d v names =
      let one = length-append vs (v ∷ []) in
      let two = length-append present (d ∷ []) in
      let three = names.many in
      let many : length vs ≡ length present = omega (arith, one, two, three) in
      record {
        many = many;
        each = λ i w at.
            let small = slice_get_within vs i w at in
            let l : i < length present = omega (arith, small, many) in
            sym (earlier_same m seed u.actions (all_blanks m u) place present d i l) ∙ names.each i w (get_front_more vs (v ∷ []) i w at);
      }

  -- the value of an option is the same in what is read behind
  pub value_there : (s : Scenario) (b : Blank) (p d : ℕ) (v : ℤ) → IsSameOrder u s → v ≡ value_by m seed p s b d → v ≡ value_of_option m u.actions b (option_at (start_of seed p (options m u.actions b)) (options m u.actions b) d)
  value_there s b p d v same e =
      let domain = same_domain u s same m b in
      let count : options m s.actions b ≡ options m u.actions b = ap size_of domain in
      e ∙ ap (λ n. blank_value m s.actions b (option_at (start_of seed p n) n d)) count
      ∙ blank_same b (option_at (start_of seed p (options m u.actions b)) (options m u.actions b) d) domain
      ∙ value_same m u.actions b (option_at (start_of seed p (options m u.actions b)) (options m u.actions b) d)
    where
      blank_same : (b : Blank) (k : ℕ) → domain_of m s.actions b ≡ domain_of m u.actions b → blank_value m s.actions b k ≡ blank_value m u.actions b k
      blank_same (Instance act claim) k e = refl
      blank_same (OfFirst pool field) k e = ap (λ spans. get_or (values spans) k (pos 0)) e
      blank_same (OfAct act field) k e = ap (λ spans. get_or (values spans) k (pos 0)) e
      blank_same (OfOutput act reference field) k e = ap (λ spans. get_or (values spans) k (pos 0)) e
      blank_same (OfClaim act claim field) k e = ap (λ spans. get_or (values spans) k (pos 0)) e
