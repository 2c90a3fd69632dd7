-- Constraints that keep rivals apart are met.
use Rattle.std.proofs.Common.{◌≡◌, ◌≢◌, ℕ, zero, suc, ◌<◌, ◌≤◌, ◌-◌, ◌^◌, ℤ, pos, List, [], ◌∷◌, ◌++◌, length, get_or, map, All, Bool, true, false, nat_eq, if◌then◌else◌, Option, Some, None, refl, sym, ap, ap₂, ◌∙◌, subst, arith}
use Rattle.std.specs.Prelude.{slice_get, flat_map, option_to_list, not}
use Rattle.std.specs.Option.{option_and_then}
use Rattle.std.specs.Ordering.{int_eq}
use Rattle.std.proofs.lemmas.Bool.{false_from_ne_true}
use Rattle.std.proofs.lemmas.Bool.Decides.{nat_tests, Decides-int_eq}
use Rattle.std.proofs.lemmas.Int.{ints}
use Rattle.std.proofs.lemmas.List.Elements.{All-nil, All-cons}
use Rattle.std.proofs.lemmas.Option.{slice_get-get_or, slice_get_within}
use Rattle.pst_num.specs.Range.{is_in_range, in_range}
use Rattle.pst_expr.specs.declared.ranges.Span.{Span}
use Rattle.pst_expr.specs.Spans.{size_of}
use Rattle.pst_expr.specs.Tree.{Expression}
use Rattle.pst_expr.specs.Value.{number_of, compared, variable_value, given, value}
use Rattle.pst_domain.specs.Bounds.{HasVariablesBelow}
use Rattle.pst_narrow.specs.Solutions.{IsTruth, IsMet}
use Rattle.pst_model.specs.declared.model.Pool.{Pool}
use Rattle.pst_model.specs.ModelTree.{ModelTree}
use Rattle.pst_model.specs.Sound.{IsSound, IsSoundPool}
use Rattle.pst_scen.specs.declared.act.Act.{Act}
use Rattle.pst_scen.specs.declared.scenario.Scenario.{Scenario}
use Rattle.pst_scen.specs.Refusals.{IsUnrefused}
use Rattle.pst_legal.specs.Types.{served_claim}
use Rattle.pst_legal.specs.Blanks.{Instance, instances_in, claim_instances, options}
use Rattle.pst_legal.specs.ValueReading.{with_firsts}
use Rattle.pst_built.proofs.SoundActs.{all_get}
use Rattle.pst_few_places.specs.Fillings.{all_blanks, AreOptions, filled}
use Rattle.pst_blank_values.specs.Values.{blank_values}
use Rattle.pst_rival_blanks.specs.declared.pairs.Rival.{Rival}
use Rattle.pst_rival_blanks.specs.Pairs.{IsInstance, MustDiffer, differing, AreMetWherePlanned}
use Rattle.pst_rival_blanks.proofs.Stand.{value_at}

all_map : {A B : Type 0} (f : A → B) (P : B → Type 0) (xs : List A) → All (λ x. P (f x)) xs → All P (map f xs)
all_map f P [] all = All-nil P
all_map f P (x ∷ xs) all = All-cons P (f x) (map f xs) (all zero x (omega arith)) (all_map f P xs (λ i e h. all (suc i) e (omega (arith, h))))

-- ---- the number of an instance is small

small_span : (size k : ℕ) → size ≤ 1024 → k < size_of (record { low = pos 0; high = pos (size - 1) } ∷ []) → k < 2 ^ 63
small_span zero k most h = omega (arith, ints, h)
small_span (suc size) k most h = omega (arith, ints, h, most)

by_size : (size k : ℕ) (b : Bool) → size ≤ 1024 → k < size_of ((if b then [] else record { low = pos 0; high = pos (size - 1) } ∷ []) ++ []) → k < 2 ^ 63
by_size size k true most h = absurd (omega (arith, h))
by_size size k false most h = small_span size k most h

by_pool : (m : ModelTree) → IsSound m → (p k : ℕ) (o : Option Pool) → slice_get m.pools p ≡ o → k < size_of (instances_in o ++ []) → k < 2 ^ 63
by_pool m sound p k None is h = absurd (omega (arith, h))
by_pool m sound p k (Some pool) is h = by_size pool.size k (nat_eq pool.size 0) (all_get (IsSoundPool m) m.pools p pool sound.pools is).most h

by_served : (m : ModelTree) → IsSound m → (k : ℕ) (o : Option ℕ) → k < size_of (instances_in (option_and_then (λ pool. slice_get m.pools pool) o) ++ []) → k < 2 ^ 63
by_served m sound k None h = absurd (omega (arith, h))
by_served m sound k (Some p) h = by_pool m sound p k (slice_get m.pools p) refl h

by_act : (m : ModelTree) → IsSound m → (claim k : ℕ) (o : Option Act) → k < size_of (flat_map (λ (a : Act). claim_instances m a claim) (option_to_list o)) → k < 2 ^ 63
by_act m sound claim k None h = absurd (omega (arith, h))
by_act m sound claim k (Some x) h = by_served m sound k (served_claim m x.action x.instance claim) h

in_is : (k : ℕ) → k < 2 ^ 63 → in_range (pos k) ≡ Some (pos k)
in_is k l = ap (λ b. if b then Some (pos k) else None) here
  where
    here : is_in_range (pos k) ≡ true
    here = let h : k < 2 ^ 63 = l in grind (arith, nat_tests)

-- ---- one constraint

unlike : (k l : ℕ) → k ≢ l → int_eq (pos k) (pos l) ≡ false
unlike k l apart = false_from_ne_true (int_eq (pos k) (pos l)) (λ t. apart (let e = (Decides-int_eq (pos k) (pos l)).0 t in omega (arith, ints, e)))

met_by : (r : Rival) (values : List (Option ℤ)) (k l : ℕ) → variable_value values r.earlier ≡ Some (pos k) → variable_value values r.later ≡ Some (pos l) → k < 2 ^ 63 → l < 2 ^ 63 → k ≢ l → IsMet (differing r) values
met_by r values k l first second small other apart =
    let test : ℤ → ℤ → Bool = λ x y. not (int_eq x y) in
    let e : value (differing r) values ≡ Some (pos 1) =
    ap₂ (λ a b. compared test (given a) (given b)) first second ∙ ap₂ (λ a b. compared test a b) (in_is k small) (in_is l other) ∙ ap (λ b. Some (number_of (not b))) (unlike k l apart) in
    subst IsTruth (sym e) (λ z. omega (arith, ints, z))

module _ (m : ModelTree) (sound : IsSound m) (u : Scenario) where
  small_option : (chosen : List ℕ) (i : ℕ) → AreOptions m u.actions (all_blanks m u) chosen → (b : IsInstance m u i)
      → (get_or chosen i 0 < 2 ^ 63) × (variable_value (blank_values m u.actions (all_blanks m u) chosen) i ≡ Some (pos (get_or chosen i 0)))
  small_option chosen i are b =
      let within = slice_get_within (all_blanks m u) i (Instance b.act b.claim) b.is in
      let many = are.many in
      let at : slice_get chosen i ≡ Some (get_or chosen i 0) = slice_get-get_or chosen i 0 (omega (arith, within, many)) in (
        by_act m sound b.claim (get_or chosen i 0) (slice_get u.actions b.act) (are.below i (Instance b.act b.claim) (get_or chosen i 0) b.is at),
        value_at m u.actions (all_blanks m u) chosen i (Instance b.act b.claim) (get_or chosen i 0) b.is at,
      )

  one_met : (r : Rival) → MustDiffer m u r → (chosen : List ℕ) → AreOptions m u.actions (all_blanks m u) chosen → IsUnrefused (filled m (all_blanks m u) chosen (with_firsts m u)) → IsMet (differing r) (blank_values m u.actions (all_blanks m u) chosen)
  one_met r must chosen are free =
      let one = small_option chosen r.earlier are must.first in
      let other = small_option chosen r.later are must.second in
      met_by r (blank_values m u.actions (all_blanks m u) chosen) (get_or chosen r.earlier 0) (get_or chosen r.later 0) one.1 other.1 one.0 other.0 (must.differ chosen are free)

  one_below : (r : Rival) → MustDiffer m u r → HasVariablesBelow (length (all_blanks m u)) (differing r)
  one_below r must = (slice_get_within (all_blanks m u) r.earlier (Instance must.first.act must.first.claim) must.first.is, slice_get_within (all_blanks m u) r.later (Instance must.second.act must.second.claim) must.second.is)

  pub are_met : (pairs : List Rival) → All (MustDiffer m u) pairs → AreMetWherePlanned m u (map differing pairs)
  are_met pairs all = record {
    variables = all_map differing (HasVariablesBelow (length (all_blanks m u))) pairs (λ k d l. one_below _ (all k d l));
    met = λ chosen are free. all_map differing (λ e. IsMet e (blank_values m u.actions (all_blanks m u) chosen)) pairs (λ k d l. one_met _ (all k d l) chosen are free);
  }
