-- Facts: two places of claims that refuse a list between them.
use Rattle.std.specs.Prelude.{◌≡◌, ℕ, List, [], ◌∷◌, true, false}
use Rattle.std.proofs.Common.{refl, subst, inl, lit<}
use Rattle.std.proofs.lemmas.Option.{none-some, same_Some}
use Rattle.rand_core.specs.Steps.{u32_at, word_bytes}
use Rattle.rand_core.specs.Pcg32Seed.{pcg32_seed}
use Rattle.pst_rng.specs.Words.{generator_at}
use Rattle.pst_expr.specs.Spans.{numbers_from}
use Rattle.pst_scen.specs.Tree.{AtTop}
use Rattle.pst_scen.specs.Plans.{StandParallel, Contend}
use Rattle.pst_scen.specs.Refusals.{IsUnrefused}
use Rattle.pst_legal.specs.ValueReading.{Whole, read}
use Rattle.pst_built.specs.OrderStaysLaws.{IsBarren, ParallelClashesStay}
use Rattle.pst_few_places.specs.Fillings.{all_blanks, filled, named}
use Rattle.pst_few_places.specs.Laws.{AgreeAt}
use Rattle.pst_trials.proofs.Legality.{differ}
use Rattle.pst_law_trials.specs.Models.{claims, claiming}
use Rattle.pst_law_trials.specs.Premises.{both_open}

pub reads : read claims 2 1 0 (0 ∷ 0 ∷ 0 ∷ 0 ∷ 1 ∷ []) ≡ Whole (claiming 1 1)
unfolding generator_at u32_at pcg32_seed word_bytes numbers_from
reads = refl

pub stand : StandParallel (claiming 1 1) 0 1
stand = record {
  block = 1;
  node = _;
  is = refl;
  parallel = tt;
  a_branch = 2;
  b_branch = 3;
  different = differ 2 3 refl;
  a_child = record { node = _; is = refl; in_parent = refl };
  b_child = record { node = _; is = refl; in_parent = refl };
  a_inside = record { leaf = 2; node = _; is = refl; of_act = refl; under = AtTop };
  b_inside = record { leaf = 3; node = _; is = refl; of_act = refl; under = AtTop };
}

pub contend : Contend (claiming 1 1) 0 1
contend = record {
  pool = 0;
  instance = 1;
  own = true;
  other = false;
  a_claims = record { claim = 0; claimed = _; is = record { act = _; is_act = refl; is = refl }; of_pool = refl; of_instance = refl; by_lock = refl };
  b_claims = record { claim = 0; claimed = _; is = record { act = _; is_act = refl; is = refl }; of_pool = refl; of_instance = refl; by_lock = refl };
  by_lock = inl refl;
}

pub barren : ParallelClashesStay → IsBarren claims 2 1 0 (0 ∷ 0 ∷ 0 ∷ 0 ∷ 1 ∷ [])
unfolding generator_at u32_at pcg32_seed word_bytes numbers_from
barren stays = stays claims 2 1 0 (0 ∷ 0 ∷ 0 ∷ 0 ∷ 1 ∷ []) (claiming 1 1) 0 1 refl stand (differ 0 1 refl) contend

pub names : named claims 1 both_open.actions (all_blanks claims both_open) 3 (0 ∷ 1 ∷ []) ≡ 1 ∷ 1 ∷ []
unfolding generator_at u32_at pcg32_seed word_bytes numbers_from
names = refl

clashes : IsUnrefused (claiming 1 1) → ⊥
clashes is = is.no_parallel_clash 0 1 (record { order = lit< tt; parallel = stand; contend = contend })

pub none_planned : (chosen : List ℕ) → AgreeAt (0 ∷ 1 ∷ []) chosen (1 ∷ 1 ∷ []) → IsUnrefused (filled claims (all_blanks claims both_open) chosen both_open) → ⊥
none_planned [] agree is = none-some 1 (agree 0 (0, lit< tt, refl))
none_planned (a ∷ []) agree is = none-some 1 (agree 1 (1, lit< tt, refl))
none_planned (a ∷ b ∷ more) agree is =
    let first : a ≡ 1 = same_Some a 1 (agree 0 (0, lit< tt, refl)) in
    let second : b ≡ 1 = same_Some b 1 (agree 1 (1, lit< tt, refl)) in
    clashes (subst (λ y. IsUnrefused (filled claims (all_blanks claims both_open) (1 ∷ y ∷ more) both_open)) second (subst (λ x. IsUnrefused (filled claims (all_blanks claims both_open) (x ∷ b ∷ more) both_open)) first is))
