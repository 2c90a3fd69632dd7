-- Pairs of rivals are pairs of blanks that must have different options.
use Rattle.std.proofs.Common.{◌≡◌, ℕ, ◌<◌, List, length, get_or, All, Some, refl, sym, ◌∙◌, subst, arith}
use Rattle.std.specs.Prelude.{slice_get}
use Rattle.std.proofs.lemmas.Option.{slice_get-get_or, slice_get_within}
use Rattle.pst_model.specs.ModelTree.{ModelTree}
use Rattle.pst_scen.specs.declared.scenario.Scenario.{Scenario}
use Rattle.pst_scen.specs.Refusals.{IsUnrefused}
use Rattle.pst_legal.specs.Blanks.{Instance}
use Rattle.pst_legal.specs.ValueReading.{with_firsts}
use Rattle.pst_few_places.specs.Fillings.{all_blanks, AreOptions, filled}
use Rattle.pst_blank_values.specs.Values.{AreBare}
use Rattle.pst_blank_values.specs.Laws.{FilledBlanksStand}
use Rattle.pst_claim_rivals.specs.declared.claims.OpenClaim.{OpenClaim}
use Rattle.pst_rival_blanks.specs.declared.pairs.Rival.{Rival}
use Rattle.pst_claim_rivals.specs.Claims.{open_claims}
use Rattle.pst_claim_rivals.specs.Rivals.{ClaimsInstance}
use Rattle.pst_rival_blanks.specs.Pairs.{IsPairOf, MustDiffer}
use Rattle.pst_claim_rivals.proofs.Listed.{theirs}
use Rattle.pst_rival_blanks.proofs.Listed.{blank_at}
use Rattle.pst_rival_blanks.proofs.Same.{rivals_same}
use Rattle.pst_rival_blanks.proofs.Stand.{claims_instance}
use Rattle.pst_claim_rivals.proofs.Differ.{differ}

module _ (stand : FilledBlanksStand) (m : ModelTree) (u : Scenario) (bare : AreBare u.actions) where
  option_at : (chosen : List ℕ) (i act claim : ℕ) → AreOptions m u.actions (all_blanks m u) chosen → slice_get (all_blanks m u) i ≡ Some (Instance act claim) → slice_get chosen i ≡ Some (get_or chosen i 0)
  option_at chosen i act claim options blank =
      let within = slice_get_within (all_blanks m u) i (Instance act claim) blank in
      let many = options.many in
      slice_get-get_or chosen i 0 (omega (arith, within, many))

  claims_option : (chosen : List ℕ) (i pool : ℕ) (x : OpenClaim) → AreOptions m u.actions (all_blanks m u) chosen → slice_get (open_claims m u.actions) i ≡ Some x → x.pool ≡ Some pool
      → ClaimsInstance (filled m (all_blanks m u) chosen (with_firsts m u)) x (get_or chosen i 0)
  claims_option chosen i pool x options is on_pool =
      let blank = blank_at m u i x is in
      claims_instance stand m u chosen bare x i (get_or chosen i 0) pool (theirs m u.actions i x is) on_pool blank (option_at chosen i x.act x.claim options blank)

  must_differ : (r : Rival) → IsPairOf u (open_claims m u.actions) r → MustDiffer m u r
  must_differ r p = record {
    order = p.order;
    first = record { act = p.first.act; claim = p.first.claim; is = blank_at m u r.earlier p.first p.is_first };
    second = record { act = p.second.act; claim = p.second.claim; is = blank_at m u r.later p.second p.is_second };
    differ = λ chosen options free same.
        let t = filled m (all_blanks m u) chosen (with_firsts m u) in
        let one = claims_option chosen r.earlier p.rivals.on_pool.pool p.first options p.is_first p.rivals.on_pool.first in
        let other = claims_option chosen r.later p.rivals.on_pool.pool p.second options p.is_second p.rivals.on_pool.second in
        differ t p.first p.second (get_or chosen r.earlier 0) free (rivals_same u t (stand m u chosen bare).same p.first p.second p.rivals) one
        (subst (ClaimsInstance t p.second) (sym same) other);
  }

  pub all_differ : (pairs : List Rival) → All (IsPairOf u (open_claims m u.actions)) pairs → All (MustDiffer m u) pairs
  all_differ pairs all = λ k d l. must_differ _ (all k d l)
