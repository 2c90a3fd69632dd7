-- What the claims of a scenario with options in its blanks claim.
use Rattle.std.proofs.Common.{◌≡◌, ℕ, zero, suc, ℤ, pos, List, [], ◌∷◌, map, Bool, Option, Some, None, refl, sym, ap, ap₂, ◌∙◌, subst, arith}
use Rattle.std.specs.Prelude.{slice_get}
use Rattle.std.specs.Option.{option_map, option_and_then, unwrap_or}
use Rattle.std.proofs.lemmas.Int.{ints}
use Rattle.std.proofs.lemmas.Option.{none-some, same_Some, slice_get-map}
use Rattle.pst_expr.specs.Value.{variable_value}
use Rattle.pst_model.specs.declared.action.Claim.{Claim}
use Rattle.pst_model.specs.ModelTree.{ModelTree, ActionTree}
use Rattle.pst_scen.specs.declared.act.Act.{Act}
use Rattle.pst_scen.specs.declared.act.Claimed.{Claimed}
use Rattle.pst_scen.specs.declared.scenario.Scenario.{Scenario}
use Rattle.pst_legal.specs.Types.{type_of, action_claim, served_claim}
use Rattle.pst_legal.specs.Blanks.{Blank, Instance, claims_of}
use Rattle.pst_legal.specs.ValueReading.{is_lock, with_firsts}
use Rattle.pst_built.proofs.Lists.{get_mapped}
use Rattle.pst_few_places.specs.Fillings.{all_blanks, filled}
use Rattle.pst_blank_values.specs.Rows.{Claims, of_act, stands_in}
use Rattle.pst_blank_values.specs.Values.{value_of_option, blank_values, AreBare, IsSameAct}
use Rattle.pst_blank_values.specs.Laws.{FilledBlanksStand}
use Rattle.pst_claim_rivals.specs.declared.claims.OpenClaim.{OpenClaim}
use Rattle.pst_claim_rivals.specs.Claims.{IsClaimed}
use Rattle.pst_claim_rivals.specs.Rivals.{ClaimsInstance}
use Rattle.pst_claim_rivals.proofs.Lists.{by_mapped, after}
use Rattle.pst_rival_blanks.proofs.Held.{shape, shapes, model_shape, held_shapes}

-- the value of a blank is that of its option
pub value_at : (m : ModelTree) (acts : List Act) (blanks : List Blank) (chosen : List ℕ) (i : ℕ) (blank : Blank) (k : ℕ) → slice_get blanks i ≡ Some blank → slice_get chosen i ≡ Some k
    → variable_value (blank_values m acts blanks chosen) i ≡ Some (value_of_option m acts blank k)
value_at m acts [] chosen i blank k is at = absurd (none-some blank is)
value_at m acts (b ∷ blanks) [] i blank k is at = absurd (none-some k at)
value_at m acts (b ∷ blanks) (c ∷ chosen) zero blank k is at = ap (λ z. Some (value_of_option m acts z c)) (same_Some b blank is) ∙ ap (λ z. Some (value_of_option m acts blank z)) (same_Some c k at)
value_at m acts (b ∷ blanks) (c ∷ chosen) (suc i) blank k is at = value_at m acts blanks chosen i blank k is at

-- what a claim of an action claims
pub record AtClaim (o : Option Act) (c k : ℕ) : Type 0 where
  pub act : Act
  pub claimed : Claimed
  pub is_act : o ≡ Some act
  pub is : slice_get act.claims c ≡ Some claimed
  pub instance : claimed.instance ≡ k

at_claim : (o : Option Act) (c k : ℕ) → slice_get (of_act Claims o) c ≡ Some (pos k) → AtClaim o c k
at_claim None c k e = absurd (none-some (pos k) e)
at_claim (Some y) c k e =
    let z = by_mapped (λ (d : Claimed). pos d.instance) (slice_get y.claims c) (pos k) (sym (slice_get-map (λ (d : Claimed). pos d.instance) y.claims c) ∙ e) in
    let same = z.2 in
    record { act = y; claimed = z.0; is_act = refl; is = z.1; instance = omega (arith, ints, same) }

claim_same : (m : ModelTree) (action c : ℕ) (o : Option ActionTree) → type_of m action ≡ o → action_claim m action c ≡ slice_get (claims_of (type_of m action)) c
claim_same m action c None e = ap (option_and_then (λ (t : ActionTree). slice_get t.claims c)) e ∙ ap (λ p. slice_get (claims_of p) c) (sym e)
claim_same m action c (Some type) e = ap (option_and_then (λ (t : ActionTree). slice_get t.claims c)) e ∙ ap (λ p. slice_get (claims_of p) c) (sym e)

pub claims_instance : FilledBlanksStand → (m : ModelTree) (u : Scenario) (chosen : List ℕ) → AreBare u.actions → (x : OpenClaim) (i k pool : ℕ) → IsClaimed m u.actions x → x.pool ≡ Some pool
    → slice_get (all_blanks m u) i ≡ Some (Instance x.act x.claim) → slice_get chosen i ≡ Some k → ClaimsInstance (filled m (all_blanks m u) chosen (with_firsts m u)) x k
claims_instance stand m u chosen bare x i k pool of on_pool blank at =
    let t = filled m (all_blanks m u) chosen (with_firsts m u) in
    let w = stand m u chosen bare in
    let there : stands_in t (Instance x.act x.claim) ≡ Some (pos k) = w.stands i (Instance x.act x.claim) blank ∙ value_at m u.actions (all_blanks m u) chosen i (Instance x.act x.claim) k blank at in
    let c = at_claim (slice_get t.actions x.act) x.claim k there in
    let y = after IsSameAct of.act (slice_get u.actions x.act) (slice_get t.actions x.act) of.is_act (w.same.acts x.act) in
    let one : y.0 ≡ c.act = same_Some y.0 c.act (sym y.1 ∙ c.is_act) in
    let action : c.act.action ≡ of.act.action = ap (λ (z : Act). z.action) (sym one) ∙ y.2.action in
    let instance : c.act.instance ≡ of.act.instance = ap (λ (z : Act). z.instance) (sym one) ∙ y.2.instance in
    let shaped : shape c.claimed ≡ model_shape m c.act x.claim = held_shapes m u chosen bare x.act x.claim c.act (shape c.claimed) c.is_act (get_mapped shape c.act.claims x.claim c.claimed c.is) in
    let served : served_claim m c.act.action c.act.instance x.claim ≡ Some pool = ap₂ (λ a b. served_claim m a b x.claim) action instance ∙ sym of.served ∙ on_pool in
    let in_pool : c.claimed.pool ≡ pool = ap (λ (p : ℕ × Bool). p.0) shaped ∙ ap (λ o. unwrap_or o 0) served in
    let locks : c.claimed.lock ≡ of.claim.lock = ap (λ (p : ℕ × Bool). p.1) shaped ∙ ap is_lock (ap (λ a. action_claim m a x.claim) action ∙ claim_same m of.act.action x.claim (type_of m of.act.action) refl ∙ of.is_claim) in
    record {
      claimed = c.claimed;
      is = record { act = c.act; is_act = c.is_act; is = c.is };
      of_pool = on_pool ∙ ap Some (sym in_pool);
      by_lock = locks ∙ sym of.by_lock;
      instance = c.instance;
    }
