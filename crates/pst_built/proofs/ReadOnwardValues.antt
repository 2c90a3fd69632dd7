-- A further value goes on from what is known.
use Rattle.std.proofs.Common.{◌≡◌, ◌⊎◌, ℕ, ℤ, List, [], ◌∷◌, map, Bool, true, false, nat_eq, if◌then◌else◌, refl, sym, ap, ◌∙◌, inl, inr, ⊎_elim}
use Rattle.std.specs.Prelude.{slice_get}
use Rattle.std.proofs.lemmas.Option.{none-some}
use Rattle.std.proofs.lemmas.Bool.{eqb-true}
use Rattle.pst_model.specs.ModelTree.{ModelTree}
use Rattle.pst_scen.specs.declared.act.Act.{Act}
use Rattle.pst_scen.specs.declared.scenario.First.{First}
use Rattle.pst_scen.specs.declared.scenario.Scenario.{Scenario}
use Rattle.pst_legal.specs.Blanks.{Blank, Instance, OfFirst, OfAct, OfOutput, OfClaim, option_value}
use Rattle.pst_legal.specs.Slots.{first_values}
use Rattle.pst_legal.specs.SupplyReading.{alter}
use Rattle.pst_legal.specs.ValueReading.{more_values, claimed_as, with_claim, act_with_value, filled_with_value, claimed_with_value, with_output_value, with_claim_value, first_with_value, with_option, with_firsts}
use Rattle.pst_built.proofs.Parents.{get_more}
use Rattle.pst_built.specs.Onward.{Keeps, MoreFilled, MoreClaimed, MoreAct, MoreNode, Onward}
use Rattle.pst_built.proofs.Onward.{each_same, row_same, filled_same, claimed_same, act_same, node_same}
use Rattle.pst_built.proofs.ReadOnwardLinks.{each_alter, row_alter}

keeps_more : (xs : List ℤ) (v : ℤ) → Keeps xs (more_values v xs)
keeps_more xs v k w is = get_more xs (v ∷ []) k w is

-- ---- the scenario goes on

more_claim : (m : ModelTree) (claim k : ℕ) (x : Act) → MoreAct x (with_claim m claim k x)
more_claim m claim k x = record {
  action = refl;
  instance = refl;
  fields = λ i v e. e;
  references = row_same MoreFilled filled_same x.references;
  claims = λ i c e. (c, get_more x.claims (claimed_as m x claim k ∷ []) i c e, claimed_same c);
}

more_field : (v : ℤ) (x : Act) → MoreAct x (act_with_value v x)
more_field v x = record {
  action = refl;
  instance = refl;
  fields = keeps_more x.fields v;
  references = row_same MoreFilled filled_same x.references;
  claims = each_same MoreClaimed claimed_same x.claims;
}

more_output : (r : ℕ) (v : ℤ) (x : Act) → MoreAct x (with_output_value r v x)
more_output r v x = record {
  action = refl;
  instance = refl;
  fields = λ i v e. e;
  references = row_alter MoreFilled filled_same (filled_with_value v) r x.references (λ f. record { pool = refl; flow = refl; values = keeps_more f.values v; link = inr refl });
  claims = each_same MoreClaimed claimed_same x.claims;
}

more_claim_value : (c : ℕ) (v : ℤ) (x : Act) → MoreAct x (with_claim_value c v x)
more_claim_value c v x = record {
  action = refl;
  instance = refl;
  fields = λ i v e. e;
  references = row_same MoreFilled filled_same x.references;
  claims = each_alter MoreClaimed claimed_same (claimed_with_value v) c x.claims (λ y is. record { instance = refl; values = keeps_more y.values v });
}

altered_onward : (s : Scenario) (f : Act → Act) (n : ℕ) → ((x : Act) → MoreAct x (f x)) → Onward s (record s { actions = alter f n s.actions })
altered_onward s f n more = record {
  nodes = each_same MoreNode node_same s.nodes;
  branches = λ top index k e. e;
  acts = each_alter MoreAct act_same f n s.actions (λ x is. more x);
  firsts = λ pool k v e. e;
}

-- the values of a pool's first object, of which one is altered
pub firsts_get : (pool : ℕ) (v : ℤ) (firsts : List First) (p : ℕ)
    → (first_values (map (first_with_value pool v) firsts) p ≡ first_values firsts p) ⊎ ((p ≡ pool) × (first_values (map (first_with_value pool v) firsts) p ≡ more_values v (first_values firsts p)))
firsts_get pool v [] p = inl refl
firsts_get pool v (first ∷ firsts) p = by_own (nat_eq first.pool pool) refl (nat_eq first.pool p) refl (firsts_get pool v firsts p)
  where
    by_own : (own : Bool) → nat_eq first.pool pool ≡ own → (asked : Bool) → nat_eq first.pool p ≡ asked
        → (first_values (map (first_with_value pool v) firsts) p ≡ first_values firsts p) ⊎ ((p ≡ pool) × (first_values (map (first_with_value pool v) firsts) p ≡ more_values v (first_values firsts p)))
        → (first_values ((if own then record first { values = more_values v first.values } else first) ∷ map (first_with_value pool v) firsts) p ≡ (if asked then first.values else first_values firsts p))
        ⊎ ((p ≡ pool) × (first_values ((if own then record first { values = more_values v first.values } else first) ∷ map (first_with_value pool v) firsts) p ≡ more_values v (if asked then first.values else first_values firsts p)))
    by_own true is true asks rest =
        inr (sym (eqb-true first.pool p asks) ∙ eqb-true first.pool pool is, ap (λ b. if b then more_values v first.values else first_values (map (first_with_value pool v) firsts) p) asks)
    by_own true is false asks rest =
        ⊎_elim (λ e. inl (ap (λ b. if b then more_values v first.values else first_values (map (first_with_value pool v) firsts) p) asks ∙ e))
        (λ e. inr (e.0, ap (λ b. if b then more_values v first.values else first_values (map (first_with_value pool v) firsts) p) asks ∙ e.1)) rest
    by_own false is true asks rest = inl (ap (λ b. if b then first.values else first_values (map (first_with_value pool v) firsts) p) asks)
    by_own false is false asks rest =
        ⊎_elim (λ e. inl (ap (λ b. if b then first.values else first_values (map (first_with_value pool v) firsts) p) asks ∙ e))
        (λ e. inr (e.0, ap (λ b. if b then first.values else first_values (map (first_with_value pool v) firsts) p) asks ∙ e.1)) rest

pub onward_option : (m : ModelTree) (k : ℕ) (blank : Blank) (s : Scenario) → Onward s (with_option m k blank s)
onward_option m k (Instance act claim) s = altered_onward s (with_claim m claim k) act (more_claim m claim k)
onward_option m k (OfAct act field) s = altered_onward s (act_with_value (option_value m s.actions (OfAct act field) k)) act (more_field (option_value m s.actions (OfAct act field) k))
onward_option m k (OfOutput act reference field) s =
    altered_onward s (with_output_value reference (option_value m s.actions (OfOutput act reference field) k)) act (more_output reference (option_value m s.actions (OfOutput act reference field) k))
onward_option m k (OfClaim act claim field) s =
    altered_onward s (with_claim_value claim (option_value m s.actions (OfClaim act claim field) k)) act (more_claim_value claim (option_value m s.actions (OfClaim act claim field) k))
onward_option m k (OfFirst pool field) s =
    let v = option_value m s.actions (OfFirst pool field) k in
    record {
      nodes = each_same MoreNode node_same s.nodes;
      branches = λ top index n e. e;
      acts = each_same MoreAct act_same s.actions;
      firsts = λ p i w e. ⊎_elim (λ same. ap (λ vs. slice_get vs i) same ∙ e) (λ same. ap (λ vs. slice_get vs i) same.1 ∙ keeps_more (first_values s.firsts p) v i w e) (firsts_get pool v s.firsts p);
    }

pub onward_firsts : (m : ModelTree) (s : Scenario) → s.firsts ≡ [] → Onward s (with_firsts m s)
onward_firsts m s none = record {
  nodes = each_same MoreNode node_same s.nodes;
  branches = λ top index n e. e;
  acts = each_same MoreAct act_same s.actions;
  firsts = λ p i w e. absurd (none-some w (ap (λ firsts. slice_get (first_values firsts p) i) (sym none) ∙ e));
}
