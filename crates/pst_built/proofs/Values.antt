-- Claims and values change nothing that the order of a scenario sees.
use Rattle.std.proofs.Common.{◌≡◌, ℕ, ℤ, List, [], ◌∷◌, map, Bool, true, false, nat_eq, if◌then◌else◌, refl, ap, ap₂, ◌∙◌}
use Rattle.pst_model.specs.ModelTree.{ModelTree}
use Rattle.pst_scen.specs.declared.act.Act.{Act}
use Rattle.pst_scen.specs.declared.scenario.First.{First}
use Rattle.pst_scen.specs.declared.scenario.Scenario.{Scenario}
use Rattle.pst_legal.specs.Blanks.{Blank, Instance, OfFirst, OfAct, OfOutput, OfClaim, used_state_pools, claim_blanks, value_blanks, options, option_value}
use Rattle.pst_legal.specs.SupplyReading.{alter}
use Rattle.pst_legal.specs.ValueReading.{more_values, first_with_value, empty_first, with_option, with_claim, act_with_value, with_output_value, with_claim_value, filled_with_value, read_blanks, read_values, with_firsts}
use Rattle.pst_built.proofs.Bares.{bare, bares_in, bares, node_in, nodes_in, kind_in, kinds_in, alter_same}
use Rattle.pst_built.proofs.Gives.{Gives, gives_seeded, gives_then}

-- the second scenario has the order of the first
pub record IsSameOrder (s t : Scenario) : Type 0 where
  pub level : t.level ≡ s.level
  pub nodes : t.nodes ≡ s.nodes
  pub acts : nodes_in t.actions ≡ nodes_in s.actions
  pub kinds : kinds_in t.actions ≡ kinds_in s.actions
  pub references : bares t.actions ≡ bares s.actions

same_after : (s t u : Scenario) → IsSameOrder s t → IsSameOrder t u → IsSameOrder s u
same_after s t u one other = record {
  level = other.level ∙ one.level;
  nodes = other.nodes ∙ one.nodes;
  acts = other.acts ∙ one.acts;
  kinds = other.kinds ∙ one.kinds;
  references = other.references ∙ one.references;
}

altered : (s : Scenario) (f : Act → Act) (n : ℕ) → ((act : Act) → node_in (f act) ≡ node_in act) → ((act : Act) → kind_in (f act) ≡ kind_in act) → ((act : Act) → bares_in (f act) ≡ bares_in act)
    → IsSameOrder s (record s { actions = alter f n s.actions })
altered s f n node kinds references = record {
  level = refl;
  nodes = refl;
  acts = alter_same node_in f node n s.actions;
  kinds = alter_same kind_in f kinds n s.actions;
  references = alter_same bares_in f references n s.actions;
}

option_keeps : (m : ModelTree) (s : Scenario) (k : ℕ) (blank : Blank) → IsSameOrder s (with_option m k blank s)
option_keeps m s k (Instance act claim) = altered s (with_claim m claim k) act (λ x. refl) (λ x. refl) (λ x. refl)
option_keeps m s k (OfFirst pool field) = record { level = refl; nodes = refl; acts = refl; kinds = refl; references = refl }
option_keeps m s k (OfAct act field) = altered s (act_with_value (option_value m s.actions (OfAct act field) k)) act (λ x. refl) (λ x. refl) (λ x. refl)
option_keeps m s k (OfOutput act reference field) =
    let v = option_value m s.actions (OfOutput act reference field) k in
    altered s (with_output_value reference v) act (λ x. refl) (λ x. refl)
    (λ x. alter_same bare (filled_with_value v) (λ filled. refl) reference x.references)
option_keeps m s k (OfClaim act claim field) =
    altered s (with_claim_value claim (option_value m s.actions (OfClaim act claim field) k)) act (λ x. refl) (λ x. refl) (λ x. refl)

-- ---- first objects

abbrev pub pool_in : First → ℕ
pool_in first = first.pool

by_test : (pool : ℕ) (v : ℤ) (first : First) (test : Bool) → pool_in (if test then record first { values = more_values v first.values } else first) ≡ first.pool
by_test pool v first true = refl
by_test pool v first false = refl

pools_stay : (pool : ℕ) (v : ℤ) (firsts : List First) → map pool_in (map (first_with_value pool v) firsts) ≡ map pool_in firsts
pools_stay pool v [] = refl
pools_stay pool v (first ∷ more) = ap₂ ◌∷◌ (by_test pool v first (nat_eq first.pool pool)) (pools_stay pool v more)

option_firsts : (m : ModelTree) (s : Scenario) (k : ℕ) (blank : Blank) → map pool_in (with_option m k blank s).firsts ≡ map pool_in s.firsts
option_firsts m s k (Instance act claim) = refl
option_firsts m s k (OfFirst pool field) = pools_stay pool (option_value m s.actions (OfFirst pool field) k) s.firsts
option_firsts m s k (OfAct act field) = refl
option_firsts m s k (OfOutput act reference field) = refl
option_firsts m s k (OfClaim act claim field) = refl

pools_of : (pools : List ℕ) → map pool_in (map empty_first pools) ≡ pools
pools_of [] = refl
pools_of (pool ∷ more) = ap (λ ps. pool ∷ ps) (pools_of more)

-- ---- claims and values

-- the second scenario is the first one with values
pub record IsValued (m : ModelTree) (s t : Scenario) : Type 0 where
  pub same : IsSameOrder s t
  pub firsts : map pool_in t.firsts ≡ used_state_pools m s.actions

blanks_keep : (m : ModelTree) (seed : ℕ) (more : List Blank) (s t : Scenario) (place : ℕ) (left : List ℕ) → IsValued m s t → Gives (IsValued m s) (read_blanks m seed more t place left)
blanks_keep m seed [] s t place left valued = valued
blanks_keep m seed (blank ∷ more) s t place left valued =
    gives_seeded (IsValued m s) seed (options m t.actions blank) (λ k read. read_blanks m seed more (with_option m k blank read)) t place left
    (λ k next rest. blanks_keep m seed more s (with_option m k blank t) next rest (record {
      same = same_after s t (with_option m k blank t) valued.same (option_keeps m t k blank);
      firsts = option_firsts m t k blank ∙ valued.firsts;
    }))

pub values_keep : (m : ModelTree) (seed : ℕ) (s : Scenario) (place : ℕ) (left : List ℕ) → Gives (IsValued m s) (read_values m seed s place left)
values_keep m seed s place left =
    gives_then (IsValued m s) (IsValued m s) _ (read_blanks m seed (value_blanks m s.actions))
    (blanks_keep m seed (claim_blanks m s.actions) s (with_firsts m s) place left (record {
      same = record { level = refl; nodes = refl; acts = refl; kinds = refl; references = refl };
      firsts = pools_of (used_state_pools m s.actions);
    }))
    (λ t next rest valued. blanks_keep m seed (value_blanks m s.actions) s t next rest valued)
