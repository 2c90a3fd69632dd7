-- Claims and values, some or all of them, change nothing that the order of a scenario sees.
use Rattle.std.proofs.Common.{◌≡◌, ℕ, ◌<◌, List, [], ◌∷◌, ◌++◌, map, refl, ◌∙◌}
use Rattle.pst_model.specs.ModelTree.{ModelTree}
use Rattle.pst_scen.specs.declared.act.Act.{Act}
use Rattle.pst_scen.specs.declared.scenario.Scenario.{Scenario}
use Rattle.pst_legal.specs.Blanks.{Blank, Instance, OfFirst, OfAct, OfOutput, OfClaim, claim_blanks, value_blanks, option_value}
use Rattle.pst_legal.specs.SupplyReading.{alter}
use Rattle.pst_legal.specs.ValueReading.{with_option, with_claim, act_with_value, with_output_value, with_claim_value, filled_with_value, read_values, with_firsts}
use Rattle.pst_built.proofs.Bares.{bare, bares_in, node_in, kind_in, alter_same}
use Rattle.pst_built.proofs.Values.{IsSameOrder}
use Rattle.pst_built.specs.StepsOf.{BlankSteps}
use Rattle.pst_built.proofs.Goes.{Stands, stands}
use Rattle.pst_built.proofs.Readers.{goes_values}

pub same : (s : Scenario) → IsSameOrder s s
same s = record { level = refl; nodes = refl; acts = refl; kinds = refl; references = refl }

pub same_then : (s t u : Scenario) → IsSameOrder s t → IsSameOrder t u → IsSameOrder s u
same_then s t u one other = record {
  level = other.level ∙ one.level;
  nodes = other.nodes ∙ one.nodes;
  acts = other.acts ∙ one.acts;
  kinds = other.kinds ∙ one.kinds;
  references = other.references ∙ one.references;
}

altered : (s : Scenario) (f : Act → Act) (n : ℕ) → ((act : Act) → node_in (f act) ≡ node_in act) → ((act : Act) → kind_in (f act) ≡ kind_in act) → ((act : Act) → bares_in (f act) ≡ bares_in act)
    → IsSameOrder s (record s { actions = alter f n s.actions })
altered s f n node kinds references = record {
  level = refl;
  nodes = refl;
  acts = alter_same node_in f node n s.actions;
  kinds = alter_same kind_in f kinds n s.actions;
  references = alter_same bares_in f references n s.actions;
}

pub option_same : (m : ModelTree) (s : Scenario) (k : ℕ) (blank : Blank) → IsSameOrder s (with_option m k blank s)
option_same m s k (Instance act claim) = altered s (with_claim m claim k) act (λ x. refl) (λ x. refl) (λ x. refl)
option_same m s k (OfFirst pool field) = record { level = refl; nodes = refl; acts = refl; kinds = refl; references = refl }
option_same m s k (OfAct act field) = altered s (act_with_value (option_value m s.actions (OfAct act field) k)) act (λ x. refl) (λ x. refl) (λ x. refl)
option_same m s k (OfOutput act reference field) =
    let v = option_value m s.actions (OfOutput act reference field) k in
    altered s (with_output_value reference v) act (λ x. refl) (λ x. refl)
    (λ x. alter_same bare (filled_with_value v) (λ filled. refl) reference x.references)
option_same m s k (OfClaim act claim field) =
    altered s (with_claim_value claim (option_value m s.actions (OfClaim act claim field) k)) act (λ x. refl) (λ x. refl) (λ x. refl)

pub blanks_same : (m : ModelTree) (blanks : List Blank) (s : Scenario) → BlankSteps IsSameOrder m blanks s
blanks_same m [] s = tt
blanks_same m (blank ∷ more) s = λ k l. (option_same m s k blank, blanks_same m more (with_option m k blank s))

-- whatever the values have come to
pub values_same : (m : ModelTree) (seed : ℕ) (s : Scenario) (place : ℕ) (left : List ℕ) → Stands IsSameOrder s (read_values m seed s place left)
values_same m seed s place left =
    stands IsSameOrder s (read_values m seed s place left) (λ more. read_values m seed s place (left ++ more))
    (goes_values IsSameOrder same same_then m seed s place left
    (record { firsts = record { level = refl; nodes = refl; acts = refl; kinds = refl; references = refl }; claims = blanks_same m (claim_blanks m s.actions) (with_firsts m s); values = λ u h. blanks_same m (value_blanks m s.actions) u }))
