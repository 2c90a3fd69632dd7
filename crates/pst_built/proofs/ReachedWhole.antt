-- Each supplied scenario is read whole by some choices.
use Rattle.std.proofs.Common.{◌≡◌, ℕ, List, [], ◌∷◌, ◌++◌, map, refl, sym, ap, ◌∙◌, subst, append_assoc}
use Rattle.std.specs.Prelude.{flat_map}
use Rattle.std.specs.List.{enumerate_from}
use Rattle.std.proofs.lemmas.List.{map-id}
use Rattle.pst_model.specs.ModelTree.{ModelTree}
use Rattle.pst_model.specs.Sound.{IsSound}
use Rattle.pst_scen.specs.declared.act.Act.{Act}
use Rattle.pst_scen.specs.declared.scenario.First.{First}
use Rattle.pst_scen.specs.declared.scenario.Scenario.{Scenario}
use Rattle.pst_scen.specs.Scenarios.{IsScenario}
use Rattle.pst_legal.specs.Fits.{Fits}
use Rattle.pst_legal.specs.Blanks.{instance_blanks, first_blanks, act_blanks, claim_blanks, used_state_pools, value_blanks}
use Rattle.pst_legal.specs.Reading.{then_read}
use Rattle.pst_legal.specs.SupplyReading.{read_supply}
use Rattle.pst_legal.specs.ValueReading.{empty_first, with_firsts, read_blanks, read_values, answer_of}
use Rattle.pst_built.proofs.SoundActs.{in_place}
use Rattle.pst_built.specs.Reached.{IsReached}
use Rattle.pst_built.specs.Parts.{linked_act, links_alone}
use Rattle.pst_built.specs.ReachedLaws.{SourcesAreRead, ValuesAreRead, SuppliedScenariosAreRead, LegalScenariosAreRead}
use Rattle.pst_built.proofs.Activity.{activities_read}
use Rattle.pst_built.proofs.Sources.{sources_led}
use Rattle.pst_built.proofs.Blanks.{Steps, steps_led, steps_join, rows_steps}
use Rattle.pst_built.proofs.ReachedValues.{claimed_act, claims_steps, act_steps}
use Rattle.pst_built.proofs.ReachedFirsts.{bare_first, used_is, firsts_steps}

pub sources_read : SourcesAreRead
sources_read m root seed place s scenario fits supplied = sources_led m s scenario supplied fits.values.acts fits.within seed place

module _ (m : ModelTree) (sound : IsSound m) (root : ℕ) (s : Scenario) (scenario : IsScenario s) (fits : Fits m root s) where
  abbrev bare_acts : List Act
  bare_acts = map linked_act s.actions

  abbrev with_all : List Act → List First → Scenario
  with_all acts firsts = record { level = s.level; nodes = s.nodes; actions = acts; firsts = firsts }

  abbrev claimed : List Act
  claimed = map claimed_act s.actions

  pools : used_state_pools m bare_acts ≡ map (λ (f : First). f.pool) s.firsts
  pools = used_is m sound s scenario fits.values.acts

  emptied : (xs : List First) → map empty_first (map (λ (f : First). f.pool) xs) ≡ map bare_first xs
  emptied [] = refl
  emptied (x ∷ xs) = ap (λ ys. bare_first x ∷ ys) (emptied xs)

  start : with_firsts m (links_alone s) ≡ with_all bare_acts (map bare_first s.firsts)
  start = ap (with_all bare_acts) (ap (map empty_first) pools ∙ emptied s.firsts)

  claim_steps : Steps m (claim_blanks m bare_acts) (with_firsts m (links_alone s)) (with_all claimed (map bare_first s.firsts))
  claim_steps =
      subst (λ t. Steps m (claim_blanks m bare_acts) t (with_all claimed (map bare_first s.firsts))) (sym start)
      (rows_steps m (λ acts. with_all acts (map bare_first s.firsts)) (instance_blanks m) linked_act linked_act claimed_act [] s.actions
      (λ i x is pre post long. claims_steps m sound (with_all [] (map bare_first s.firsts)) pre post x (fits.values.acts i x is)))

  first_values : Steps m (flat_map (first_blanks m) (used_state_pools m bare_acts)) (with_all claimed (map bare_first s.firsts)) (with_all claimed s.firsts)
  first_values =
      subst (λ ps. Steps m (flat_map (first_blanks m) ps) (with_all claimed (map bare_first s.firsts)) (with_all claimed s.firsts)) (sym pools)
      (firsts_steps m (with_all claimed []) [] s.firsts
      (λ y has. let k = in_place s.firsts y has in fits.values.firsts k.0 y k.1)
      (λ x y none has. absurd none) scenario.firsts.ascending)

  act_values : Steps m (flat_map (act_blanks m) (enumerate_from 0 bare_acts)) (with_all claimed s.firsts) s
  act_values =
      subst (λ acts. Steps m (flat_map (act_blanks m) (enumerate_from 0 bare_acts)) (with_all claimed s.firsts) (with_all acts s.firsts)) (map-id s.actions)
      (rows_steps m (λ acts. with_all acts s.firsts) (act_blanks m) linked_act claimed_act (λ x. x) [] s.actions
      (λ i x is pre post long. act_steps m sound (with_all [] s.firsts) pre post x (fits.values.acts i x is)))

  value_steps : Steps m (value_blanks m bare_acts) (with_all claimed (map bare_first s.firsts)) s
  value_steps =
      steps_join m (flat_map (first_blanks m) (used_state_pools m bare_acts)) (flat_map (act_blanks m) (enumerate_from 0 bare_acts)) (with_all claimed (map bare_first s.firsts)) (with_all claimed s.firsts) s
      first_values act_values

  pub values_led : (seed place : ℕ) → IsReached (read_values m seed) (links_alone s) place s
  values_led seed place =
      let t = with_firsts m (links_alone s) in
      let u = with_all claimed (map bare_first s.firsts) in
      let one = steps_led m seed (claim_blanks m bare_acts) t u place claim_steps in
      let two = steps_led m seed (value_blanks m bare_acts) u s one.end value_steps in
      record {
        choices = one.choices ++ two.choices;
        end = two.end;
        reads = λ more.
            ap (λ ds. then_read (read_blanks m seed (claim_blanks m bare_acts) t place ds) (read_blanks m seed (value_blanks m bare_acts))) (append_assoc one.choices two.choices more)
            ∙ ap (λ r. then_read r (read_blanks m seed (value_blanks m bare_acts))) (one.reads (two.choices ++ more))
            ∙ two.reads more;
      }

pub values_read : ValuesAreRead
values_read m root seed place s sound scenario fits = values_led m sound root s scenario fits seed place

pub supplied_read : SuppliedScenariosAreRead
supplied_read m root seed s sound scenario fits supplied =
    let one = activities_read m root seed s sound scenario fits in
    let two = sources_read m root seed one.end s scenario fits supplied in
    let three = values_read m root seed two.end s sound scenario fits in
    let first = two.choices ++ three.choices in (
      one.choices ++ (two.choices ++ (three.choices ++ [])),
      ap (λ r. answer_of (then_read (then_read r (read_supply m seed)) (read_values m seed))) (one.reads (two.choices ++ (three.choices ++ [])))
          ∙ ap (λ r. answer_of (then_read r (read_values m seed))) (two.reads (three.choices ++ []))
          ∙ ap answer_of (three.reads []),
    )

pub legal_read : LegalScenariosAreRead
legal_read m root seed s sound legal = supplied_read m root seed s sound legal.scenario legal.fits legal.supplied
