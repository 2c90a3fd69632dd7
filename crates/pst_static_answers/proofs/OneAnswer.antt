-- At most one answer with one text is right.
use Rattle.std.proofs.Common.{◌≡◌, ℕ, List, ap, arith}
use Rattle.pst_model.specs.ModelTree.{ModelTree}
use Rattle.pst_scen.specs.declared.scenario.Scenario.{Scenario}
use Rattle.pst_scen.specs.Plan.{Entries, widest}
use Rattle.pst_scen.specs.Plans.{IsPlanOf}
use Rattle.pst_order.specs.Laws.{MembersAreThose, PlanGroupsAreWhole}
use Rattle.pst_programs.specs.declared.program.Program.{Program}
use Rattle.pst_programs.specs.Laws.{ProgramsAreOne, instructions}
use Rattle.pst_static_answers.specs.declared.answer.StaticAnswer.{StaticAnswer}
use Rattle.pst_static_answers.specs.declared.answer.StaticAnswer.TheVariants.{Static, Narrow}
use Rattle.pst_static_answers.specs.Shown.{ShowsStatic, ArePrinted, IsTooWide, StaticAnswersAreOne, narrow_text, static_text}
use Rattle.pst_static_answers.proofs.Plans.{groups_same, programs_too}

module _ (programs_one : ProgramsAreOne) (those : MembersAreThose) (whole : PlanGroupsAreWhole) (names : List (List ℕ)) (m : ModelTree) (s : Scenario) (p q : Entries) (over : ℕ) (first : IsPlanOf s p) (second : IsPlanOf s q) where
  widths : widest p.groups ≡ widest q.groups
  widths = ap widest (groups_same s p q first second)

  shown_one : (a b : StaticAnswer) (t u : List ℕ) → ShowsStatic names m s p over a t → ShowsStatic names m s q over b u → (a ≡ b) × (t ≡ u)
  shown_one _ _ _ _ (ArePrinted programs fits h) (ArePrinted others fit k) =
      let same : programs ≡ others = programs_one q over programs others (programs_too those whole s p q first second over programs h) k in
      (ap (λ (v : List Program). Static (instructions v)) same, ap (λ (v : List Program). static_text names m s v) same)
  shown_one _ _ _ _ (ArePrinted programs fits h) (IsTooWide wide) = let e = widths in absurd (omega (arith, fits, wide, e))
  shown_one _ _ _ _ (IsTooWide wide) (ArePrinted others fit k) = let e = widths in absurd (omega (arith, fit, wide, e))
  shown_one _ _ _ _ (IsTooWide wide) (IsTooWide wider) = (ap (λ (n : ℕ). Narrow n over) widths, ap (λ (n : ℕ). narrow_text n over) widths)

pub answers_one : ProgramsAreOne → MembersAreThose → PlanGroupsAreWhole → StaticAnswersAreOne
answers_one programs_one those whole names m s p q over a b t u first second h k = shown_one programs_one those whole names m s p q over first second a b t u h k
