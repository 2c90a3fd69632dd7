-- The laws of the machine.
use Rattle.std.proofs.Common.{ℕ, ◌<◌, length, subst}
use Rattle.std.proofs.Common.{arith, get_or}
use Rattle.pst_scen.specs.declared.scenario.Scenario.{Scenario}
use Rattle.pst_order.specs.Laws.{WholeHasNoClash, MustIsInside, MembersAreThose, PlanGroupsAreWhole, RuleIsPrefix, RuleIsFew}
use Rattle.pst_programs.specs.Laws.{ProgramsAreSafe, EachRunsOnce, SafeIsPrefix, SafeGoesOn, SafeIsWhole, SafeIsShort}
use Rattle.pst_programs.proofs.Moves.{reached_kept}
use Rattle.pst_programs.proofs.Goes.{goes_on, is_whole}
use Rattle.pst_programs.proofs.Short.{short}
use Rattle.pst_programs.proofs.Bridge.{are_safe}
use Rattle.std.proofs.lemmas.List.Elements.{Contains-get_or}
use Rattle.pst_scen.specs.Plan.{Entries, members}
use Rattle.pst_scen.specs.Plans.{IsPlanOf}

module _ (clash : WholeHasNoClash) (must_in : MustIsInside) (those : MembersAreThose) (whole : PlanGroupsAreWhole) where
  pub safe_prefix : RuleIsPrefix → SafeIsPrefix
  safe_prefix law s p programs moves state links plan wide safe reached =
      let k = reached_kept s p programs plan safe clash must_in those whole moves state reached in
      law s p (length programs) state.trace links plan wide (record { blocks = k.blocks; are = k.are; rule = k.rule })

  pub safe_goes_on : SafeGoesOn
  safe_goes_on s p programs moves state lane plan safe reached on =
      let g = goes_on s p programs plan safe those state (reached_kept s p programs plan safe clash must_in those whole moves state reached) lane on in
      (g.move, g.new, g.step)

  pub safe_whole : SafeIsWhole
  safe_whole s p programs moves state plan safe reached ended =
      is_whole s p programs plan safe those state (reached_kept s p programs plan safe clash must_in those whole moves state reached) ended

  pub safe_short : RuleIsFew → SafeIsShort
  safe_short law s p programs moves state plan safe reached =
      let k = reached_kept s p programs plan safe clash must_in those whole moves state reached in
      let few = (law s (length programs) state.trace (record { blocks = k.blocks; are = k.are; rule = k.rule })).0 in
      let l = short p programs
      (λ a l k at. let e = plan.entries.many in let b = safe.inside a l k at in (whole s p a plan (omega (arith, b, e))).0.some)
      moves state reached in
      omega (arith, few, l)

module _ (those : MembersAreThose) (whole : PlanGroupsAreWhole) where
  pub ascends : (s : Scenario) (p : Entries) → IsPlanOf s p → (g i j : ℕ) → i < j → j < length (members p.groups g) → get_or (members p.groups g) i 0 < get_or (members p.groups g) j 0
  ascends s p plan g i j h l =
      let i_in : i < length (members p.groups g) = omega (arith, h, l) in
      let m = (those p.groups g (get_or (members p.groups g) i 0)).0 (Contains-get_or (members p.groups g) i 0 i_in) in
      let b = m.0 in
      let e = plan.entries.many in
      let w = (whole s p (get_or (members p.groups g) i 0) plan (omega (arith, b, e))).0 in
      let up = subst (λ v. (i j : ℕ) → i < j → j < length (members p.groups v) → get_or (members p.groups v) i 0 < get_or (members p.groups v) j 0) m.1 w.ascending in
      up i j h l

  pub programs_safe : ProgramsAreSafe
  programs_safe s p lanes programs plan are = are_safe p lanes programs those (ascends s p plan) are

pub runs_once : EachRunsOnce
runs_once p programs a safe l = let r = safe.some a l in (r.0, r.1, r.2, λ other k x. safe.only a r.0 other r.1 k r.2 x)
