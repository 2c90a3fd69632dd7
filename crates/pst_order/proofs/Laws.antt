-- The laws.
use Rattle.std.proofs.Common.{◌≡◌, ◌≢◌, ℕ, zero, suc, ◌+◌, ◌<◌, ◌≤◌, ◌*◌, List, [], ◌∷◌, ◌++◌, length, get_or, refl, sym, ap, ◌∙◌, subst, ⊎_elim, arith}
use Rattle.std.specs.Prelude.{Contains}
use Rattle.pst_scen.specs.declared.scenario.Scenario.{Scenario}
use Rattle.pst_scen.specs.declared.event.Event.{Event}
use Rattle.pst_scen.specs.Order.{Cause, Sequence, Buffer, Source, Previous, Replaced, Itself, Must, Directly, Through}
use Rattle.pst_scen.specs.Trace.{Started, Ended, Runs, last_writer, MayStart, AreLegal, IsWhole, Prefix, Block, Starts, Ends, events}
use Rattle.pst_scen.specs.Refusals.{GroupClashes, Two, One}
use Rattle.pst_scen.specs.Core.{IsStartable, Core, commands_of}
use Rattle.pst_order.specs.Rule.{AreByRule, KeepsReaders, AllKeepReaders, open_count, close_count}
use Rattle.pst_order.specs.Laws.{RunningMeet, MustEndsBefore, WholeHasNoCycle, WholeHasNoClash, MustIsInside, PrefixIsByRule, RuleIsLegal, RuleIsPrefix, KeptIsPrefix, RuleKeepsReaders, BlocksAreOne, CoreIsByRule, RuleGoesOn, RuleFits, RuleIsFew, CoreIsOne, CoreGrows, CoreMakesAgain, PlannedIsUnrefused, MembersAreThose, PlanGroupsAreWhole, WholeGroupsAreOne}
use Rattle.std.proofs.lemmas.List.Elements.{Contains-get_or}
use Rattle.pst_scen.specs.Plan.{members}
use Rattle.pst_order.proofs.Elements.{place_of}
use Rattle.pst_order.proofs.Members.{places_in, in_places, whole_group}
use Rattle.pst_order.proofs.Joined.{leads_names}
use Rattle.pst_order.proofs.Fair.{legal_fair, rule_fair, core_rule, must_ended, ended_started}
use Rattle.pst_order.proofs.Cuts.{last_ended}
use Rattle.pst_order.proofs.Needed.{must_before, whole_no_cycle, whole_no_clash, whole_group_in, whole_must_in}
use Rattle.pst_order.proofs.Running.{prefix_rule, running_meet}
use Rattle.pst_order.proofs.Sound.{runs_sound}
use Rattle.pst_order.proofs.Agrees.{rule_legal}
use Rattle.pst_order.proofs.Completes.{can_open, rule_prefix, all_fit}
use Rattle.pst_order.proofs.Unique.{one_cut}
use Rattle.pst_order.proofs.Unrefused.{other_way}
use Rattle.pst_order.proofs.Cores.{one_group, makes_one, makes_more, core_again, few_commands}

pub running : RunningMeet
running s lanes a b trace p r q = running_meet s lanes a b trace p r q

pub must_ends_before : MustEndsBefore
must_ends_before s lanes a b newer older ms us legal whole m has =
    must_before s lanes (newer ++ Starts ms us ∷ older) legal whole m (record { newer = newer; members = ms; used = us; older = older; is = refl; has = has })

pub no_cycle : WholeHasNoCycle
no_cycle s a runs l m = whole_no_cycle s runs.lanes runs.legal.blocks runs.legal.legal (subst (IsWhole s) (sym runs.legal.are) runs.whole) a l m

pub no_clash : WholeHasNoClash
no_clash s a b runs g c = whole_no_clash s runs.lanes runs.legal.blocks runs.legal.legal (subst (IsWhole s) (sym runs.legal.are) runs.whole) a b g c

pub must_inside : MustIsInside
must_inside s a b runs l m = whole_must_in s runs.lanes runs.legal.blocks runs.legal.legal (subst (IsWhole s) (sym runs.legal.are) runs.whole) a b l m

pub by_rule : PrefixIsByRule
by_rule s lanes trace p = record { blocks = p.blocks; are = p.are; rule = prefix_rule s lanes trace p }

pub is_legal : RuleIsLegal
is_legal s lanes trace links runs r =
    record { blocks = r.blocks; are = r.are; legal = rule_legal s (runs_sound s links runs) lanes r.blocks r.rule }

pub is_prefix : RuleIsPrefix
is_prefix s p lanes trace links plan wide r =
    subst (λ t. Prefix s lanes t) r.are (rule_prefix s (runs_sound s links plan.runs) p plan.entries lanes wide r.blocks r.rule)

-- KEPT READERS

module _ (s : Scenario) (lanes : ℕ) where
  module _ (h : List Block) (ms us : List ℕ) (may : MayStart s lanes (events h) ms us) (keeps : KeepsReaders s (events h) (Starts ms us)) where
    cause_ended : (a x : ℕ) → Contains ms x → a ≢ x → Cause s a x → Ended (events h) a
    cause_ended a x m ne (Sequence d) = may.sequence a x m d
    cause_ended a x m ne (Buffer d) = may.buffer a x m d
    cause_ended a x m ne (Source pool to d leads) = last_ended s pool h a (leads_names to a (last_writer s pool (events h)) leads (may.source x pool to m d))
    cause_ended a x m ne (Previous pool to d leads) = last_ended s pool h a (leads_names to a (last_writer s pool (events h)) leads (may.previous x pool to m d))
    cause_ended a x m ne (Replaced pool link r w) = keeps a x pool link m ne r w

    all_ended : AreByRule s lanes h → (a b : ℕ) → Contains ms b → Must s a b → Ended (events h) a
    all_ended r _ _ i (Directly a y b d g) = cause_ended a y (may.group.whole b y i g) d.0 d.1
    all_ended r _ _ i (Through a c b p q) =
        must_ended s lanes h r a c p (ended_started s lanes h (rule_fair s lanes h r) c (all_ended r c b i q))

  kept_rule : (h : List Block) → AreLegal s lanes h → AllKeepReaders s h → AreByRule s lanes h
  kept_rule [] k r = tt
  kept_rule (Starts ms us ∷ h) k r =
      let o = kept_rule h k.0 r.0 in
      (o, (record { group = k.1.group; fresh = k.1.fresh; awaited = λ a b i m. all_ended h ms us k.1 r.1 o a b i m; clear = k.1.clear }, k.1.free))
  kept_rule (Ends a ∷ h) k r = (kept_rule h k.0 r.0, k.1)

pub kept_prefix : KeptIsPrefix
kept_prefix s p lanes h links plan wide legal keeps =
    rule_prefix s (runs_sound s links plan.runs) p plan.entries lanes wide h (kept_rule s lanes h legal keeps)

pub keeps_readers : RuleKeepsReaders
keeps_readers s lanes [] k = tt
keeps_readers s lanes (Starts ms us ∷ h) k =
    (keeps_readers s lanes h k.0, λ a b pool link i n r w. k.1.0.awaited a b i (Directly a b b (n, Replaced pool link r w) Itself))
keeps_readers s lanes (Ends a ∷ h) k = (keeps_readers s lanes h k.0, tt)

-- THE CORE

pub one_blocks : BlocksAreOne
one_blocks s lanes more a b k l e = one_cut s lanes more a b (legal_fair s lanes a k) (legal_fair s more b l) e

pub core_by_rule : CoreIsByRule
core_by_rule s lanes trace c = record { blocks = c.blocks; are = c.are; rule = core_rule s lanes c.blocks c.core }

pub goes_on : RuleGoesOn
goes_on s p lanes trace links plan wide r still a l n =
    let o = can_open s (runs_sound s links plan.runs) p plan.entries lanes wide r.blocks r.rule
    (λ x q. still x (subst (λ t. Runs t x) r.are q)) a l (λ q. still a (subst (λ t. Started t a) r.are q, n)) in
    (o.0, subst (λ t. IsStartable s lanes t o.0) r.are (record { ready = o.2; used = o.1; free = o.3 }))

pub fits : RuleFits
fits s lanes trace r =
    subst (λ (t : List Event). length t ≤ 2 * length s.actions) r.are (all_fit s lanes r.blocks (rule_fair s lanes r.blocks r.rule))

pub is_few : RuleIsFew
is_few s lanes trace r =
    subst (λ t. (open_count (commands_of t) ≤ length s.actions) × (close_count (commands_of t) ≤ length s.actions)) r.are (few_commands s lanes r.blocks r.rule)

pub core_one : CoreIsOne
core_one s lanes cs a b x y = makes_one s lanes [] cs a b x y

pub core_grows : CoreGrows
core_grows s lanes cs c before after x y = makes_more s lanes [] before after cs c x y

pub again : CoreMakesAgain
again s lanes trace c = subst (λ t. Core s lanes (commands_of t) t) c.are (core_again s lanes c.blocks c.core)

-- REFUSALS

pub planned_unrefused : PlannedIsUnrefused
planned_unrefused s p plan =
    record {
      no_cycle = λ a q. no_cycle s a plan.runs q.below q.must;
      no_group_clash = λ a b q. no_group_clash a b q;
      no_parallel_order = λ a b q. ⊎_elim (λ m. plan.parallel.unordered a b q.parallel m) (λ m. plan.parallel.unordered b a (other_way q.parallel) m) q.must;
      no_parallel_clash = λ a b q. let l = q.order in plan.parallel.undisputed a b q.parallel (λ e. omega (arith, l, e)) q.contend;
    }
  where
    no_group_clash : (a b : ℕ) → GroupClashes s a b → ⊥
    no_group_clash _ _ (Two a b l g c) = no_clash s a b plan.runs g c
    no_group_clash _ _ (One a l c) = plan.alone a l c

-- GROUPS

pub members_are : MembersAreThose
members_are groups g a = (
  λ h. let r = places_in groups 0 g a h in
      let z : r.0 ≡ a = omega (arith, r.1) in
      let l : r.0 < length groups = r.2 in
      (omega (arith, l, z), ap (λ i. get_or groups i 0) (sym z) ∙ r.3),
  λ h. let z : 0 + a ≡ a = omega arith in subst (λ v. Contains (members groups g) v) z (in_places groups 0 g a h.0 h.1),
)

pub groups_whole : PlanGroupsAreWhole
groups_whole s p a plan l =
    let w = whole_group s p plan.entries (λ x y k g. whole_group_in s plan.runs.lanes plan.runs.legal.blocks plan.runs.legal.legal (subst (IsWhole s) (sym plan.runs.legal.are) plan.runs.whole) x y k g) a l in
    let g = get_or p.groups a 0 in
    let ms = members p.groups g in
    let number = plan.entries.group a l in
    let first : Contains ms (get_or ms 0 0) = Contains-get_or ms 0 0 w.0.some in
    let up : g ≤ get_or ms 0 0 = number.least (get_or ms 0 0) (w.0.one a (get_or ms 0 0) w.1 first) in
    let has : Contains ms g = w.0.whole a g w.1 number.member in
    let q = place_of ms g has in
    (w.0, at_least ms w.0.ascending q.0 g q.1 q.2 up)
  where
    at_least : (ms : List ℕ) → ((i j : ℕ) → i < j → j < length ms → get_or ms i 0 < get_or ms j 0) → (i g : ℕ) → i < length ms → get_or ms i 0 ≡ g → g ≤ get_or ms 0 0 → get_or ms 0 0 ≡ g
    at_least ms up zero g l e le = e
    at_least ms up (suc i) g l e le = let k = up 0 (suc i) (omega arith) l in absurd (omega (arith, k, e, le))

pub groups_one : WholeGroupsAreOne
groups_one s one other a g k i j = one_group s one other a g k i j
