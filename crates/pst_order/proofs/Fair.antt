-- Histories in which whole groups start once, and only what runs ends.
use Rattle.std.proofs.Common.{ℕ, ◌<◌, List, [], ◌∷◌, length, subst, ⊎_elim}
use Rattle.std.specs.Prelude.{Contains}
use Rattle.pst_scen.specs.declared.scenario.Scenario.{Scenario}
use Rattle.pst_scen.specs.declared.event.Event.{Event}
use Rattle.pst_scen.specs.declared.event.Event.TheVariants.{End}
use Rattle.pst_scen.specs.Order.{Together, Must}
use Rattle.pst_scen.specs.Trace.{StartsOn, Started, Ended, Runs, IsWholeGroup, AreFree, Block, Starts, Ends, starts_of, events, AreLegal}
use Rattle.pst_order.specs.Rule.{AreByRule, AreByCore}
use Rattle.pst_order.proofs.Elements.{none_in}
use Rattle.pst_order.proofs.Events.{ended_cases, ended_more, starts_on_cases, started_cases, started_more, started_new, starts_no_end, starts_member, starts_lane, member_starts, end_is, end_no_start}

-- one whole group of which nothing has started, on free lanes
pub record IsFresh (s : Scenario) (lanes : ℕ) (trace : List Event) (members used : List ℕ) : Type 0 where
  pub group : IsWholeGroup s members
  pub fresh : (a : ℕ) → Contains members a → Started trace a → ⊥
  pub free : AreFree lanes trace members used

abbrev pub IsFair : Scenario → ℕ → List Event → Block → Type 0
IsFair s lanes trace (Starts members used) = IsFresh s lanes trace members used
IsFair s lanes trace (Ends a) = Runs trace a

abbrev pub AreFair : Scenario → ℕ → List Block → Type 0
AreFair s lanes [] = Unit {0}
AreFair s lanes (b ∷ older) = AreFair s lanes older × IsFair s lanes (events older) b

pub legal_fair : (s : Scenario) (lanes : ℕ) (h : List Block) → AreLegal s lanes h → AreFair s lanes h
legal_fair s lanes [] k = tt
legal_fair s lanes (Starts ms us ∷ h) k = (legal_fair s lanes h k.0, record { group = k.1.group; fresh = k.1.fresh; free = k.1.free })
legal_fair s lanes (Ends a ∷ h) k = (legal_fair s lanes h k.0, k.1)

pub rule_fair : (s : Scenario) (lanes : ℕ) (h : List Block) → AreByRule s lanes h → AreFair s lanes h
rule_fair s lanes [] k = tt
rule_fair s lanes (Starts ms us ∷ h) k = (rule_fair s lanes h k.0, record { group = k.1.0.group; fresh = k.1.0.fresh; free = k.1.1 })
rule_fair s lanes (Ends a ∷ h) k = (rule_fair s lanes h k.0, k.1)

pub core_rule : (s : Scenario) (lanes : ℕ) (h : List Block) → AreByCore s lanes h → AreByRule s lanes h
core_rule s lanes [] k = tt
core_rule s lanes (Starts ms us ∷ h) k = (core_rule s lanes h k.0, (k.1.ready, k.1.free))
core_rule s lanes (Ends a ∷ h) k = (core_rule s lanes h k.0, k.1)

pub ended_started : (s : Scenario) (lanes : ℕ) (h : List Block) → AreFair s lanes h → (a : ℕ) → Ended (events h) a → Started (events h) a
ended_started s lanes [] k a e = absurd (none_in (End a) e)
ended_started s lanes (Starts ms us ∷ h) k a e =
    ⊎_elim (λ q. started_more (events h) (starts_of ms us) a (ended_started s lanes h k.0 a q)) (λ q. absurd (starts_no_end ms us a q)) (ended_cases (events h) (starts_of ms us) a e)
ended_started s lanes (Ends b ∷ h) k a e =
    ⊎_elim (λ q. started_more (events h) (End b ∷ []) a (ended_started s lanes h k.0 a q))
    (λ q. started_more (events h) (End b ∷ []) a (subst (λ v. Started (events h) v) (end_is b a q) k.1.0)) (ended_cases (events h) (End b ∷ []) a e)

-- a group starts whole
pub group_started : (s : Scenario) (lanes : ℕ) (h : List Block) → AreFair s lanes h → (a b : ℕ) → Together s a b → Started (events h) a → Started (events h) b
group_started s lanes [] k a b g e = absurd (none_in _ e.1.1)
group_started s lanes (Starts ms us ∷ h) k a b g e =
    ⊎_elim (λ q. started_more (events h) (starts_of ms us) b (group_started s lanes h k.0 a b g q))
    (λ q. started_new (events h) (starts_of ms us) b (member_starts ms us b k.1.free.many (k.1.group.whole a b (starts_member ms us a q) g)))
    (started_cases (events h) (starts_of ms us) a e)
group_started s lanes (Ends c ∷ h) k a b g e =
    ⊎_elim (λ q. started_more (events h) (End c ∷ []) b (group_started s lanes h k.0 a b g q)) (λ q. absurd (end_no_start c a q)) (started_cases (events h) (End c ∷ []) a e)

-- what must come before a started action has ended
pub must_ended : (s : Scenario) (lanes : ℕ) (h : List Block) → AreByRule s lanes h → (a b : ℕ) → Must s a b → Started (events h) b → Ended (events h) a
must_ended s lanes [] k a b m e = absurd (none_in _ e.1.1)
must_ended s lanes (Starts ms us ∷ h) k a b m e =
    ended_more (events h) (starts_of ms us) a (⊎_elim (λ q. must_ended s lanes h k.0 a b m q) (λ q. k.1.0.awaited a b (starts_member ms us b q) m) (started_cases (events h) (starts_of ms us) b e))
must_ended s lanes (Ends c ∷ h) k a b m e =
    ended_more (events h) (End c ∷ []) a (⊎_elim (λ q. must_ended s lanes h k.0 a b m q) (λ q. absurd (end_no_start c b q)) (started_cases (events h) (End c ∷ []) b e))

-- what has started is an action of the scenario
pub started_inside : (s : Scenario) (lanes : ℕ) (h : List Block) → AreFair s lanes h → (a : ℕ) → Started (events h) a → a < length s.actions
started_inside s lanes [] k a e = absurd (none_in _ e.1.1)
started_inside s lanes (Starts ms us ∷ h) k a e =
    ⊎_elim (λ q. started_inside s lanes h k.0 a q) (λ q. k.1.group.inside a (starts_member ms us a q)) (started_cases (events h) (starts_of ms us) a e)
started_inside s lanes (Ends b ∷ h) k a e =
    ⊎_elim (λ q. started_inside s lanes h k.0 a q) (λ q. absurd (end_no_start b a q)) (started_cases (events h) (End b ∷ []) a e)

-- on a lane that there is
pub lane_below : (s : Scenario) (lanes : ℕ) (h : List Block) → AreFair s lanes h → (a l : ℕ) → StartsOn (events h) a l → l < lanes
lane_below s lanes [] k a l c = absurd (none_in _ c.1)
lane_below s lanes (Starts ms us ∷ h) k a l c =
    ⊎_elim (λ q. lane_below s lanes h k.0 a l q) (λ q. k.1.free.below l (starts_lane ms us a l q)) (starts_on_cases (events h) (starts_of ms us) a l c)
lane_below s lanes (Ends b ∷ h) k a l c =
    ⊎_elim (λ q. lane_below s lanes h k.0 a l q) (λ q. absurd (end_no_start b a (l, q))) (starts_on_cases (events h) (End b ∷ []) a l c)
