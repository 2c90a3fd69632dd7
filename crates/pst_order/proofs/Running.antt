-- What runs at one moment.
use Rattle.std.proofs.Common.{◌⊎◌, ℕ, List, [], ◌∷◌, ◌++◌, refl, sym, subst, inl, inr, ⊎_elim, append_assoc}
use Rattle.pst_scen.specs.declared.scenario.Scenario.{Scenario}
use Rattle.pst_scen.specs.declared.event.Event.{Event}
use Rattle.pst_scen.specs.Order.{Must}
use Rattle.pst_scen.specs.Conflicts.{Conflict}
use Rattle.pst_scen.specs.Trace.{Started, Ended, Runs, AreLegal, IsWhole, Prefix, Block, Starts, Ends, events_of, events}
use Rattle.pst_order.specs.Rule.{AreByRule}
use Rattle.pst_order.proofs.Elements.{none_in}
use Rattle.pst_order.proofs.Events.{ended_more, started_cases, starts_member, end_no_start}
use Rattle.pst_order.proofs.Joined.{conflict_back}
use Rattle.pst_order.proofs.Fair.{must_ended}
use Rattle.pst_order.proofs.Cuts.{legal_cut}
use Rattle.pst_order.proofs.Needed.{must_before}

rule_of : (s : Scenario) (lanes : ℕ) (newer h : List Block) → AreLegal s lanes (newer ++ h) → AreLegal s lanes h → IsWhole s (events (newer ++ h)) → AreByRule s lanes h
rule_of s lanes newer [] k l w = tt
rule_of s lanes newer (Starts ms us ∷ h) k l w = (
  rule_of s lanes (newer ++ Starts ms us ∷ []) h (subst (λ t. AreLegal s lanes t) (sym (append_assoc newer (Starts ms us ∷ []) h)) k) l.0 (subst (λ t. IsWhole s (events t)) (sym (append_assoc newer (Starts ms us ∷ []) h)) w),
  (
    record {
      group = l.1.group;
      fresh = l.1.fresh;
      awaited = λ a b i m. must_before s lanes (newer ++ Starts ms us ∷ h) k w m (record { newer = newer; members = ms; used = us; older = h; is = refl; has = i });
      clear = l.1.clear;
    },
    l.1.free,
  ),
)
rule_of s lanes newer (Ends a ∷ h) k l w =
    (rule_of s lanes (newer ++ Ends a ∷ []) h (subst (λ t. AreLegal s lanes t) (sym (append_assoc newer (Ends a ∷ []) h)) k) l.0 (subst (λ t. IsWhole s (events t)) (sym (append_assoc newer (Ends a ∷ []) h)) w), l.1)

-- what begins a whole legal history is by the rule
pub prefix_rule : (s : Scenario) (lanes : ℕ) (t : List Event) → (p : Prefix s lanes t) → AreByRule s lanes p.blocks
prefix_rule s lanes t p = rule_of s lanes p.more p.blocks p.legal (legal_cut s lanes p.more p.blocks p.legal) p.whole

-- it ran before the block, or starts in it
pub ran : (h : List Block) (b : Block) (a : ℕ) → Runs (events h ++ events_of b) a → Runs (events h) a ⊎ Started (events_of b) a
ran h b a r = ⊎_elim (λ q. inl (q, λ e. r.1 (ended_more (events h) (events_of b) a e))) (λ q. inr q) (started_cases (events h) (events_of b) a r.0)

pub running_apart : (s : Scenario) (lanes : ℕ) (h : List Block) → AreLegal s lanes h → (a b : ℕ) → Runs (events h) a → Runs (events h) b → Conflict s a b → ⊥
running_apart s lanes [] k a b r q c = none_in _ r.0.1.1
running_apart s lanes (Starts ms us ∷ h) k a b r q c =
    ⊎_elim
    (λ x. ⊎_elim (λ y. running_apart s lanes h k.0 a b x y c) (λ y. k.1.clear a b x (starts_member ms us b y) c) (ran h (Starts ms us) b q))
    (λ x. ⊎_elim (λ y. k.1.clear b a y (starts_member ms us a x) (conflict_back s a b c)) (λ y. k.1.apart a b (starts_member ms us a x) (starts_member ms us b y) c) (ran h (Starts ms us) b q))
    (ran h (Starts ms us) a r)
running_apart s lanes (Ends e ∷ h) k a b r q c =
    ⊎_elim
    (λ x. ⊎_elim (λ y. running_apart s lanes h k.0 a b x y c) (λ y. end_no_start e b y) (ran h (Ends e) b q))
    (λ x. end_no_start e a x)
    (ran h (Ends e) a r)

pub running_meet : (s : Scenario) (lanes a b : ℕ) (t : List Event) → Prefix s lanes t → Runs t a → Runs t b → (Must s a b → ⊥) × (Conflict s a b → ⊥)
running_meet s lanes a b t p r q =
    let h = prefix_rule s lanes t p in (
      λ m. r.1 (subst (λ u. Ended u a) p.are (must_ended s lanes p.blocks h a b m (subst (λ u. Started u b) (sym p.are) q.0))),
      λ c. running_apart s lanes p.blocks (legal_cut s lanes p.more p.blocks p.legal) a b (subst (λ u. Runs u a) (sym p.are) r) (subst (λ u. Runs u b) (sym p.are) q) c,
    )
