-- The core's rule agrees with what may come next.
use Rattle.std.proofs.Common.{◌≡◌, ◌≢◌, ℕ, zero, suc, ◌<◌, ◌≤◌, List, [], ◌∷◌, length, Some, refl, sym, ap, ◌∙◌, subst, ⊎_elim, arith}
use Rattle.std.proofs.lemmas.Bool.{cases_lt, cases_eq}
use Rattle.pst_scen.specs.declared.act.Link.{Link}
use Rattle.pst_scen.specs.declared.scenario.Scenario.{Scenario}
use Rattle.pst_scen.specs.Flows.{Feeds, Reads, Writes, LeadsTo}
use Rattle.pst_scen.specs.Order.{Before, Sequence, Buffer, Source, Previous, Replaced, Cause, Itself, Must, Directly}
use Rattle.pst_scen.specs.Trace.{Ended, Started, Names, last_writer, AreFree, MayStart, AreLegal, Block, Starts, Ends, events}
use Rattle.pst_scen.specs.Core.{IsReady}
use Rattle.pst_order.specs.Rule.{AreByRule}
use Rattle.pst_order.proofs.Joined.{names_leads}
use Rattle.pst_order.proofs.Fair.{must_ended, rule_fair, ended_started}
use Rattle.pst_order.proofs.FromWhole.{Chain, previous}
use Rattle.pst_order.proofs.Sound.{Sound, at}
use Rattle.pst_order.proofs.Chains.{Reached, reached}

module _ (s : Scenario) (sound : Sound s) (lanes : ℕ) where
  must_from : {a b : ℕ} → a ≢ b → Cause s a b → Must s a b
  must_from {a = a} {b = b} n d = Directly a b b (n, d) Itself

  -- a writer before the reached place has ended, so what hasn't started isn't one
  module _ (h : List Block) (r : AreByRule s lanes h) (pool k : ℕ) (is : Reached s pool (sound.chain pool) (events h) k) (b : ℕ) (fresh : Started (events h) b → ⊥) (awaited : (a : ℕ) → Must s a b → Ended (events h) a) where
    abbrev c : Chain s pool
    c = sound.chain pool

    -- the place of the source or previous writer isn't beyond the reached one
    upto : (i : ℕ) → i ≤ length c.writers → ((w : ℕ) → previous c.writers i ≡ Some w → Ended (events h) w) → i ≤ k
    upto zero l d = omega arith
    upto (suc i) l d = let n = is.only i (omega (arith, l)) (d (at c i) refl) in omega (arith, n)

    pub wrote : (to : Link) → Writes s b pool to → Names to (last_writer s pool (events h))
    wrote to w =
        let p = c.all b to w in
        let first : p.0 ≤ k = upto p.0 (omega (arith, p.1)) (λ v e.
        let leads = names_leads to v (subst (λ o. Names to o) e p.3) in
        awaited v (must_from (λ q. sound.previous_other b pool to w (subst (λ x. LeadsTo to x) q leads)) (Previous pool to w leads))) in
        let second : k ≤ p.0 = ⊎_elim (λ l. absurd (fresh (ended_started s lanes h (rule_fair s lanes h r) b (subst (λ v. Ended (events h) v) p.2 (is.done p.0 l))))) (λ l. l) (cases_lt p.0 k) in
        let e : p.0 ≡ k = omega (arith, first, second) in
        subst (λ o. Names to o) (ap (previous c.writers) e ∙ sym is.last) p.3

    pub read : (to : Link) → Reads s b pool to → Names to (last_writer s pool (events h))
    read to w =
        let p = sound.source b pool to w in
        let first : p.0 ≤ k = upto p.0 p.1 (λ v e.
        let leads = names_leads to v (subst (λ o. Names to o) e p.2) in
        awaited v (must_from (λ q. sound.source_other b pool to w (subst (λ x. LeadsTo to x) q leads)) (Source pool to w leads))) in
        let second : k ≤ p.0 = ⊎_elim (λ l. absurd (replaced p.0 l p.2)) (λ l. l) (cases_lt p.0 k) in
        let e : p.0 ≡ k = omega (arith, first, second) in
        subst (λ o. Names to o) (ap (previous c.writers) e ∙ sym is.last) p.2
      where
        replaced : (i : ℕ) → i < k → Names to (previous c.writers i) → ⊥
        replaced i l e =
            let m : i < length c.writers = omega (arith, l, is.inside) in
            let d = is.done i l in
            let x = c.each i m in
            let same = sound.same_link b (at c i) pool to x.0 (previous c.writers i) w x.1 e x.2 in
            let began = ended_started s lanes h (rule_fair s lanes h r) (at c i) d in
            ⊎_elim (λ q. fresh (subst (λ v. Started (events h) v) q began))
            (λ q. fresh (ended_started s lanes h (rule_fair s lanes h r) b
            (must_ended s lanes h r b (at c i) (must_from (λ z. q (sym z)) (Replaced pool to w (subst (λ t. Writes s (at c i) pool t) (sym same) x.1))) began)))
            (cases_eq (at c i) b)

  rule_may_start : (h : List Block) → AreByRule s lanes h → (ms us : List ℕ) → IsReady s (events h) ms → AreFree lanes (events h) ms us → MayStart s lanes (events h) ms us
  rule_may_start h r ms us x free =
      record {
        group = x.group;
        fresh = x.fresh;
        free = free;
        sequence = λ a b m d. x.awaited a b m (must_from (λ e. sound.before_other b (x.group.inside b m) (subst (λ v. Before s v b) e d)) (Sequence d));
        buffer = λ a b m d. x.awaited a b m (must_from (λ e. sound.feeds_other b (subst (λ v. Feeds s v b) e d)) (Buffer d));
        source = λ b pool to m d. let k = reached s sound lanes pool h r in read h r pool k.0 k.1 b (x.fresh b m) (λ a q. x.awaited a b m q) to d;
        previous = λ b pool to m d. let k = reached s sound lanes pool h r in wrote h r pool k.0 k.1 b (x.fresh b m) (λ a q. x.awaited a b m q) to d;
        clear = x.clear;
        apart = λ a b m n d. sound.no_clash a b (x.group.one a b m n) d;
      }

  -- Every history by the rule is legal.
  pub rule_legal : (h : List Block) → AreByRule s lanes h → AreLegal s lanes h
  rule_legal [] r = tt
  rule_legal (Starts ms us ∷ h) r = (rule_legal h r.0, rule_may_start h r.0 ms us r.1.0 r.1.1)
  rule_legal (Ends a ∷ h) r = (rule_legal h r.0, r.1)
