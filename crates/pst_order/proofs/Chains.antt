-- How far along its chain of writers a pool has come.
use Rattle.std.proofs.Common.{◌≡◌, ℕ, suc, ◌<◌, ◌≤◌, List, [], ◌∷◌, ◌++◌, length, true, false, refl, sym, ap, ◌∙◌, subst, ⊎_elim, arith}
use Rattle.std.specs.Prelude.{slice_get}
use Rattle.std.proofs.lemmas.Bool.{cases_order, cases_lt}
use Rattle.pst_scen.specs.declared.act.Link.{Link}
use Rattle.pst_scen.specs.declared.scenario.Scenario.{Scenario}
use Rattle.pst_scen.specs.declared.event.Event.{Event}
use Rattle.pst_scen.specs.declared.event.Event.TheVariants.{End}
use Rattle.pst_scen.specs.Flows.{Writes}
use Rattle.pst_scen.specs.Trace.{writes_pool, last_writer, Ended, Runs, Block, Starts, Ends, starts_of, events}
use Rattle.pst_order.specs.Rule.{AreByRule}
use Rattle.pst_order.proofs.Elements.{none_in, cons_first}
use Rattle.pst_order.proofs.Events.{ended_cases, ended_more, ended_new, starts_no_end, end_is}
use Rattle.pst_order.proofs.Fair.{must_ended}
use Rattle.pst_order.proofs.Last.{Writing, ItDoes, ItDoesNot, writing, last_same, last_it, last_other}
use Rattle.pst_order.proofs.FromWhole.{Chain, previous}
use Rattle.pst_order.proofs.Sound.{Sound, at, in_order, distinct}

-- The first k writers have ended, and no other.
pub record Reached (s : Scenario) (pool : ℕ) (c : Chain s pool) (t : List Event) (k : ℕ) : Type 0 where
  pub inside : k ≤ length c.writers
  pub done : (j : ℕ) → j < k → Ended t (at c j)
  pub only : (j : ℕ) → j < length c.writers → Ended t (at c j) → j < k
  pub last : last_writer s pool t ≡ previous c.writers k

module _ (s : Scenario) (sound : Sound s) (lanes pool : ℕ) where
  abbrev c : Chain s pool
  c = sound.chain pool

  started : (t : List Event) (ms us : List ℕ) (k : ℕ) → Reached s pool c t k → Reached s pool c (t ++ starts_of ms us) k
  started t ms us k r =
      record {
        inside = r.inside;
        done = λ j l. ended_more t (starts_of ms us) (at c j) (r.done j l);
        only = λ j l e. ⊎_elim (λ q. r.only j l q) (λ q. absurd (starts_no_end ms us (at c j) q)) (ended_cases t (starts_of ms us) (at c j) e);
        last = last_same s pool t ms us ∙ r.last;
      }

  other : (t : List Event) (a k : ℕ) → ((to : Link) → Writes s a pool to → ⊥) → writes_pool (slice_get s.actions a) pool ≡ false → Reached s pool c t k → Reached s pool c (t ++ End a ∷ []) k
  other t a k n f r =
      record {
        inside = r.inside;
        done = λ j l. ended_more t (End a ∷ []) (at c j) (r.done j l);
        only = λ j l e. ⊎_elim (λ q. r.only j l q)
            (λ q. let w = c.each j l in absurd (n w.0 (subst (λ v. Writes s v pool w.0) (sym (end_is a (at c j) q)) w.1))) (ended_cases t (End a ∷ []) (at c j) e);
        last = last_other s pool t a f ∙ r.last;
      }

  -- the next writer ends
  next : (t : List Event) (k : ℕ) → k < length c.writers → writes_pool (slice_get s.actions (at c k)) pool ≡ true → Reached s pool c t k → Reached s pool c (t ++ End (at c k) ∷ []) (suc k)
  next t k l w r =
      record {
        inside = omega (arith, l);
        done = λ j m. ⊎_elim (λ q. ended_more t (End (at c k) ∷ []) (at c j) (r.done j q))
            (λ q. let e : k ≡ j = omega (arith, q, m) in ended_new t (End (at c k) ∷ []) (at c j) (subst (λ v. Ended (End (at c k) ∷ []) (at c v)) e (cons_first (End (at c k)) []))) (cases_lt j k);
        only = λ j m e. ⊎_elim (λ q. let n = r.only j m q in omega (arith, n))
            (λ q. let n = distinct s sound.no_cycle sound.previous_other pool c k j l m (end_is (at c k) (at c j) q) in omega (arith, n)) (ended_cases t (End (at c k) ∷ []) (at c j) e);
        last = last_it s pool t (at c k) w;
      }

  -- a running writer is the next one
  is_next : (h : List Block) → AreByRule s lanes h → (k j : ℕ) → Reached s pool c (events h) k → j < length c.writers → Runs (events h) (at c j) → j ≡ k
  is_next h b k j r l e =
      ⊎_elim (λ q. q)
      (⊎_elim (λ q. absurd (e.1 (r.done j q)))
      (λ q. let m : k < length c.writers = omega (arith, q, l) in
      let d = must_ended s lanes h b (at c k) (at c j) (in_order s sound.no_cycle sound.previous_other pool c k j q l) e.0 in
      let n = r.only k m d in
      absurd (omega (arith, n))))
      (cases_order j k)

  ended : (h : List Block) (a : ℕ) → AreByRule s lanes (Ends a ∷ h) → (k : ℕ) × Reached s pool c (events h) k → Writing s a pool → (k : ℕ) × Reached s pool c (events h ++ End a ∷ []) k
  ended h a b r (ItDoesNot n f) = (r.0, other (events h) a r.0 n f r.1)
  ended h a b r (ItDoes to w t) =
      let p = c.all a to w in
      let x : at c p.0 ≡ a = p.2 in
      let e = is_next h b.0 r.0 p.0 r.1 p.1 (subst (λ v. Runs (events h) v) (sym x) b.1) in
      let same : at c r.0 ≡ a = ap (at c) (sym e) ∙ x in
      let l : r.0 < length c.writers = subst (λ v. v < length c.writers) e p.1 in
      (suc r.0, subst (λ v. Reached s pool c (events h ++ End v ∷ []) (suc r.0)) same (next (events h) r.0 l (subst (λ v. writes_pool (slice_get s.actions v) pool ≡ true) (sym same) t) r.1))

  pub reached : (h : List Block) → AreByRule s lanes h → (k : ℕ) × Reached s pool c (events h) k
  reached [] b =
      (0, record { inside = omega arith; done = λ j l. absurd (omega (arith, l)); only = λ j l e. absurd (none_in _ e); last = refl })
  reached (Starts ms us ∷ h) b = let r = reached h b.0 in (r.0, started (events h) ms us r.0 r.1)
  reached (Ends a ∷ h) b = ended h a b (reached h b.0) (writing s a pool)
