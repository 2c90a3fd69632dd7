-- In a legal history the writers of a pool that ended form one chain.
use Rattle.std.proofs.Common.{◌≡◌, ℕ, zero, suc, ◌+◌, ◌<◌, ◌≤◌, List, [], ◌∷◌, ◌++◌, length, get_or, Option, Some, None, refl, sym, ap, ◌∙◌, subst, inr, ⊎_elim, arith, length-append}
use Rattle.std.proofs.lemmas.Bool.{cases_lt}
use Rattle.pst_scen.specs.declared.act.Link.{Link}
use Rattle.pst_scen.specs.declared.scenario.Scenario.{Scenario}
use Rattle.pst_scen.specs.declared.event.Event.TheVariants.{End}
use Rattle.pst_scen.specs.Flows.{Writes}
use Rattle.pst_scen.specs.Conflicts.{FirstWrites}
use Rattle.pst_scen.specs.Trace.{Ended, Runs, Names, last_writer, AreLegal, IsWhole, Block, Starts, Ends, starts_of, events}
use Rattle.pst_order.proofs.Elements.{none_in, cons_first}
use Rattle.pst_order.proofs.Events.{ended_cases, ended_new, starts_member, starts_no_end, end_is, end_no_start}
use Rattle.pst_order.proofs.Joined.{refers_in}
use Rattle.pst_order.proofs.Last.{Writing, ItDoes, ItDoesNot, writing, last_same, last_it, last_other}
use Rattle.pst_order.proofs.Lists.{at_push, at_end}
use Rattle.pst_order.proofs.Running.{ran, running_apart}

-- the writer before the i-th one
abbrev pub previous : List ℕ → ℕ → Option ℕ
previous writers zero = None
previous writers (suc i) = Some (get_or writers i 0)

-- The writers of a pool form one chain from its first object.
pub record Chain (s : Scenario) (pool : ℕ) : Type 0 where
  pub writers : List ℕ
  pub each : (i : ℕ) → i < length writers → (to : Link) × Writes s (get_or writers i 0) pool to × Names to (previous writers i)
  pub all : (a : ℕ) (to : Link) → Writes s a pool to → (i : ℕ) × (i < length writers) × (get_or writers i 0 ≡ a) × Names to (previous writers i)

previous_push : (ws : List ℕ) (x i : ℕ) → i ≤ length ws → previous (ws ++ x ∷ []) i ≡ previous ws i
previous_push ws x zero l = refl
previous_push ws x (suc i) l = ap Some (at_push ws x i (omega (arith, l)))

module _ (s : Scenario) (lanes pool : ℕ) where
  -- a running writer replaces the last one that ended
  running_link : (h : List Block) → AreLegal s lanes h → (a : ℕ) (to : Link) → Runs (events h) a → Writes s a pool to → Names to (last_writer s pool (events h))
  running_link [] k a to r w = absurd (none_in _ r.0.1.1)
  running_link (Starts ms us ∷ h) k a to r w =
      subst (λ o. Names to o) (sym (last_same s pool (events h) ms us))
      (⊎_elim (λ q. running_link h k.0 a to q w) (λ q. k.1.previous a pool to (starts_member ms us a q) w) (ran h (Starts ms us) a r))
  running_link (Ends b ∷ h) k a to r w =
      ⊎_elim (λ q. by_writing q (writing s b pool) (running_link h k.0 a to q w)) (λ q. absurd (end_no_start b a q)) (ran h (Ends b) a r)
    where
      by_writing : Runs (events h) a → Writing s b pool → Names to (last_writer s pool (events h)) → Names to (last_writer s pool (events h ++ End b ∷ []))
      by_writing q (ItDoesNot n f) e = subst (λ o. Names to o) (sym (last_other s pool (events h) b f)) e
      by_writing q (ItDoes l v t) e =
          absurd (running_apart s lanes h k.0 a b q k.1
          ((λ x. r.1 (subst (λ y. Ended (events h ++ End b ∷ []) y) (sym x) (ended_new (events h) (End b ∷ []) b (cons_first (End b) [])))), FirstWrites pool to w (l, inr v)))

  record Chained (h : List Block) : Type 0 where
    writers : List ℕ
    each : (i : ℕ) → i < length writers → (to : Link) × Writes s (get_or writers i 0) pool to × Names to (previous writers i)
    ended : (a : ℕ) (to : Link) → Writes s a pool to → Ended (events h) a → (i : ℕ) × (i < length writers) × (get_or writers i 0 ≡ a) × Names to (previous writers i)
    last : last_writer s pool (events h) ≡ previous writers (length writers)

  abbrev HasLink : List ℕ → ℕ → Type 0
  HasLink ws i = (to : Link) × Writes s (get_or ws i 0) pool to × Names to (previous ws i)

  chained_end : (h : List Block) (b : ℕ) → AreLegal s lanes (Ends b ∷ h) → Chained h → Writing s b pool → Chained (Ends b ∷ h)
  chained_end h b k c (ItDoesNot n f) =
      record {
        writers = c.writers;
        each = c.each;
        ended = λ a to w e. ⊎_elim (λ q. c.ended a to w q) (λ q. absurd (n to (subst (λ v. Writes s v pool to) (sym (end_is b a q)) w))) (ended_cases (events h) (End b ∷ []) a e);
        last = last_other s pool (events h) b f ∙ c.last;
      }
  chained_end h b k c (ItDoes l v t) =
      let ws = c.writers in
      let n : length (ws ++ b ∷ []) ≡ length ws + 1 = length-append ws (b ∷ []) in
      let link_is : (to : Link) → Writes s b pool to → Names to (previous (ws ++ b ∷ []) (length ws)) = λ to w.
      subst (λ o. Names to o) (c.last ∙ sym (previous_push ws b (length ws) (omega arith))) (running_link h k.0 b to k.1 w) in
      record {
        writers = ws ++ b ∷ [];
        each = λ i m. ⊎_elim
            (λ q. let d = c.each i q in (
              d.0,
              subst (λ x. Writes s x pool d.0) (sym (at_push ws b i q)) d.1,
              subst (λ o. Names d.0 o) (sym (previous_push ws b i (omega (arith, q)))) d.2,
            ))
            (λ q. let e : length ws ≡ i = omega (arith, q, m, n) in
            subst (λ j. HasLink (ws ++ b ∷ []) j) e (l, subst (λ x. Writes s x pool l) (sym (at_end ws b)) v, link_is l v))
            (cases_lt i (length ws));
        ended = λ a to w e. ⊎_elim
            (λ q. let r = c.ended a to w q in
            (r.0, omega (arith, r.1, n), at_push ws b r.0 r.1 ∙ r.2, subst (λ o. Names to o) (sym (previous_push ws b r.0 (omega (arith, r.1)))) r.3))
            (λ q. let e' : b ≡ a = end_is b a q in
            (length ws, omega (arith, n), at_end ws b ∙ e', link_is to (subst (λ x. Writes s x pool to) (sym e') w)))
            (ended_cases (events h) (End b ∷ []) a e);
        last = last_it s pool (events h) b t ∙ sym (ap (λ i. previous (ws ++ b ∷ []) i) (let m : length (ws ++ b ∷ []) ≡ suc (length ws) = omega (arith, n) in m) ∙ ap Some (at_end ws b));
      }

  chained : (h : List Block) → AreLegal s lanes h → Chained h
  chained [] k = record { writers = []; each = λ i l. absurd (omega (arith, l)); ended = λ a to w e. absurd (none_in _ e); last = refl }
  chained (Starts ms us ∷ h) k =
      let c = chained h k.0 in
      record {
        writers = c.writers;
        each = c.each;
        ended = λ a to w e. ⊎_elim (λ q. c.ended a to w q) (λ q. absurd (starts_no_end ms us a q)) (ended_cases (events h) (starts_of ms us) a e);
        last = last_same s pool (events h) ms us ∙ c.last;
      }
  chained (Ends b ∷ h) k = chained_end h b k (chained h k.0) (writing s b pool)

  -- A whole legal history gives the chain.
  pub whole_chain : (h : List Block) → AreLegal s lanes h → IsWhole s (events h) → Chain s pool
  whole_chain h k w =
      let c = chained h k in
      record { writers = c.writers; each = c.each; all = λ a to v. c.ended a to v (w a (refers_in v)) }
