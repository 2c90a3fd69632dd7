-- What a trace that the core makes keeps of the order.
use Rattle.std.proofs.Common.{◌≡◌, ◌⊎◌, inl, inr, ⊎_elim, ◌<◌, ℕ, Bool, true, false, List, [], ◌∷◌, ◌++◌, length, sym, subst, ap, ◌∙◌, arith}
use Rattle.std.specs.Prelude.{Contains}
use Rattle.std.proofs.lemmas.List.Elements.{Contains-append_left, Contains-append_cases, Contains-push_cases}
use Rattle.pst_scen.specs.declared.event.Event.{Event}
use Rattle.pst_scen.specs.declared.event.Event.TheVariants.{Start, End}
use Rattle.pst_scen.specs.declared.scenario.Scenario.{Scenario}
use Rattle.pst_scen.specs.Order.{Must, Through}
use Rattle.pst_scen.specs.Trace.{Started, Ended, Block, Starts, Ends, starts_of, events}
use Rattle.pst_scen.specs.Rows.{Has}
use Rattle.pst_scen.specs.Plan.{Entries, members}
use Rattle.pst_scen.specs.Plans.{IsPlanOf}
use Rattle.pst_order.specs.Laws.{WholeHasNoCycle, CoreIsByRule}
use Rattle.pst_order.specs.Rule.{AreByRule, IsByRule}
use Rattle.pst_book.proofs.Elements.{none_in, cons_cases, cons_first, cons_rest}
use Rattle.pst_book.specs.Books.{StartsFirst, NoneStarts, AreStarted}
use Rattle.pst_book.specs.Tables.{RunView}
use Rattle.pst_book.specs.Kept.{IsKept, run_by}
use Rattle.pst_book.specs.Waiting.{IsWaiting}
use Rattle.pst_book.proofs.Waits.{IsOrderly, first_starts, none_starts_there}

same_act : (m l a k : ℕ) (more other : Bool) → Start m l more ≡ Start a k other → m ≡ a
same_act m l a k more other e = cc

-- what starts in a block is a member
starts_member : (ms ls : List ℕ) (a : ℕ) → Started (starts_of ms ls) a → Contains ms a
starts_member [] ls a h = absurd (none_in (Start a h.0 h.1.0) h.1.1)
starts_member (m ∷ ms) [] a h = absurd (none_in (Start a h.0 h.1.0) h.1.1)
starts_member (m ∷ []) (l ∷ ls) a h =
    ⊎_elim (λ e. subst (λ v. Contains (m ∷ []) v) (same_act m l a h.0 false h.1.0 e) (cons_first m []))
    (λ k. absurd (none_in (Start a h.0 h.1.0) k)) (cons_cases (Start m l false) (Start a h.0 h.1.0) [] h.1.1)
starts_member (m ∷ n ∷ ms) (l ∷ ls) a h =
    ⊎_elim (λ e. subst (λ v. Contains (m ∷ n ∷ ms) v) (same_act m l a h.0 true h.1.0 e) (cons_first m (n ∷ ms)))
    (λ k. cons_rest m a (n ∷ ms) (starts_member (n ∷ ms) ls a (h.0, (h.1.0, k)))) (cons_cases (Start m l true) (Start a h.0 h.1.0) (starts_of (n ∷ ms) ls) h.1.1)

started_cases : (t u : List Event) (a : ℕ) → Started (t ++ u) a → Started t a ⊎ Started u a
started_cases t u a h = ⊎_elim (λ k. inl (h.0, (h.1.0, k))) (λ k. inr (h.0, (h.1.0, k))) (Contains-append_cases t u (Start a h.0 h.1.0) h.1.1)

end_no_start : (c a : ℕ) → Started (End c ∷ []) a → ⊥
end_no_start c a h = ⊎_elim (λ e. cc) (λ k. none_in (Start a h.0 h.1.0) k) (cons_cases (End c) (Start a h.0 h.1.0) [] h.1.1)

ended_more : (t u : List Event) (a : ℕ) → Ended t a → Ended (t ++ u) a
ended_more t u a h = Contains-append_left t u (End a) h

-- what must come before a started action has ended
must_ended : (s : Scenario) (lanes : ℕ) (h : List Block) → AreByRule s lanes h → (a b : ℕ) → Must s a b → Started (events h) b → Ended (events h) a
must_ended s lanes [] k a b m e = absurd (none_in _ e.1.1)
must_ended s lanes (Starts ms us ∷ h) k a b m e =
    ended_more (events h) (starts_of ms us) a (⊎_elim (λ q. must_ended s lanes h k.0 a b m q) (λ q. k.1.0.awaited a b (starts_member ms us b q) m) (started_cases (events h) (starts_of ms us) b e))
must_ended s lanes (Ends c ∷ h) k a b m e =
    ended_more (events h) (End c ∷ []) a (⊎_elim (λ q. must_ended s lanes h k.0 a b m q) (λ q. absurd (end_no_start c b q)) (started_cases (events h) (End c ∷ []) b e))

starts_no_end : (ms ls : List ℕ) (a : ℕ) → Ended (starts_of ms ls) a → ⊥
starts_no_end [] ls a h = none_in (End a) h
starts_no_end (m ∷ ms) [] a h = none_in (End a) h
starts_no_end (m ∷ []) (l ∷ ls) a h = ⊎_elim (λ e. cc) (λ k. none_in (End a) k) (cons_cases (Start m l false) (End a) [] h)
starts_no_end (m ∷ n ∷ ms) (l ∷ ls) a h = ⊎_elim (λ e. cc) (λ k. starts_no_end (n ∷ ms) ls a k) (cons_cases (Start m l true) (End a) (starts_of (n ∷ ms) ls) h)

same_end : (c a : ℕ) → End c ≡ End a → c ≡ a
same_end c a e = cc

-- what has ended has started
ended_started : (s : Scenario) (lanes : ℕ) (h : List Block) → AreByRule s lanes h → (a : ℕ) → Ended (events h) a → Started (events h) a
ended_started s lanes [] k a e = absurd (none_in (End a) e)
ended_started s lanes (Starts ms us ∷ h) k a e =
    ⊎_elim (λ q. let b = ended_started s lanes h k.0 a q in (b.0, (b.1.0, Contains-append_left (events h) (starts_of ms us) (Start a b.0 b.1.0) b.1.1)))
    (λ q. absurd (starts_no_end ms us a q)) (Contains-append_cases (events h) (starts_of ms us) (End a) e)
ended_started s lanes (Ends c ∷ h) k a e =
    let more : (x : ℕ) → Started (events h) x → Started (events h ++ End c ∷ []) x = λ x b. (b.0, (b.1.0, Contains-append_left (events h) (End c ∷ []) (Start x b.0 b.1.0) b.1.1)) in
    ⊎_elim (λ q. more a (ended_started s lanes h k.0 a q)) (λ q. more a (subst (λ (x : ℕ). Started (events h) x) (same_end c a q) k.1.0)) (Contains-push_cases (events h) (End c) (End a) e)

-- the plan of a scenario and a trace by the core's rule
pub orderly : WholeHasNoCycle → (s : Scenario) (p : Entries) (lanes : ℕ) (t : List Event) → IsPlanOf s p → IsByRule s lanes t → IsOrderly p t
orderly no_cycle s p lanes t plan by =
    let many = plan.entries.many in
    let inside : (a : ℕ) → a < length p.groups → a < length s.actions = λ a a_in. omega (arith, a_in, many) in
    let is : (a b : ℕ) → a < length p.groups → b < length p.groups → Has p.must a b → Must s a b = λ a b a_in b_in has. (plan.entries.must a b (inside a a_in) (inside b b_in)).0 has in
    record {
      no_circle = λ a a_in has. no_cycle s a plan.runs (inside a a_in) (is a a a_in a_in has);
      chained = λ a b c a_in b_in c_in first second. (plan.entries.must a c (inside a a_in) (inside c c_in)).1 (Through a b c (is a b a_in b_in first) (is b c b_in c_in second));
      ended = λ a b a_in b_in has e.
          let old = subst (λ (u : List Event). Ended u b) (sym by.are) e in
          subst (λ (u : List Event). Ended u a) by.are (must_ended s lanes by.blocks by.rule a b (is a b a_in b_in has) (ended_started s lanes by.blocks by.rule b old));
    }

-- what a run finds by the plan by which it waits holds by the whole plan
module _ (by_rule : CoreIsByRule) (no_cycle : WholeHasNoCycle) (s : Scenario) (p : Entries) (run : RunView) (kept : IsKept s (run_by p run)) (waits : IsWaiting p run.plan) where
  order : IsOrderly p run.trace
  order = orderly no_cycle s p run.lanes run.trace kept.plan (by_rule s run.lanes run.trace kept.core)

  pub first_by : (group : ℕ) → StartsFirst run.plan run.lanes run.trace group → StartsFirst p run.lanes run.trace group
  first_by group h = first_starts p run.plan waits run.trace order run.lanes group h

  pub none_by : NoneStarts run.plan run.lanes run.trace → NoneStarts p run.lanes run.trace
  none_by h = none_starts_there p run.plan waits run.trace order run.lanes h

-- the members of a group are the same by both plans
pub started_by : (p q : Entries) (waits : IsWaiting p q) (t u : List Event) (group lanes : ℕ) → AreStarted t u (members q.groups group) lanes → AreStarted t u (members p.groups group) lanes
started_by p q waits t u group lanes h = subst (λ (e : Entries). AreStarted t u (members e.groups group) lanes) waits.is h

pub count_by_both : (p q : Entries) (waits : IsWaiting p q) (group n : ℕ) → n ≡ length (members q.groups group) → n ≡ length (members p.groups group)
count_by_both p q waits group n is = is ∙ ap (λ (e : Entries). length (members e.groups group)) waits.is
