-- In a whole legal history what must come before an action ends before it starts.
use Rattle.std.proofs.Common.{◌≡◌, ◌≢◌, ◌⊎◌, ℕ, ◌<◌, List, ◌∷◌, ◌++◌, length, Some, sym, ap, ◌∙◌, subst, inl, ⊎_elim, append_assoc}
use Rattle.std.specs.Prelude.{Contains}
use Rattle.pst_scen.specs.declared.act.Link.{Link}
use Rattle.pst_scen.specs.declared.scenario.Scenario.{Scenario}
use Rattle.pst_scen.specs.declared.event.Event.{Event}
use Rattle.pst_scen.specs.Flows.{Feeds, Reads, Writes, LeadsTo}
use Rattle.pst_scen.specs.Order.{Before, Cause, Sequence, Buffer, Source, Previous, Replaced, Together, Must, Directly, Through}
use Rattle.pst_scen.specs.Conflicts.{Conflict, FirstWrites, SecondWrites}
use Rattle.pst_scen.specs.Trace.{Started, Ended, Names, last_writer, MayStart, AreLegal, IsWhole, Block, Starts, starts_of, events}
use Rattle.pst_order.proofs.Elements.{contains_or}
use Rattle.pst_order.proofs.Events.{ended_or, started_or, ended_cases, ended_more, started_cases, started_new, starts_no_end, starts_member, member_starts}
use Rattle.pst_order.proofs.Joined.{group_back, refers_in, clash_in, names_one, leads_names}
use Rattle.pst_order.proofs.Fair.{AreFair, legal_fair, ended_started, started_inside}
use Rattle.pst_order.proofs.Cuts.{legal_cut, ended_later, started_later, Begun, begun, Later, later, Moved, New, Same, moved, last_ended}

module _ (s : Scenario) (lanes : ℕ) where
  -- a reader of the object that x replaces
  module _ (newer older : List Block) (ms us : List ℕ) (legal : AreLegal s lanes (newer ++ Starts ms us ∷ older)) (whole : IsWhole s (events (newer ++ Starts ms us ∷ older))) where
    here : AreLegal s lanes (Starts ms us ∷ older)
    here = legal_cut s lanes newer (Starts ms us ∷ older) legal

    -- it would start later, and then its object is replaced
    too_late : (a x pool : ℕ) (link : Link) → Contains ms x → a ≢ x → Reads s a pool link → Writes s x pool link → (l : Later s lanes (Starts ms us ∷ older) a) → ⊥
    too_late a x pool link m ne r w l = by_end (ended_or now x)
      where
        now : List Event
        now = events (l.newer ++ Starts ms us ∷ older)

        fair : AreFair s lanes (l.newer ++ Starts ms us ∷ older)
        fair = legal_fair s lanes (l.newer ++ Starts ms us ∷ older) l.legal

        x_started : Started now x
        x_started = started_later l.newer (Starts ms us ∷ older) x (started_new (events older) (starts_of ms us) x (member_starts ms us x here.1.free.many m))

        not_ended : Ended (events (Starts ms us ∷ older)) x → ⊥
        not_ended e =
            ⊎_elim (λ q. here.1.fresh x m (ended_started s lanes older (legal_fair s lanes older here.0) x q)) (λ q. starts_no_end ms us x q) (ended_cases (events older) (starts_of ms us) x e)

        by_move : Ended now x → Moved s pool l.newer (Starts ms us ∷ older) → ⊥
        by_move e (New c k n) =
            let same : last_writer s pool (events older) ≡ Some c =
            names_one link (last_writer s pool (events older)) (last_writer s pool now) (here.1.previous x pool link m w) (l.may.source a pool link l.has r) ∙ k in
            n (ended_more (events older) (starts_of ms us) c (last_ended s pool older c same))
        by_move e (Same f) = not_ended (f x link w e)

        by_end : Ended now x ⊎ (Ended now x → ⊥) → ⊥
        by_end q = ⊎_elim (λ e. by_move e (moved s lanes pool l.newer (Starts ms us ∷ older) fair))
            (λ n. l.may.clear x a (x_started, n) l.has (λ e. ne (sym e), FirstWrites pool link w (link, inl r))) q

    reader_ended : (a x pool : ℕ) (link : Link) → Contains ms x → a ≢ x → Reads s a pool link → Writes s x pool link → Ended (events older) a
    reader_ended a x pool link m ne r w =
        ⊎_elim (λ e. e)
        (λ n. absurd (⊎_elim (λ b. here.1.clear a x (b, n) m (ne, SecondWrites pool link (link, inl r) w))
        (λ nb. ⊎_elim (λ i. here.1.apart a x i m (ne, SecondWrites pool link (link, inl r) w))
        (λ ni. too_late a x pool link m ne r w
        (later s lanes newer (Starts ms us ∷ older) a legal
        (ended_started s lanes (newer ++ Starts ms us ∷ older) (legal_fair s lanes (newer ++ Starts ms us ∷ older) legal) a (whole a (refers_in r)))
        (λ q. ⊎_elim nb (λ k. ni (starts_member ms us a k)) (started_cases (events older) (starts_of ms us) a q))))
        (contains_or ms a)) (started_or (events older) a)))
        (ended_or (events older) a)

    cause_ended : (a x : ℕ) → Contains ms x → a ≢ x → Cause s a x → Ended (events older) a
    cause_ended a x m ne (Sequence d) = here.1.sequence a x m d
    cause_ended a x m ne (Buffer d) = here.1.buffer a x m d
    cause_ended a x m ne (Source pool to d leads) = last_ended s pool older a (leads_names to a (last_writer s pool (events older)) leads (here.1.source x pool to m d))
    cause_ended a x m ne (Previous pool to d leads) = last_ended s pool older a (leads_names to a (last_writer s pool (events older)) leads (here.1.previous x pool to m d))
    cause_ended a x m ne (Replaced pool link r w) = reader_ended a x pool link m ne r w

  -- What must come before an action has ended where the action starts.
  pub must_before : (h : List Block) → AreLegal s lanes h → IsWhole s (events h) → {a b : ℕ} → Must s a b → (x : Begun h b) → Ended (events x.older) a
  must_before h k w (Directly a y b d g) x =
      let l = subst (λ t. AreLegal s lanes t) x.is k in
      let v = subst (λ t. IsWhole s (events t)) x.is w in
      let here = legal_cut s lanes x.newer (Starts x.members x.used ∷ x.older) l in
      cause_ended x.newer x.older x.members x.used l v a y (here.1.group.whole b y x.has g) d.0 d.1
  must_before h k w (Through a c b p q) x =
      let l = subst (λ t. AreLegal s lanes t) x.is k in
      let here = legal_cut s lanes x.newer (Starts x.members x.used ∷ x.older) l in
      let e = must_before h k w q x in
      let y = begun x.older c (ended_started s lanes x.older (legal_fair s lanes x.older here.0) c e) in
      let z : Begun h c =
      record {
        newer = x.newer ++ Starts x.members x.used ∷ y.newer;
        members = y.members;
        used = y.used;
        older = y.older;
        is = x.is ∙ ap (λ t. x.newer ++ Starts x.members x.used ∷ t) y.is ∙ sym (append_assoc x.newer (Starts x.members x.used ∷ y.newer) (Starts y.members y.used ∷ y.older));
        has = y.has;
      } in
      let d = must_before h k w p z in
      subst (λ t. Ended (events t) a) (sym y.is) (ended_later y.newer (Starts y.members y.used ∷ y.older) a (ended_more (events y.older) (starts_of y.members y.used) a d))

  -- WHAT A WHOLE LEGAL HISTORY SHOWS OF THE SCENARIO

  module _ (h : List Block) (k : AreLegal s lanes h) (w : IsWhole s (events h)) where
    -- an action, where it starts
    record At (a : ℕ) : Type 0 where
      begun_there : Begun h a
      legal : AreLegal s lanes begun_there.older
      may : MayStart s lanes (events begun_there.older) begun_there.members begun_there.used

    at : (a : ℕ) → a < length s.actions → At a
    at a l =
        let x = begun h a (ended_started s lanes h (legal_fair s lanes h k) a (w a l)) in
        let y = legal_cut s lanes x.newer (Starts x.members x.used ∷ x.older) (subst (λ t. AreLegal s lanes t) x.is k) in
        record { begun_there = x; legal = y.0; may = y.1 }

    -- it hasn't ended there
    not_ended_at : (a : ℕ) → (x : At a) → Ended (events x.begun_there.older) a → ⊥
    not_ended_at a x e = x.may.fresh a x.begun_there.has (ended_started s lanes x.begun_there.older (legal_fair s lanes x.begun_there.older x.legal) a e)

    pub whole_must_in : (a b : ℕ) → b < length s.actions → Must s a b → a < length s.actions
    whole_must_in a b l m =
        let x = at b l in
        let f = legal_fair s lanes x.begun_there.older x.legal in
        started_inside s lanes x.begun_there.older f a (ended_started s lanes x.begun_there.older f a (must_before h k w m x.begun_there))

    pub whole_group_in : (a b : ℕ) → a < length s.actions → Together s a b → b < length s.actions
    whole_group_in a b l g = let x = at a l in x.may.group.inside b (x.may.group.whole a b x.begun_there.has g)

    pub whole_no_cycle : (a : ℕ) → a < length s.actions → Must s a a → ⊥
    whole_no_cycle a l m = let x = at a l in not_ended_at a x (must_before h k w m x.begun_there)

    pub whole_no_clash : (a b : ℕ) → Together s a b → Conflict s a b → ⊥
    whole_no_clash a b g c =
        let x = at b (clash_in c.1).1 in
        x.may.apart a b (x.may.group.whole b a x.begun_there.has (group_back g)) x.begun_there.has c

    pub whole_before_other : (b : ℕ) → b < length s.actions → Before s b b → ⊥
    whole_before_other b l d = let x = at b l in not_ended_at b x (x.may.sequence b b x.begun_there.has d)

    pub whole_feeds_other : (b : ℕ) → Feeds s b b → ⊥
    whole_feeds_other b d = let x = at b (refers_in d.input) in not_ended_at b x (x.may.buffer b b x.begun_there.has d)

    pub whole_source_other : (b pool : ℕ) (to : Link) → Reads s b pool to → LeadsTo to b → ⊥
    whole_source_other b pool to r leads =
        let x = at b (refers_in r) in
        not_ended_at b x (last_ended s pool x.begun_there.older b (leads_names to b (last_writer s pool (events x.begun_there.older)) leads (x.may.source b pool to x.begun_there.has r)))

    pub whole_previous_other : (b pool : ℕ) (to : Link) → Writes s b pool to → LeadsTo to b → ⊥
    whole_previous_other b pool to r leads =
        let x = at b (refers_in r) in
        not_ended_at b x (last_ended s pool x.begun_there.older b (leads_names to b (last_writer s pool (events x.begun_there.older)) leads (x.may.previous b pool to x.begun_there.has r)))

    -- a source is the first object or a writer
    pub whole_source : (b pool : ℕ) (to : Link) → Reads s b pool to → (older : List Block) × Names to (last_writer s pool (events older))
    whole_source b pool to r = let x = at b (refers_in r) in (x.begun_there.older, x.may.source b pool to x.begun_there.has r)
