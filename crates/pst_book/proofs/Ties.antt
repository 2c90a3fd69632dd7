-- What a start and an end make of the tables.
use Rattle.std.proofs.Common.{◌≡◌, ◌≢◌, ◌⊎◌, ◌↔◌, ℕ, ◌+◌, ◌-◌, ◌<◌, ◌≤◌, List, [], ◌∷◌, ◌++◌, take, drop, length, get_or, Bool, true, false, Option, Some, None, refl, sym, ap, ◌∙◌, subst, inl, inr, ⊎_elim, arith, append-nil, take_all, slice_set, replicate}
use Rattle.std.specs.Prelude.{MatchOption}
use Rattle.std.proofs.lemmas.Bool.{cases_eq, cases_lt}
use Rattle.std.proofs.lemmas.List.{drop_all, get_or-set_same, get_or-set_other, length-set, get_or-replicate, length-replicate}
use Rattle.std.proofs.lemmas.List.Elements.{Contains-append_left, Contains-push, Contains-push_cases}
use Rattle.std.proofs.lemmas.Option.{get_or_from_slice_get, slice_get_read}
use Rattle.pst_scen.specs.declared.rows.Rows.{Rows}
use Rattle.pst_scen.specs.declared.event.Event.{Event}
use Rattle.pst_scen.specs.declared.event.Event.TheVariants.{Start, End}
use Rattle.pst_scen.specs.Trace.{StartsOn, Started, Ended, Runs, IsHeld}
use Rattle.pst_scen.specs.Rows.{Has}
use Rattle.pst_scen.specs.Plan.{Entries}
use Rattle.pst_book.specs.Tables.{AreSoManyOf, IsAwaited, IsInTheWay, HoldsAlone, IsInside, AreTied, AreRaised, AreLowered, AreFreed, AreNext, AreAllAwaited}
use Rattle.pst_book.proofs.Elements.{none_in}
use Rattle.pst_book.proofs.Numbers.{none_of_them, numbers_below, the_same, one_more_has, one_less_has, some_has, at_most_bound}

-- a slice of a whole list, put back
pub put_back : {X : Type 0} (k : ℕ) (new old : List X) → length new ≡ length old → k ≡ length old → take k (new ++ drop (length new) old) ≡ new
put_back k new old e l =
    ap (λ t. take k (new ++ t)) (drop_all (length new) old (omega (arith, e))) ∙ ap (λ t. take k t) (append-nil new) ∙ take_all k new (omega (arith, e, l))

pub has_or : (rows : Rows) (a b : ℕ) → Has rows a b ⊎ (Has rows a b → ⊥)
has_or rows a b = decide _ _
  where
    decide : (x y : ℕ) → (x ≡ y → ⊥) ⊎ ((x ≡ y → ⊥) → ⊥)
    decide x y = ⊎_elim (λ e. inr (λ n. n e)) (λ n. inl n) (cases_eq x y)

pub match_map : (o : Option ℕ) {A B : Type 0} {P Q : ℕ → Type 0} → (A → B) → ((x : ℕ) → P x → Q x) → MatchOption o A P → MatchOption o B Q
match_map None f g m = f m
match_map (Some x) f g m = g x m

module _ (p : Entries) (lanes : ℕ) (t : List Event) (started ended : List Bool) (awaited in_the_way next : List ℕ) (holders : List (Option ℕ)) (first left : ℕ) (tied : AreTied p lanes t started ended awaited in_the_way next holders first left) (a : ℕ) where
  -- A START

  module _ (lane : ℕ) (more : Bool) (a_in : a < length p.groups) (fresh : Started t a → ⊥) (lane_in : lane < lanes) (idle : IsHeld t lane → ⊥) where
    abbrev new : List Event
    new = t ++ Start a lane more ∷ []

    ended_before : (b : ℕ) → Ended new b → Ended t b
    ended_before b h = ⊎_elim (λ k. k) (λ e. cc) (Contains-push_cases t (Start a lane more) (End b) h)

    ended_still : (b : ℕ) → Ended t b → Ended new b
    ended_still b h = Contains-append_left t (Start a lane more ∷ []) (End b) h

    same_start : (b l : ℕ) (o : Bool) → Start a lane more ≡ Start b l o → (b ≡ a) × (l ≡ lane)
    same_start b l o e = (cc, cc)

    on_before : (b l : ℕ) → StartsOn new b l → StartsOn t b l ⊎ ((b ≡ a) × (l ≡ lane))
    on_before b l h = ⊎_elim (λ k. inl (h.0, k)) (λ e. inr (same_start b l h.0 e)) (Contains-push_cases t (Start a lane more) (Start b l h.0) h.1)

    on_still : (b l : ℕ) → StartsOn t b l → StartsOn new b l
    on_still b l h = (h.0, Contains-append_left t (Start a lane more ∷ []) (Start b l h.0) h.1)

    started_before : (b : ℕ) → Started new b → Started t b ⊎ (b ≡ a)
    started_before b h = ⊎_elim (λ k. inl (h.0, k)) (λ e. inr e.0) (on_before b h.0 h.1)

    started_still : (b : ℕ) → Started t b → Started new b
    started_still b h = (h.0, on_still b h.0 h.1)

    it_starts : StartsOn new a lane
    it_starts = (more, Contains-push t (Start a lane more))

    not_ended : Ended t a → ⊥
    not_ended e = fresh (tied.inside.begun a e)

    start_inside : IsInside p lanes new
    start_inside =
        record {
          acts = λ b h. ⊎_elim (λ k. tied.inside.acts b k) (λ e. subst (λ v. v < length p.groups) (sym e) a_in) (started_before b h);
          on_lanes = λ b l h. ⊎_elim (λ k. tied.inside.on_lanes b l k) (λ e. subst (λ v. v < lanes) (sym e.1) lane_in) (on_before b l h);
          begun = λ b h. started_still b (tied.inside.begun b (ended_before b h));
        }

    start_started : (b : ℕ) → b < length p.groups → (get_or (slice_set started a true) b false ≡ true) ↔ Started new b
    start_started b l =
        ⊎_elim
        (λ e. (
          λ _. subst (λ v. Started new v) (sym e) (lane, it_starts),
          λ _. subst (λ v. get_or (slice_set started a true) v false ≡ true) (sym e) (get_or-set_same started a true false (omega (arith, a_in, tied.many_started))),
        ))
        (λ n. let same = get_or-set_other started a b true false n in (
          λ s. started_still b ((tied.started_is b l).0 (sym same ∙ s)),
          λ s. same ∙ (tied.started_is b l).1 (⊎_elim (λ k. k) (λ e. absurd (n e)) (started_before b s)),
        ))
        (cases_eq b a)

    start_in_the_way : (in_the_way' : List ℕ) → AreRaised p.conflict a in_the_way in_the_way' → (m : ℕ) → m < length p.groups → AreSoManyOf (IsInTheWay p new m) (get_or in_the_way' m 0)
    start_in_the_way in_the_way' raised m l =
        ⊎_elim
        (λ h. subst (λ k. AreSoManyOf (IsInTheWay p new m) k) (sym (raised.raised m l' h))
        (one_more_has a (λ q. fresh q.2.0) (λ b q. (q.0, q.1, (started_still b q.2.0, λ e. q.2.1 (ended_before b e))))
        (a_in, h, ((lane, it_starts), λ e. not_ended (ended_before a e)))
        (λ b q. ⊎_elim (λ k. inr (q.0, q.1, (k, λ e. q.2.1 (ended_still b e)))) (λ e. inl e) (started_before b q.2.0)) (tied.in_the_way_is m l)))
        (λ n. subst (λ k. AreSoManyOf (IsInTheWay p new m) k) (sym (raised.same m l' n))
        (the_same (λ b q. (q.0, q.1, (started_still b q.2.0, λ e. q.2.1 (ended_before b e))))
        (λ b q. (q.0, q.1, (⊎_elim (λ k. k) (λ e. absurd (n (subst (λ v. Has p.conflict v m) e q.1))) (started_before b q.2.0), λ e. q.2.1 (ended_still b e)))) (tied.in_the_way_is m l)))
        (has_or p.conflict a m)
      where
        l' : m < length in_the_way
        l' = omega (arith, l, tied.many_in_the_way)

    start_holders : (l : ℕ) → l < lanes → MatchOption (get_or (slice_set holders lane (Some a)) l None) (IsHeld new l → ⊥) (λ x. HoldsAlone new l x)
    start_holders l k =
        ⊎_elim
        (λ e. subst (λ v. MatchOption (get_or (slice_set holders lane (Some a)) v None) (IsHeld new v → ⊥) (λ x. HoldsAlone new v x)) (sym e)
        (subst (λ o. MatchOption o (IsHeld new lane → ⊥) (λ x. HoldsAlone new lane x)) (sym (get_or-set_same holders lane (Some a) None (omega (arith, lane_in, tied.many_holders)))) held))
        (λ n. subst (λ o. MatchOption o (IsHeld new l → ⊥) (λ x. HoldsAlone new l x)) (sym (get_or-set_other holders lane l (Some a) None n))
        (match_map (get_or holders l None) (λ f h. f (before n h))
        (λ x h. record {
          starts = on_still x l h.starts;
          running = λ e. h.running (ended_before x e);
          alone = λ b q r. h.alone b (⊎_elim (λ k. k) (λ e. absurd (n e.1)) (on_before b l q)) (λ e. r (ended_still b e));
        }) (tied.holders_are l k)))
        (cases_eq l lane)
      where
        before : (l ≡ lane → ⊥) → IsHeld new l → IsHeld t l
        before n h = (h.0, ⊎_elim (λ k. k) (λ e. absurd (n e.1)) (on_before h.0 l h.1), λ e. h.2 (ended_still h.0 e))

        held : HoldsAlone new lane a
        held =
            record {
              starts = it_starts;
              running = λ e. not_ended (ended_before a e);
              alone = λ b q r. ⊎_elim (λ k. absurd (idle (b, k, λ e. r (ended_still b e)))) (λ e. e.0) (on_before b lane q);
            }

    start_tied_at : (in_the_way' : List ℕ) → AreRaised p.conflict a in_the_way in_the_way' → AreTied p lanes new (slice_set started a true) ended awaited in_the_way' next (slice_set holders lane (Some a)) first left
    start_tied_at in_the_way' raised =
        record {
          many_started = length-set started a true ∙ tied.many_started;
          many_ended = tied.many_ended;
          many_awaited = tied.many_awaited;
          many_in_the_way = raised.many ∙ tied.many_in_the_way;
          many_next = tied.many_next;
          many_holders = length-set holders lane (Some a) ∙ tied.many_holders;
          inside = start_inside;
          started_is = start_started;
          ended_is = λ b l. ((λ s. ended_still b ((tied.ended_is b l).0 s)), (λ s. (tied.ended_is b l).1 (ended_before b s)));
          awaited_is = λ m l. the_same (λ b q. (q.0, q.1, λ e. q.2 (ended_before b e))) (λ b q. (q.0, q.1, λ e. q.2 (ended_still b e))) (tied.awaited_is m l);
          in_the_way_is = start_in_the_way in_the_way' raised;
          next_is = tied.next_is;
          holders_are = start_holders;
          first_is = λ b l. started_still b (tied.first_is b l);
          first_in = tied.first_in;
          left_is = the_same (λ b q. (q.0, λ e. q.1 (ended_before b e))) (λ b q. (q.0, λ e. q.1 (ended_still b e))) tied.left_is;
        }

    pub start_tied : (u : List Event) (in_the_way' : List ℕ) → u ≡ new → AreRaised p.conflict a in_the_way in_the_way' → AreTied p lanes u (slice_set started a true) ended awaited in_the_way' next (slice_set holders lane (Some a)) first left
    start_tied u in_the_way' e raised =
        subst (λ v. AreTied p lanes v (slice_set started a true) ended awaited in_the_way' next (slice_set holders lane (Some a)) first left) (sym e) (start_tied_at in_the_way' raised)

    -- there is room for one more in each count
    pub start_room : (m : ℕ) → m < length p.groups → Has p.conflict a m → get_or in_the_way m 0 + 1 ≤ length p.groups
    start_room m l h =
        at_most_bound {P = IsInTheWay p new m} (length p.groups) (λ b q. q.0)
        (one_more_has a (λ q. fresh q.2.0) (λ b q. (q.0, q.1, (started_still b q.2.0, λ e. q.2.1 (ended_before b e))))
        (a_in, h, ((lane, it_starts), λ e. not_ended (ended_before a e)))
        (λ b q. ⊎_elim (λ k. inr (q.0, q.1, (k, λ e. q.2.1 (ended_still b e)))) (λ e. inl e) (started_before b q.2.0)) (tied.in_the_way_is m l))

  -- AN END

  module _ (runs : Runs t a) where
    abbrev after : List Event
    after = t ++ End a ∷ []

    a_below : a < length p.groups
    a_below = tied.inside.acts a runs.0

    same_end : (b : ℕ) → End a ≡ End b → b ≡ a
    same_end b e = cc

    ended_or_it : (b : ℕ) → Ended after b → Ended t b ⊎ (b ≡ a)
    ended_or_it b h = ⊎_elim (λ k. inl k) (λ e. inr (same_end b e)) (Contains-push_cases t (End a) (End b) h)

    ended_on : (b : ℕ) → Ended t b → Ended after b
    ended_on b h = Contains-append_left t (End a ∷ []) (End b) h

    it_ends : Ended after a
    it_ends = Contains-push t (End a)

    on_same : (b l : ℕ) → StartsOn after b l → StartsOn t b l
    on_same b l h = ⊎_elim (λ k. (h.0, k)) (λ e. cc) (Contains-push_cases t (End a) (Start b l h.0) h.1)

    on_on : (b l : ℕ) → StartsOn t b l → StartsOn after b l
    on_on b l h = (h.0, Contains-append_left t (End a ∷ []) (Start b l h.0) h.1)

    started_same : (b : ℕ) → Started after b → Started t b
    started_same b h = (h.0, on_same b h.0 h.1)

    started_on : (b : ℕ) → Started t b → Started after b
    started_on b h = (h.0, on_on b h.0 h.1)

    -- what hasn't ended after it hadn't before, and isn't it
    still_open : (b : ℕ) → (Ended after b → ⊥) → (Ended t b → ⊥) × (b ≢ a)
    still_open b n = ((λ e. n (ended_on b e)), (λ e. n (subst (λ v. Ended after v) (sym e) it_ends)))

    stays_open : (b : ℕ) → (Ended t b → ⊥) → b ≢ a → Ended after b → ⊥
    stays_open b n m e = ⊎_elim n m (ended_or_it b e)

    pub awaited_some : (m : ℕ) → m < length p.groups → Has p.must a m → 0 < get_or awaited m 0
    awaited_some m l h = some_has a (a_below, h, runs.1) (tied.awaited_is m l)

    pub in_the_way_some : (m : ℕ) → m < length p.groups → Has p.conflict a m → 0 < get_or in_the_way m 0
    in_the_way_some m l h = some_has a (a_below, h, runs) (tied.in_the_way_is m l)

    pub left_some : 0 < left
    left_some = some_has a (a_below, runs.1) tied.left_is

    pub it_is_below : a < length p.groups
    it_is_below = a_below

    end_ended : (b : ℕ) → b < length p.groups → (get_or (slice_set ended a true) b false ≡ true) ↔ Ended after b
    end_ended b l =
        ⊎_elim
        (λ e. (
          λ _. subst (λ v. Ended after v) (sym e) it_ends,
          λ _. subst (λ v. get_or (slice_set ended a true) v false ≡ true) (sym e) (get_or-set_same ended a true false (omega (arith, a_below, tied.many_ended))),
        ))
        (λ n. let same = get_or-set_other ended a b true false n in (
          λ s. ended_on b ((tied.ended_is b l).0 (sym same ∙ s)),
          λ s. same ∙ (tied.ended_is b l).1 (⊎_elim (λ k. k) (λ e. absurd (n e)) (ended_or_it b s)),
        ))
        (cases_eq b a)

    end_awaited : (awaited' : List ℕ) → AreLowered p.must a awaited awaited' → (m : ℕ) → m < length p.groups → AreSoManyOf (IsAwaited p after m) (get_or awaited' m 0)
    end_awaited awaited' lowered m l =
        ⊎_elim
        (λ h. one_less_has a (get_or awaited' m 0) (a_below, h, runs.1)
        (λ b q. let o = still_open b q.2 in ((q.0, q.1, o.0), o.1)) (λ b q n. (q.0, q.1, stays_open b q.2 n)) (lowered.lowered m l' h) (tied.awaited_is m l))
        (λ n. subst (λ k. AreSoManyOf (IsAwaited p after m) k) (sym (lowered.same m l' n))
        (the_same (λ b q. (q.0, q.1, stays_open b q.2 (λ e. n (subst (λ v. Has p.must v m) e q.1)))) (λ b q. (q.0, q.1, (still_open b q.2).0)) (tied.awaited_is m l)))
        (has_or p.must a m)
      where
        l' : m < length awaited
        l' = omega (arith, l, tied.many_awaited)

    end_in_the_way : (in_the_way' : List ℕ) → AreLowered p.conflict a in_the_way in_the_way' → (m : ℕ) → m < length p.groups → AreSoManyOf (IsInTheWay p after m) (get_or in_the_way' m 0)
    end_in_the_way in_the_way' lowered m l =
        ⊎_elim
        (λ h. one_less_has a (get_or in_the_way' m 0) (a_below, h, runs)
        (λ b q. let o = still_open b q.2.1 in ((q.0, q.1, (started_same b q.2.0, o.0)), o.1)) (λ b q n. (q.0, q.1, (started_on b q.2.0, stays_open b q.2.1 n))) (lowered.lowered m l' h) (tied.in_the_way_is m l))
        (λ n. subst (λ k. AreSoManyOf (IsInTheWay p after m) k) (sym (lowered.same m l' n))
        (the_same (λ b q. (q.0, q.1, (started_on b q.2.0, stays_open b q.2.1 (λ e. n (subst (λ v. Has p.conflict v m) e q.1))))) (λ b q. (q.0, q.1, (started_same b q.2.0, (still_open b q.2.1).0))) (tied.in_the_way_is m l)))
        (has_or p.conflict a m)
      where
        l' : m < length in_the_way
        l' = omega (arith, l, tied.many_in_the_way)

    held_before : (l : ℕ) → IsHeld after l → IsHeld t l
    held_before l h = (h.0, on_same h.0 l h.1, (still_open h.0 h.2).0)

    end_holder : (l : ℕ) (o o' : Option ℕ) → (o ≡ Some a → o' ≡ None) → (o ≢ Some a → o' ≡ o) → MatchOption o (IsHeld t l → ⊥) (λ x. HoldsAlone t l x) → MatchOption o' (IsHeld after l → ⊥) (λ x. HoldsAlone after l x)
    end_holder l None o' freed same m =
        subst (λ v. MatchOption v (IsHeld after l → ⊥) (λ x. HoldsAlone after l x)) (sym (same (λ e. cc))) (λ h. m (held_before l h))
    end_holder l (Some x) o' freed same m =
        ⊎_elim
        (λ e. subst (λ v. MatchOption v (IsHeld after l → ⊥) (λ x. HoldsAlone after l x)) (sym (freed (ap Some e)))
        (λ h. let o = still_open h.0 h.2 in o.1 (m.alone h.0 (on_same h.0 l h.1) o.0 ∙ e)))
        (λ n. subst (λ v. MatchOption v (IsHeld after l → ⊥) (λ x. HoldsAlone after l x)) (sym (same (λ e. n (inner e))))
        (record {
          starts = on_on x l m.starts;
          running = stays_open x m.running n;
          alone = λ b q r. m.alone b (on_same b l q) (still_open b r).0;
        }))
        (cases_eq x a)
      where
        inner : Some x ≡ Some a → x ≡ a
        inner e = cc

    end_tied_at : (awaited' in_the_way' : List ℕ) (holders' : List (Option ℕ)) → AreLowered p.must a awaited awaited' → AreLowered p.conflict a in_the_way in_the_way' → AreFreed a holders holders' → AreTied p lanes after started (slice_set ended a true) awaited' in_the_way' next holders' first (left - 1)
    end_tied_at awaited' in_the_way' holders' lowered cleared freed =
        record {
          many_started = tied.many_started;
          many_ended = length-set ended a true ∙ tied.many_ended;
          many_awaited = lowered.many ∙ tied.many_awaited;
          many_in_the_way = cleared.many ∙ tied.many_in_the_way;
          many_next = tied.many_next;
          many_holders = freed.many ∙ tied.many_holders;
          inside = record {
            acts = λ b h. tied.inside.acts b (started_same b h);
            on_lanes = λ b l h. tied.inside.on_lanes b l (on_same b l h);
            begun = λ b h. started_on b (⊎_elim (λ k. tied.inside.begun b k) (λ e. subst (λ v. Started t v) (sym e) runs.0) (ended_or_it b h));
          };
          started_is = λ b l. ((λ s. started_on b ((tied.started_is b l).0 s)), (λ s. (tied.started_is b l).1 (started_same b s)));
          ended_is = end_ended;
          awaited_is = end_awaited awaited' lowered;
          in_the_way_is = end_in_the_way in_the_way' cleared;
          next_is = tied.next_is;
          holders_are = λ l k. let k' : l < length holders = omega (arith, k, tied.many_holders) in
              end_holder l (get_or holders l None) (get_or holders' l None) (freed.freed l k') (freed.same l k') (tied.holders_are l k);
          first_is = λ b l. started_on b (tied.first_is b l);
          first_in = tied.first_in;
          left_is = let some = left_some in
              one_less_has a (left - 1) (a_below, runs.1) (λ b q. let o = still_open b q.1 in ((q.0, o.0), o.1)) (λ b q n. (q.0, stays_open b q.1 n)) (omega (arith, some)) tied.left_is;
        }

    pub end_tied : (u : List Event) (awaited' in_the_way' : List ℕ) (holders' : List (Option ℕ)) → u ≡ after → AreLowered p.must a awaited awaited' → AreLowered p.conflict a in_the_way in_the_way' → AreFreed a holders holders' → AreTied p lanes u started (slice_set ended a true) awaited' in_the_way' next holders' first (left - 1)
    end_tied u awaited' in_the_way' holders' e lowered cleared freed =
        subst (λ v. AreTied p lanes v started (slice_set ended a true) awaited' in_the_way' next holders' first (left - 1)) (sym e) (end_tied_at awaited' in_the_way' holders' lowered cleared freed)

-- an element that was read, by any default
pub read : {X : Type 0} (xs : List X) (i : ℕ) (x d : X) → i < length xs → x ≡ get_or xs i x → get_or xs i d ≡ x
read xs i x d l e = get_or_from_slice_get xs i x d (slice_get_read xs (length xs) i x refl l e)

-- a greater first number
pub move_first : (p : Entries) (lanes : ℕ) (t : List Event) (started ended : List Bool) (awaited in_the_way next : List ℕ) (holders : List (Option ℕ)) (first left to : ℕ) → AreTied p lanes t started ended awaited in_the_way next holders first left → ((a : ℕ) → first ≤ a → a < to → get_or started a false ≡ true) → to ≤ length p.groups → AreTied p lanes t started ended awaited in_the_way next holders to left
move_first p lanes t started ended awaited in_the_way next holders first left to tied marked l =
    record {
      many_started = tied.many_started;
      many_ended = tied.many_ended;
      many_awaited = tied.many_awaited;
      many_in_the_way = tied.many_in_the_way;
      many_next = tied.many_next;
      many_holders = tied.many_holders;
      inside = tied.inside;
      started_is = tied.started_is;
      ended_is = tied.ended_is;
      awaited_is = tied.awaited_is;
      in_the_way_is = tied.in_the_way_is;
      next_is = tied.next_is;
      holders_are = tied.holders_are;
      first_is = λ a m. ⊎_elim (λ k. tied.first_is a k) (λ k. (tied.started_is a (omega (arith, m, l))).0 (marked a k m)) (cases_lt a first);
      first_in = l;
      left_is = tied.left_is;
    }

-- nothing has started
new_tied_at : (p : Entries) (lanes : ℕ) (started ended : List Bool) (awaited in_the_way next : List ℕ) (holders : List (Option ℕ)) → started ≡ replicate (length p.groups) false → ended ≡ replicate (length p.groups) false → AreAllAwaited p awaited → in_the_way ≡ replicate (length p.groups) 0 → AreNext p.groups next → holders ≡ replicate lanes None → AreTied p lanes [] started ended awaited in_the_way next holders 0 (length p.groups)
new_tied_at p lanes started ended awaited in_the_way next holders s e w y n h =
    record {
      many_started = ap (λ (xs : List Bool). length xs) s ∙ length-replicate (length p.groups) false;
      many_ended = ap (λ (xs : List Bool). length xs) e ∙ length-replicate (length p.groups) false;
      many_awaited = w.many;
      many_in_the_way = ap (λ (xs : List ℕ). length xs) y ∙ length-replicate (length p.groups) 0;
      many_next = n.many;
      many_holders = ap (λ (xs : List (Option ℕ)). length xs) h ∙ length-replicate lanes None;
      inside = record { acts = λ a q. absurd (none_in _ q.1.1); on_lanes = λ a l q. absurd (none_in _ q.1); begun = λ a q. absurd (none_in _ q) };
      started_is = λ a l. ((λ t. absurd (unmarked started s a l t)), (λ q. absurd (none_in _ q.1.1)));
      ended_is = λ a l. ((λ t. absurd (unmarked ended e a l t)), (λ q. absurd (none_in _ q)));
      awaited_is = λ a l. the_same (λ b q. (q.0, q.1, none_in (End b))) (λ b q. (q.0, q.1)) (w.each a l);
      in_the_way_is = λ a l. subst (λ k. AreSoManyOf (IsInTheWay p [] a) k) (sym (ap (λ (xs : List ℕ). get_or xs a 0) y ∙ get_or-replicate (length p.groups) a 0 0 l)) (none_of_them (λ b q. none_in _ q.2.0.1.1));
      next_is = n.each;
      holders_are = λ l k. subst (λ o. MatchOption o (IsHeld [] l → ⊥) (λ a. HoldsAlone [] l a)) (sym (ap (λ (xs : List (Option ℕ)). get_or xs l None) h ∙ get_or-replicate lanes l None None k)) (λ q. none_in _ q.1.1);
      first_is = λ a l. absurd (omega (arith, l));
      first_in = omega arith;
      left_is = all_below (length p.groups);
    }
  where
    unmarked : (xs : List Bool) → xs ≡ replicate (length p.groups) false → (a : ℕ) → a < length p.groups → get_or xs a false ≡ true → ⊥
    unmarked xs q a l t = let both : false ≡ true = sym (ap (λ (ys : List Bool). get_or ys a false) q ∙ get_or-replicate (length p.groups) a false false l) ∙ t in cc

    all_below : (n : ℕ) → AreSoManyOf (λ a. (a < n) × (Ended [] a → ⊥)) n
    all_below n = the_same (λ a q. (q, none_in (End a))) (λ a q. q.0) (numbers_below n)

pub new_tied : (p : Entries) (lanes : ℕ) (t : List Event) (started ended : List Bool) (awaited in_the_way next : List ℕ) (holders : List (Option ℕ)) (left n : ℕ) → n ≡ length p.groups → left ≡ length p.groups → t ≡ [] → started ≡ replicate n false → ended ≡ replicate n false → AreAllAwaited p awaited → in_the_way ≡ replicate n 0 → AreNext p.groups next → holders ≡ replicate lanes None → AreTied p lanes t started ended awaited in_the_way next holders 0 left
new_tied p lanes t started ended awaited in_the_way next holders left n many all none s e w y x h =
    subst (λ v. AreTied p lanes v started ended awaited in_the_way next holders 0 left) (sym none)
    (subst (λ v. AreTied p lanes [] started ended awaited in_the_way next holders 0 v) (sym all)
    (new_tied_at p lanes started ended awaited in_the_way next holders
    (s ∙ ap (λ v. replicate v false) many) (e ∙ ap (λ v. replicate v false) many) w (y ∙ ap (λ v. replicate v 0) many) x h))
