-- The core makes one trace of its commands, and makes its trace again of the trace's commands.
use Rattle.std.proofs.Common.{◌≡◌, ◌≢◌, ℕ, zero, suc, ◌+◌, ◌<◌, ◌≤◌, List, [], ◌∷◌, ◌++◌, length, get_or, true, false, refl, sym, ap, ap₂, ◌∙◌, subst, ⊎_elim, arith}
use Rattle.std.specs.Prelude.{Contains}
use Rattle.std.proofs.lemmas.List.Elements.{Contains-get_or}
use Rattle.std.proofs.lemmas.Bool.{cases_order}
use Rattle.pst_scen.specs.declared.scenario.Scenario.{Scenario}
use Rattle.pst_scen.specs.declared.event.Event.{Event}
use Rattle.pst_scen.specs.declared.event.Event.TheVariants.{Start, End}
use Rattle.pst_scen.specs.Trace.{IsHeld, IsWholeGroup, Block, Starts, Ends, starts_of, events}
use Rattle.pst_scen.specs.Core.{IsStartable, Opens, Command, Open, Close, Step, Opened, Shut, Closed, Idle, Makes, Done, Then, Core, commands_of}
use Rattle.pst_order.specs.Rule.{AreByRule, AreByCore, open_count, close_count}
use Rattle.pst_order.proofs.Elements.{cons_cases, contains_or}
use Rattle.pst_order.proofs.Lists.{Ascending, ascending_same, ascending_distinct, no_longer}
use Rattle.pst_order.proofs.Fair.{rule_fair}
use Rattle.pst_order.proofs.Completes.{unstarted, unended, all_unstarted, all_unended, fewer_unstarted, fewer_unended, starts_fewer, end_fewer}

-- two whole groups with a common member are one
pub one_group : (s : Scenario) (ms ns : List ℕ) (a : ℕ) → IsWholeGroup s ms → IsWholeGroup s ns → Contains ms a → Contains ns a → ms ≡ ns
one_group s ms ns a g k i j =
    ascending_same ms ns g.ascending k.ascending (λ z c. k.whole a z j (g.one a z i c)) (λ z c. g.whole a z i (k.one a z j c))

-- as many least lanes are the same
module _ (t : List Event) where
  record AreLeast (us : List ℕ) : Type 0 where
    ascending : Ascending us
    free : (l : ℕ) → Contains us l → IsHeld t l → ⊥
    least : (l m : ℕ) → l < m → Contains us m → (IsHeld t l → ⊥) → Contains us l

  distinct_with : (v : ℕ) (us : List ℕ) → Ascending us → (Contains us v → ⊥) → (i j : ℕ) → i < j → j < length (v ∷ us) → get_or (v ∷ us) i 0 ≢ get_or (v ∷ us) j 0
  distinct_with v us a n i zero h l e = absurd (omega (arith, h))
  distinct_with v us a n zero (suc j) h l e = n (subst (λ w. Contains us w) (sym e) (Contains-get_or us j 0 (omega (arith, l))))
  distinct_with v us a n (suc i) (suc j) h l e = ascending_distinct us a i j (omega (arith, h)) (omega (arith, l)) e

  within : (us vs : List ℕ) → AreLeast us → AreLeast vs → length us ≡ length vs → (v : ℕ) → Contains us v → Contains vs v
  within us vs a b e v c = ⊎_elim (λ h. h) (λ n. absurd (too_many n)) (contains_or vs v)
    where
      below : (Contains vs v → ⊥) → (w : ℕ) → Contains vs w → Contains us w
      below n w d =
          ⊎_elim (λ q. absurd (n (subst (λ x. Contains vs x) (sym q) d)))
          (λ q. ⊎_elim (λ k. absurd (n (b.least v w k d (a.free v c)))) (λ k. a.least w v k c (b.free w d)) q)
          (cases_order v w)

      too_many : (Contains vs v → ⊥) → ⊥
      too_many n =
          let l = no_longer (v ∷ vs) us (distinct_with v vs b.ascending n) (λ w d. ⊎_elim (λ q. subst (λ x. Contains us x) q c) (λ k. below n w k) (cons_cases v w vs d)) in
          absurd (omega (arith, l, e))

  same_lanes : (us vs : List ℕ) → AreLeast us → AreLeast vs → length us ≡ length vs → us ≡ vs
  same_lanes us vs a b e = ascending_same us vs a.ascending b.ascending (within us vs a b e) (within vs us b a (sym e))

module _ (s : Scenario) (lanes : ℕ) (t : List Event) where
  are_least : (ms us : List ℕ) → Opens s lanes t ms us → AreLeast t us
  are_least ms us o = record { ascending = o.ascending; free = o.free.idle; least = o.least_lanes }

  startable : (ms us : List ℕ) → Opens s lanes t ms us → IsStartable s lanes t ms
  startable ms us o = record { ready = o.ready; used = us; free = o.free }

  same_open : (ms us ns vs : List ℕ) → Opens s lanes t ms us → Opens s lanes t ns vs → starts_of ms us ≡ starts_of ns vs
  same_open ms us ns vs o q =
      let a = o.least ns (startable ns vs q) in
      let b = q.least ms (startable ms us o) in
      let e : get_or ms 0 0 ≡ get_or ns 0 0 = omega (arith, a, b) in
      let i : Contains ms (get_or ms 0 0) = Contains-get_or ms 0 0 o.ready.group.some in
      let j : Contains ns (get_or ms 0 0) = subst (λ x. Contains ns x) (sym e) (Contains-get_or ns 0 0 q.ready.group.some) in
      let m : ms ≡ ns = one_group s ms ns (get_or ms 0 0) o.ready.group q.ready.group i j in
      let u : us ≡ vs = same_lanes t us vs (are_least ms us o) (are_least ns vs q) (o.free.many ∙ ap (λ (xs : List ℕ). length xs) m ∙ sym q.free.many) in
      ap₂ starts_of m u

  pub same_step : (c : Command) (a b : List Event) → Step s lanes t c a → Step s lanes t c b → a ≡ b
  same_step _ _ _ (Opened ms us o) (Opened ns vs q) = ap (λ u. t ++ u) (same_open ms us ns vs o q)
  same_step _ _ _ (Opened ms us o) (Shut n) = absurd (n ms (startable ms us o))
  same_step _ _ _ (Shut n) (Opened ms us o) = absurd (n ms (startable ms us o))
  same_step _ _ _ (Shut n) (Shut k) = refl
  same_step _ _ _ (Closed a r) (Closed _ q) = refl
  same_step _ _ _ (Closed a r) (Idle _ n) = absurd (n r)
  same_step _ _ _ (Idle a n) (Closed _ r) = absurd (n r)
  same_step _ _ _ (Idle a n) (Idle _ k) = refl

pub makes_one : (s : Scenario) (lanes : ℕ) (before : List Event) (cs : List Command) (a b : List Event) → Makes s lanes before cs a → Makes s lanes before cs b → a ≡ b
makes_one s lanes _ _ _ _ (Done t) (Done _) = refl
makes_one s lanes _ _ _ b (Then before x after c cs p k) (Then _ y _ _ _ q l) =
    let e : x ≡ y = same_step s lanes before c x y p q in
    makes_one s lanes x cs after b k (subst (λ t. Makes s lanes t cs b) (sym e) l)

pub makes_more : (s : Scenario) (lanes : ℕ) (before middle after : List Event) (cs : List Command) (c : Command) → Makes s lanes before cs middle → Step s lanes middle c after → Makes s lanes before (cs ++ c ∷ []) after
makes_more s lanes _ _ after _ c (Done t) step = Then t after after c [] step (Done after)
makes_more s lanes _ _ after _ c (Then before x middle d cs p k) step = Then before x after d (cs ++ c ∷ []) p (makes_more s lanes x middle after cs c k step)

-- COMMANDS

pub commands-append : (t u : List Event) → commands_of (t ++ u) ≡ commands_of t ++ commands_of u
commands-append [] u = refl
commands-append (Start a l true ∷ t) u = commands-append t u
commands-append (Start a l false ∷ t) u = ap (λ cs. Open ∷ cs) (commands-append t u)
commands-append (End a ∷ t) u = ap (λ cs. Close a ∷ cs) (commands-append t u)

pub commands_starts : (ms us : List ℕ) → 0 < length ms → length us ≡ length ms → commands_of (starts_of ms us) ≡ Open ∷ []
commands_starts [] us some e = absurd (omega (arith, some))
commands_starts (m ∷ ms) [] some e = absurd (omega (arith, e))
commands_starts (m ∷ []) (u ∷ us) some e = refl
commands_starts (m ∷ n ∷ ms) (u ∷ us) some e = commands_starts (n ∷ ms) us (omega arith) (omega (arith, e))

pub core_again : (s : Scenario) (lanes : ℕ) (h : List Block) → AreByCore s lanes h → Core s lanes (commands_of (events h)) (events h)
core_again s lanes [] k = Done []
core_again s lanes (Starts ms us ∷ h) k =
    let e : commands_of (events h ++ starts_of ms us) ≡ commands_of (events h) ++ Open ∷ [] =
    commands-append (events h) (starts_of ms us) ∙ ap (λ cs. commands_of (events h) ++ cs) (commands_starts ms us k.1.ready.group.some k.1.free.many) in
    subst (λ cs. Core s lanes cs (events h ++ starts_of ms us)) (sym e)
    (makes_more s lanes [] (events h) (events h ++ starts_of ms us) (commands_of (events h)) Open (core_again s lanes h k.0) (Opened ms us k.1))
core_again s lanes (Ends a ∷ h) k =
    subst (λ cs. Core s lanes cs (events h ++ End a ∷ [])) (sym (commands-append (events h) (End a ∷ [])))
    (makes_more s lanes [] (events h) (events h ++ End a ∷ []) (commands_of (events h)) (Close a) (core_again s lanes h k.0) (Closed a k.1))

-- COUNTS

open-append : (cs ds : List Command) → open_count (cs ++ ds) ≡ open_count cs + open_count ds
open-append [] ds = omega arith
open-append (Open ∷ cs) ds = let e = open-append cs ds in omega (arith, e)
open-append (Close a ∷ cs) ds = open-append cs ds

close-append : (cs ds : List Command) → close_count (cs ++ ds) ≡ close_count cs + close_count ds
close-append [] ds = omega arith
close-append (Open ∷ cs) ds = close-append cs ds
close-append (Close a ∷ cs) ds = let e = close-append cs ds in omega (arith, e)

module _ (s : Scenario) (lanes : ℕ) where
  opens_few : (h : List Block) → AreByRule s lanes h → open_count (commands_of (events h)) + unstarted s h ≤ length s.actions
  opens_few [] r = let l = all_unstarted s [] in omega (arith, l)
  opens_few (Starts ms us ∷ h) r =
      let e : open_count (commands_of (events h ++ starts_of ms us)) ≡ open_count (commands_of (events h)) + 1 =
      ap open_count (commands-append (events h) (starts_of ms us) ∙ ap (λ cs. commands_of (events h) ++ cs) (commands_starts ms us r.1.0.group.some r.1.1.many))
      ∙ open-append (commands_of (events h)) (Open ∷ []) in
      let l = starts_fewer s lanes h ms us (rule_fair s lanes (Starts ms us ∷ h) r) in
      let k = opens_few h r.0 in
      omega (arith, e, l, k, r.1.0.group.some)
  opens_few (Ends a ∷ h) r =
      let e : open_count (commands_of (events h ++ End a ∷ [])) ≡ open_count (commands_of (events h)) + 0 =
      ap open_count (commands-append (events h) (End a ∷ [])) ∙ open-append (commands_of (events h)) (Close a ∷ []) in
      let l = fewer_unstarted s (Ends a) h in
      let k = opens_few h r.0 in
      omega (arith, e, l, k)

  closes_few : (h : List Block) → AreByRule s lanes h → close_count (commands_of (events h)) + unended s h ≤ length s.actions
  closes_few [] r = let l = all_unended s [] in omega (arith, l)
  closes_few (Starts ms us ∷ h) r =
      let e : close_count (commands_of (events h ++ starts_of ms us)) ≡ close_count (commands_of (events h)) + 0 =
      ap close_count (commands-append (events h) (starts_of ms us) ∙ ap (λ cs. commands_of (events h) ++ cs) (commands_starts ms us r.1.0.group.some r.1.1.many))
      ∙ close-append (commands_of (events h)) (Open ∷ []) in
      let l = fewer_unended s (Starts ms us) h in
      let k = closes_few h r.0 in
      omega (arith, e, l, k)
  closes_few (Ends a ∷ h) r =
      let e : close_count (commands_of (events h ++ End a ∷ [])) ≡ close_count (commands_of (events h)) + 1 =
      ap close_count (commands-append (events h) (End a ∷ [])) ∙ close-append (commands_of (events h)) (Close a ∷ []) in
      let l = end_fewer s lanes h a (rule_fair s lanes (Ends a ∷ h) r) in
      let k = closes_few h r.0 in
      omega (arith, e, l, k)

  pub few_commands : (h : List Block) → AreByRule s lanes h → (open_count (commands_of (events h)) ≤ length s.actions) × (close_count (commands_of (events h)) ≤ length s.actions)
  few_commands h r = let a = opens_few h r in let b = closes_few h r in (omega (arith, a), omega (arith, b))
