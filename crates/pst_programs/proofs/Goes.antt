-- The machine goes on: no deadlock.
use Rattle.std.proofs.Common.{◌≡◌, ◌⊎◌, ℕ, zero, suc, ◌<◌, List, [], ◌∷◌, length, refl, ap, subst, inl, inr, ⊎_elim, arith}
use Rattle.std.specs.Prelude.{Contains}
use Rattle.std.proofs.lemmas.Bool.{cases_lt}
use Rattle.pst_scen.specs.declared.scenario.Scenario.{Scenario}
use Rattle.pst_scen.specs.Trace.{Started, Ended, IsWhole}
use Rattle.pst_scen.specs.Plan.{Entries, members}
use Rattle.pst_scen.specs.Plans.{IsPlanOf}
use Rattle.pst_order.specs.Laws.{MembersAreThose}
use Rattle.pst_programs.specs.declared.program.Instruction.{Instruction}
use Rattle.pst_programs.specs.declared.program.Instruction.TheVariants.{Run, Signal, Await}
use Rattle.pst_programs.specs.declared.program.Program.{Program}
use Rattle.pst_programs.specs.declared.program.Move.{Move}
use Rattle.pst_programs.specs.declared.program.Move.TheVariants as move
use Rattle.pst_programs.specs.Serial.{group_of}
use Rattle.pst_programs.specs.Machine.{State, Steps, IsAt, AreAt, Tells, Hears, Begins, Ends, IsOnItsWay, HasEnded}
use Rattle.pst_programs.specs.Safe.{Stands, AreSafe}
use Rattle.pst_programs.proofs.Elements.{cons_first, cons_rest}
use Rattle.pst_programs.proofs.Events.{started_or, ended_or}
use Rattle.pst_programs.proofs.Places.{stands_some, stands_in}
use Rattle.pst_programs.proofs.Kept.{place, Kept}

module _ (P : ℕ → Type 0) (rank : ℕ → ℕ) (test : (a : ℕ) → P a ⊎ (P a → ⊥)) where
  -- one that lacks it, of the least rank
  pub record Lacks (n : ℕ) : Type 0 where
    pub a : ℕ
    pub below : a < n
    pub not : P a → ⊥
    pub least : (b : ℕ) → b < n → rank b < rank a → P b

  pub all_or_least : (n : ℕ) → ((a : ℕ) → a < n → P a) ⊎ Lacks n
  all_or_least zero = inl (λ a l. absurd (omega (arith, l)))
  all_or_least (suc n) =
      ⊎_elim
      (λ all. ⊎_elim
      (λ q. inl (λ a l. ⊎_elim (λ h. all a h) (λ h. let e : n ≡ a = omega (arith, l, h) in subst P e q) (cases_lt a n)))
      (λ q. inr (record { a = n; below = omega arith; not = q; least = λ b l r. ⊎_elim (λ h. all b h) (λ h. let e : b ≡ n = omega (arith, l, h) in let f : rank b ≡ rank n = ap rank e in absurd (omega (arith, r, f))) (cases_lt b n) }))
      (test n))
      (λ f. ⊎_elim
      (λ q. inr (record { a = f.a; below = let m = f.below in omega (arith, m); not = f.not; least = λ b l r. ⊎_elim (λ h. f.least b h r) (λ h. let e : n ≡ b = omega (arith, l, h) in subst P e q) (cases_lt b n) }))
      (λ q. ⊎_elim
      (λ r. inr (record { a = n; below = omega arith; not = q; least = λ b l k. ⊎_elim (λ h. f.least b h (omega (arith, r, k))) (λ h. let e : b ≡ n = omega (arith, l, h) in let g : rank b ≡ rank n = ap rank e in absurd (omega (arith, k, g))) (cases_lt b n) }))
      (λ r. inr (record { a = f.a; below = let m = f.below in omega (arith, m); not = f.not; least = λ b l k. ⊎_elim (λ h. f.least b h k) (λ h. let e : b ≡ n = omega (arith, l, h) in let g : rank b ≡ rank n = ap rank e in absurd (omega (arith, k, g, r))) (cases_lt b n) }))
      (cases_lt (rank n) (rank f.a)))
      (test n))
      (all_or_least n)

module _ (s : Scenario) (p : Entries) (programs : List Program) (plan : IsPlanOf s p) (safe : AreSafe p programs) (those : MembersAreThose) (state : State) (kept : Kept s p programs state) where
  pub record Goes : Type 0 where
    pub move : Move
    pub new : State
    pub step : Steps p programs state move new

  -- a lane stands before no `Run` of what has ended
  not_ended : (l a : ℕ) → IsAt programs state.places l (Run a) → Ended state.trace a → ⊥
  not_ended l a at e = let h = kept.ended_to a l (place state l) at e in omega (arith, h)

  -- A lane that awaits what has ended goes on, or the one that is to tell so does.
  hears : (l x : ℕ) → IsAt programs state.places l (Await x) → Ended state.trace x → Goes
  hears l x at e =
      let t = safe.told x l (place state l) at in
      let h = kept.ended_to x t.0 t.1 t.2 e in
      ⊎_elim
      (λ q. record { move = move.Pass l; new = _; step = Hears l x at (kept.tells x t.0 (suc t.1) t.3 q) })
      (λ q. let f : suc t.1 ≡ place state t.0 = omega (arith, h, q) in
      record { move = move.Pass t.0; new = _; step = Tells t.0 x (subst (λ v. Stands programs t.0 v (Signal x)) f t.3) })
      (cases_lt (suc t.1) (place state t.0))

  -- A lane that isn't at its end goes on, or another does, where whatever runs or is awaited at its place has ended.
  passes : (l : ℕ) → IsOnItsWay programs state l → ((a : ℕ) → IsAt programs state.places l (Run a) → Ended state.trace a) → ((x : ℕ) → IsAt programs state.places l (Await x) → Ended state.trace x) → Goes
  passes l on runs awaits = let i = stands_some programs l (place state l) on in by_case i.0 i.1
    where
      by_case : (i : Instruction) → IsAt programs state.places l i → Goes
      by_case (Run a) at = absurd (not_ended l a at (runs a at))
      by_case (Signal a) at = record { move = move.Pass l; new = _; step = Tells l a at }
      by_case (Await a) at = hears l a at (awaits a at)

  -- what is awaited is an action
  awaited_in : (l x : ℕ) → IsAt programs state.places l (Await x) → x < length p.groups
  awaited_in l x at = let t = safe.told x l (place state l) at in safe.inside x t.0 t.1 t.2

  -- The least group that hasn't ended.
  module _ (a : ℕ) (a_in : a < length p.groups) (unended : Ended state.trace a → ⊥) (least : (b : ℕ) → b < length p.groups → safe.rank b < safe.rank a → Ended state.trace b) where
    abbrev ms : List ℕ
    ms = members p.groups (group_of p a)

    runs_on : Started state.trace a → Goes
    runs_on h =
        let o = kept.started_at a h.0 h.1 in
        let e : o.0 ≡ place state h.0 = ⊎_elim (λ q. absurd (unended (kept.ended_from a h.0 o.0 o.1 q))) (λ q. let k = o.2 in omega (arith, q, k)) (cases_lt o.0 (place state h.0)) in
        record { move = move.End h.0; new = _; step = Ends h.0 a (subst (λ v. Stands programs h.0 v (Run a)) e o.1) (h, unended) }

    module _ (fresh : Started state.trace a → ⊥) where
      in_group : (b : ℕ) → Contains ms b → (b < length p.groups) × (group_of p b ≡ group_of p a)
      in_group b h = (those p.groups (group_of p a) b).0 h

      none_started : (b : ℕ) → Contains ms b → Started state.trace b → ⊥
      none_started b h q = let g = in_group b h in fresh (kept.together b a g.0 a_in g.1 q)

      -- a member's lane stands at its `Run`, or some lane goes on
      comes : (b : ℕ) → Contains ms b → ((l : ℕ) × IsAt programs state.places l (Run b)) ⊎ Goes
      comes b h =
          let g = in_group b h in
          let r = safe.some b g.0 in
          let same = safe.of_group b a g.0 a_in g.1 in
          ⊎_elim
          (λ q. inr (passes r.0 (let i = stands_in programs r.0 r.1 (Run b) r.2 in omega (arith, q, i))
          (λ c at. let e = safe.rising c b r.0 (place state r.0) r.1 at r.2 q in least c (safe.inside c r.0 (place state r.0) at) (omega (arith, e, same)))
          (λ x at. let e = safe.back x b r.0 (place state r.0) r.1 at r.2 q in least x (awaited_in r.0 x at) (omega (arith, e, same)))))
          (λ q. ⊎_elim
          (λ k. absurd (none_started b h (kept.ended_started b (kept.ended_from b r.0 r.1 r.2 k))))
          (λ k. let e : r.1 ≡ place state r.0 = omega (arith, q, k) in inl (r.0, subst (λ v. Stands programs r.0 v (Run b)) e r.2))
          (cases_lt r.1 (place state r.0)))
          (cases_lt (place state r.0) r.1)

      all_come : (bs : List ℕ) → ((b : ℕ) → Contains bs b → Contains ms b) → ((us : List ℕ) × AreAt programs state.places bs us) ⊎ Goes
      all_come [] f = inl ([], tt)
      all_come (b ∷ bs) f =
          ⊎_elim
          (λ q. ⊎_elim (λ r. inl (q.0 ∷ r.0, (q.1, r.1))) (λ g. inr g) (all_come bs (λ c h. f c (cons_rest b c bs h))))
          (λ g. inr g)
          (comes b (f b (cons_first b bs)))

      begins : Goes
      begins =
          ⊎_elim
          (λ q. ⊎_elim
          (λ r. record { move = move.Begin r.0; new = _; step = Begins r.0 a q.0 r.1 q.1 none_started })
          (λ g. g)
          (comes a ((those p.groups (group_of p a) a).1 (a_in, refl))))
          (λ g. g)
          (all_come ms (λ b h. h))

    least_goes : Goes
    least_goes = ⊎_elim (λ h. runs_on h) (λ n. begins n) (started_or state.trace a)

  -- While a lane isn't at its end, some move is possible.
  pub goes_on : (l : ℕ) → IsOnItsWay programs state l → Goes
  goes_on l on =
      ⊎_elim
      (λ all. passes l on (λ a at. all a (safe.inside a l (place state l) at)) (λ x at. all x (awaited_in l x at)))
      (λ f. least_goes f.a f.below f.not f.least)
      (all_or_least (Ended state.trace) safe.rank (ended_or state.trace) (length p.groups))

  -- Where every lane is at its end, every action has ended.
  pub is_whole : HasEnded programs state → IsWhole s state.trace
  is_whole ended a l =
      let e = plan.entries.many in
      let r = safe.some a (omega (arith, l, e)) in
      ⊎_elim (λ q. kept.ended_from a r.0 r.1 r.2 q)
      (λ q. let i = stands_in programs r.0 r.1 (Run a) r.2 in absurd (ended r.0 (omega (arith, q, i))))
      (cases_lt r.1 (place state r.0))
