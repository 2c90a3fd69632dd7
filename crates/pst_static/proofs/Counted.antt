-- What an action awaits, by the places at which actions were dealt.
use Rattle.std.proofs.Common.{◌≡◌, ◌≢◌, ◌⊎◌, ℕ, zero, suc, ◌<◌, ◌≤◌, List, [], ◌∷◌, length, slice_get, Some, Bool, true, false, refl, sym, ap, ◌∙◌, subst, inl, inr, ⊎_elim, arith}
use Rattle.std.specs.Prelude.{Contains, nat_eq, if◌then◌else◌}
use Rattle.std.proofs.lemmas.Bool.{cases_lt, cases_order, eq-eqb}
use Rattle.pst_scen.specs.Rows.{Has}
use Rattle.pst_scen.specs.Plan.{Entries}
use Rattle.pst_programs.specs.declared.program.Instruction.{Instruction}
use Rattle.pst_programs.specs.Serial.{group_of, IsSerial}
use Rattle.pst_programs.specs.Lanes.{Dealt, on_lane}
use Rattle.pst_programs.specs.Programs.{Needs, Counts}
use Rattle.pst_programs.proofs.Places.{some_one, none_some}
use Rattle.pst_programs.proofs.Ranks.{rank, one_group, earlier, of_earlier}
use Rattle.pst_programs.proofs.Dealing.{Rising, contains_on}
use Rattle.pst_programs.proofs.Written.{get_of, of_get}
use Rattle.pst_static.specs.Awaiting.{IsDealtAt, IsLatest, IsHeard}

-- one action's lane is behind another's along the lane
pub lane_rises : (f : ℕ → ℕ) (dealt : Dealt) (l : ℕ) → Rising f (on_lane dealt l) → (x y i j : ℕ) → slice_get dealt i ≡ Some (x, l) → slice_get dealt j ≡ Some (y, l) → i < j → f x < f y
lane_rises f [] l r x y i j a b h = absurd (none_some (x, l) a)
lane_rises f (d ∷ more) l r x y i zero a b h = absurd (omega (arith, h))
lane_rises f (d ∷ more) l r x y zero (suc j) a b h =
    let e : d ≡ (x, l) = some_one d (x, l) a in
    first (nat_eq l d.1) (eq-eqb l d.1 (sym (ap (λ (w : ℕ × ℕ). w.1) e))) (ap (λ (w : ℕ × ℕ). w.0) e) r
  where
    first : (t : Bool) → t ≡ true → d.0 ≡ x → Rising f (if t then d.0 ∷ on_lane more l else on_lane more l) → f x < f y
    first true q e s = subst (λ v. f v < f y) e (s.0 y (contains_on more l y (of_get more j (y, l) b)))
    first false q e s = cc
lane_rises f (d ∷ more) l r x y (suc i) (suc j) a b h = lane_rises f more l (rest (nat_eq l d.1) r) x y i j a b (omega (arith, h))
  where
    rest : (t : Bool) → Rising f (if t then d.0 ∷ on_lane more l else on_lane more l) → Rising f (on_lane more l)
    rest true s = s.1
    rest false s = s

module _ (p : Entries) (order : List ℕ) (serial : IsSerial p order) (dealt : Dealt)
    (inside : (a l : ℕ) → Contains dealt (a, l) → a < length p.groups)
    (rises : (x l y m i j : ℕ) → slice_get dealt i ≡ Some (x, l) → slice_get dealt j ≡ Some (y, m) → i < j → rank p order serial x ≤ rank p order serial y)
    (along : (l : ℕ) → Rising (rank p order serial) (on_lane dealt l))
    (apart : (x a : ℕ) → x < length p.groups → a < length p.groups → group_of p x ≡ group_of p a → Has p.must x a ⊎ Has p.conflict x a → ⊥)
    (a l k : ℕ) (at : slice_get dealt k ≡ Some (a, l)) where
  abbrev rank_of : ℕ → ℕ
  rank_of x = rank p order serial x

  a_in : a < length p.groups
  a_in = inside a l (of_get dealt k (a, l) at)

  same_act : (x y m i : ℕ) → slice_get dealt i ≡ Some (x, m) → slice_get dealt i ≡ Some (y, m) → x ≡ y
  same_act x y m i b c = ap (λ (w : ℕ × ℕ). w.0) (some_one (x, m) (y, m) (sym b ∙ c))

  -- what is needed was dealt before
  from_needs : (x m : ℕ) → Needs p order dealt a l x m → (i : ℕ) × (slice_get dealt i ≡ Some (x, m)) × (i < k)
  from_needs x m n =
      let g = get_of dealt (x, m) n.there in
      let less = of_earlier p order serial x a n.earlier in
      let before : g.0 < k =
      ⊎_elim
      (λ e. let q : (x, m) ≡ (a, l) = some_one (x, m) (a, l) (sym g.1 ∙ ap (λ v. slice_get dealt v) e ∙ at) in
      let w : rank_of x ≡ rank_of a = ap rank_of (ap (λ (v : ℕ × ℕ). v.0) q) in absurd (omega (arith, less, w)))
      (λ o. ⊎_elim (λ h. h) (λ h. let w = rises a l x m k g.0 at g.1 h in absurd (omega (arith, less, w))) o)
      (cases_order g.0 k) in
      (g.0, g.1, before)

  to_needs : (x m i : ℕ) → slice_get dealt i ≡ Some (x, m) → i < k → m ≢ l → Has p.must x a ⊎ Has p.conflict x a → Needs p order dealt a l x m
  to_needs x m i b h n because =
      let there = of_get dealt i (x, m) b in
      let x_in = inside x m there in
      let up = rises x m a l i k b at h in
      let less : rank_of x < rank_of a =
      ⊎_elim (λ e. absurd (apart x a x_in a_in (one_group p order serial x a x_in a_in e) because)) (λ o. ⊎_elim (λ q. q) (λ q. absurd (omega (arith, q, up))) o)
      (cases_order (rank_of x) (rank_of a)) in
      record { other = n; there = there; earlier = earlier p order serial x a x_in a_in less; because = because }

  module _ (before : List Instruction) (m place heard : ℕ) (latest : IsLatest p dealt k m a place) (told : IsHeard dealt before m heard) where
    -- where the lane's latest place is behind what is awaited, the action there counts
    pub counts_at : m ≢ l → heard < place → (x : ℕ) × IsDealtAt dealt place x m × Counts p order dealt before a l x m
    counts_at n h =
        let c = latest.is (omega (arith, h)) in
        let x = c.0 in
        let i = c.1.0 in
        let i_is = c.1.1 in
        let b = c.1.2 in
        let within = latest.within in (
          x,
          c.1,
          record {
            needs = to_needs x m i b (omega (arith, i_is, within)) n c.2;
            latest = λ y q e.
                let w = of_earlier p order serial x y e in
                let g = from_needs y m q in
                let j_in = g.2 in
                let last = latest.last (suc g.0) y (omega (arith, j_in)) (g.0, refl, g.1) q.because in
                ⊎_elim
                (λ s. let f : rank_of x ≡ rank_of y = ap rank_of (same_act x y m i b (subst (λ v. slice_get dealt v ≡ Some (y, m)) s g.1)) in omega (arith, w, f))
                (λ o. ⊎_elim (λ s. let f = lane_rises rank_of dealt m (along m) y x g.0 i g.1 b s in omega (arith, w, f)) (λ s. omega (arith, s, last, i_is)) o)
                (cases_order g.0 i);
            new = λ y q d o.
                let g = get_of dealt (y, m) d in
                let last = told.last (suc g.0) y (g.0, refl, g.1) q in
                let f = lane_rises rank_of dealt m (along m) y x g.0 i g.1 b (omega (arith, last, h, i_is)) in
                ⊎_elim (λ e. let s : rank_of y ≡ rank_of x = ap rank_of e in omega (arith, f, s)) (λ e. let s = of_earlier p order serial x y e in omega (arith, f, s)) o;
          },
        )

    -- and no other action of the lane
    pub counts_only : (x : ℕ) → Counts p order dealt before a l x m → (m ≢ l) × (heard < place) × IsDealtAt dealt place x m
    counts_only x c =
        let g = from_needs x m c.needs in
        let i = g.0 in
        let i_in = g.2 in
        let last = latest.last (suc i) x (omega (arith, i_in)) (i, refl, g.1) c.needs.because in
        let t = latest.is (omega (arith, last)) in
        let j_is = t.1.1 in
        let within = latest.within in
        let same : i ≡ t.1.0 =
        ⊎_elim (λ e. e)
        (λ o. ⊎_elim
        (λ h. let y = t.0 in
        let f = lane_rises rank_of dealt m (along m) x y i t.1.0 g.1 t.1.2 h in
        let n = to_needs y m t.1.0 t.1.2 (omega (arith, j_is, within)) c.needs.other t.2 in
        absurd (c.latest y n (earlier p order serial x y (inside x m (of_get dealt i (x, m) g.1)) (inside y m (of_get dealt t.1.0 (y, m) t.1.2)) f)))
        (λ h. absurd (omega (arith, h, last, j_is))) o)
        (cases_order i t.1.0) in
        let past : heard < place =
        ⊎_elim (λ h. h)
        (λ h. let s = told.is (omega (arith, h, last)) in
        let y = s.0 in
        let q_is = s.1.1 in
        absurd (⊎_elim
        (λ e. c.new y s.2 (of_get dealt s.1.0 (y, m) s.1.2) (inl (same_act y x m s.1.0 s.1.2 (subst (λ v. slice_get dealt v ≡ Some (x, m)) e g.1))))
        (λ o. ⊎_elim
        (λ r. let f = lane_rises rank_of dealt m (along m) x y i s.1.0 g.1 s.1.2 r in
        c.new y s.2 (of_get dealt s.1.0 (y, m) s.1.2) (inr (earlier p order serial x y (inside x m (of_get dealt i (x, m) g.1)) (inside y m (of_get dealt s.1.0 (y, m) s.1.2)) f)))
        (λ r. omega (arith, r, h, last, q_is)) o)
        (cases_order i s.1.0)))
        (cases_lt heard place) in
        (c.needs.other, past, (i, (let w : suc i ≡ place = omega (arith, same, j_is) in w), g.1))
