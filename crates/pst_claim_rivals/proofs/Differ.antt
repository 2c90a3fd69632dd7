-- Rivals don't claim one instance.
use Rattle.std.proofs.Common.{◌≡◌, ◌≢◌, ◌⊎◌, ◌<◌, ℕ, Bool, true, false, nat_lt, Some, refl, sym, ◌∙◌, subst, inl, inr, ⊎_elim, arith}
use Rattle.std.proofs.lemmas.Bool.{ltb-true, ltb-false}
use Rattle.std.proofs.lemmas.Option.{same_Some, slice_get_within}
use Rattle.pst_scen.specs.declared.scenario.Scenario.{Scenario}
use Rattle.pst_scen.specs.Flows.{Streams, FromFirst, FromSecond, IsClaim, Claims}
use Rattle.pst_scen.specs.Order.{Together, Itself, Linked}
use Rattle.pst_scen.specs.Conflicts.{Resource}
use Rattle.pst_scen.specs.Plans.{StandParallel, Contend}
use Rattle.pst_scen.specs.Refusals.{Two, One, IsUnrefused}
use Rattle.pst_claim_rivals.specs.declared.claims.OpenClaim.{OpenClaim}
use Rattle.pst_claim_rivals.specs.Rivals.{Meet, Alone, Grouped, Beside, AreRivals, ClaimsInstance, RivalsDiffer}

-- ---- the other way round

streams_back : (s : Scenario) (a b : ℕ) → Streams s a b → Streams s b a
streams_back s a b (FromFirst pool reference flow is refers) = FromSecond pool reference flow is refers
streams_back s a b (FromSecond pool reference flow is refers) = FromFirst pool reference flow is refers

group_along : {s : Scenario} {a b c : ℕ} → Together s a b → Together s b c → Together s a c
group_along g Itself = g
group_along g (Linked b c h l) = Linked b c (group_along g h) l

pub group_back : {s : Scenario} {a b : ℕ} → Together s a b → Together s b a
group_back Itself = Itself
group_back {s = s} (Linked b c h l) = group_along (Linked c b Itself (streams_back s b c l)) (group_back h)

pub group_of : {s : Scenario} {a b g : ℕ} → Together s a g → Together s b g → Together s a b
group_of one other = group_along one (group_back other)

pub turned : {s : Scenario} {a b : ℕ} → StandParallel s a b → StandParallel s b a
turned p = record {
  block = p.block;
  node = p.node;
  is = p.is;
  parallel = p.parallel;
  a_branch = p.b_branch;
  b_branch = p.a_branch;
  different = λ e. p.different (sym e);
  a_child = p.b_child;
  b_child = p.a_child;
  a_inside = p.b_inside;
  b_inside = p.a_inside;
}

either : (a b : ℕ) → a ≢ b → (a < b) ⊎ (b < a)
either a b apart = by (nat_lt a b) refl
  where
    by : (t : Bool) → nat_lt a b ≡ t → (a < b) ⊎ (b < a)
    by true e = inl (ltb-true a b e)
    by false e = let low = ltb-false a b e in inr (omega (arith, low, apart))

-- ---- one instance

module _ (t : Scenario) (free : IsUnrefused t) where
  claims : (x : OpenClaim) (number pool : ℕ) (c : ClaimsInstance t x number) → c.claimed.pool ≡ pool → Claims t x.act pool number c.claimed.lock
  claims x number pool c of_pool = record { claim = x.claim; claimed = c.claimed; is = c.is; of_pool = of_pool; of_instance = c.instance; by_lock = refl }

  module _ (x y : OpenClaim) (number : ℕ) (one : ClaimsInstance t x number) (other : ClaimsInstance t y number) (lock : (x.lock ≡ true) ⊎ (y.lock ≡ true)) (pools : one.claimed.pool ≡ other.claimed.pool) where
    locks : (one.claimed.lock ≡ true) ⊎ (other.claimed.lock ≡ true)
    locks = ⊎_elim (λ e. inl (one.by_lock ∙ e)) (λ e. inr (other.by_lock ∙ e)) lock

    contend : Contend t x.act y.act
    contend = record {
      pool = one.claimed.pool;
      instance = number;
      own = one.claimed.lock;
      other = other.claimed.lock;
      a_claims = claims x number one.claimed.pool one refl;
      b_claims = claims y number one.claimed.pool other (sym pools);
      by_lock = locks;
    }

    alone : x.act ≡ y.act → x.claim ≢ y.claim → ⊥
    alone same apart =
        free.no_group_clash x.act x.act (One x.act (slice_get_within t.actions x.act one.is.act one.is.is_act) (record {
          first = x.claim;
          second = y.claim;
          one = one.claimed;
          other = other.claimed;
          different = apart;
          is_first = one.is;
          is_second = subst (λ a. IsClaim t a y.claim other.claimed) (sym same) other.is;
          same_pool = pools;
          same_instance = one.instance ∙ sym other.instance;
          by_lock = locks;
        }))

    contend_back : Contend t y.act x.act
    contend_back = record {
      pool = one.claimed.pool;
      instance = number;
      own = other.claimed.lock;
      other = one.claimed.lock;
      a_claims = claims y number one.claimed.pool other (sym pools);
      b_claims = claims x number one.claimed.pool one refl;
      by_lock = ⊎_elim (λ e. inr e) (λ e. inl e) locks;
    }

    meets : Meet t x y → ⊥
    meets (Alone same apart) = alone same apart
    meets (Grouped apart group) =
        ⊎_elim
        (λ l. free.no_group_clash x.act y.act (Two x.act y.act l group (apart, Resource contend.pool contend.instance contend.own contend.other contend.a_claims contend.b_claims contend.by_lock)))
        (λ l. free.no_group_clash y.act x.act (Two y.act x.act l (group_back group) ((λ e. apart (sym e)), Resource contend_back.pool contend_back.instance contend_back.own contend_back.other contend_back.a_claims contend_back.b_claims contend_back.by_lock)))
        (either x.act y.act apart)
    meets (Beside apart stand) =
        ⊎_elim
        (λ l. free.no_parallel_clash x.act y.act (record { order = l; parallel = stand; contend = contend }))
        (λ l. free.no_parallel_clash y.act x.act (record { order = l; parallel = turned stand; contend = contend_back }))
        (either x.act y.act apart)

pub differ : RivalsDiffer
differ t x y number free rivals one other =
    let first : one.claimed.pool ≡ rivals.on_pool.pool = same_Some one.claimed.pool rivals.on_pool.pool (sym one.of_pool ∙ rivals.on_pool.first) in
    let second : other.claimed.pool ≡ rivals.on_pool.pool = same_Some other.claimed.pool rivals.on_pool.pool (sym other.of_pool ∙ rivals.on_pool.second) in
    meets t free x y number one other rivals.by_lock (first ∙ sym second) rivals.meet
