-- Pairs of actions that uses keep apart.
use Rattle.std.proofs.Common.{◌≡◌, ◌≢◌, ◌↔◌, ◌⊎◌, inl, inr, ⊎_elim, ◌<◌, ◌≤◌, ◌+◌, ℕ, List, Bool, true, false, length, slice_get, Some, refl, sym, subst, ◌∙◌, arith}
use Rattle.std.proofs.lemmas.Option.{slice_get_within}
use Rattle.pst_scen.specs.declared.rows.Rows.{Rows}
use Rattle.pst_scen.specs.declared.act.Act.{Act}
use Rattle.pst_scen.specs.declared.act.Flow.{Flow}
use Rattle.pst_scen.specs.declared.act.Flow.TheVariants.{StateIn, StateOut}
use Rattle.pst_scen.specs.declared.act.Link.{Link}
use Rattle.pst_scen.specs.declared.scenario.Scenario.{Scenario}
use Rattle.pst_scen.specs.Flows.{IsAct, Claims, Refers}
use Rattle.pst_scen.specs.Rows.{Has}
use Rattle.pst_scen.specs.Conflicts.{Clash, Resource, FirstWrites, SecondWrites, Uses, Conflict}
use Rattle.pst_graph.specs.declared.uses.Use.{Use}
use Rattle.pst_square.specs.Squares.{IsBlank, Adds, IsOneOf}
use Rattle.pst_graph.specs.Uses.{IsUseOfClaims, IsUseOfReferences, IsUse, Listed, AreUses, AreExclusive, AreApart, IsApartFrom, IsApartFromAny, IsApartAt, AreApartIn}
use Rattle.pst_square.proofs.Adding.{adds_as, family_more}
use Rattle.pst_nodes.proofs.Climbs.{same_some}

-- what is read past the end of a list
abbrev pub blank : Use
blank = record { act = 0; state = false; pool = 0; instance = 0; alone = false }

pub from_more : (first middle last : Rows) (u : Use) (uses : List Use) (i : ℕ) (v : Use) → slice_get uses i ≡ Some v → Adds first middle (IsOneOf (IsApartFrom u uses) i) → Adds middle last (AreApart u v) → Adds first last (IsOneOf (IsApartFrom u uses) (i + 1))
from_more first middle last u uses i v is one two =
    family_more (IsApartFrom u uses) first middle last i one
    (adds_as middle last (AreApart u v) (IsApartFrom u uses i) two
    (λ c d c_in d_in h. record { other = v; is = is; apart = h })
    (λ c d c_in d_in h. subst (λ (w : Use). AreApart u w c d) (same_some h.other v (sym h.is ∙ is)) h.apart))

pub from_all : (first last : Rows) (u : Use) (uses : List Use) (n : ℕ) → length uses ≤ n → Adds first last (IsOneOf (IsApartFrom u uses) n) → Adds first last (IsApartFromAny u uses)
from_all first last u uses n all added =
    adds_as first last (IsOneOf (IsApartFrom u uses) n) (IsApartFromAny u uses) added
    (λ c d c_in d_in h. record { place = h.index; at = h.has })
    (λ c d c_in d_in h. let within = slice_get_within uses h.place h.at.other h.at.is in record { index = h.place; below = omega (arith, within, all); has = h.at })

pub apart_more : (first middle last : Rows) (uses : List Use) (i : ℕ) (u : Use) → slice_get uses i ≡ Some u → Adds first middle (IsOneOf (IsApartAt uses) i) → Adds middle last (IsApartFromAny u uses) → Adds first last (IsOneOf (IsApartAt uses) (i + 1))
apart_more first middle last uses i u is one two =
    family_more (IsApartAt uses) first middle last i one
    (adds_as middle last (IsApartFromAny u uses) (IsApartAt uses i) two
    (λ c d c_in d_in h. record { one = u; is = is; apart = h })
    (λ c d c_in d_in h. subst (λ (w : Use). IsApartFromAny w uses c d) (same_some h.one u (sym h.is ∙ is)) h.apart))

pub apart_all : (first last : Rows) (uses : List Use) (n : ℕ) → length uses ≤ n → Adds first last (IsOneOf (IsApartAt uses) n) → Adds first last (AreApartIn uses)
apart_all first last uses n all added =
    adds_as first last (IsOneOf (IsApartAt uses) n) (AreApartIn uses) added
    (λ c d c_in d_in h. record { place = h.index; at = h.has })
    (λ c d c_in d_in h. let within = slice_get_within uses h.place h.at.one h.at.is in record { index = h.place; below = omega (arith, within, all); has = h.at })

-- ---- what the uses of two actions say of the scenario

module _ (s : Scenario) (u : Use) (act : Act) (is_act : IsAct s u.act act) where
  use_claims : IsUseOfClaims act.claims u.act u → Claims s u.act u.pool u.instance u.alone
  use_claims h =
      record {
        claim = h.claim;
        claimed = h.claimed;
        is = record { act = act; is_act = is_act; is = h.is };
        of_pool = sym h.one.pool;
        of_instance = sym h.one.instance;
        by_lock = sym h.one.alone;
      }

  use_refers : (h : IsUseOfReferences act.references u.act u) (flow : Flow) → h.filled.flow ≡ flow → Refers s u.act flow u.pool h.filled.link
  use_refers h flow of_flow = record { act = act; reference = h.reference; filled = h.filled; is_act = is_act; is = h.is; of_flow = of_flow; of_pool = sym h.one.pool; linked = refl }

  use_uses : IsUseOfReferences act.references u.act u → Uses s u.act u.pool
  use_uses h = (h.filled.link, ⊎_elim (λ read. inl (use_refers h StateIn read.0)) (λ write. inr (use_refers h StateOut write.0)) h.one.kind)

  use_writes : (h : IsUseOfReferences act.references u.act u) → u.alone ≡ true → Refers s u.act StateOut u.pool h.filled.link
  use_writes h alone = ⊎_elim (λ read. absurd (let wrong : true ≡ false = sym alone ∙ read.1 in cc)) (λ write. use_refers h StateOut write.0) h.one.kind

exclusive_clash : (s : Scenario) (u v : Use) → IsUse s u → IsUse s v → AreExclusive u v → Clash s u.act v.act
exclusive_clash s u v one other both = go one.of other.of
  where
    claims : IsUseOfClaims one.act.claims u.act u → IsUseOfClaims other.act.claims v.act v → Clash s u.act v.act
    claims h k =
        let second : Claims s v.act u.pool u.instance v.alone = subst (λ (p : ℕ). Claims s v.act p u.instance v.alone) (sym both.pool) (subst (λ (i : ℕ). Claims s v.act v.pool i v.alone) (sym both.instance) (use_claims s v other.act other.is_act k)) in
        Resource u.pool u.instance u.alone v.alone (use_claims s u one.act one.is_act h) second both.alone

    states : (h : IsUseOfReferences one.act.references u.act u) → (k : IsUseOfReferences other.act.references v.act v) → (u.alone ≡ true) ⊎ (v.alone ≡ true) → Clash s u.act v.act
    states h k (inl alone) = FirstWrites u.pool h.filled.link (use_writes s u one.act one.is_act h alone) (subst (λ (p : ℕ). Uses s v.act p) (sym both.pool) (use_uses s v other.act other.is_act k))
    states h k (inr alone) = SecondWrites u.pool k.filled.link (use_uses s u one.act one.is_act h) (subst (λ (p : ℕ). Refers s v.act StateOut p k.filled.link) (sym both.pool) (use_writes s v other.act other.is_act k alone))

    go : IsUseOfClaims one.act.claims u.act u ⊎ IsUseOfReferences one.act.references u.act u → IsUseOfClaims other.act.claims v.act v ⊎ IsUseOfReferences other.act.references v.act v → Clash s u.act v.act
    go (inl h) (inl k) = claims h k
    go (inl h) (inr k) = let wrong : false ≡ true = sym h.one.state ∙ both.state ∙ k.one.state in absurd cc
    go (inr h) (inl k) = let wrong : true ≡ false = sym h.one.state ∙ both.state ∙ k.one.state in absurd cc
    go (inr h) (inr k) = states h k both.alone

pub apart_conflict : (s : Scenario) (uses : List Use) (n c d : ℕ) → AreUses s uses n → AreApartIn uses c d → Conflict s c d
apart_conflict s uses n c d are h =
    let u = h.at.one in
    let from = h.at.apart.at in
    let v = from.other in
    let apart = from.apart in
    let clash : Clash s u.act v.act = exclusive_clash s u v (are.sound h.place u h.at.is) (are.sound h.at.apart.place v from.is) apart.exclusive in
    (apart.different, subst (λ (x : ℕ). Clash s x d) (sym apart.first) (subst (λ (y : ℕ). Clash s u.act y) (sym apart.second) clash))

-- ---- what two actions that conflict use

record IsAs (act : ℕ) (state : Bool) (pool instance : ℕ) (alone : Bool → Type 0) (u : Use) : Type 0 where
  pub act_is : u.act ≡ act
  pub state_is : u.state ≡ state
  pub pool_is : u.pool ≡ pool
  pub instance_is : u.instance ≡ instance
  pub alone_is : alone u.alone

module _ (s : Scenario) (uses : List Use) (n : ℕ) (are : AreUses s uses n) where
  claim_listed : (a pool instance : ℕ) (lock : Bool) → a < n → Claims s a pool instance lock → Listed uses (IsAs a false pool instance (λ b. b ≡ lock))
  claim_listed a pool instance lock a_in h =
      let l = are.claims a h.claim h.is.act h.claimed a_in h.is.is_act h.is.is in
      let is = l.has in
      record { place = l.place; one = l.one; is = l.is; has = record { act_is = is.act; state_is = is.state; pool_is = is.pool ∙ h.of_pool; instance_is = is.instance ∙ h.of_instance; alone_is = is.alone ∙ h.by_lock } }

  write_listed : (a pool : ℕ) (to : Link) → a < n → Refers s a StateOut pool to → Listed uses (IsAs a true pool 0 (λ b. b ≡ true))
  write_listed a pool to a_in r =
      let l = are.references a r.reference r.act r.filled a_in r.is_act r.is (inr r.of_flow) in
      let is = l.has in
      let alone : l.one.alone ≡ true = ⊎_elim (λ read. absurd (let wrong : StateOut ≡ StateIn = sym r.of_flow ∙ read.0 in cc)) (λ write. write.1) is.kind in
      record { place = l.place; one = l.one; is = l.is; has = record { act_is = is.act; state_is = is.state; pool_is = is.pool ∙ r.of_pool; instance_is = is.instance; alone_is = alone } }

  use_listed : (a pool : ℕ) → a < n → Uses s a pool → Listed uses (IsAs a true pool 0 (λ b. Unit {0}))
  use_listed a pool a_in (to, inl r) =
      let l = are.references a r.reference r.act r.filled a_in r.is_act r.is (inl r.of_flow) in
      let is = l.has in
      record { place = l.place; one = l.one; is = l.is; has = record { act_is = is.act; state_is = is.state; pool_is = is.pool ∙ r.of_pool; instance_is = is.instance; alone_is = tt } }
  use_listed a pool a_in (to, inr r) =
      let l = are.references a r.reference r.act r.filled a_in r.is_act r.is (inr r.of_flow) in
      let is = l.has in
      record { place = l.place; one = l.one; is = l.is; has = record { act_is = is.act; state_is = is.state; pool_is = is.pool ∙ r.of_pool; instance_is = is.instance; alone_is = tt } }

  both_listed : (c d pool instance : ℕ) (state : Bool) (P Q : Bool → Type 0) → c ≢ d → (one : Listed uses (IsAs c state pool instance P)) → (other : Listed uses (IsAs d state pool instance Q)) → (one.one.alone ≡ true) ⊎ (other.one.alone ≡ true) → AreApartIn uses c d
  both_listed c d pool instance state P Q different one other alone =
      record {
        place = one.place;
        at = record {
          one = one.one;
          is = one.is;
          apart = record {
            place = other.place;
            at = record {
              other = other.one;
              is = other.is;
              apart = record {
                first = sym one.has.act_is;
                second = sym other.has.act_is;
                different = different;
                exclusive = record { state = one.has.state_is ∙ sym other.has.state_is; pool = one.has.pool_is ∙ sym other.has.pool_is; instance = one.has.instance_is ∙ sym other.has.instance_is; alone = alone };
              };
            };
          };
        };
      }

  pub conflict_apart : (c d : ℕ) → c < n → d < n → Conflict s c d → AreApartIn uses c d
  conflict_apart c d c_in d_in conflict = go conflict.1
    where
      go : Clash s c d → AreApartIn uses c d
      go (Resource pool instance own other h k by) =
          let one = claim_listed c pool instance own c_in h in
          let two = claim_listed d pool instance other d_in k in
          both_listed c d pool instance false (λ b. b ≡ own) (λ b. b ≡ other) conflict.0 one two (⊎_elim (λ is. inl (one.has.alone_is ∙ is)) (λ is. inr (two.has.alone_is ∙ is)) by)
      go (FirstWrites pool to w u) =
          let one = write_listed c pool to c_in w in
          both_listed c d pool 0 true (λ b. b ≡ true) (λ b. Unit {0}) conflict.0 one (use_listed d pool d_in u) (inl one.has.alone_is)
      go (SecondWrites pool to u w) =
          let two = write_listed d pool to d_in w in
          both_listed c d pool 0 true (λ b. Unit {0}) (λ b. b ≡ true) conflict.0 (use_listed c pool c_in u) two (inr two.has.alone_is)

pub use_inside : (s : Scenario) (uses : List Use) (n i : ℕ) (u : Use) → AreUses s uses n → slice_get uses i ≡ Some u → u.act < length s.actions
use_inside s uses n i u are is = let own = are.sound i u is in slice_get_within s.actions u.act own.act own.is_act

-- the pairs that uses keep apart are those that conflict
pub all_conflicts : (s : Scenario) (uses : List Use) (blank_rows rows : Rows) → AreUses s uses (length s.actions) → IsBlank blank_rows (length s.actions) → Adds blank_rows rows (AreApartIn uses) → (a b : ℕ) → a < length s.actions → b < length s.actions → Has rows a b ↔ Conflict s a b
all_conflicts s uses blank_rows rows are is added a b a_in b_in =
    let one = added.has a b (subst (λ (n : ℕ). a < n) (sym is.sized) a_in) (subst (λ (n : ℕ). b < n) (sym is.sized) b_in) in (
      λ has. ⊎_elim (λ before. absurd (is.none a b before)) (λ h. apart_conflict s uses (length s.actions) a b are h) (one.0 has),
      λ conflict. one.1 (inr (conflict_apart s uses (length s.actions) are a b a_in b_in conflict)),
    )

pub apart_at : (first last : Rows) (uses : List Use) (i : ℕ) (u : Use) → slice_get uses i ≡ Some u → Adds first last (IsApartFromAny u uses) → Adds first last (IsApartAt uses i)
apart_at first last uses i u is added =
    adds_as first last (IsApartFromAny u uses) (IsApartAt uses i) added
    (λ c d c_in d_in h. record { one = u; is = is; apart = h })
    (λ c d c_in d_in h. subst (λ (w : Use). IsApartFromAny w uses c d) (same_some h.one u (sym h.is ∙ is)) h.apart)
