-- Blocks that may come next, where the trace and the scenario are written out.
use Rattle.std.proofs.Common.{◌≡◌, ℕ, zero, suc, ◌<◌, List, [], ◌∷◌, ◌⊎◌, inl, inr, Option, Some, None, Bool, true, false, ◌&&◌, nat_eq, nat_lt, length, refl, sym, subst, arith, Contains, T, lit<, ltb→lt, eq-eqb, le_of_suc-le-suc, not-suc-le-zero}
use Rattle.pst_scen.specs.declared.tree.Node.{Node}
use Rattle.pst_scen.specs.declared.tree.Fill.{Fill}
use Rattle.pst_scen.specs.declared.tree.Fill.TheVariants.{Joined}
use Rattle.pst_scen.specs.Tree.{IsReleased}
use Rattle.pst_scen.specs.declared.act.Flow.{Flow}
use Rattle.pst_scen.specs.declared.act.Flow.TheVariants.{StateIn, StateOut}
use Rattle.pst_scen.specs.declared.act.Link.{Link}
use Rattle.pst_scen.specs.declared.scenario.Scenario.{Scenario}
use Rattle.pst_scen.specs.declared.event.Event.{Event}
use Rattle.pst_scen.specs.declared.event.Event.TheVariants.{Start, End}
use Rattle.pst_scen.specs.Flows.{Refers, Feeds, Reads, Writes}
use Rattle.pst_scen.specs.Order.{Before, Together, Itself}
use Rattle.pst_scen.specs.Conflicts.{Conflict}
use Rattle.pst_scen.specs.Trace.{Started, StartsOn, Ended, Runs, IsWholeGroup, MayStart, IsWhole, Names, last_writer}
use Rattle.pst_scen.specs.Laws.{IsPreorder}
use Rattle.pst_legal.specs.SupplyReading.{is_state}
use Rattle.pst_trials.proofs.Cases.{Each, each, EachOf, each_contained, false_true}
use Rattle.pst_trials.proofs.Branches.{earliers}
use Rattle.pst_trials.proofs.Orders.{EachPair, each_before, streams, itself_alone, referrals, each_refers, suppliers, each_feeds}

-- a fact that is due where a test passes
abbrev pub When : Bool → Type 0 → Type 0
When true P = P
When false P = Unit {0}

pub due : (test : Bool) (P : Type 0) → test ≡ true → When test P → P
due true P is fact = fact
due false P is fact = absurd (false_true is)

-- ---- nodes

abbrev pub is_parent_before : ℕ → Option ℕ → Bool
is_parent_before n None = true
is_parent_before n (Some parent) = nat_lt parent n

parent_before : (n parent : ℕ) (is : Option ℕ) → is_parent_before n is ≡ true → is ≡ Some parent → parent < n
parent_before n parent is before same =
    let less : nat_lt parent n ≡ true = subst (λ p. is_parent_before n p ≡ true) same before in
    ltb→lt parent n (subst T (sym less) tt)

pub preorder_by : (nodes : List Node) → Each (λ n node. is_parent_before n node.parent ≡ true) nodes → IsPreorder nodes
preorder_by nodes facts = record {
  parents = λ n parent node is in_parent. parent_before n parent node.parent (each (λ n node. is_parent_before n node.parent ≡ true) nodes facts n node is) in_parent;
}

abbrev pub has_join : Fill → Bool
has_join (Joined parallel joined) = true
has_join _ = false

-- without join forms nothing is released
pub no_joins : (nodes : List Node) → Each (λ n node. has_join node.fill ≡ false) nodes → (sequence act : ℕ) → IsReleased nodes sequence act → ⊥
no_joins nodes facts sequence act released =
    false_true (sym (subst (λ fill. has_join fill ≡ false) released.join (each (λ n node. has_join node.fill ≡ false) nodes facts released.block released.node released.is)))

-- ---- numbers below

abbrev pub EachBelow : (ℕ → Type 0) → ℕ → Type 0
EachBelow P zero = Unit {0}
EachBelow P (suc n) = P 0 × EachBelow (λ k. P (suc k)) n

pub each_below : (P : ℕ → Type 0) (n : ℕ) → EachBelow P n → (k : ℕ) → k < n → P k
each_below P zero facts k below = absurd (not-suc-le-zero below)
each_below P (suc n) facts zero below = facts.0
each_below P (suc n) facts (suc k) below = each_below (λ k. P (suc k)) n facts.1 k (le_of_suc-le-suc below)

-- ---- events

abbrev pub on_start : (ℕ → ℕ → Type 0) → Event → Type 0
on_start P (Start a lane more) = P a lane
on_start P (End a) = Unit {0}

abbrev pub on_end : (ℕ → Type 0) → Event → Type 0
on_end P (Start a lane more) = Unit {0}
on_end P (End a) = P a

pub each_start : (P : ℕ → ℕ → Type 0) (trace : List Event) → EachOf (on_start P) trace → (a lane : ℕ) → StartsOn trace a lane → P a lane
each_start P trace facts a lane starts = each_contained (on_start P) trace facts (Start a lane starts.0) starts.1

pub each_end : (P : ℕ → Type 0) (trace : List Event) → EachOf (on_end P) trace → (a : ℕ) → Ended trace a → P a
each_end P trace facts a ended = each_contained (on_end P) trace facts (End a) ended

-- an action that has started, and is none of those that have ended
pub runs_by : (trace : List Event) (a lane : ℕ) (more : Bool) → Contains trace (Start a lane more) → EachOf (on_end (λ b. When (nat_eq b a) ⊥)) trace → Runs trace a
runs_by trace a lane more started others =
    ((lane, (more, started)), λ ended. due (nat_eq a a) ⊥ (eq-eqb a a refl) (each_end (λ b. When (nat_eq b a) ⊥) trace others a ended))

pub whole_by : (s : Scenario) (trace : List Event) → EachBelow (Ended trace) (length s.actions) → IsWhole s trace
whole_by s trace facts a below = each_below (Ended trace) (length s.actions) facts a below

-- ---- groups

pub here : {A : Type 0} (x : A) (xs : List A) → Contains (x ∷ xs) x
here x xs = (0, lit<-zero (length xs), refl)
  where
    lit<-zero : (n : ℕ) → 0 < suc n
    lit<-zero n = omega arith

pub alone_group : (s : Scenario) (a : ℕ) → a < length s.actions → ((b : ℕ) → Together s a b → b ≡ a) → IsWholeGroup s (a ∷ [])
alone_group s a below alone = record {
  some = lit< tt;
  ascending = λ i j less under. absurd (omega arith);
  inside = each_contained (λ b. b < length s.actions) (a ∷ []) (below, tt);
  one = λ b c in_b in_c. each_contained (λ b. Together s b c) (a ∷ []) (each_contained (λ c. Together s a c) (a ∷ []) (Itself, tt) c in_c, tt) b in_b;
  whole = λ b c in_b together. each_contained (λ b. Together s b c → Contains (a ∷ []) c) (a ∷ []) ((λ t. subst (Contains (a ∷ [])) (sym (alone c t)) (here a [])), tt) b in_b together;
}

-- ---- starts

-- An action that is its own group starts, where what runs is on other lanes and in no conflict with it.
pub starts_beside : (s : Scenario) (lanes : ℕ) (trace : List Event) (a lane : ℕ) → IsWholeGroup s (a ∷ []) → lane < lanes
    → EachOf (on_start (λ b l. When (nat_eq b a) ⊥ × (Ended trace b ⊎ When (nat_eq l lane) ⊥ × (Conflict s b a → ⊥)))) trace
    → ((x : ℕ) → Before s x a → Ended trace x)
    → ((x : ℕ) → Feeds s x a → Ended trace x)
    → ((flow : Flow) (pool : ℕ) (to : Link) → is_state flow ≡ true → Refers s a flow pool to → Names to (last_writer s pool trace))
    → MayStart s lanes trace (a ∷ []) (lane ∷ [])
starts_beside s lanes trace a lane group below events sequence feeds state = record {
  group = group;
  fresh = λ b in_b. each_contained (λ b. Started trace b → ⊥) (a ∷ []) ((λ started. due (nat_eq a a) ⊥ (eq-eqb a a refl) (fact a started.0 started.1).0), tt) b in_b;
  free = record {
    many = refl;
    different = λ i j less under. absurd (omega arith);
    below = each_contained (λ l. l < lanes) (lane ∷ []) (below, tt);
    idle = λ l in_l held. each_contained (λ l. StartsOn trace held.0 l → ⊥) (lane ∷ []) ((λ starts. busy held.0 held.2 (fact held.0 lane starts).1), tt) l in_l held.1;
  };
  sequence = λ x b in_b. each_contained (λ b. Before s x b → Ended trace x) (a ∷ []) (sequence x, tt) b in_b;
  buffer = λ x b in_b. each_contained (λ b. Feeds s x b → Ended trace x) (a ∷ []) (feeds x, tt) b in_b;
  source = λ b pool to in_b. each_contained (λ b. Reads s b pool to → Names to (last_writer s pool trace)) (a ∷ []) (state StateIn pool to refl, tt) b in_b;
  previous = λ b pool to in_b. each_contained (λ b. Writes s b pool to → Names to (last_writer s pool trace)) (a ∷ []) (state StateOut pool to refl, tt) b in_b;
  clear = λ x b runs in_b conflict. each_contained (λ b. Conflict s x b → ⊥) (a ∷ []) ((λ conflict. clash x runs.0.0 runs.1 conflict (fact x runs.0.0 runs.0.1).1), tt) b in_b conflict;
  apart = λ b c in_b in_c conflict. each_contained (λ b. Conflict s b c → ⊥) (a ∷ []) (each_contained (λ c. Conflict s a c → ⊥) (a ∷ []) ((λ conflict. conflict.0 refl), tt) c in_c, tt) b in_b conflict;
}
  where
    fact : (b l : ℕ) → StartsOn trace b l → When (nat_eq b a) ⊥ × (Ended trace b ⊎ When (nat_eq l lane) ⊥ × (Conflict s b a → ⊥))
    fact = each_start (λ b l. When (nat_eq b a) ⊥ × (Ended trace b ⊎ When (nat_eq l lane) ⊥ × (Conflict s b a → ⊥))) trace events

    busy : (b : ℕ) → (Ended trace b → ⊥) → Ended trace b ⊎ When (nat_eq lane lane) ⊥ × (Conflict s b a → ⊥) → ⊥
    busy b runs (inl ended) = runs ended
    busy b runs (inr other) = due (nat_eq lane lane) ⊥ (eq-eqb lane lane refl) other.0

    clash : (b l : ℕ) → (Ended trace b → ⊥) → Conflict s b a → Ended trace b ⊎ When (nat_eq l lane) ⊥ × (Conflict s b a → ⊥) → ⊥
    clash b l runs conflict (inl ended) = runs ended
    clash b l runs conflict (inr other) = other.1 conflict

-- The same in a scenario without streams, where each fact computes.
pub starts_next : (s : Scenario) (lanes : ℕ) (trace : List Event) (a lane : ℕ)
    → EachPair (λ b c. ⊥) (streams s) → a < length s.actions → lane < lanes
    → EachOf (on_start (λ b l. When (nat_eq b a) ⊥ × (Ended trace b ⊎ When (nat_eq l lane) ⊥ × (Conflict s b a → ⊥)))) trace
    → ((x : ℕ) → Before s x a → Ended trace x)
    → EachPair (λ x b. When (nat_eq b a) (Ended trace x)) (suppliers (referrals s.actions))
    → EachOf (λ x. When (nat_eq x.act a && is_state x.flow) (Names x.to (last_writer s x.pool trace))) (referrals s.actions)
    → MayStart s lanes trace (a ∷ []) (lane ∷ [])
starts_next s lanes trace a lane none in_s below events sequence feeds state =
    starts_beside s lanes trace a lane (alone_group s a in_s (itself_alone s none a)) below events sequence
    (λ x feed. due (nat_eq a a) (Ended trace x) (eq-eqb a a refl) (each_feeds (λ x b. When (nat_eq b a) (Ended trace x)) s feeds x a feed))
    (λ flow pool to is refers. due (nat_eq a a && is_state flow) (Names to (last_writer s pool trace)) (both (eq-eqb a a refl) is) (each_refers (λ b flow pool to. When (nat_eq b a && is_state flow) (Names to (last_writer s pool trace))) s state a flow pool to refers))
  where
    both : {x y : Bool} → x ≡ true → y ≡ true → (x && y) ≡ true
    both {x} {y} is_x is_y = subst (λ x. (x && y) ≡ true) (sym is_x) is_y

-- what stands in earlier statements has ended
pub awaits : (s : Scenario) (trace : List Event) (a : ℕ) → IsPreorder s.nodes → EachOf (λ x. When (nat_eq x.second a) (Ended trace x.first)) (earliers s.nodes) → (x : ℕ) → Before s x a → Ended trace x
awaits s trace a preorder facts x before =
    due (nat_eq a a) (Ended trace x) (eq-eqb a a refl) (each_before (λ x b. When (nat_eq b a) (Ended trace x)) s preorder facts x a before)
