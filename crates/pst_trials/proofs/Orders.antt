-- What orders actions, joins them and excludes them, as lists that compute.
use Rattle.std.proofs.Common.{◌≡◌, ℕ, zero, suc, List, [], ◌∷◌, ◌++◌, ◌⊎◌, inl, inr, Some, Bool, true, false, ◌&&◌, ◌||◌, nat_eq, if◌then◌else◌, slice_get, refl, sym, subst, flat_map, eq-eqb}
use Rattle.pst_scen.specs.declared.act.Act.{Act}
use Rattle.pst_scen.specs.declared.act.Filled.{Filled}
use Rattle.pst_scen.specs.declared.act.Claimed.{Claimed}
use Rattle.pst_scen.specs.declared.act.Flow.{Flow}
use Rattle.pst_scen.specs.declared.act.Flow.TheVariants.{BufferIn, BufferOut, StreamIn, StreamOut, StateIn, StateOut}
use Rattle.pst_scen.specs.declared.act.Link.{Link}
use Rattle.pst_scen.specs.declared.act.Link.TheVariants as link
use Rattle.pst_scen.specs.declared.scenario.Scenario.{Scenario}
use Rattle.pst_scen.specs.Flows.{Refers, Feeds, Streams, FromFirst, FromSecond, Reads, Writes, Claims}
use Rattle.pst_scen.specs.Order.{Before, Together, Itself, Linked, Cause, Sequence, Buffer, Source, Previous, Replaced, Must, Directly, Through}
use Rattle.pst_scen.specs.Conflicts.{Uses, Clash, Resource, FirstWrites, SecondWrites}
use Rattle.pst_scen.specs.Plans.{Contend}
use Rattle.pst_scen.specs.Laws.{IsPreorder}
use Rattle.pst_legal.specs.SupplyReading.{same_link, is_writer}
use Rattle.pst_trials.proofs.Cases.{EachOf, each_among, Among, among_left, among_right, among_flat, numbered, among_numbered, some_same, none_some, false_true}
use Rattle.pst_trials.proofs.Branches.{earliers, each_earlier}

pub record Pair : Type 0 where
  pub first : ℕ
  pub second : ℕ

abbrev pub pair : ℕ → ℕ → Pair
pair a b = record { first = a; second = b }

-- one fact for each pair
abbrev pub EachPair : (ℕ → ℕ → Type 0) → List Pair → Type 0
EachPair Q xs = EachOf (λ x. Q x.first x.second) xs

pub each_pair : (Q : ℕ → ℕ → Type 0) (xs : List Pair) → EachPair Q xs → (a b : ℕ) → Among (pair a b) xs → Q a b
each_pair Q xs facts a b among = each_among (λ x. Q x.first x.second) xs facts (pair a b) among

among_list : {A : Type 0} (xs : List A) (k : ℕ) (x : A) → slice_get xs k ≡ Some x → Among x xs
among_list [] k x is = absurd (none_some x is)
among_list (y ∷ ys) zero x is = inl (some_same y x is)
among_list (y ∷ ys) (suc k) x is = inr (among_list ys k x is)

abbrev pub pair_if : Bool → ℕ → ℕ → List Pair
pair_if test a b = if test then pair a b ∷ [] else []

among_pair_if : (test : Bool) (a b : ℕ) → test ≡ true → Among (pair a b) (pair_if test a b)
among_pair_if true a b is = inl refl
among_pair_if false a b is = absurd (false_true is)

both_true : (a b : Bool) → a ≡ true → b ≡ true → (a && b) ≡ true
both_true true b is_a is_b = is_b
both_true false b is_a is_b = is_a

-- ---- references

pub record Referral : Type 0 where
  pub act : ℕ
  pub flow : Flow
  pub pool : ℕ
  pub to : Link

abbrev pub referral : ℕ → Filled → Referral
referral a filled = record { act = a; flow = filled.flow; pool = filled.pool; to = filled.link }

abbrev pub referrals : List Act → List Referral
referrals acts = flat_map (λ e. flat_map (λ filled. referral e.0 filled ∷ []) e.1.references) (numbered acts)

pub refers_among : (s : Scenario) (a : ℕ) (flow : Flow) (pool : ℕ) (to : Link) → Refers s a flow pool to → Among (record { act = a; flow = flow; pool = pool; to = to }) (referrals s.actions)
refers_among s a flow pool to refers =
    let x : Referral = record { act = a; flow = flow; pool = pool; to = to } in
    let same : referral a refers.filled ≡ x = cc (refers.of_flow, refers.of_pool, refers.linked) in
    among_flat (λ e. flat_map (λ filled. referral e.0 filled ∷ []) e.1.references) (numbered s.actions) (a, refers.act) x
    (among_numbered s.actions a refers.act refers.is_act)
    (among_flat (λ filled. referral a filled ∷ []) refers.act.references refers.filled x (among_list refers.act.references refers.reference refers.filled refers.is) (inl same))

-- one fact for each reference
pub each_refers : (Q : ℕ → Flow → ℕ → Link → Type 0) (s : Scenario) → EachOf (λ x. Q x.act x.flow x.pool x.to) (referrals s.actions) → (a : ℕ) (flow : Flow) (pool : ℕ) (to : Link) → Refers s a flow pool to → Q a flow pool to
each_refers Q s facts a flow pool to refers =
    each_among (λ x. Q x.act x.flow x.pool x.to) (referrals s.actions) facts (record { act = a; flow = flow; pool = pool; to = to }) (refers_among s a flow pool to refers)

-- ---- causes

-- the action at the end of a link
abbrev pub pair_to : Link → ℕ → List Pair
pair_to (link.Act a r) b = pair a b ∷ []
pair_to link.Initial b = []
pair_to link.Nothing b = []

-- what a link orders: the supplier of a buffer, the writer of what is read, the previous writer
abbrev pub supplied : Flow → Link → ℕ → List Pair
supplied BufferIn to b = pair_to to b
supplied StateIn to b = pair_to to b
supplied StateOut to b = pair_to to b
supplied BufferOut to b = []
supplied StreamIn to b = []
supplied StreamOut to b = []

abbrev pub is_reader : Flow → Bool
is_reader StateIn = true
is_reader StateOut = false
is_reader BufferIn = false
is_reader BufferOut = false
is_reader StreamIn = false
is_reader StreamOut = false

-- the first reads what the second replaces
abbrev pub replaced : Referral → Referral → List Pair
replaced x y = pair_if (is_reader x.flow && (is_writer y.flow && (nat_eq x.pool y.pool && same_link x.to y.to))) x.act y.act

abbrev pub suppliers : List Referral → List Pair
suppliers xs = flat_map (λ x. supplied x.flow x.to x.act) xs

abbrev pub replacements : List Referral → List Pair
replacements xs = flat_map (λ x. flat_map (replaced x) xs) xs

-- what orders actions, but for sequences
abbrev pub flow_causes : Scenario → List Pair
flow_causes s = suppliers (referrals s.actions) ++ replacements (referrals s.actions)

same_to : (to : Link) → same_link to to ≡ true
same_to link.Nothing = refl
same_to link.Initial = refl
same_to (link.Act a r) = both_true (nat_eq a a) (nat_eq r r) (eq-eqb a a refl) (eq-eqb r r refl)

supplied_among : (s : Scenario) (flow : Flow) (pool a r b : ℕ) (to : Link) → Refers s b flow pool to → to ≡ link.Act a r → Among (pair a b) (supplied flow (link.Act a r) b) → Among (pair a b) (flow_causes s)
supplied_among s flow pool a r b to refers is among =
    among_left (pair a b) (suppliers (referrals s.actions)) (replacements (referrals s.actions))
    (among_flat (λ x. supplied x.flow x.to x.act) (referrals s.actions) (record { act = b; flow = flow; pool = pool; to = to }) (pair a b)
    (refers_among s b flow pool to refers)
    (subst (λ to. Among (pair a b) (supplied flow to b)) (sym is) among))

replaced_among : (s : Scenario) (a b pool : ℕ) (to : Link) → Reads s a pool to → Writes s b pool to → Among (pair a b) (flow_causes s)
replaced_among s a b pool to reads writes =
    let x : Referral = record { act = a; flow = StateIn; pool = pool; to = to } in
    let y : Referral = record { act = b; flow = StateOut; pool = pool; to = to } in
    let same : (nat_eq pool pool && same_link to to) ≡ true = both_true (nat_eq pool pool) (same_link to to) (eq-eqb pool pool refl) (same_to to) in
    among_right (pair a b) (suppliers (referrals s.actions)) (replacements (referrals s.actions))
    (among_flat (λ x. flat_map (replaced x) (referrals s.actions)) (referrals s.actions) x (pair a b) (refers_among s a StateIn pool to reads)
    (among_flat (replaced x) (referrals s.actions) y (pair a b) (refers_among s b StateOut pool to writes)
    (among_pair_if (nat_eq pool pool && same_link to to) a b same)))

-- one fact for each producer of a consumed buffer
pub each_feeds : (Q : ℕ → ℕ → Type 0) (s : Scenario) → EachPair Q (suppliers (referrals s.actions)) → (a b : ℕ) → Feeds s a b → Q a b
each_feeds Q s facts a b feeds =
    each_pair Q (suppliers (referrals s.actions)) facts a b
    (among_flat (λ x. supplied x.flow x.to x.act) (referrals s.actions) (record { act = b; flow = BufferIn; pool = feeds.pool; to = link.Act a feeds.output }) (pair a b)
    (refers_among s b BufferIn feeds.pool (link.Act a feeds.output) feeds.input) (inl refl))

-- one fact for each cause
pub each_cause : (Q : ℕ → ℕ → Type 0) (s : Scenario) → ((a b : ℕ) → Before s a b → Q a b) → EachPair Q (flow_causes s) → (a b : ℕ) → Cause s a b → Q a b
each_cause Q s sequences flows a b (Sequence before) = sequences a b before
each_cause Q s sequences flows a b (Buffer feeds) =
    each_pair Q (flow_causes s) flows a b (supplied_among s BufferIn feeds.pool a feeds.output b (link.Act a feeds.output) feeds.input refl (inl refl))
each_cause Q s sequences flows a b (Source pool to reads leads) =
    each_pair Q (flow_causes s) flows a b (supplied_among s StateIn pool a leads.0 b to reads leads.1 (inl refl))
each_cause Q s sequences flows a b (Previous pool to writes leads) =
    each_pair Q (flow_causes s) flows a b (supplied_among s StateOut pool a leads.0 b to writes leads.1 (inl refl))
each_cause Q s sequences flows a b (Replaced pool to reads writes) = each_pair Q (flow_causes s) flows a b (replaced_among s a b pool to reads writes)

pub each_before : (Q : ℕ → ℕ → Type 0) (s : Scenario) → IsPreorder s.nodes → EachOf (λ x. Q x.first x.second) (earliers s.nodes) → (a b : ℕ) → Before s a b → Q a b
each_before Q s preorder facts a b before = each_earlier (λ sequence a b. Q a b) s.nodes preorder facts before.sequence a b before.earlier

-- ---- streams

abbrev pub stream_ends : Flow → Link → ℕ → List Pair
stream_ends StreamIn (link.Act c r) b = pair b c ∷ pair c b ∷ []
stream_ends StreamOut (link.Act c r) b = pair b c ∷ pair c b ∷ []
stream_ends _ _ b = []

-- the actions that a stream joins
abbrev pub streams : Scenario → List Pair
streams s = flat_map (λ x. stream_ends x.flow x.to x.act) (referrals s.actions)

ends_of : (s : Scenario) (b c pool r : ℕ) (flow : Flow) → Refers s b flow pool (link.Act c r) → (x : Pair) → Among x (stream_ends flow (link.Act c r) b) → Among x (streams s)
ends_of s b c pool r flow refers x among =
    among_flat (λ x. stream_ends x.flow x.to x.act) (referrals s.actions) (record { act = b; flow = flow; pool = pool; to = link.Act c r }) x (refers_among s b flow pool (link.Act c r) refers) among

first_end : (b c r : ℕ) (flow : Flow) → (flow ≡ StreamIn) ⊎ (flow ≡ StreamOut) → Among (pair b c) (stream_ends flow (link.Act c r) b)
first_end b c r flow (inl is) = subst (λ f. Among (pair b c) (stream_ends f (link.Act c r) b)) (sym is) (inl refl)
first_end b c r flow (inr is) = subst (λ f. Among (pair b c) (stream_ends f (link.Act c r) b)) (sym is) (inl refl)

second_end : (b c r : ℕ) (flow : Flow) → (flow ≡ StreamIn) ⊎ (flow ≡ StreamOut) → Among (pair b c) (stream_ends flow (link.Act b r) c)
second_end b c r flow (inl is) = subst (λ f. Among (pair b c) (stream_ends f (link.Act b r) c)) (sym is) (inr (inl refl))
second_end b c r flow (inr is) = subst (λ f. Among (pair b c) (stream_ends f (link.Act b r) c)) (sym is) (inr (inl refl))

pub each_stream : (Q : ℕ → ℕ → Type 0) (s : Scenario) → EachPair Q (streams s) → (b c : ℕ) → Streams s b c → Q b c
each_stream Q s facts b c (FromFirst pool r flow is refers) = each_pair Q (streams s) facts b c (ends_of s b c pool r flow refers (pair b c) (first_end b c r flow is))
each_stream Q s facts b c (FromSecond pool r flow is refers) = each_pair Q (streams s) facts b c (ends_of s c b pool r flow refers (pair b c) (second_end b c r flow is))

-- what holds of an action and goes over each stream holds of its group
pub each_together : (P : ℕ → Type 0) (s : Scenario) → EachPair (λ b c. P b → P c) (streams s) → (a b : ℕ) → P a → Together s a b → P b
each_together P s facts a _ start Itself = start
each_together P s facts a _ start (Linked b c together streams) =
    each_stream (λ b c. P b → P c) s facts b c streams (each_together P s facts a b start together)

-- without streams each action is its own group
pub itself_alone : (s : Scenario) → EachPair (λ b c. ⊥) (streams s) → (a b : ℕ) → Together s a b → b ≡ a
itself_alone s none a _ Itself = refl
itself_alone s none a _ (Linked b c together streams) = absurd (each_stream (λ b c. ⊥) s none b c streams)

-- what holds of each cause on a group, and of chains, holds of the order
pub each_must : (Q : ℕ → ℕ → Type 0) (s : Scenario) → ((a c b : ℕ) → Q a c → Q c b → Q a b) → ((a x b : ℕ) → Cause s a x → Together s b x → Q a b) → (a b : ℕ) → Must s a b → Q a b
each_must Q s chain direct a b (Directly _ x _ cause together) = direct a x b cause.1 together
each_must Q s chain direct a b (Through _ c _ first second) = chain a c b (each_must Q s chain direct a c first) (each_must Q s chain direct c b second)

-- the same where no action is joined to another
pub each_must_alone : (Q : ℕ → ℕ → Type 0) (s : Scenario) → EachPair (λ b c. ⊥) (streams s) → ((a c b : ℕ) → Q a c → Q c b → Q a b) → ((a b : ℕ) → Cause s a b → Q a b) → (a b : ℕ) → Must s a b → Q a b
each_must_alone Q s none chain direct a b must =
    each_must Q s chain (λ a x b cause together. subst (Q a) (itself_alone s none b x together) (direct a x cause)) a b must

-- ---- claims and conflicts

pub record Claiming : Type 0 where
  pub act : ℕ
  pub pool : ℕ
  pub instance : ℕ
  pub lock : Bool

abbrev pub claiming : ℕ → Claimed → Claiming
claiming a claimed = record { act = a; pool = claimed.pool; instance = claimed.instance; lock = claimed.lock }

abbrev pub claimings : List Act → List Claiming
claimings acts = flat_map (λ e. flat_map (λ claimed. claiming e.0 claimed ∷ []) e.1.claims) (numbered acts)

claims_among : (s : Scenario) (a pool instance : ℕ) (lock : Bool) → Claims s a pool instance lock → Among (record { act = a; pool = pool; instance = instance; lock = lock }) (claimings s.actions)
claims_among s a pool instance lock claims =
    let x : Claiming = record { act = a; pool = pool; instance = instance; lock = lock } in
    let same : claiming a claims.claimed ≡ x = cc (claims.of_pool, claims.of_instance, claims.by_lock) in
    among_flat (λ e. flat_map (λ claimed. claiming e.0 claimed ∷ []) e.1.claims) (numbered s.actions) (a, claims.is.act) x
    (among_numbered s.actions a claims.is.act claims.is.is_act)
    (among_flat (λ claimed. claiming a claimed ∷ []) claims.is.act.claims claims.claimed x (among_list claims.is.act.claims claims.claim claims.claimed claims.is.is) (inl same))

abbrev pub contend : Claiming → Claiming → List Pair
contend x y = pair_if (nat_eq x.pool y.pool && (nat_eq x.instance y.instance && (x.lock || y.lock))) x.act y.act

-- the actions that claim one instance, one of them by lock
abbrev pub contentions : Scenario → List Pair
contentions s = flat_map (λ x. flat_map (contend x) (claimings s.actions)) (claimings s.actions)

one_locks : (own other : Bool) → (own ≡ true) ⊎ (other ≡ true) → (own || other) ≡ true
one_locks true other is = refl
one_locks false other (inl is) = absurd (false_true is)
one_locks false other (inr is) = is

contend_among : (s : Scenario) (a b pool instance : ℕ) (own other : Bool) → Claims s a pool instance own → Claims s b pool instance other → (own ≡ true) ⊎ (other ≡ true) → Among (pair a b) (contentions s)
contend_among s a b pool instance own other a_claims b_claims locks =
    let x : Claiming = record { act = a; pool = pool; instance = instance; lock = own } in
    let y : Claiming = record { act = b; pool = pool; instance = instance; lock = other } in
    let same : (nat_eq instance instance && (own || other)) ≡ true = both_true (nat_eq instance instance) (own || other) (eq-eqb instance instance refl) (one_locks own other locks) in
    let all : (nat_eq pool pool && (nat_eq instance instance && (own || other))) ≡ true = both_true (nat_eq pool pool) (nat_eq instance instance && (own || other)) (eq-eqb pool pool refl) same in
    among_flat (λ x. flat_map (contend x) (claimings s.actions)) (claimings s.actions) x (pair a b) (claims_among s a pool instance own a_claims)
    (among_flat (contend x) (claimings s.actions) y (pair a b) (claims_among s b pool instance other b_claims)
    (among_pair_if (nat_eq pool pool && (nat_eq instance instance && (own || other))) a b all))

pub each_contend : (Q : ℕ → ℕ → Type 0) (s : Scenario) → EachPair Q (contentions s) → (a b : ℕ) → Contend s a b → Q a b
each_contend Q s facts a b contend =
    each_pair Q (contentions s) facts a b (contend_among s a b contend.pool contend.instance contend.own contend.other contend.a_claims contend.b_claims contend.by_lock)

-- the first writes a state pool, and the second uses it
abbrev pub writes_used : Referral → Referral → List Pair
writes_used x y = pair_if (is_writer x.flow && ((is_reader y.flow || is_writer y.flow) && nat_eq x.pool y.pool)) x.act y.act

abbrev pub writings : Scenario → List Pair
writings s = flat_map (λ x. flat_map (writes_used x) (referrals s.actions)) (referrals s.actions)

writing_among : (s : Scenario) (a b pool : ℕ) (to : Link) → Writes s a pool to → Uses s b pool → Among (pair a b) (writings s)
writing_among s a b pool to writes (other, inl reads) =
    let x : Referral = record { act = a; flow = StateOut; pool = pool; to = to } in
    let y : Referral = record { act = b; flow = StateIn; pool = pool; to = other } in
    among_flat (λ x. flat_map (writes_used x) (referrals s.actions)) (referrals s.actions) x (pair a b) (refers_among s a StateOut pool to writes)
    (among_flat (writes_used x) (referrals s.actions) y (pair a b) (refers_among s b StateIn pool other reads) (among_pair_if (nat_eq pool pool) a b (eq-eqb pool pool refl)))
writing_among s a b pool to writes (other, inr also) =
    let x : Referral = record { act = a; flow = StateOut; pool = pool; to = to } in
    let y : Referral = record { act = b; flow = StateOut; pool = pool; to = other } in
    among_flat (λ x. flat_map (writes_used x) (referrals s.actions)) (referrals s.actions) x (pair a b) (refers_among s a StateOut pool to writes)
    (among_flat (writes_used x) (referrals s.actions) y (pair a b) (refers_among s b StateOut pool other also) (among_pair_if (nat_eq pool pool) a b (eq-eqb pool pool refl)))

pub each_conflict : (Q : ℕ → ℕ → Type 0) (s : Scenario) → EachPair Q (contentions s) → EachPair Q (writings s) → EachPair (λ a b. Q b a) (writings s) → (a b : ℕ) → Clash s a b → Q a b
each_conflict Q s contended written other_way a b (Resource pool instance own other a_claims b_claims locks) =
    each_pair Q (contentions s) contended a b (contend_among s a b pool instance own other a_claims b_claims locks)
each_conflict Q s contended written other_way a b (FirstWrites pool to writes uses) = each_pair Q (writings s) written a b (writing_among s a b pool to writes uses)
each_conflict Q s contended written other_way a b (SecondWrites pool to uses writes) =
    each_pair (λ a b. Q b a) (writings s) other_way b a (writing_among s b a pool to writes uses)
