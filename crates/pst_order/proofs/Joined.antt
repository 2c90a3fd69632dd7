-- Groups, conflicts and links.
use Rattle.std.proofs.Common.{◌≡◌, ℕ, ◌<◌, length, Option, Some, sym, ap, ◌∙◌, subst, inl, inr, ⊎_elim}
use Rattle.std.proofs.lemmas.Option.{slice_get_within}
use Rattle.pst_scen.specs.declared.act.Flow.{Flow}
use Rattle.pst_scen.specs.declared.act.Link.{Link}
use Rattle.pst_scen.specs.declared.act.Link.TheVariants as link
use Rattle.pst_scen.specs.declared.scenario.Scenario.{Scenario}
use Rattle.pst_scen.specs.Flows.{Refers, Streams, FromFirst, FromSecond, LeadsTo}
use Rattle.pst_scen.specs.Order.{Together, Itself, Linked, Must, Directly, Through}
use Rattle.pst_scen.specs.Conflicts.{Clash, Resource, FirstWrites, SecondWrites, Conflict, Uses}
use Rattle.pst_scen.specs.Trace.{Names}

pub streams_back : (s : Scenario) (a b : ℕ) → Streams s a b → Streams s b a
streams_back s a b (FromFirst pool reference flow is refers) = FromSecond pool reference flow is refers
streams_back s a b (FromSecond pool reference flow is refers) = FromFirst pool reference flow is refers

pub group_along : {s : Scenario} {a b c : ℕ} → Together s a b → Together s b c → Together s a c
group_along g Itself = g
group_along g (Linked b c h l) = Linked b c (group_along g h) l

pub group_back : {s : Scenario} {a b : ℕ} → Together s a b → Together s b a
group_back Itself = Itself
group_back {s = s} (Linked b c h l) = group_along (Linked c b Itself (streams_back s b c l)) (group_back h)

-- what must come before an action must come before its whole group
pub must_along : {s : Scenario} {a b c : ℕ} → Must s a b → Together s b c → Must s a c
must_along {c = c} (Directly a x b d g) h = Directly a x c d (group_along (group_back h) g)
must_along {c = c} (Through a m b p q) h = Through a m c p (must_along q h)

-- who has a reference is an action of the scenario
pub refers_in : {s : Scenario} {a pool : ℕ} {flow : Flow} {to : Link} → Refers s a flow pool to → a < length s.actions
refers_in {s = s} {a = a} r = slice_get_within s.actions a r.act r.is_act

pub uses_in : {s : Scenario} {a pool : ℕ} → Uses s a pool → a < length s.actions
uses_in u = ⊎_elim (λ r. refers_in r) (λ w. refers_in w) u.1

pub clash_in : {s : Scenario} {a b : ℕ} → Clash s a b → (a < length s.actions) × (b < length s.actions)
clash_in {s = s} {a = a} {b = b} (Resource pool instance own other c d h) =
    (slice_get_within s.actions a c.is.act c.is.is_act, slice_get_within s.actions b d.is.act d.is.is_act)
clash_in (FirstWrites pool to w u) = (refers_in w, uses_in u)
clash_in (SecondWrites pool to u w) = (uses_in u, refers_in w)

pub clash_back : {s : Scenario} {a b : ℕ} → Clash s a b → Clash s b a
clash_back (Resource pool instance own other c d h) = Resource pool instance other own d c (⊎_elim (λ k. inr k) (λ k. inl k) h)
clash_back (FirstWrites pool to w u) = SecondWrites pool to u w
clash_back (SecondWrites pool to u w) = FirstWrites pool to w u

pub conflict_back : (s : Scenario) (a b : ℕ) → Conflict s a b → Conflict s b a
conflict_back s a b h = (λ e. h.0 (sym e), clash_back h.1)

-- LINKS

-- a link names one writer
pub names_one : (to : Link) (p q : Option ℕ) → Names to p → Names to q → p ≡ q
names_one link.Nothing p q m n = absurd m
names_one link.Initial p q m n = m ∙ sym n
names_one (link.Act a reference) p q m n = m ∙ sym n

-- a link that names a writer leads to it
pub names_leads : (to : Link) (a : ℕ) → Names to (Some a) → LeadsTo to a
names_leads link.Nothing a m = absurd m
names_leads link.Initial a m = cc
names_leads (link.Act b reference) a m = let e : b ≡ a = cc in (reference, ap (λ x. link.Act x reference) e)

-- a link that leads to an action names it
pub leads_names : (to : Link) (a : ℕ) (last : Option ℕ) → LeadsTo to a → Names to last → last ≡ Some a
leads_names to a last l n = subst (λ t. Names t last) l.1 n
