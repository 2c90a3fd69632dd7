-- A scenario that goes on from another: what was read stays, and more is known.
use Rattle.std.proofs.Common.{◌≡◌, ◌⊎◌, ℤ, List, Option, Some, None, refl, sym, ap, ◌∙◌, subst, inl, inr, ⊎_elim}
use Rattle.std.specs.Prelude.{slice_get}
use Rattle.pst_scen.specs.declared.tree.Node.{Node}
use Rattle.pst_scen.specs.declared.tree.Fill.{Fill}
use Rattle.pst_scen.specs.declared.tree.Fill.TheVariants as fill
use Rattle.pst_scen.specs.declared.act.Act.{Act}
use Rattle.pst_scen.specs.declared.act.Filled.{Filled}
use Rattle.pst_scen.specs.declared.act.Claimed.{Claimed}
use Rattle.pst_scen.specs.declared.scenario.Scenario.{Scenario}
pub use Rattle.pst_built.specs.Onward.{Keeps, Each, Both, Row, MoreFilled, MoreClaimed, MoreAct, MoreValues, MoreNode, Onward}

-- ---- nothing more, and more after more

pub keeps_same : (xs : List ℤ) → Keeps xs xs
keeps_same xs k v e = e

pub each_same : {A : Type 0} (G : A → A → Type 0) → ((x : A) → G x x) → (xs : List A) → Each G xs xs
each_same G g xs k x e = (x, e, g x)

pub both_same : {A : Type 0} (G : A → A → Type 0) → ((x : A) → G x x) → (o : Option A) → Both G o o
both_same G g None = tt
both_same G g (Some x) = g x

pub row_same : {A : Type 0} (G : A → A → Type 0) → ((x : A) → G x x) → (xs : List A) → Row G xs xs
row_same G g xs k = both_same G g (slice_get xs k)

pub each_then : {A : Type 0} (G : A → A → Type 0) → ((x y z : A) → G x y → G y z → G x z) → (xs ys zs : List A) → Each G xs ys → Each G ys zs → Each G xs zs
each_then G g xs ys zs one other k x e =
    let a = one k x e in
    let b = other k a.0 a.1 in
    (b.0, b.1, g x a.0 b.0 a.2 b.2)

pub both_then : {A : Type 0} (G : A → A → Type 0) → ((x y z : A) → G x y → G y z → G x z) → (o p q : Option A) → Both G o p → Both G p q → Both G o q
both_then G g None None None one other = tt
both_then G g None None (Some z) one other = other
both_then G g None (Some y) q one other = absurd one
both_then G g (Some x) None q one other = absurd one
both_then G g (Some x) (Some y) None one other = other
both_then G g (Some x) (Some y) (Some z) one other = g x y z one other

pub row_then : {A : Type 0} (G : A → A → Type 0) → ((x y z : A) → G x y → G y z → G x z) → (xs ys zs : List A) → Row G xs ys → Row G ys zs → Row G xs zs
row_then G g xs ys zs one other k = both_then G g (slice_get xs k) (slice_get ys k) (slice_get zs k) (one k) (other k)

pub filled_same : (f : Filled) → MoreFilled f f
filled_same f = record { pool = refl; flow = refl; values = λ k v e. e; link = inr refl }

pub filled_then : (f g h : Filled) → MoreFilled f g → MoreFilled g h → MoreFilled f h
filled_then f g h one other = record {
  pool = other.pool ∙ one.pool;
  flow = other.flow ∙ one.flow;
  values = λ k v e. other.values k v (one.values k v e);
  link = ⊎_elim (λ e. inl e) (λ e. ⊎_elim (λ d. inl (sym e ∙ d)) (λ d. inr (d ∙ e)) other.link) one.link;
}

pub claimed_same : (c : Claimed) → MoreClaimed c c
claimed_same c = record { instance = refl; values = λ k v e. e }

pub claimed_then : (c d e : Claimed) → MoreClaimed c d → MoreClaimed d e → MoreClaimed c e
claimed_then c d e one other = record { instance = other.instance ∙ one.instance; values = λ k v h. other.values k v (one.values k v h) }

pub act_same : (x : Act) → MoreAct x x
act_same x = record {
  action = refl;
  instance = refl;
  fields = λ k v e. e;
  references = row_same MoreFilled filled_same x.references;
  claims = each_same MoreClaimed claimed_same x.claims;
}

pub act_then : (x y z : Act) → MoreAct x y → MoreAct y z → MoreAct x z
act_then x y z one other = record {
  action = other.action ∙ one.action;
  instance = other.instance ∙ one.instance;
  fields = λ k v e. other.fields k v (one.fields k v e);
  references = row_then MoreFilled filled_then x.references y.references z.references one.references other.references;
  claims = each_then MoreClaimed claimed_then x.claims y.claims z.claims one.claims other.claims;
}

pub node_same : (x : Node) → MoreNode x x
node_same x = record { parent = refl; fill = inl refl }

values_then : (f g h : Fill) → MoreValues f g → MoreValues g h → MoreValues f h
values_then f g h one other =
    let both : fill.Compound one.action one.instance one.new ≡ fill.Compound other.action other.instance other.old = sym one.is ∙ other.was in
    let a : one.action ≡ other.action = cc in
    let i : one.instance ≡ other.instance = cc in
    let v : one.new ≡ other.old = cc in
    record {
      action = one.action;
      instance = one.instance;
      old = one.old;
      new = other.new;
      was = one.was;
      is = other.is ∙ sym (ap (λ x. fill.Compound x one.instance other.new) a ∙ ap (λ x. fill.Compound other.action x other.new) i);
      keeps = λ k w e. other.keeps k w (subst (λ xs. slice_get xs k ≡ Some w) v (one.keeps k w e));
    }

fill_then : (f g h : Fill) → (g ≡ f) ⊎ MoreValues f g → (h ≡ g) ⊎ MoreValues g h → (h ≡ f) ⊎ MoreValues f h
fill_then f g h (inl e) (inl d) = inl (d ∙ e)
fill_then f g h (inl e) (inr o) = inr (subst (λ x. MoreValues x h) e o)
fill_then f g h (inr o) (inl d) = inr (subst (λ x. MoreValues f x) (sym d) o)
fill_then f g h (inr o) (inr p) = inr (values_then f g h o p)

pub node_then : (x y z : Node) → MoreNode x y → MoreNode y z → MoreNode x z
node_then x y z one other = record { parent = other.parent ∙ one.parent; fill = fill_then x.fill y.fill z.fill one.fill other.fill }

pub onward_same : (s : Scenario) → Onward s s
onward_same s = record {
  nodes = each_same MoreNode node_same s.nodes;
  branches = λ top index n e. e;
  acts = each_same MoreAct act_same s.actions;
  firsts = λ pool k v e. e;
}

pub onward_then : (s t u : Scenario) → Onward s t → Onward t u → Onward s u
onward_then s t u one other = record {
  nodes = each_then MoreNode node_then s.nodes t.nodes u.nodes one.nodes other.nodes;
  branches = λ top index n e. other.branches top index n (one.branches top index n e);
  acts = each_then MoreAct act_then s.actions t.actions u.actions one.acts other.acts;
  firsts = λ pool k v e. other.firsts pool k v (one.firsts pool k v e);
}
