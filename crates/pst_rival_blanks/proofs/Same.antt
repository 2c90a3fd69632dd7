-- What starts together, or stands in different branches, does so whatever the values are.
use Rattle.std.proofs.Common.{◌≡◌, ℕ, Some, refl, sym, ◌∙◌, subst}
use Rattle.std.specs.Prelude.{slice_get}
use Rattle.pst_scen.specs.declared.act.Flow.{Flow}
use Rattle.pst_scen.specs.declared.act.Link.{Link}
use Rattle.pst_scen.specs.declared.scenario.Scenario.{Scenario}
use Rattle.pst_scen.specs.Tree.{IsNode, IsChild, Contains-act}
use Rattle.pst_scen.specs.Flows.{Refers, Streams, FromFirst, FromSecond}
use Rattle.pst_scen.specs.Order.{Together, Itself, Linked}
use Rattle.pst_scen.specs.Plans.{StandParallel}
use Rattle.pst_blank_values.specs.Values.{IsSameReference, IsSameAct, IsSameButValues}
use Rattle.pst_claim_rivals.specs.declared.claims.OpenClaim.{OpenClaim}
use Rattle.pst_claim_rivals.specs.Rivals.{Meet, Alone, Grouped, Beside, AreRivals}
use Rattle.pst_claim_rivals.proofs.Lists.{after}

module _ (u t : Scenario) (same : IsSameButValues u t) where
  refers : (a pool : ℕ) (flow : Flow) (to : Link) → Refers u a flow pool to → Refers t a flow pool to
  refers a pool flow to r =
      let y = after IsSameAct r.act (slice_get u.actions a) (slice_get t.actions a) r.is_act (same.acts a) in
      let g = after IsSameReference r.filled (slice_get r.act.references r.reference) (slice_get y.0.references r.reference) r.is (y.2.references r.reference) in
      record { act = y.0; reference = r.reference; filled = g.0; is_act = y.1; is = g.1; of_flow = g.2.flow ∙ r.of_flow; of_pool = g.2.pool ∙ r.of_pool; linked = g.2.link ∙ r.linked }

  streams : (a b : ℕ) → Streams u a b → Streams t a b
  streams a b (FromFirst pool reference flow is r) = FromFirst pool reference flow is (refers a pool flow _ r)
  streams a b (FromSecond pool reference flow is r) = FromSecond pool reference flow is (refers b pool flow _ r)

  together : (a b : ℕ) → Together u a b → Together t a b
  together a _ Itself = Itself
  together a _ (Linked b c g l) = Linked b c (together a b g) (streams b c l)

  parallel : (a b : ℕ) → StandParallel u a b → StandParallel t a b
  parallel a b p =
      let e = sym same.nodes in
      record {
        block = p.block;
        node = p.node;
        is = subst (λ ns. IsNode ns p.block p.node) e p.is;
        parallel = p.parallel;
        a_branch = p.a_branch;
        b_branch = p.b_branch;
        different = p.different;
        a_child = subst (λ ns. IsChild ns p.a_branch p.block) e p.a_child;
        b_child = subst (λ ns. IsChild ns p.b_branch p.block) e p.b_child;
        a_inside = subst (λ ns. Contains-act ns p.a_branch a) e p.a_inside;
        b_inside = subst (λ ns. Contains-act ns p.b_branch b) e p.b_inside;
      }

  meet : (x y : OpenClaim) → Meet u x y → Meet t x y
  meet x y (Alone one other) = Alone one other
  meet x y (Grouped apart g) = Grouped apart (together x.act y.act g)
  meet x y (Beside apart p) = Beside apart (parallel x.act y.act p)

  pub rivals_same : (x y : OpenClaim) → AreRivals u x y → AreRivals t x y
  rivals_same x y r = record { on_pool = r.on_pool; by_lock = r.by_lock; meet = meet x y r.meet }
