-- A first legal scenario is one that the calls on it ask for.
use Rattle.std.proofs.Common.{◌≡◌, ℕ, refl, sym, subst}
use Rattle.std.specs.Prelude.{Option, IsSome, Some}
use Rattle.pst_model.specs.ModelTree.{ModelTree}
use Rattle.pst_model.specs.Sound.{IsSound}
use Rattle.pst_scen.specs.declared.scenario.Scenario.{Scenario}
use Rattle.pst_scen.specs.Plan.{Entries}
use Rattle.pst_scen.specs.Plans.{IsPlanOf}
use Rattle.pst_legal.specs.First.{IsFirst}
use Rattle.pst_legal.specs.Shape.{HasShape}
use Rattle.pst_body.specs.Ran.{HasTypes}
use Rattle.pst_built.specs.Laws.{WholeReadingsAreBuilt}
use Rattle.pst_model_answers.specs.Ready.{IsReady}

there : {A : Type 0} (o : Option A) (x : A) → o ≡ Some x → IsSome o
there o x is = subst (λ (p : Option _). IsSome p) (sym is) refl

-- the types of a scenario that fits in shape are there
types_of : (m : ModelTree) (s : Scenario) → HasShape m s → HasTypes m s
types_of m s shape a act is = let own = shape.acts a act is in there _ own.type own.is

pub ready : (m : ModelTree) (root seed infer : ℕ) (s : Scenario) (plan : Entries) → WholeReadingsAreBuilt → IsSound m → IsFirst m root seed infer s → IsPlanOf s plan → IsReady m s plan
ready m root seed infer s plan law sound first planned =
    let built = (law m root seed s.level first.choices s first.reads.reads).0 in record {
      sound = sound;
      types = types_of m s first.reads.legal.shape;
      links = built.linked.states;
      planned = planned;
      preorder = built.linked.preorder;
      one_leaf = built.linked.one_leaf;
      small = built.small.acts;
    }
