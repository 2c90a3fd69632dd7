use Rattle.std.proofs.Common.{◌≡◌, subst, Bool, true, false}
use Rattle.pst_model.specs.ModelTree.{ModelTree}
use Rattle.pst_model.specs.ModelView.{view_model}
use Rattle.pst_scen.specs.declared.scenario.Scenario.{Scenario}
use Rattle.pst_search.specs.Judging.{TellsHolding, TellsPlan, TellsLegal}
use Rattle.pst_search.proofs.judging.judge.Goals as goal

not_held : (m : ModelTree) (s : Scenario) (b : Bool) → b ≡ false → TellsHolding m s b → TellsLegal m s false
not_held m s b off told = λ holds unrefused. subst (TellsHolding m s) off told holds

both : (m : ModelTree) (s : Scenario) (b p : Bool) → b ≡ true → TellsHolding m s b → TellsPlan s p → TellsLegal m s p
both m s b true on held planned = (subst (TellsHolding m s) on held, planned)
both m s b false on held planned = λ holds unrefused. planned.1 unrefused

pub returns-then-not-hold : goal.returns-then-not-hold
returns-then-not-hold c = not_held (view_model c.args.model.now) c.args.scenario.now c.in_ok-hold.hold c.if-not-hold.true c.in_ok-hold.ensures

pub returns-then-known : goal.returns-then-known
returns-then-known c = both (view_model c.args.model.now) c.args.scenario.now c.in_ok-hold.hold true c.if-not-hold.false c.in_ok-hold.ensures (c.requires.known c.if-known.true)

pub returns : goal.returns
returns c = both (view_model c.args.model.now) c.args.scenario.now c.in_ok-hold.hold c.in_ok-planned.planned c.if-not-hold.false c.in_ok-hold.ensures c.in_ok-planned.ensures
