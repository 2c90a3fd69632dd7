use Rattle.std.proofs.Common.{[], refl, sym, subst}
use Rattle.std.specs.Prelude.{IfSome}
use Rattle.pst_list_values.specs.Tied.{IsRefusal, IsOpenAt}
use Rattle.pst_list_values.proofs.Steps.{refusal_none}
use Rattle.pst_list_values.proofs.behind.Behind.refusal.Goals as goal

pub returns-in-None-clause-why : goal.returns-in-None-clause-why
returns-in-None-clause-why c = refusal_none c.args.self.now.valued [] c.in-None.is refl

pub returns-in-Some-clause-why : goal.returns-in-Some-clause-why
returns-in-Some-clause-why c = subst (λ o. IfSome c.refusal.result (λ places. IsRefusal o places.now)) (sym c.in-Some.is) c.refusal.ensures.why

pub returns-in-Some-clause-none : goal.returns-in-Some-clause-none
returns-in-Some-clause-none c = λ e. subst IsOpenAt (sym c.in-Some.is) (c.refusal.ensures.none e)
