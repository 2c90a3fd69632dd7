use Rattle.std.proofs.Common.{◌≡◌, drop}
use Rattle.std.specs.Prelude.{not, nat_eq}
use Rattle.std.specs.List.{list_any}
use Rattle.pst_bind.proofs.choices.choice_of.Given as goal

abbrev pub invariant-loop-other : goal.invariant-loop-other
invariant-loop-other l = list_any (λ q. not (nat_eq q l.first)) (drop l.other-index l.more) ≡ list_any (λ q. not (nat_eq q l.first)) l.more
