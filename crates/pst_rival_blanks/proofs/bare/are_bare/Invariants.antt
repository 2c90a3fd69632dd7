use Rattle.std.proofs.Common.{ℕ, ◌<◌, get_or}
use Rattle.pst_scen.specs.declared.act.Act.{Act}
use Rattle.pst_blank_values.specs.Values.{IsBareAct}
use Rattle.pst_rival_blanks.proofs.bare.are_bare.Given as goal

abbrev pub invariant-loop-act : goal.invariant-loop-act
invariant-loop-act l = (k : ℕ) (d : Act) → k < l.act-index → IsBareAct (get_or l.acts k d)
