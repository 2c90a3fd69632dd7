-- What is known of what is read so far.
use Rattle.std.specs.Prelude.{ℕ, List, ◌++◌}
use Rattle.pst_model.specs.ModelTree.{ModelTree}
use Rattle.pst_model.specs.Sound.{IsSound}
use Rattle.pst_scen.specs.declared.scenario.Scenario.{Scenario}
use Rattle.pst_legal.specs.ValueReading.{read}
use Rattle.pst_built.specs.Laws.{IsConcreteRoot}
use Rattle.pst_built.specs.SoFar.{HasRead}
use Rattle.pst_built.specs.Known.{InDomains}
use Rattle.pst_built.specs.Refused.{SomeRefused}

-- What is known of whatever a list of choices has read lies in its domains.
abbrev pub ReadValuesAreInDomains : Type 0
ReadValuesAreInDomains =
    (m : ModelTree) (root seed level : ℕ) (choices : List ℕ) (s : Scenario) → IsSound m → IsConcreteRoot m root → HasRead (read m root seed level choices) s → InDomains m s

-- Where a constraint is refused at what a list has read, one is refused at what a longer list has read.
abbrev pub RefusalsStayRefused : Type 0
RefusalsStayRefused =
    (m : ModelTree) (root seed level : ℕ) (choices more : List ℕ) (s t : Scenario) → IsSound m → IsConcreteRoot m root
    → HasRead (read m root seed level choices) s → HasRead (read m root seed level (choices ++ more)) t → SomeRefused m s → SomeRefused m t
