-- What is known ahead of links that are read.
use Rattle.std.specs.Prelude.{ℕ, List, ◌++◌}
use Rattle.pst_model.specs.ModelTree.{ModelTree}
use Rattle.pst_scen.specs.declared.scenario.Scenario.{Scenario}
use Rattle.pst_scen.specs.Order.{Must}
use Rattle.pst_legal.specs.ValueReading.{read}
use Rattle.pst_legal.specs.First.{ReadsLegal}
use Rattle.pst_built.specs.SoFar.{HasRead}
use Rattle.pst_built.specs.OrderStaysLaws.{IsBarren}
use Rattle.pst_order_ahead.specs.LaidOut.{IsLaidOut, ReadsTree}
use Rattle.pst_order_ahead.specs.Ahead.{MustAhead, IsRefusedAhead}

-- Once a list has read the activity, what it has read is laid out, whatever its links.
abbrev pub TreesAreLaidOut : Type 0
TreesAreLaidOut =
    (m : ModelTree) (root seed level : ℕ) (choices : List ℕ) (s : Scenario) → ReadsTree m root seed level choices → HasRead (read m root seed level choices) s → IsLaidOut s

-- What must come before an action ahead does so in each legal scenario that a longer list reads.
abbrev pub MustAheadComes : Type 0
MustAheadComes =
    (m : ModelTree) (root seed level : ℕ) (choices more : List ℕ) (s t : Scenario) (a b : ℕ)
    → HasRead (read m root seed level choices) s → ReadsLegal m root seed level (choices ++ more) t → MustAhead s a b → Must t a b

-- Where what a list has read is refused ahead, no longer list reads a legal scenario.
abbrev pub RefusalsAheadStay : Type 0
RefusalsAheadStay =
    (m : ModelTree) (root seed level : ℕ) (choices : List ℕ) (s : Scenario) → HasRead (read m root seed level choices) s → IsRefusedAhead s → IsBarren m root seed level choices
