-- What is known stays as a list of choices grows.
use Rattle.std.specs.Prelude.{ℕ, List, ◌++◌}
use Rattle.pst_model.specs.ModelTree.{ModelTree}
use Rattle.pst_scen.specs.declared.scenario.Scenario.{Scenario}
use Rattle.pst_legal.specs.ValueReading.{read}
use Rattle.pst_built.specs.SoFar.{HasRead}
use Rattle.pst_built.specs.Onward.{Onward}

-- What a longer list reads goes on from what the list has read: nodes, actions, links and all values stay, and more is known.
abbrev pub LongerListsKeepWhatIsKnown : Type 0
LongerListsKeepWhatIsKnown =
    (m : ModelTree) (root seed level : ℕ) (choices more : List ℕ) (s t : Scenario)
    → HasRead (read m root seed level choices) s → HasRead (read m root seed level (choices ++ more)) t → Onward s t
