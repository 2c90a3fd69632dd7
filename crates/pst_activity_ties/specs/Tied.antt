-- The ends of binds, and the binds of several.
use Rattle.std.specs.Prelude.{List}
use Rattle.std.specs.List.{flat_map}
use Rattle.pst_ast.specs.declared.activity.EndNode.{EndNode}
use Rattle.pst_ast.specs.declared.activity.NextEnd.{NextEnd}
use Rattle.pst_ast.specs.ActivityTree.{BindTree}
use Rattle.pst_model.specs.declared.activity.Tie.{Tie}
use Rattle.pst_terms.specs.Sources.{Sources}
use Rattle.pst_terms.specs.Readings.{Setting}
use Rattle.pst_elab_rules.specs.Ties.{ties_of}

abbrev pub end_in : NextEnd → EndNode
end_in next = next.end

abbrev pub tied : Sources → Setting → List BindTree → List Tie
tied s setting binds = flat_map (ties_of s setting) binds
