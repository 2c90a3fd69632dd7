use Rattle.std.proofs.Common.{◌≡◌, ◌++◌, drop, map}
use Rattle.pst_elab_rules.specs.Types as tree
use Rattle.pst_sources.specs.Shown.{sources_of}
use Rattle.pst_terms.specs.Sources.{declared_in}
use Rattle.pst_model_members.proofs.needs.add_references.Given as goal

abbrev pub invariant-loop-declaration : goal.invariant-loop-declaration
invariant-loop-declaration l =
    l.found.items ++ map (tree.reference (declared_in (sources_of l.numbered))) (drop l.declaration-index l.declarations)
    ≡ l.initial.found.items ++ map (tree.reference (declared_in (sources_of l.numbered))) l.declarations
