use Rattle.std.proofs.Common.{◌≡◌, ◌++◌, ◌-◌, map}
use Rattle.std.specs.Prelude.{Some}
use Rattle.pst_elab_rules.specs.Types.{field}
use Rattle.pst_terms.specs.Fields.{counted}
use Rattle.pst_model_fields.proofs.fields.add_elements.Given as goal

abbrev pub invariant-loop-element : goal.invariant-loop-element
invariant-loop-element l =
    l.found.items ++ map (λ i. field l.name l.domain (Some i)) (counted l.element (l.size - l.element))
    ≡ l.initial.found.items ++ map (λ i. field l.name l.domain (Some i)) (counted 0 l.size)
