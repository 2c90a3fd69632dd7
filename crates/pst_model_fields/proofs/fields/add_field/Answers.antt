use Rattle.std.proofs.Common.{◌≡◌, ◌++◌, ℕ, List, Option, subst}
use Rattle.std.specs.Prelude.{OnOk}
use Rattle.pst_expr.specs.declared.ranges.Span.{Span}
use Rattle.pst_elab_rules.specs.Types.{elements_of}
use Rattle.pst_sources.specs.Shown.{sources_of}
use Rattle.pst_terms.specs.Fields.{size_of}
use Rattle.pst_type_rules.specs.Sites.{fields}
use Rattle.pst_model_fields.proofs.fields.add_field.Goals as goal

pub returns-in-Some : goal.returns-in-Some
returns-in-Some c =
    subst (λ (d : List Span). OnOk c.add_sized.result (c.add_sized.new.found.items ≡ c.args.found.now.items ++ elements_of c.args.field.now.name d (size_of (sources_of c.args.known.now) c.args.field.now)))
    (c.in-Some.ensures (fields (sources_of c.args.known.now).units) c.requires)
    (subst (λ (n : Option ℕ). OnOk c.add_sized.result (c.add_sized.new.found.items ≡ c.args.found.now.items ++ elements_of c.args.field.now.name c.in-Some.domain.now n)) c.size_of.ensures c.add_sized.ensures)
