use Rattle.std.proofs.Common.{◌≡◌, ◌++◌, List, ap, sym, ◌∙◌}
use Rattle.pst_bind.specs.Pools.{component_of}
use Rattle.pst_model.specs.declared.model.Pool.{Pool}
use Rattle.pst_ast.specs.declared.scope_declaration.Declaration.{Declaration}
use Rattle.pst_sources.specs.Shown.{Shown, sources_of}
use Rattle.pst_terms.specs.Sources.{declared_in}
use Rattle.pst_type_rules.specs.Members.{own_members}
use Rattle.pst_model_pools.proofs.Pooled.{instance_pools}
use Rattle.pst_model_pools.proofs.pools.add_instance.Goals as goal

pub returns-in_ok-add_row-in-Some : goal.returns-in_ok-add_row-in-Some
returns-in_ok-add_row-in-Some c =
    let s = sources_of c.args.numbered.now in
    let same = ap (λ (x : Shown). declared_in (sources_of x)) (c.known-known.ensures ∙ c.sources.ensures) in
    c.in_ok-add_row-in-Some.ensures
    ∙ ap (λ (l : List Pool). c.args.found.now.items ++ l)
    (sym (instance_pools s c.args.number (declared_in s) c.args.instance.now c.in-Some.component c.own-row.result.now
    (c.in-Some.ensures ∙ ap (λ (l : List Declaration). component_of l c.args.instance.now) (c.index.ensures ∙ same))
    (c.own-row.ensures ∙ ap (λ (l : List Declaration). own_members l c.in-Some.component) (c.members.ensures ∙ same))))
