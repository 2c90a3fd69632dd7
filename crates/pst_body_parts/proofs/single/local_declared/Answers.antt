use Rattle.std.proofs.Common.{ap, ◌∙◌}
use Rattle.pst_elab_rules.specs.Bodies.{local_of}
use Rattle.pst_path_readings.specs.Set.{view_setting}
use Rattle.pst_sources.specs.Shown.{Shown, sources_of}
use Rattle.pst_terms.specs.Readings.{Setting}
use Rattle.pst_body_parts.specs.Listed.{without_inner}
use Rattle.pst_body_parts.proofs.single.local_declared.Goals as goal

pub returns-clause-number : goal.returns-clause-number
returns-clause-number c =
    c.in_ok-number.ensures
    ∙ ap (λ (x : Shown). local_of (sources_of x) (view_setting c.enter_local.new.setting) c.args.name) c.sources.ensures
    ∙ ap (λ (st : Setting). local_of (sources_of c.args.numbered.now) st c.args.name) c.in_ok-enter_local.ensures

pub returns-clause-kept : goal.returns-clause-kept
returns-clause-kept c = c.leave_locals.ensures ∙ ap (without_inner 1) c.in_ok-enter_local.ensures
