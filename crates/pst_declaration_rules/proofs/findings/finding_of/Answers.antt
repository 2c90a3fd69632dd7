use Rattle.std.proofs.Common.{ap, ◌∙◌, List, Option, None}
use Rattle.pst_name_rules.specs.Leasts.{least_at}
use Rattle.pst_declaration_rules.specs.declared.member.Member.{Member}
use Rattle.pst_declaration_rules.specs.declared.shape.Shape.{Shape}
use Rattle.pst_declaration_rules.specs.Findings.{findings}
use Rattle.pst_declaration_rules.specs.Judged.{least_finding, locals_of, own_of}
use Rattle.pst_declaration_rules.proofs.Grouping.{locals_are, own_is}
use Rattle.pst_declaration_rules.proofs.findings.finding_of.Goals as goal

pub returns : goal.returns
unfolding least_finding
returns c =
    let k = c.args.known.now in
    let d = c.args.declaration.now in
    let start = c.in-Some.start in (
      start,
      c.start_of.ensures start c.in-Some.is,
      c.finding_by.ensures
          ∙ (ap (λ (ms : List Member). least_at (λ o. o) (findings k.index.now d start ms c.group_at-locals.result.now c.shape_at-shape.result) None) (c.group_at-own.ensures ∙ own_is k c.requires.known d)
          ∙ (ap (λ (ms : List Member). least_at (λ o. o) (findings k.index.now d start (own_of k d) ms c.shape_at-shape.result) None) (c.group_at-locals.ensures ∙ locals_are k c.requires.known d)
          ∙ ap (λ (s : Option Shape). least_at (λ o. o) (findings k.index.now d start (own_of k d) (locals_of k d) s) None) c.shape_at-shape.ensures)),
    )
