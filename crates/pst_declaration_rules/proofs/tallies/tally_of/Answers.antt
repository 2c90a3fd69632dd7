use Rattle.std.proofs.Common.{sym, ap, subst, ◌∙◌, List, Option}
use Rattle.pst_declaration_rules.specs.declared.member.Member.{Member}
use Rattle.pst_declaration_rules.specs.declared.shape.Shape.{Shape}
use Rattle.pst_declaration_rules.specs.Judged.{own_of}
use Rattle.pst_declaration_rules.specs.Tallied.{IsTallied}
use Rattle.pst_declaration_rules.specs.Tallies.{with_own}
use Rattle.pst_declaration_rules.proofs.Grouping.{own_is}
use Rattle.pst_declaration_rules.proofs.Tallying.{some_is, tallied}
use Rattle.pst_declaration_rules.proofs.tallies.tally_of.Goals as goal

pub returns-in-Some : goal.returns-in-Some
returns-in-Some c t is =
    let k = c.args.known.now in
    let d = c.args.declaration.now in
    let start = c.in-Some.start in
    let same =
    c.with_own.ensures
    ∙ (ap (λ (ms : List Member). with_own start ms c.shape_at-shape.result) (c.group_at-own.ensures ∙ own_is k c.requires.known d)
    ∙ ap (λ (s : Option Shape). with_own start (own_of k d) s) c.shape_at-shape.ensures) in
    subst (IsTallied k d) (sym same ∙ some_is c.with_own.result t is) (tallied k c.requires.known d start (c.start_of.ensures start c.in-Some.is))
