use Rattle.std.proofs.Common.{sym, subst, ◌∙◌}
use Rattle.pst_declaration_rules.specs.Tallied.{IsStart}
use Rattle.pst_declaration_rules.proofs.Tallying.{some_is, start_kept, start_nothing}
use Rattle.pst_declaration_rules.proofs.tally.start_of.Goals as goal

pub returns-in-None : goal.returns-in-None
returns-in-None c t is =
    subst (IsStart c.args.known.now c.args.declaration.now) (sym c.nothing.ensures ∙ some_is c.nothing.result t is)
    (start_nothing c.args.known.now c.args.declaration.now (sym c.base_of.ensures ∙ c.in-None.is))

pub returns-in-Some : goal.returns-in-Some
returns-in-Some c t is = start_kept c.args.known.now c.args.declaration.now c.in-Some.base t (sym c.base_of.ensures ∙ c.in-Some.is) (c.kept.ensures t is)
