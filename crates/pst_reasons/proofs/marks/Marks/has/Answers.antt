use Rattle.std.proofs.Common.{sym, subst, ◌∙◌}
use Rattle.pst_reasons.specs.Marks.{IsMarked}
use Rattle.pst_reasons.proofs.marks.Marks.has.Goals as goal

pub returns-clause-yes : goal.returns-clause-yes
returns-clause-yes c e = subst (λ xs. IsMarked xs c.args.variable) (c.as_slice.ensures.value ∙ c.self.view_is) (c.is_flagged.ensures.yes e)

pub returns-clause-no : goal.returns-clause-no
returns-clause-no c e m = c.is_flagged.ensures.no e (subst (λ xs. IsMarked xs c.args.variable) (sym (c.as_slice.ensures.value ∙ c.self.view_is)) m)
