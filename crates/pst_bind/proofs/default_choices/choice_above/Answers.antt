use Rattle.std.proofs.Common.{◌≡◌, sym, ◌∙◌}
use Rattle.pst_bind.specs.Choices.{default_choice}
use Rattle.pst_bind.proofs.Made.{choice_of_parent, if_some}
use Rattle.pst_bind.proofs.default_choices.choice_above.Goals as goal

pub returns-in-Some : goal.returns-in-Some
returns-in-Some c =
    let rows = c.args._rows.now in
    let instances = c.args.table.now in
    let parent = c.in-Some.parent in
    if_some (λ made. made ≡ default_choice rows instances c.args._place c.args.number) c.made_before.result
    (λ made is. choice_of_parent rows instances c.args._place c.args.number parent made c.requires.behind c.requires.within (sym c.parent_of.ensures ∙ c.in-Some.is) c.requires.empty
    (c.requires.before parent made (sym c.made_before.ensures ∙ is)))
