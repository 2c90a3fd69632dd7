use Rattle.std.proofs.Common.{ap, ◌∙◌}
use Rattle.std.specs.HashMap.{get}
use Rattle.pst_numbers.specs.declared.keys.MemberKey.{MemberKey}
use Rattle.pst_numbers.specs.NumberKeys.{same_member_key}
use Rattle.pst_numbers.proofs.numbering.Numbers.rank_in.Goals as goal

pub returns : goal.returns
returns c = λ ds are.
    c.copied.ensures
    ∙ c.get.ensures.value
    ∙ ap (λ (key : MemberKey). get same_member_key c.args.self.now.members key) c.member_key-key.ensures
    ∙ are.of_members c.args.type_ c.args.member.now.name.place
