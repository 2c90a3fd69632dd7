use Rattle.std.proofs.Common.{subst}
use Rattle.std.proofs.lemmas.Option.{get_or_from_slice_get}
use Rattle.pst_declaration_rules.specs.declared.member.Member.{Member}
use Rattle.pst_declaration_rules.specs.Tallied.{IsTallied}
use Rattle.pst_declaration_rules.proofs.tallies.tally_at.Goals as goal

pub returns : goal.returns
returns c t is m there = subst (λ (x : Member). IsTallied c.args.known.now x.declaration t) (get_or_from_slice_get c.args.known.now.members.now c.args.at m _ there) (c.tally_of.ensures t is)
