use Rattle.std.proofs.Common.{arith, ◌≡◌, List, Option, length, sym, subst}
use Rattle.std.proofs.lemmas.Grind.{common_steps}
use Rattle.std.proofs.lemmas.List.{with_items_is}
use Rattle.pst_declaration_rules.specs.declared.tally.Tally.{Tally}
use Rattle.pst_declaration_rules.specs.Tallied.{AreTallied}
use Rattle.pst_declaration_rules.proofs.tallies.tallies_of.Goals as goal

pub returns : goal.returns
returns c =
    let long : length c.settle_all.new.tallies ≡ c.in_ok-tallies.tallies.len = grind (arith, common_steps) in
    subst (λ (ts : List (Option Tally)). AreTallied c.args.known.now ts) (sym (with_items_is c.in_ok-tallies.tallies c.settle_all.new.tallies long)) c.in_ok-settle_all.ensures
