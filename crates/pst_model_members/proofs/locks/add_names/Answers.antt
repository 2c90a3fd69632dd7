use Rattle.std.proofs.Common.{◌≡◌, ◌++◌, List, OnOk, arith, sym, subst}
use Rattle.std.proofs.lemmas.Grind.{common_steps}
use Rattle.pst_base.specs.declared.position.Place.{Place}
use Rattle.pst_model_members.proofs.Locking.{names_are}
use Rattle.pst_model_members.proofs.locks.add_names.Goals as goal

pub returns : goal.returns
returns c =
    subst (λ (ps : List Place). OnOk c.add_rest.result (c.add_rest.new.found.items ≡ c.args.found.now.items ++ ps)) (sym (names_are c.args.names.now)) (grind (arith, common_steps))
