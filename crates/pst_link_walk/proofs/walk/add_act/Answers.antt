use Rattle.std.proofs.Common.{◌≡◌, ◌∙◌, ◌++◌, ◌∷◌, [], Some, sym, ap, subst, append-nil}
use Rattle.std.specs.Prelude.{slice_get}
use Rattle.pst_scen.specs.declared.act.Act.{Act}
use Rattle.pst_link_walk.specs.News.{act_of}
use Rattle.pst_link_walk.proofs.News.{none_there, some_there}
use Rattle.pst_link_walk.proofs.walk.add_act.Goals as goal

pub returns-in-None : goal.returns-in-None
returns-in-None c =
    let found = c.args.found.now.items in
    sym (ap (λ o. found ++ act_of o) (none_there c.args.acts.now c.args.number c.get.result c.get.ensures.lookup.0 c.in-None.is) ∙ append-nil found)

pub returns-in_ok-push-in-Some : goal.returns-in_ok-push-in-Some
returns-in_ok-push-in-Some c =
    let found = c.args.found.now.items in
    let there : slice_get c.args.acts.now c.args.number ≡ Some c.in-Some.act.now = some_there c.args.acts.now c.args.number c.get.result c.in-Some.act c.get.ensures.lookup.0 c.get.ensures.lookup.1 c.in-Some.is in
    subst (λ o. c.push.new.self.items ≡ found ++ act_of o) (sym there) (c.in_ok-push-in-Some.ensures.items ∙ ap (λ (x : Act). found ++ x ∷ []) c.in_ok-copy_act-in-Some.ensures)
