use Rattle.pst_list_values.proofs.Ties.{refused}
use Rattle.pst_list_values.proofs.OpenHere.{open_here}
use Rattle.pst_list_values.proofs.behind.refusal_at.Goals as goal

pub returns-in_default-clause-open : goal.returns-in_default-clause-open
returns-in_default-clause-open c = λ none whole. open_here c.args.lists.now c.args.behind.now c.requires whole (c.refusal.ensures.none c.in_default.is)

pub returns-clause-conflict : goal.returns-clause-conflict
returns-clause-conflict c =
    refused c.refusals_hold_nothing.ensures c.few_places_conflict.ensures c.args.lists.now c.args.behind.now c.in-Some.places.now c.in_ok-conflict.conflict c.requires c.in-Some.ensures.why c.in_ok-conflict.ensures
