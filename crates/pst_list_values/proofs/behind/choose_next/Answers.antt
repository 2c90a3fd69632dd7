use Rattle.pst_list_values.proofs.Steps.{same_chosen, same_kept}
use Rattle.pst_list_values.proofs.Ties.{tied_further}
use Rattle.pst_list_values.proofs.behind.choose_next.Goals as goal

pub returns-in_err-choose-clause-same : goal.returns-in_err-choose-clause-same
returns-in_err-choose-clause-same c = same_kept c.args.lists.now c.choose.new.self c.in_err-choose.ensures.err

pub returns-in_err-further-clause-same : goal.returns-in_err-further-clause-same
returns-in_err-further-clause-same c = same_chosen c.args.lists.now c.choose.new.self c.args.digit c.in_ok-choose.ensures.ok

pub returns-clause-tied : goal.returns-clause-tied
returns-clause-tied c =
    tied_further c.args.lists.now c.args.behind c.requires.given c.args.digit c.choose.new.self c.value-value.result c.in_ok-further.further
    c.in_ok-choose.ensures.ok c.requires.digit c.value-value.ensures c.in_ok-further.ensures

pub returns-clause-same : goal.returns-clause-same
returns-clause-same c = same_chosen c.args.lists.now c.choose.new.self c.args.digit c.in_ok-choose.ensures.ok
