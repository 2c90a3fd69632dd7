use Rattle.std.proofs.Common.{◌∙◌, ap, sym, set, arith}
use Rattle.pst_scen.specs.declared.act.Act.{Act}
use Rattle.pst_scen.specs.declared.act.Link.TheVariants as link
use Rattle.pst_legal.specs.SupplyReading.{act_with_link}
use Rattle.pst_open_ends.proofs.Alters.{alter_set, alter_past, alter_of_set}
use Rattle.pst_open_ends.proofs.links.put.Goals as goal

pub returns-then-act-len-clause-put : goal.returns-then-act-len-clause-put
returns-then-act-len-clause-put c = sym (alter_past (act_with_link c.args.reference c.args.to) c.args.act c.args.acts.now.items (omega arith))

pub returns-then-act-len-clause-back : goal.returns-then-act-len-clause-back
returns-then-act-len-clause-back c = sym (alter_past (act_with_link c.args.reference link.Nothing) c.args.act c.args.acts.now.items (omega arith))

pub returns-clause-put : goal.returns-clause-put
returns-clause-put c =
    let xs = c.args.acts.now.items in
    let x = c.index_mut.result.now in
    ap (λ rs. set xs c.args.act (record x { references = rs })) c.put_in-was.ensures.put
    ∙ ap (λ (e : Act). set xs c.args.act (act_with_link c.args.reference c.args.to e)) c.index_mut.ensures.value
    ∙ sym (alter_set (act_with_link c.args.reference c.args.to) c.args.act xs x (omega arith))

pub returns-clause-back : goal.returns-clause-back
returns-clause-back c =
    let xs = c.args.acts.now.items in
    let x = c.index_mut.result.now in
    sym (
    alter_of_set (act_with_link c.args.reference c.put_in-was.result) c.args.act xs (record x { references = c.put_in-was.new.references }) x (omega arith)
    (ap (λ rs. record x { references = rs }) (sym c.put_in-was.ensures.back) ∙ c.index_mut.ensures.value)
    )
