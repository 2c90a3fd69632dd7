use Rattle.std.proofs.Common.{◌≡◌, ◌∙◌, ap, sym, set, arith}
use Rattle.pst_scen.specs.declared.act.Filled.{Filled}
use Rattle.pst_scen.specs.declared.act.Link.TheVariants as link
use Rattle.pst_legal.specs.SupplyReading.{with_link}
use Rattle.pst_open_ends.proofs.Alters.{alter_set, alter_past, alter_of_set, get_same}
use Rattle.pst_open_ends.proofs.links.put_at.Goals as goal

pub returns-then-reference-len-clause-put : goal.returns-then-reference-len-clause-put
returns-then-reference-len-clause-put c = sym (alter_past (with_link c.args.to) c.args.reference c.args.references.now.items (omega arith))

pub returns-then-reference-len-clause-back : goal.returns-then-reference-len-clause-back
returns-then-reference-len-clause-back c = sym (alter_past (with_link link.Nothing) c.args.reference c.args.references.now.items (omega arith))

pub returns-clause-put : goal.returns-clause-put
returns-clause-put c =
    let xs = c.args.references.now.items in
    let n = c.args.reference in
    let r = c.index_mut.result.now in
    ap (λ e. set xs n (with_link c.args.to e)) c.index_mut.ensures.value ∙ sym (alter_set (with_link c.args.to) n xs r (omega arith))

pub returns-clause-back : goal.returns-clause-back
returns-clause-back c =
    let xs = c.args.references.now.items in
    let n = c.args.reference in
    let r = c.index_mut.result.now in
    let i = c.index.result.now in
    let same : i ≡ r = c.index.ensures ∙ get_same xs n i r (omega arith) ∙ sym c.index_mut.ensures.value in
    sym (
    alter_of_set (with_link i.link) n xs (with_link c.args.to r) r (omega arith)
    (ap (λ (f : Filled). record { pool = r.pool; flow = r.flow; values = r.values; link = f.link }) same ∙ c.index_mut.ensures.value)
    )
