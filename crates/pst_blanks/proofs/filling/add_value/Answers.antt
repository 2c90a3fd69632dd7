use Rattle.std.proofs.Common.{w64, FitsSigned, rules, ap, sym, ◌∙◌, arith}
use Rattle.std.proofs.lemmas.Int.{to_z-of_z}
use Rattle.std.proofs.lemmas.Result.{on_ok_weaker}
use Rattle.pst_blanks.specs.Blanks.{read_blank}
use Rattle.pst_blanks.specs.Filling.{act_filled}
use Rattle.pst_blanks.proofs.Alters.{alter_past, set_like}
use Rattle.pst_blanks.proofs.filling.add_value.Goals as goal

pub returns-then-act-len-clause-ok : goal.returns-then-act-len-clause-ok
returns-then-act-len-clause-ok c = sym (alter_past (act_filled (read_blank c.args.blank) c.args.value) c.args.act c.args.acts.now.items (omega arith))

pub returns-clause-ok : goal.returns-clause-ok
returns-clause-ok c =
    let x = c.index_mut.result.now in
    let f : FitsSigned w64 c.args.value = search rules in
    let z = to_z-of_z w64 c.args.value f in
    on_ok_weaker c.fill_act.result (λ h. set_like (act_filled (read_blank c.args.blank) c.args.value) c.args.act c.args.acts.now.items x _ (omega arith) c.index_mut.ensures.value (h ∙ ap (λ v. act_filled (read_blank c.args.blank) v x) z)) c.fill_act.ensures.ok
