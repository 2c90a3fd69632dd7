use Rattle.std.proofs.Common.{w64, FitsSigned, rules, ◌++◌, ◌∷◌, [], ap, sym, ◌∙◌, arith}
use Rattle.std.proofs.lemmas.Int.{to_z-of_z}
use Rattle.std.proofs.lemmas.Result.{on_ok_weaker}
use Rattle.pst_legal.specs.ValueReading.{filled_with_value}
use Rattle.pst_blanks.proofs.Alters.{alter_past, set_like}
use Rattle.pst_blanks.proofs.acts.push_at.Goals as goal

pub returns-then-reference-len-clause-ok : goal.returns-then-reference-len-clause-ok
returns-then-reference-len-clause-ok c = sym (alter_past (filled_with_value c.args.value) c.args.reference c.args.references.now.items (omega arith))

pub returns-clause-ok : goal.returns-clause-ok
returns-clause-ok c =
    let x = c.index_mut.result.now in
    let f : FitsSigned w64 c.args.value = search rules in
    let z = to_z-of_z w64 c.args.value f in
    on_ok_weaker c.push_value.result (λ h. set_like (filled_with_value c.args.value) c.args.reference c.args.references.now.items x _ (omega arith) c.index_mut.ensures.value (ap (λ vs. record x { values = vs }) (h ∙ ap (λ v. x.values ++ v ∷ []) z))) c.push_value.ensures.ok
