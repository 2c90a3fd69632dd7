use Rattle.std.proofs.Common.{◌≡◌, ◌<◌, ◌++◌, ◌∷◌, [], Some, length, refl, ap, sym, ◌∙◌, arith}
use Rattle.std.specs.Prelude.{slice_get}
use Rattle.std.specs.Option.{option_and_then}
use Rattle.std.proofs.lemmas.Option.{slice_get_read}
use Rattle.std.proofs.lemmas.Result.{on_ok_weaker}
use Rattle.pst_model.specs.ModelView.{view_model}
use Rattle.pst_scen.specs.declared.act.Act.{Act}
use Rattle.pst_legal.specs.Types.{served_claim}
use Rattle.pst_legal.specs.ValueReading.{with_claim}
use Rattle.pst_blanks.specs.Filling.{claimed_in}
use Rattle.pst_blanks.proofs.Alters.{alter_past, set_like, get_same}
use Rattle.pst_blanks.proofs.filling.add_claim.Goals as goal

pub returns-then-act-len-clause-ok : goal.returns-then-act-len-clause-ok
returns-then-act-len-clause-ok c = sym (alter_past (with_claim (view_model c.args.model.now) c.args.claim c.args.option) c.args.act c.args.acts.now.items (omega arith))

pub returns-clause-ok : goal.returns-clause-ok
returns-clause-ok c =
    let m = view_model c.args.model.now in
    let xs = c.args.acts.now.items in
    let n = c.args.act in
    let x = c.index_mut.result.now in
    let y = c.index.result.now in
    let h : n < length xs = omega arith in
    let e : slice_get xs n ≡ Some x = slice_get_read xs (length xs) n x refl h c.index_mut.ensures.value in
    let same : y ≡ x = c.index.ensures ∙ get_same xs n y x h ∙ sym c.index_mut.ensures.value in
    let pool : c.args.pool ≡ served_claim m x.action x.instance c.args.claim = c.requires ∙ ap (λ o. option_and_then (λ (a : Act). served_claim m a.action a.instance c.args.claim) o) e in
    let claimed =
    c.claimed-claimed.ensures
    ∙ ap (λ (a : Act). claimed_in m a.action c.args.claim c.args.pool c.in_ok-instance.instance) same
    ∙ ap (λ p. claimed_in m x.action c.args.claim p c.in_ok-instance.instance) pool
    ∙ ap (claimed_in m x.action c.args.claim (served_claim m x.action x.instance c.args.claim)) c.in_ok-instance.ensures in
    on_ok_weaker c.push_claim.result (λ k. set_like (with_claim m c.args.claim c.args.option) n xs x _ h c.index_mut.ensures.value (ap (λ l. record x { claims = l }) (k ∙ ap (λ z. x.claims ++ z ∷ []) claimed))) c.push_claim.ensures.ok
