use Rattle.std.proofs.Common.{sym, subst}
use Rattle.std.proofs.lemmas.Result.{IfOk-weaker}
use Rattle.pst_model.specs.ModelView.{view_model}
use Rattle.pst_blank_values.specs.Values.{AreBare}
use Rattle.pst_claim_rivals.specs.Rivals.{IsKnown}
use Rattle.pst_rival_blanks.proofs.Blanks.{all_differ}
use Rattle.pst_rival_blanks.proofs.Known.{known}
use Rattle.pst_rival_blanks.proofs.pairs.rivals.Goals as goal

pub pairs_by-requires : goal.pairs_by-requires
pairs_by-requires c = subst (IsKnown c.args.scenario.now) (sym c.deref.ensures.value) (known c.args.scenario.now c.requires c.in_ok-groups.groups.items c.in_ok-groups.ensures.0 c.in_ok-groups.ensures.1)

pub returns : goal.returns
returns c =
    let s = c.args.scenario.now in
    let bare : AreBare s.actions = subst AreBare c.as_slice.ensures (c.are_bare.ensures c.if-not-are_bare.false) in
    IfOk-weaker c.pairs_by.result _ _ (λ pairs all. all_differ c.filled_blanks_stand.ensures (view_model c.args.model.now) s bare pairs.items all) c.pairs_by.ensures
