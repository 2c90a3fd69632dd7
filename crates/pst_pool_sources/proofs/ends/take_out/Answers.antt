use Rattle.std.proofs.Common.{◌<◌, length, Some, None, sym, ap, ◌∙◌, subst}
use Rattle.std.specs.Prelude.{is_some}
use Rattle.std.specs.List.{insert}
use Rattle.pst_pool_sources.specs.Places.{IsPlace}
use Rattle.pst_pool_sources.proofs.Takes.{kept_all, none_is, taken_out, put_again}
use Rattle.pst_pool_sources.proofs.ends.take_out.Goals as goal

pub returns-in_err-place-clause-without : goal.returns-in_err-place-clause-without
returns-in_err-place-clause-without c = kept_all c.args.end c.args.ends.now.items (subst (λ l. IsPlace l c.args.end None) c.as_slice.ensures.value c.in_err-place.ensures.is)

pub returns-in_err-place-clause-found : goal.returns-in_err-place-clause-found
returns-in_err-place-clause-found c = ap is_some c.from_residual.ensures ∙ none_is c.args.end c.args.ends.now.items (subst (λ l. IsPlace l c.args.end None) c.as_slice.ensures.value c.in_err-place.ensures.is)

pub returns-clause-without : goal.returns-clause-without
returns-clause-without c =
    let place = c.in_ok-place.place in
    c.remove.ensures.items
    ∙ taken_out c.args.end c.args.ends.now.items place
    (subst (λ l. place < length l) c.as_slice.ensures.value c.in_ok-place.ensures.within)
    (subst (λ l. IsPlace l c.args.end (Some place)) c.as_slice.ensures.value c.in_ok-place.ensures.is)

pub returns-clause-back : goal.returns-clause-back
returns-clause-back c =
    let place = c.in_ok-place.place in
    put_again c.args.end c.args.ends.now.items place
    (subst (λ l. place < length l) c.as_slice.ensures.value c.in_ok-place.ensures.within)
    (subst (λ l. IsPlace l c.args.end (Some place)) c.as_slice.ensures.value c.in_ok-place.ensures.is)
    ∙ ap (λ l. insert l place c.args.end) (sym c.remove.ensures.items)
