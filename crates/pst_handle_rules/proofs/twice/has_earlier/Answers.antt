use Rattle.std.proofs.Common.{length, refl, sym, subst}
use Rattle.std.proofs.lemmas.Option.{slice_get_read}
use Rattle.pst_handle_rules.specs.Twice.{IsFirst}
use Rattle.pst_handle_rules.proofs.Firsts.{not_before, is_before}
use Rattle.pst_handle_rules.proofs.twice.has_earlier.Goals as goal

pub returns-in-None : goal.returns-in-None
returns-in-None c =
    let side = c.args.side in
    let ties = c.args.ties.now in
    let q = c.key_of-key.result in
    not_before side ties c.args.count c.args.tie.now q c.first_number.result
    (subst (IsFirst side ties c.args.count q) (sym c.first_number.ensures) (c.requires.firsts q)) c.in-None.is c.key_of-key.ensures

pub returns-in-Some-get : goal.returns-in-Some-get
returns-in-Some-get c =
    let side = c.args.side in
    let ties = c.args.ties.now in
    let q = c.key_of-key.result in
    let seen = c.in-Some-get.ensures.lookup in
    let there = slice_get_read ties (length ties) c.in-Some.number c.in-Some-get.first.now refl seen.3.0 seen.1 in
    is_before side ties c.args.count c.args.tie.now q c.first_number.result c.in-Some.number
    (subst (IsFirst side ties c.args.count q) (sym c.first_number.ensures) (c.requires.firsts q)) c.in-Some.is c.key_of-key.ensures
    c.in-Some-get.first.now there (c.is_same_owner.ensures.0 c.if-is_same_owner.true)
