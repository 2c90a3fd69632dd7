use Rattle.std.proofs.Common.{◌+◌, sym, ap, subst}
use Rattle.std.specs.HashMap.{get}
use Rattle.std.proofs.lemmas.Result.{on_ok_weaker}
use Rattle.pst_handle_rules.specs.declared.end_key.EndKey.{EndKey}
use Rattle.pst_handle_rules.specs.EndKeys.{same_key}
use Rattle.pst_handle_rules.specs.Twice.{IsFirst}
use Rattle.pst_handle_rules.proofs.Firsts.{there_is, kept, key_there}
use Rattle.pst_handle_rules.proofs.twice.keep.Goals as goal

pub returns : goal.returns
returns c =
    let side = c.args.side in
    let ties = c.args.ties.now in
    let at = c.args.at in
    let t = there_is ties at c.requires.within in
    let key = key_there side ties at t.0 _ c.key_of.result t.1 c.key_of.ensures in
    on_ok_weaker c.keep_key.result (λ e q. subst (IsFirst side ties (at + 1) q) (sym (e q))
    (kept side ties at t.0 t.1 q (get same_key c.args.numbers.now q) (same_key q c.key_of.result) (ap (λ (k : EndKey). same_key q k) (sym key)) (c.requires.firsts q)))
    c.keep_key.ensures
