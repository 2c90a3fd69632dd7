use Rattle.std.proofs.Common.{◌+◌, IsTrue, ◌↔◌, All, List, drop, slice_index_or, subst}
use Rattle.pst_model.specs.declared.activity.Tie.{Tie}
use Rattle.pst_model.specs.ModelView.{view_model, view_activity}
use Rattle.pst_model.specs.SoundActivity.{AreTiesApart}
use Rattle.pst_sound_parts.proofs.Pairs.{tail_is, pairs_drop, refuted, kept}
use Rattle.pst_sound.proofs.ties.are_all_apart.Goals as goal

abbrev zero_tie : Tie
zero_tie = record { from_handle = 0; from_reference = 0; to_handle = 0; to_reference = 0 }

pub returns-then-not-is_tie_apart_from : goal.returns-then-not-is_tie_apart_from
returns-then-not-is_tie_apart_from c =
    let i = c.loop-index.index in
    let ties = c.args.ties.now in
    let s = slice_index_or ties i zero_tie in
    let test : IsTrue c.is_tie_apart_from.result ↔ All (AreTiesApart (view_model c.args.model.now) (view_activity c.args.activity.now) s) (drop (i + 1) ties) = subst (λ (ys : List Tie). IsTrue c.is_tie_apart_from.result ↔ All (AreTiesApart (view_model c.args.model.now) (view_activity c.args.activity.now) s) ys) (tail_is ties (i + 1)) c.is_tie_apart_from.ensures in
    refuted c.is_tie_apart_from.result c.if-not-is_tie_apart_from.true test c.loop-index.invariant (λ a. ((pairs_drop (AreTiesApart (view_model c.args.model.now) (view_activity c.args.activity.now)) ties i zero_tie c.loop-index-test.true).0 a).0)

pub loop-index-preserved : goal.loop-index-preserved
loop-index-preserved c =
    let i = c.loop-index.index in
    let ties = c.args.ties.now in
    let s = slice_index_or ties i zero_tie in
    let test : IsTrue c.is_tie_apart_from.result ↔ All (AreTiesApart (view_model c.args.model.now) (view_activity c.args.activity.now) s) (drop (i + 1) ties) = subst (λ (ys : List Tie). IsTrue c.is_tie_apart_from.result ↔ All (AreTiesApart (view_model c.args.model.now) (view_activity c.args.activity.now) s) ys) (tail_is ties (i + 1)) c.is_tie_apart_from.ensures in
    kept c.is_tie_apart_from.result c.if-not-is_tie_apart_from.false test c.loop-index.invariant (pairs_drop (AreTiesApart (view_model c.args.model.now) (view_activity c.args.activity.now)) ties i zero_tie c.loop-index-test.true)
