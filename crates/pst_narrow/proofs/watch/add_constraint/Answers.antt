use Rattle.std.proofs.Common.{◌≡◌, ◌^◌, inl, inr, length, map, subst}
use Rattle.std.specs.Prelude.{Contains}
use Rattle.pst_expr.specs.Tree.{view}
use Rattle.pst_domain.specs.Bounds.{HasVariablesBelow}
use Rattle.pst_narrow.specs.Watch.{AreAdded}
use Rattle.pst_narrow.proofs.ListLemmas.{at}
use Rattle.pst_narrow.proofs.MentionLemmas.{mentions_below, variables_below_more}
use Rattle.pst_narrow.proofs.SettleLemmas.{numbered}
use Rattle.pst_narrow.proofs.NotedLemmas.{watched_one, no_number}
use Rattle.pst_narrow.proofs.watch.add_constraint.Goals as goal

pub add_mentioned-requires : goal.add_mentioned-requires
add_mentioned-requires c =
    let n = length c.args.watching.now in
    variables_below_more n (2 ^ 32) (view c.index-constraints-number.result) c.requires.small (at (HasVariablesBelow n) c.args.constraints.now c.args.number c.index-constraints-number.result c.requires.number c.index-constraints-number.is c.requires.variables)

pub add_to_rows-requires : goal.add_to_rows-requires
add_to_rows-requires c a there =
    let n = length c.args.watching.now in
    let below = at (HasVariablesBelow n) c.args.constraints.now c.args.number c.index-constraints-number.result c.requires.number c.index-constraints-number.is c.requires.variables in
    elim (c.in_ok-add_mentioned.ensures.only a (subst (λ zs. Contains zs a) c.as_slice.ensures.value there)) [
      | inl o ↦ absurd (no_number c.new-variables.result.items a c.new-variables.ensures.items o)
      | inr m ↦ mentions_below n (view c.index-constraints-number.result) a below m
    ]

pub returns : goal.returns
returns c =
    let xs = c.args.constraints.now in
    let x = c.index-constraints-number.result in
    let n = length c.args.watching.now in
    let below = at (HasVariablesBelow n) xs c.args.number x c.requires.number c.index-constraints-number.is c.requires.variables in
    watched_one (map view xs) c.args.number n (view x) c.args.mentioned.now.items c.push.new.self.items c.args.watching.now c.add_to_rows.new.rows c.add_mentioned.new.numbers c.new-variables.result.items
    (numbered xs c.args.number x c.requires.number c.index-constraints-number.is) (λ v m. mentions_below n (view x) v below m) c.new-variables.ensures.items c.in_ok-add_mentioned.ensures
    (subst (λ zs. AreAdded (λ a b. Contains zs a × (b ≡ c.args.number)) c.args.watching.now c.add_to_rows.new.rows) c.as_slice.ensures.value c.in_ok-add_to_rows.ensures)
    c.in_ok-push.ensures.items c.requires.watched
