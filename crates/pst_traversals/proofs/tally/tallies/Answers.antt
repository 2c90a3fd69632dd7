use Rattle.std.proofs.Common.{◌≡◌, List, length, map, refl, sym, ap, ◌∙◌, arith, Bor}
use Rattle.std.specs.List.{fold}
use Rattle.std.specs.HashMap.{get}
use Rattle.std.specs.Option.{option_map}
use Rattle.std.proofs.lemmas.List.{length-map}
use Rattle.std.proofs.lemmas.Option.{slice_get_read, slice_get-map}
use Rattle.pst_ast.specs.DeclarationView.{view_action}
use Rattle.pst_ast.specs.declared.declaration.ActionNode.{ActionNode}
use Rattle.pst_type_rules.specs.Sites.{DeclaredAction, action_of}
use Rattle.pst_traversals.specs.declared.listing.Traversed.{Traversed}
use Rattle.pst_traversals.specs.Tallied.{noted, same_key, withins_at}
use Rattle.pst_traversals.proofs.Counted.{one_more, all_before}
use Rattle.pst_traversals.proofs.tally.tallies.Goals as goal

view : Bor ActionNode → DeclaredAction
view a = action_of (view_action a.now)

pub loop-number-preserved : goal.loop-number-preserved
unfolding view
loop-number-preserved c = λ q.
    let n = c.loop-number.number in
    let actions = c.args.actions.now in
    let a = c.index-actions-number.result in
    let there = slice_get-map view actions n ∙ ap (option_map view) (slice_get_read actions (length actions) n a refl c.loop-number-test.true c.index-actions-number.is) in
    let old = get same_key c.loop-number.tallies q in
    one_more n (map view actions) (view a) there c.in_ok-traversals.traversals.items c.in_ok-traversals.ensures q old (get same_key c.note_all.new.tallies q) (c.loop-number.invariant q)
    (c.in_ok-note_all.ensures q ∙ ap (λ (ts : List Traversed). fold noted old (withins_at n q ts)) c.as_slice.ensures.value)

pub returns : goal.returns
unfolding view
returns c = λ q.
    let actions = c.args.actions.now in
    let long : c.loop-number.number ≡ length actions = omega arith in
    c.loop-number.invariant q ∙ all_before (map view actions) c.loop-number.number (long ∙ sym (length-map actions view)) q
