use Rattle.std.proofs.Common.{◌≤◌, ◌++◌, ◌+◌, List, drop, length, subst, ap, ◌∙◌}
use Rattle.std.specs.List.{enumerate_from, filter_map}
use Rattle.std.proofs.lemmas.List.{drop_all}
use Rattle.pst_ast.specs.declared.scope_declaration.Declaration.{Declaration}
use Rattle.pst_ast.specs.Sorts.{is_action}
use Rattle.pst_type_rules.specs.Members.{those_that}
use Rattle.pst_bind.specs.declared.pool_map.Served.{Served}
use Rattle.pst_bind.specs.Judging.{choice_for, served_with}
use Rattle.pst_bind.specs.ListedNeeds.{needs_from, needs_found}
use Rattle.pst_bind.proofs.Judges.{onward, arrived_by}
use Rattle.pst_bind.proofs.Needing.{numbered_in}
use Rattle.pst_bind.proofs.actions.judge.Goals as goal

pub loop-action-preserved : goal.loop-action-preserved
loop-action-preserved c =
    let ds = c.args.binds.now.index.now in
    let instances = c.args.binds.now.table.now in
    let sites = c.args.sites.now in
    let choice = choice_for ds c.args.binds.now.explicit.now c.args.binds.now.defaults.now instances in
    let i = c.loop-action.action-index in
    record {
      way = onward choice _ (needs_from sites ds instances (enumerate_from c.in_ok-number.number (those_that is_action (drop (i + 1) ds))))
          (needs_from sites ds instances (enumerate_from c.loop-action.number (those_that is_action (drop i ds)))) (needs_found sites ds instances)
          c.loop-action.judged c.judge_declaration.new.judged _ c.in_ok-number.ensures.judged
          (numbered_in sites ds instances c.as_slice-action-items.result.now c.as_slice-action-items.ensures i c.loop-action.number c.in_ok-number.number c.loop-action-test.true c.in_ok-number.ensures.next)
          c.loop-action.invariant.way;
      inherited = c.in_ok-number.ensures.inherited;
      known = c.in_ok-number.ensures.known;
    }

pub returns-clause-least : goal.returns-clause-least
returns-clause-least c =
    let ds = c.args.binds.now.index.now in
    let instances = c.args.binds.now.table.now in
    let sites = c.args.sites.now in
    let choice = choice_for ds c.args.binds.now.explicit.now c.args.binds.now.defaults.now instances in
    let i = c.loop-action.action-index in
    let far : length ds ≤ i = subst (λ (xs : List Declaration). length xs ≤ i) c.as_slice-action-items.ensures c.loop-action-test.false in
    let none = ap (λ (xs : List Declaration). needs_from sites ds instances (enumerate_from c.loop-action.number (those_that is_action xs))) (drop_all i ds far) in
    (arrived_by choice (needs_from sites ds instances (enumerate_from c.loop-action.number (those_that is_action (drop i ds)))) (needs_found sites ds instances) c.loop-action.judged _ none c.loop-action.invariant.way).least

pub returns-clause-served : goal.returns-clause-served
returns-clause-served c =
    let ds = c.args.binds.now.index.now in
    let instances = c.args.binds.now.table.now in
    let sites = c.args.sites.now in
    let choice = choice_for ds c.args.binds.now.explicit.now c.args.binds.now.defaults.now instances in
    let i = c.loop-action.action-index in
    let far : length ds ≤ i = subst (λ (xs : List Declaration). length xs ≤ i) c.as_slice-action-items.ensures c.loop-action-test.false in
    let none = ap (λ (xs : List Declaration). needs_from sites ds instances (enumerate_from c.loop-action.number (those_that is_action xs))) (drop_all i ds far) in
    (arrived_by choice (needs_from sites ds instances (enumerate_from c.loop-action.number (those_that is_action (drop i ds)))) (needs_found sites ds instances) c.loop-action.judged _ none c.loop-action.invariant.way).served
    ∙ ap (λ (xs : List Served). xs ++ filter_map (served_with choice) (needs_found sites ds instances)) c.new.ensures.items
