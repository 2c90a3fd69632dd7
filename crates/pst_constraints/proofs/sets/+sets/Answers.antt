use Rattle.std.proofs.Common.{arith, ◌≡◌, ℕ, ◌++◌, OnOk, List, Bool, ap, sym, map, subst, ◌∙◌}
use Rattle.std.proofs.lemmas.Grind.{common_steps}
use Rattle.std.specs.Prelude.{if◌then◌else◌}
use Rattle.pst_ast.specs.declared.constraint.ConstraintNode.{ConstraintNode}
use Rattle.pst_ast.specs.ConstraintView.{view_constraint as view_set}
use Rattle.pst_ast.specs.ExpressionView.{view_expr}
use Rattle.pst_elab_rules.specs.Constraints.{set_terms, with_turn}
use Rattle.pst_expr.specs.declared.tree.UnaryOp.TheVariants.{Not}
use Rattle.pst_model.specs.ConstraintTree.{ConstraintTree, SlotTree, view_constraint}
use Rattle.pst_path_readings.specs.Set.{view_setting}
use Rattle.pst_sources.specs.Shown.{sources_of}
use Rattle.pst_terms.specs.Readings.{Setting, AtNumber, expr_term}
use Rattle.pst_terms.specs.Terms.{Term, Prefix}
use Rattle.pst_constraints.specs.Implied.{Before, made, view_premises}
use Rattle.pst_constraints.proofs.Premised.{implied_made}
use Rattle.pst_constraints.specs.Turned.{without_turn}
use Rattle.pst_constraints.proofs.Rowed.{block_is}
use Rattle.pst_constraints.proofs.Turning.{turn_more}
use Rattle.pst_constraints.proofs.sets.+sets.Goals as goal

pub add_implied-returns-clause-found : goal.add_implied-returns-clause-found
add_implied-returns-clause-found t c =
    let s = sources_of c.args.sources.now in
    let setting = view_setting c.args.setting.now in
    let e = expr_term s setting (view_expr c.args.condition.now) in
    let terms = set_terms s setting (view_set c.args.set.now) in
    subst (λ (xs : List ConstraintTree). OnOk c.add_set.result (map view_constraint c.add_set.new.found.items ≡ map view_constraint c.args.found.now.items ++ xs))
    (ap (λ (q : Before). map (made q) terms) c.in_ok-inner.ensures ∙ implied_made (view_premises c.args.premises.now) (if c.args.negated then Prefix Not e else e) terms)
    c.add_set.ensures.found

pub add_set-returns-in-Block-clause-found : goal.add_set-returns-in-Block-clause-found
add_set-returns-in-Block-clause-found t c =
    let s = sources_of c.args.sources.now in
    let setting = view_setting c.args.setting.now in
    subst (λ (ts : List (Term SlotTree)). OnOk c.add_items.result (map view_constraint c.add_items.new.found.items ≡ map view_constraint c.args.found.now.items ++ map (made (view_premises c.args.premises.now)) ts))
    (sym (ap (λ (k : ConstraintNode). set_terms s setting (view_set k)) c.in-Block.is ∙ block_is s setting c.in-Block.left_brace c.in-Block.items c.in-Block.right_brace))
    (grind (arith, common_steps))

pub add_turns-loop-number-preserved : goal.add_turns-loop-number-preserved
add_turns-loop-number-preserved t c =
    let s = sources_of c.args.sources.now in
    let setting = view_setting c.args.setting.now in
    let p = view_premises c.args.premises.now in
    let n = c.loop-number.number in
    let set = view_set c.args.set.now in
    let f = λ (i : ℕ). set_terms s (with_turn setting c.args.index (AtNumber i)) set in
    let within : view_setting c.push_turn.new.setting ≡ with_turn setting c.args.index (AtNumber n) =
    c.in_ok-push_turn.ensures ∙ ap (λ (st : Setting). with_turn st c.args.index (AtNumber n)) c.loop-number.invariant.kept in
    record {
      kept = c.pop_turn.ensures ∙ ap without_turn (c.in_ok-add_set.ensures.kept ∙ within);
      found = turn_more (made p) f (map view_constraint c.loop-number.found.items) (map view_constraint c.add_set.new.found.items) _ n c.args.count c.loop-number-test.true
          (c.in_ok-add_set.ensures.found ∙ ap (λ (st : Setting). map view_constraint c.loop-number.found.items ++ map (made p) (set_terms s st set)) within)
          c.loop-number.invariant.found;
    }
