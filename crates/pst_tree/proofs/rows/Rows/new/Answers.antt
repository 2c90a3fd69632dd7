use Rattle.std.proofs.Common.{◌≡◌, ◌++◌, ◌∷◌, [], get_or, drop, cond, sym, subst, ap, ◌∙◌}
use Rattle.std.specs.HashMap.{get}
use Rattle.pst_tree.specs.declared.key.PlaceKey.{PlaceKey}
use Rattle.pst_tree.specs.Members.{members_at, place_of, row_in, same_key}
use Rattle.pst_tree.proofs.Rowed.{added, left_out, blank}
use Rattle.pst_tree.proofs.rows.Rows.new.Goals as goal
use Rattle.pst_tree.proofs.rows.Rows.new.Goals.{in-Some+in_ok-add, in_default}

pub loop-declaration-preserved : goal.loop-declaration-preserved
loop-declaration-preserved c = λ q.
    let ds = c.args.declarations.now in
    let i = c.loop-declaration.declaration-index in
    let old = row_in (get same_key c.loop-declaration.rows q) in
    elim c.match-scope_of.branch [
      | in-Some+in_ok-add w ↦ added c.args.by ds i blank c.loop-declaration-test.true q w.in-Some.place old (row_in (get same_key c.match-scope_of.rows q)) _ (sym c.scope_of.ensures ∙ w.in-Some.is)
          (ap (λ m. row_in (get same_key m q)) w.rows-is ∙ subst (λ (k : PlaceKey). row_in (get same_key w.add.new.rows q) ≡ old ++ cond (same_key q k) (get_or ds i blank ∷ []) []) w.place_key.ensures (w.in_ok-add.ensures q))
          (c.loop-declaration.invariant q)
      | in_default w ↦ left_out c.args.by ds i blank c.loop-declaration-test.true q (row_in (get same_key c.match-scope_of.rows q)) _ (sym c.scope_of.ensures ∙ w.in_default.is)
          (ap (λ m. row_in (get same_key m q) ++ members_at c.args.by (drop i ds) (place_of q)) w.rows-is ∙ c.loop-declaration.invariant q)
    ]
