use Rattle.std.proofs.Common.{◌≡◌, ◌++◌, ◌∷◌, [], get_or, drop, cond, sym, subst, ap, ◌∙◌}
use Rattle.std.specs.HashMap.{get}
use Rattle.pst_type_members.specs.declared.key.ScopeKey.{ScopeKey}
use Rattle.pst_type_members.specs.Keyed.{members_at, place_of, row_in, same_key}
use Rattle.pst_type_members.proofs.Rowed.{added, left_out, blank}
use Rattle.pst_type_members.proofs.scopes.rows_of.Goals as goal
use Rattle.pst_type_members.proofs.scopes.rows_of.Goals.{in-Some+in_ok-add, in_default}

pub loop-declaration-preserved : goal.loop-declaration-preserved
loop-declaration-preserved c = λ q.
    let ds = c.args.declarations.now in
    let i = c.loop-declaration.declaration-index in
    let old = row_in (get same_key c.loop-declaration.rows q) in
    elim c.match-place_of.branch [
      | in-Some+in_ok-add w ↦ added ds i blank c.loop-declaration-test.true q w.in-Some.place old (row_in (get same_key c.match-place_of.rows q)) _ (sym c.place_of.ensures ∙ w.in-Some.is)
          (ap (λ m. row_in (get same_key m q)) w.rows-is ∙ subst (λ (k : ScopeKey). row_in (get same_key w.add.new.rows q) ≡ old ++ cond (same_key q k) (get_or ds i blank ∷ []) []) w.scope_key.ensures (w.in_ok-add.ensures q))
          (c.loop-declaration.invariant q)
      | in_default w ↦ left_out ds i blank c.loop-declaration-test.true q (row_in (get same_key c.match-place_of.rows q)) _ (sym c.place_of.ensures ∙ w.in_default.is)
          (ap (λ m. row_in (get same_key m q) ++ members_at (drop i ds) (place_of q)) w.rows-is ∙ c.loop-declaration.invariant q)
    ]
