-- What traversals give, from what their parts give.
use Rattle.std.proofs.Common.{◌≡◌, ℕ, suc, ◌+◌, ◌≤◌, List, length, arith, drop, Err}
use Rattle.pst_base.specs.declared.position.Place.{Place}
use Rattle.pst_token.specs.declared.kind.Kind.TheVariants as kind
use Rattle.pst_token.specs.declared.token.Token.{Token}
use Rattle.pst_ast.specs.declared.leaf.Name.{Name}
use Rattle.pst_ast.specs.declared.shared.TypeName.{TypeName}
use Rattle.pst_ast.specs.Limits.{counted, is_over}
use Rattle.pst_ast.specs.ConstraintTree.{ConstraintTree}
use Rattle.pst_ast.specs.ActivityTree.{CoreDo, CoreHandle, CoreBind, WithTree, WithSet, BindTree}
use Rattle.pst_reading.specs.Parser.{mark_by, name_by, Took, run}
use Rattle.pst_ast.specs.declared.fault.SyntaxFault.{SyntaxFault}
use Rattle.pst_reading.specs.Gives.{SettlesFrom, FailsFrom, Expects}
use Rattle.pst_reading.proofs.Reaching.{begin, step, mark_step, name_step, ends, fails, mark_fails, name_fails}
use Rattle.pst_parse_expr.specs.Constraints.{constraint_at}
use Rattle.pst_parse_expr.specs.ConstraintFamilies.{set_family}
use Rattle.pst_parse_step.specs.ActivityPartFamilies.{bind_family, with_set_family, with_family, do_family, handle_family, bound_family}
use Rattle.pst_parse_part.specs.Families.{type_name_family}
use Rattle.pst_parse_step.proofs.SetsWithin.{set_here, set_here_fails}

module _ (tokens : List Token) (at d : ℕ) where
  pub with_set_with_fails : (e : SyntaxFault) → at ≤ length tokens → Expects (mark_by kind.With (counted d 0)) tokens (at) (Err e) → FailsFrom (with_set_family d) tokens at at e
  with_set_with_fails e le h = mark_fails (with_set_family d) tokens at at kind.With _ _ (at) e le h (begin (with_set_family d) tokens at at)

  pub with_set_set_fails : (with : Place) → (with_taken : run is_over (mark_by kind.With (counted d 0)) (drop (at) tokens) ≡ Took with (drop (at + 1) tokens)) → (with_inside : at + 1 ≤ length tokens) → at + 1 ≤ length tokens → (e : SyntaxFault) → FailsFrom (set_family d) tokens (at + 1) (at + 1) e → FailsFrom (with_set_family d) tokens at at e
  with_set_set_fails with with_taken with_inside le e h = fails (with_set_family d) tokens at at (λ m n. constraint_at (suc m) d) _ (at + 1) (at + 1) e (omega arith) (set_here_fails tokens (at + 1) d e h) (mark_step (with_set_family d) tokens at at kind.With _ _ (at) (at + 1) with (omega arith) with_taken (begin (with_set_family d) tokens at at))

  pub with_set_given : (with : Place) → (with_taken : run is_over (mark_by kind.With (counted d 0)) (drop (at) tokens) ≡ Took with (drop (at + 1) tokens)) → (with_inside : at + 1 ≤ length tokens) → (set : ConstraintTree) → (after : ℕ) → (set_more : at + 1 + 1 ≤ after) → (set_inside : after ≤ length tokens) → (set_settles : SettlesFrom (set_family d) tokens (at + 1) (at + 1) (Took set (drop after tokens))) → SettlesFrom (with_set_family d) tokens at at (Took (WithSet with set) (drop (after) tokens))
  with_set_given with with_taken with_inside set after set_more set_inside set_settles = ends (with_set_family d) tokens at at _ (after) (step (with_set_family d) tokens at at (λ m n. constraint_at (suc m) d) _ (at + 1) (at + 1) after set (omega arith) (omega arith) (set_here tokens (at + 1) d _ set_settles) (mark_step (with_set_family d) tokens at at kind.With _ _ (at) (at + 1) with (omega arith) with_taken (begin (with_set_family d) tokens at at)))

  pub do_core_do__fails : (e : SyntaxFault) → at ≤ length tokens → Expects (mark_by kind.Do (counted d 0)) tokens (at) (Err e) → FailsFrom (do_family d) tokens at at e
  do_core_do__fails e le h = mark_fails (do_family d) tokens at at kind.Do _ _ (at) e le h (begin (do_family d) tokens at at)

  pub do_core_name_fails : (do_ : Place) → (do__taken : run is_over (mark_by kind.Do (counted d 0)) (drop (at) tokens) ≡ Took do_ (drop (at + 1) tokens)) → (do__inside : at + 1 ≤ length tokens) → at + 1 ≤ length tokens → (e : SyntaxFault) → FailsFrom (type_name_family d) tokens (at + 1) (at + 1) e → FailsFrom (do_family d) tokens at at e
  do_core_name_fails do_ do__taken do__inside le e h = fails (do_family d) tokens at at (type_name_family d) _ (at + 1) (at + 1) e (omega arith) h (mark_step (do_family d) tokens at at kind.Do _ _ (at) (at + 1) do_ (omega arith) do__taken (begin (do_family d) tokens at at))

  pub do_core_with_fails : (do_ : Place) → (do__taken : run is_over (mark_by kind.Do (counted d 0)) (drop (at) tokens) ≡ Took do_ (drop (at + 1) tokens)) → (do__inside : at + 1 ≤ length tokens) → (name : TypeName) → (behind : ℕ) → (name_more : at + 1 + 1 ≤ behind) → (name_inside : behind ≤ length tokens) → (name_settles : SettlesFrom (type_name_family d) tokens (at + 1) (at + 1) (Took name (drop behind tokens))) → behind ≤ length tokens → (e : SyntaxFault) → FailsFrom (with_family d) tokens (behind) (behind) e → FailsFrom (do_family d) tokens at at e
  do_core_with_fails do_ do__taken do__inside name behind name_more name_inside name_settles le e h = fails (do_family d) tokens at at (with_family d) _ (behind) (behind) e (omega arith) h (step (do_family d) tokens at at (type_name_family d) _ (at + 1) (at + 1) behind name (omega arith) (omega arith) name_settles (mark_step (do_family d) tokens at at kind.Do _ _ (at) (at + 1) do_ (omega arith) do__taken (begin (do_family d) tokens at at)))

  pub do_core_given : (do_ : Place) → (do__taken : run is_over (mark_by kind.Do (counted d 0)) (drop (at) tokens) ≡ Took do_ (drop (at + 1) tokens)) → (do__inside : at + 1 ≤ length tokens) → (name : TypeName) → (behind : ℕ) → (name_more : at + 1 + 1 ≤ behind) → (name_inside : behind ≤ length tokens) → (name_settles : SettlesFrom (type_name_family d) tokens (at + 1) (at + 1) (Took name (drop behind tokens))) → (with : WithTree) → (after : ℕ) → (with_more : behind + 1 ≤ after) → (with_inside : after ≤ length tokens) → (with_settles : SettlesFrom (with_family d) tokens (behind) (behind) (Took with (drop after tokens))) → SettlesFrom (do_family d) tokens at at (Took (CoreDo do_ name with) (drop (after) tokens))
  do_core_given do_ do__taken do__inside name behind name_more name_inside name_settles with after with_more with_inside with_settles = ends (do_family d) tokens at at _ (after) (step (do_family d) tokens at at (with_family d) _ (behind) (behind) after with (omega arith) (omega arith) with_settles (step (do_family d) tokens at at (type_name_family d) _ (at + 1) (at + 1) behind name (omega arith) (omega arith) name_settles (mark_step (do_family d) tokens at at kind.Do _ _ (at) (at + 1) do_ (omega arith) do__taken (begin (do_family d) tokens at at))))

  pub handle_core_name_fails : (e : SyntaxFault) → at ≤ length tokens → Expects (name_by (counted d 0)) tokens (at) (Err e) → FailsFrom (handle_family d) tokens at at e
  handle_core_name_fails e le h = name_fails (handle_family d) tokens at at _ _ (at) e le h (begin (handle_family d) tokens at at)

  pub handle_core_with_fails : (name : Name) → (name_taken : run is_over (name_by (counted d 0)) (drop (at) tokens) ≡ Took name (drop (at + 1) tokens)) → (name_inside : at + 1 ≤ length tokens) → at + 1 ≤ length tokens → (e : SyntaxFault) → FailsFrom (with_family d) tokens (at + 1) (at + 1) e → FailsFrom (handle_family d) tokens at at e
  handle_core_with_fails name name_taken name_inside le e h = fails (handle_family d) tokens at at (with_family d) _ (at + 1) (at + 1) e (omega arith) h (name_step (handle_family d) tokens at at _ _ (at) (at + 1) name (omega arith) name_taken (begin (handle_family d) tokens at at))

  pub handle_core_given : (name : Name) → (name_taken : run is_over (name_by (counted d 0)) (drop (at) tokens) ≡ Took name (drop (at + 1) tokens)) → (name_inside : at + 1 ≤ length tokens) → (with : WithTree) → (after : ℕ) → (with_more : at + 1 + 1 ≤ after) → (with_inside : after ≤ length tokens) → (with_settles : SettlesFrom (with_family d) tokens (at + 1) (at + 1) (Took with (drop after tokens))) → SettlesFrom (handle_family d) tokens at at (Took (CoreHandle name with) (drop (after) tokens))
  handle_core_given name name_taken name_inside with after with_more with_inside with_settles = ends (handle_family d) tokens at at _ (after) (step (handle_family d) tokens at at (with_family d) _ (at + 1) (at + 1) after with (omega arith) (omega arith) with_settles (name_step (handle_family d) tokens at at _ _ (at) (at + 1) name (omega arith) name_taken (begin (handle_family d) tokens at at)))

  pub bound_core_bind_fails : at ≤ length tokens → (e : SyntaxFault) → FailsFrom (bind_family d) tokens (at) (at) e → FailsFrom (bound_family d) tokens at at e
  bound_core_bind_fails le e h = fails (bound_family d) tokens at at (bind_family d) _ (at) (at) e (omega arith) h (begin (bound_family d) tokens at at)

  pub bound_core_given : (bind : BindTree) → (after : ℕ) → (bind_more : at + 1 ≤ after) → (bind_inside : after ≤ length tokens) → (bind_settles : SettlesFrom (bind_family d) tokens (at) (at) (Took bind (drop after tokens))) → SettlesFrom (bound_family d) tokens at at (Took (CoreBind bind) (drop (after) tokens))
  bound_core_given bind after bind_more bind_inside bind_settles = ends (bound_family d) tokens at at _ (after) (step (bound_family d) tokens at at (bind_family d) _ (at) (at) after bind (omega arith) (omega arith) bind_settles (begin (bound_family d) tokens at at))
