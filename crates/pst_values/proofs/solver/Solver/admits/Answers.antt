use Rattle.std.proofs.Common.{rules, ◌≡◌, ◌<◌, ◌++◌, ◌∷◌, [], length, map, drop, List, true, Some, sym, subst, ap, ◌∙◌, arith}
use Rattle.std.proofs.lemmas.List.{length-set}
use Rattle.pst_expr.specs.declared.tree.Expr.{Expr}
use Rattle.pst_expr.specs.Tree.{view}
use Rattle.pst_domain.specs.Bounds.{bound_of, AreUpright}
use Rattle.pst_narrow.specs.Trail.{AreBelow}
use Rattle.pst_narrow.specs.Solutions.{AreMet}
use Rattle.pst_narrow.specs.Narrowing.{IsStep, HaveVariablesBelow, AreOpen}
use Rattle.pst_narrow.specs.Watch.{IsWatch}
use Rattle.pst_narrow.specs.Settled.{QuietAreOpen}
use Rattle.pst_values.proofs.SolverLemmas.{tried, not_tried, length-put_back, upright_set, quiet_after_set, changed_after_set, room_after_set}
use Rattle.pst_values.proofs.solver.Solver.admits.Goals as goal

pub set-requires : goal.set-requires
set-requires c =
    let same = ap length c.undo.ensures.bounds ∙ length-put_back (drop c.args.mark c.args.self.now.trail) c.args.self.now.bounds in
    omega (arith, same, c.requires.variable)

pub returns-in_err-set-clause-tried : goal.returns-in_err-set-clause-tried
returns-in_err-set-clause-tried c =
    not_tried c.args.self.now.constraints.items c.args.mark c.args.variable c.args.span c.args.self.now.trail c.set.new.self c.args.self.now.bounds c.set.new.bounds c.from_residual.result c.requires.ready (c.in_err-set.ensures.bounds ∙ c.undo.ensures.bounds) (c.in_err-set.ensures.trail ∙ c.undo.ensures.trail) (λ e. search rules) (λ e. search rules)

-- ---- looking again

pub settle-requires-clause-upright : goal.settle-requires-clause-upright
settle-requires-clause-upright c =
    subst AreUpright (sym c.in_ok-set.ensures.bounds) (upright_set c.undo.new.bounds c.args.variable c.args.span (subst AreUpright (sym c.undo.ensures.bounds) c.requires.ready.upright) c.requires.upright)

pub settle-requires-clause-watch : goal.settle-requires-clause-watch
settle-requires-clause-watch c =
    let same = ap length c.in_ok-set.ensures.bounds ∙ (length-set c.undo.new.bounds c.args.variable (Some c.args.span) ∙ (ap length c.undo.ensures.bounds ∙ length-put_back (drop c.args.mark c.args.self.now.trail) c.args.self.now.bounds)) in
    subst (λ (xs : List Expr). IsWatch (map view xs) (length c.set.new.bounds) c.args.self.now.watch) (sym c.deref.ensures.value) (subst (λ n. IsWatch (map view c.args.self.now.constraints.items) n c.args.self.now.watch) (sym same) c.requires.watch)

pub settle-requires-clause-variables : goal.settle-requires-clause-variables
settle-requires-clause-variables c =
    let same = ap length c.in_ok-set.ensures.bounds ∙ (length-set c.undo.new.bounds c.args.variable (Some c.args.span) ∙ (ap length c.undo.ensures.bounds ∙ length-put_back (drop c.args.mark c.args.self.now.trail) c.args.self.now.bounds)) in
    subst (λ xs. HaveVariablesBelow (length c.set.new.bounds) (map view xs)) (sym c.deref.ensures.value) (subst (λ n. HaveVariablesBelow n (map view c.args.self.now.constraints.items)) (sym same) c.requires.ready.variables)

pub settle-requires-clause-changed : goal.settle-requires-clause-changed
settle-requires-clause-changed c =
    let same = ap length c.in_ok-set.ensures.bounds ∙ (length-set c.undo.new.bounds c.args.variable (Some c.args.span) ∙ (ap length c.undo.ensures.bounds ∙ length-put_back (drop c.args.mark c.args.self.now.trail) c.args.self.now.bounds)) in
    changed_after_set c.args.mark c.args.variable c.args.self.now.trail c.set.new.self c.undo.new.bounds c.set.new.bounds c.requires.ready.room (omega (arith, same, c.requires.variable))
    (c.in_ok-set.ensures.trail ∙ ap (λ x. x ++ record { variable = c.args.variable; bound = bound_of c.undo.new.bounds c.args.variable } ∷ []) c.undo.ensures.trail)

pub settle-requires-clause-room : goal.settle-requires-clause-room
settle-requires-clause-room c =
    room_after_set c.args.mark c.args.variable c.args.self.now.trail c.set.new.self c.undo.new.bounds c.requires.ready.room
    (c.in_ok-set.ensures.trail ∙ ap (λ x. x ++ record { variable = c.args.variable; bound = bound_of c.undo.new.bounds c.args.variable } ∷ []) c.undo.ensures.trail)

pub settle-requires-clause-quiet : goal.settle-requires-clause-quiet
settle-requires-clause-quiet c =
    subst (λ (xs : List Expr). QuietAreOpen (map view xs) (drop c.args.mark c.set.new.self) c.set.new.bounds) (sym c.deref.ensures.value)
    (quiet_after_set c.others_dont_matter.ensures c.args.self.now.constraints.items c.args.mark c.args.variable c.args.span c.args.self.now.trail c.set.new.self c.args.self.now.bounds c.undo.new.bounds c.set.new.bounds c.requires.ready.room c.undo.ensures.bounds
    (c.in_ok-set.ensures.trail ∙ ap (λ x. x ++ record { variable = c.args.variable; bound = bound_of c.undo.new.bounds c.args.variable } ∷ []) c.undo.ensures.trail) c.in_ok-set.ensures.bounds (c.requires.settled c.if-settled.true))

pub returns-then-settled-clause-tried : goal.returns-then-settled-clause-tried
returns-then-settled-clause-tried c =
    tried c.args.self.now.constraints.items c.args.mark c.args.variable c.args.span c.args.self.now.trail c.set.new.self c.settle.new.trail c.args.self.now.bounds c.undo.new.bounds c.set.new.bounds c.settle.new.bounds c.settle.result c.requires.ready c.requires.variable c.requires.upright c.undo.ensures.bounds
    (c.in_ok-set.ensures.trail ∙ ap (λ x. x ++ record { variable = c.args.variable; bound = bound_of c.undo.new.bounds c.args.variable } ∷ []) c.undo.ensures.trail) c.in_ok-set.ensures.bounds
    (subst (λ xs. IsStep (AreMet (map view xs)) c.set.new.bounds c.settle.new.bounds c.set.new.self c.settle.new.trail c.settle.result) c.deref.ensures.value c.settle.ensures.step)
    (λ e. subst (λ xs. AreOpen (map view xs) c.settle.new.bounds) c.deref.ensures.value (c.settle.ensures.unrefused e))

-- ---- looking at all

pub narrow-requires-clause-upright : goal.narrow-requires-clause-upright
narrow-requires-clause-upright c =
    subst AreUpright (sym c.in_ok-set.ensures.bounds) (upright_set c.undo.new.bounds c.args.variable c.args.span (subst AreUpright (sym c.undo.ensures.bounds) c.requires.ready.upright) c.requires.upright)

pub narrow-requires-clause-watch : goal.narrow-requires-clause-watch
narrow-requires-clause-watch c =
    let same = ap length c.in_ok-set.ensures.bounds ∙ (length-set c.undo.new.bounds c.args.variable (Some c.args.span) ∙ (ap length c.undo.ensures.bounds ∙ length-put_back (drop c.args.mark c.args.self.now.trail) c.args.self.now.bounds)) in
    subst (λ (xs : List Expr). IsWatch (map view xs) (length c.set.new.bounds) c.args.self.now.watch) (sym c.deref-2.ensures.value) (subst (λ n. IsWatch (map view c.args.self.now.constraints.items) n c.args.self.now.watch) (sym same) c.requires.watch)

pub narrow-requires-clause-variables : goal.narrow-requires-clause-variables
narrow-requires-clause-variables c =
    let same = ap length c.in_ok-set.ensures.bounds ∙ (length-set c.undo.new.bounds c.args.variable (Some c.args.span) ∙ (ap length c.undo.ensures.bounds ∙ length-put_back (drop c.args.mark c.args.self.now.trail) c.args.self.now.bounds)) in
    subst (λ xs. HaveVariablesBelow (length c.set.new.bounds) (map view xs)) (sym c.deref-2.ensures.value) (subst (λ n. HaveVariablesBelow n (map view c.args.self.now.constraints.items)) (sym same) c.requires.ready.variables)

pub returns-clause-tried : goal.returns-clause-tried
returns-clause-tried c =
    tried c.args.self.now.constraints.items c.args.mark c.args.variable c.args.span c.args.self.now.trail c.set.new.self c.narrow.new.trail c.args.self.now.bounds c.undo.new.bounds c.set.new.bounds c.narrow.new.bounds c.narrow.result c.requires.ready c.requires.variable c.requires.upright c.undo.ensures.bounds
    (c.in_ok-set.ensures.trail ∙ ap (λ x. x ++ record { variable = c.args.variable; bound = bound_of c.undo.new.bounds c.args.variable } ∷ []) c.undo.ensures.trail) c.in_ok-set.ensures.bounds
    (subst (λ xs. IsStep (AreMet (map view xs)) c.set.new.bounds c.narrow.new.bounds c.set.new.self c.narrow.new.trail c.narrow.result) c.deref-2.ensures.value c.narrow.ensures.step)
    (λ e. subst (λ xs. AreOpen (map view xs) c.narrow.new.bounds) c.deref-2.ensures.value (c.narrow.ensures.unrefused e))
