use Rattle.std.proofs.Common.{◌≡◌, ◌+◌, List, map, sym, subst, Bor}
use Rattle.std.proofs.lemmas.Option.{get_or_from_slice_get}
use Rattle.pst_ast.specs.DeclarationView.{view_action, view_unit}
use Rattle.pst_ast.specs.declared.declaration.ActionNode.{ActionNode}
use Rattle.pst_ast.specs.declared.scope_declaration.Declaration.{Declaration}
use Rattle.pst_type_rules.specs.Sites.{DeclaredAction, action_at, action_of}
use Rattle.pst_steady.specs.declared.reach.Seed.{Seed}
use Rattle.pst_steady.specs.Seeded.{AreSeeds, IsSeed}
use Rattle.pst_steady.proofs.Lists.{there_is}
use Rattle.pst_steady.proofs.Seeding.{one_more_seed}
use Rattle.pst_steady.proofs.seeds.seeds_of.Goals as goal

view : Bor ActionNode → DeclaredAction
view a = action_of (view_action a.now)

pub loop-at-preserved : goal.loop-at-preserved
unfolding view
loop-at-preserved c =
    let units = map view_unit c.args.sites.now in
    let ds = c.args.declarations.now in
    let at = c.loop-at.at in
    let new = map view c.add_seed.new.actions.items in
    let s = c.in_ok-seed.seed in
    let d = there_is ds at c.loop-at-test.true in
    subst (λ (ss : List Seed). AreSeeds units ds (at + 1) new ss) (sym c.in_ok-push.ensures.items)
    (one_more_seed units ds at (map view c.loop-at.actions.items) new c.loop-at.seeds.items d.0 s d.1 c.in_ok-seed.ensures.kept
    (subst (λ (x : Declaration). IsSeed (action_at units x.name.place) new s) (get_or_from_slice_get ds at d.0 _ d.1) c.in_ok-seed.ensures.seed) c.loop-at.invariant)
