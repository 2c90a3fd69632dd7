use Rattle.std.proofs.Common.{◌≡◌, map, length, Some, sym, ap, ◌∙◌, arith}
use Rattle.std.specs.Global.{Vec}
use Rattle.std.specs.Prelude.{slice_get}
use Rattle.std.proofs.lemmas.Option.{slice_get_within}
use Rattle.pst_expr.specs.Tree.{view}
use Rattle.pst_model.specs.ModelView.{view_model}
use Rattle.pst_blanks.specs.Blanks.{blank_of}
use Rattle.pst_known.specs.Known.{seen}
use Rattle.pst_constraint_sites.specs.Groups.{groups}
use Rattle.pst_constraint_sites.specs.Views.{view_group}
use Rattle.pst_written_constraints.proofs.Sites.{length_mapped}
use Rattle.pst_written_constraints.proofs.Whole.{one_group_more, seen_at}
use Rattle.pst_written_constraints.proofs.constraints.write_groups.Goals as goal

pub loop-group-preserved : goal.loop-group-preserved
loop-group-preserved c =
    let m = view_model c.args.scene.now.model.now in
    let s = seen c.args.scene.now in
    let blanks = map blank_of c.args.places.now in
    let gs = groups m s in
    let n = c.loop-group.group-index in
    let xs = c.deref-group-items.result.now in
    let all : map view_group xs ≡ gs = ap (map view_group) c.deref-group-items.ensures.value ∙ c.in_ok-groups.ensures in
    let at : slice_get gs n ≡ Some (view_group c.group-item.result) = ap (λ ys. slice_get ys n) (sym all) ∙ seen_at view_group xs n c.group-item.result c.loop-group-test.true c.group-item.is in
    let told = c.in_ok-write_group.ensures in
    let inv = c.loop-group.invariant in (
      ap (λ (v : Vec _). v.items) told.spans ∙ inv.0,
      told.implied inv.1,
      λ yes. one_group_more m s blanks (map view c.loop-group.written.constraints.items) (map view c.write_group.new.written.constraints.items) gs n (view_group c.group-item.result) told.stay at (told.all yes) (inv.2 (told.before yes)),
    )

pub returns-clause-all : goal.returns-clause-all
returns-clause-all c =
    let m = view_model c.args.scene.now.model.now in
    let s = seen c.args.scene.now in
    let xs = c.deref-group-items.result.now in
    let all : map view_group xs ≡ groups m s = ap (map view_group) c.deref-group-items.ensures.value ∙ c.in_ok-groups.ensures in
    let long : length (groups m s) ≡ length xs = ap length (sym all) ∙ length_mapped view_group xs in
    λ yes i group is.
    let within = slice_get_within (groups m s) i group is in
    let end = c.loop-group-test.false in
    c.loop-group.invariant.2 yes i group (omega (arith, within, long, end)) is
