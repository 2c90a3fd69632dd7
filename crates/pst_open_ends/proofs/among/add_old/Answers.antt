use Rattle.std.proofs.Common.{◌∙◌, ◌++◌, get_or, ap, refl}
use Rattle.std.specs.Prelude.{flat_map}
use Rattle.pst_ties.specs.declared.tied.End.{End}
use Rattle.pst_open_ends.specs.Spots.{read_spot, given_sources}
use Rattle.pst_open_ends.specs.Options.{unless_own}
use Rattle.pst_open_ends.proofs.Alters.{get_same}
use Rattle.pst_open_ends.proofs.Rows.{walk_step}
use Rattle.pst_open_ends.proofs.Lookups.{free_is}
use Rattle.pst_open_ends.proofs.among.add_old.Goals as goal

pub loop-end-init : goal.loop-end-init
loop-end-init c =
    let need = c.args.need.now in
    let out = given_sources c.args.found.now.items in
    ap (λ l. out ++ flat_map (unless_own need.act) l) c.requires ∙ ap (λ l. out ++ l) (free_is c.args._acts.now (read_spot need))

pub loop-end-preserved : goal.loop-end-preserved
loop-end-preserved c =
    let act = c.args.need.now.act in
    let ends = c.args.free.now in
    let i = c.loop-end.end-index in
    let d : End = record { act = 0; reference = 0 } in
    let x = get_or ends i d in
    walk_step (λ k xs. flat_map (unless_own act) xs) (λ k e. unless_own act e) (λ k x xs. refl) ends i x c.loop-end-test.true (get_same ends i d x c.loop-end-test.true)
    (given_sources c.loop-end.found.items) (given_sources c.add_end.new.found.items) _ c.in_ok-add_end.ensures c.loop-end.invariant
