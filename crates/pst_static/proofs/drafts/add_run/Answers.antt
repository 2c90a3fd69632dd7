use Rattle.std.proofs.Common.{◌≡◌, ◌++◌, ◌∷◌, [], length, refl, sym, subst}
use Rattle.std.specs.Global.{Vec}
use Rattle.std.proofs.lemmas.Option.{slice_get_read}
use Rattle.pst_programs.specs.declared.program.Instruction.{Instruction}
use Rattle.pst_programs.specs.declared.program.Instruction.TheVariants.{Run}
use Rattle.pst_static.proofs.Drafting.{changed_at}
use Rattle.pst_static.proofs.drafts.add_run.Goals as goal

pub returns : goal.returns
returns c =
    let row = c.index-drafts-lane.result in
    let items = subst (λ (v : Vec Instruction). c.push.new.self.items ≡ v.items ++ Run c.args.action ∷ []) (sym c.index-drafts-lane.is) c.in_ok-push.ensures.items in
    changed_at (λ (x y : Vec Instruction). y.items ≡ x.items ++ Run c.args.action ∷ []) c.args.drafts.now c.args.lane row c.push.new.self c.requires
    (slice_get_read c.args.drafts.now (length c.args.drafts.now) c.args.lane row refl c.requires c.index-drafts-lane.is) items
