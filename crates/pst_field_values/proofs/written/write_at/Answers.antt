use Rattle.std.proofs.Common.{Contains, sym, subst}
use Rattle.pst_model.specs.ModelView.{view_model}
use Rattle.pst_known.specs.Known.{seen}
use Rattle.pst_constraint_sites.specs.Laws.{HasAt}
use Rattle.pst_field_values.specs.Subjects.{IsThere}
use Rattle.pst_field_values.proofs.Later.{compound_there, type_lasts}
use Rattle.pst_field_values.proofs.written.write_at.Goals as goal

pub write_all-requires-clause-there : goal.write_all-requires-clause-there
write_all-requires-clause-there c =
    let nodes = c.args.scene.now.nodes.now in
    let at = compound_there nodes c.args.n c.in-Some.action (sym c.in-Some.ensures) in
    subst (IsThere nodes) (sym c.requires.at) (at.node, at.is)

pub write_all-requires-clause-last : goal.write_all-requires-clause-last
write_all-requires-clause-last c =
    let m = view_model c.args.scene.now.model.now in
    let s = seen c.args.scene.now in
    λ k has t later.
    subst (λ site. HasAt m t site k) (sym c.requires.at)
    (type_lasts m s c.requires.sound c.args.n c.in-Some.action (sym c.in-Some.ensures) k (subst (λ ks. Contains ks k) c.action_constraints-constraints.ensures has) t later)
