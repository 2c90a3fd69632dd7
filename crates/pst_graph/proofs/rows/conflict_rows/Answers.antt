use Rattle.std.proofs.Common.{◌≡◌, ◌↔◌, ◌<◌, ℕ, length, sym, subst, ap, ◌∙◌}
use Rattle.pst_scen.specs.declared.rows.Rows.{Rows}
use Rattle.pst_scen.specs.Conflicts.{Conflict}
use Rattle.pst_scen.specs.Rows.{Has}
use Rattle.pst_square.specs.Squares.{IsBlank}
use Rattle.pst_graph.specs.Uses.{AreUses}
use Rattle.pst_graph.proofs.UsesApart.{use_inside, all_conflicts}
use Rattle.pst_graph.proofs.rows.conflict_rows.Goals as goal

pub add_conflicts-requires-clause-inside : goal.add_conflicts-requires-clause-inside
add_conflicts-requires-clause-inside c = λ i v is.
    let blank = c.in_ok-square.ensures in
    subst (λ (n : ℕ). v.act < n) (sym (blank.sized ∙ c.requires))
    (use_inside c.args.scenario.now c.in_ok-uses.uses.items c.args.count i v c.in_ok-uses.ensures is)

pub returns : goal.returns
returns c =
    let blank = c.in_ok-square.ensures in
    let added = c.in_ok-add_conflicts.ensures in
    let size : c.into_rows.result.size ≡ length c.args.scenario.now.actions = ap (λ (r : Rows). r.size) c.into_rows.ensures.is ∙ added.sized ∙ blank.sized ∙ c.requires in (
      size,
      c.into_rows.ensures.square,
      λ a b a_in b_in.
          subst (λ (r : Rows). Has r a b ↔ Conflict c.args.scenario.now a b) (sym c.into_rows.ensures.is)
          (all_conflicts c.args.scenario.now c.in_ok-uses.uses.items c.in_ok-square.square c.add_conflicts.new.square
          (subst (λ (n : ℕ). AreUses c.args.scenario.now c.in_ok-uses.uses.items n) c.requires c.in_ok-uses.ensures)
          (subst (λ (n : ℕ). IsBlank c.in_ok-square.square n) c.requires blank)
          added a b a_in b_in),
    )
