use Rattle.std.proofs.Common.{◌≡◌, ◌↔◌, ℕ, length, sym, subst, ap, ◌∙◌}
use Rattle.pst_scen.specs.declared.rows.Rows.{Rows}
use Rattle.pst_scen.specs.Rows.{Has}
use Rattle.pst_graph.specs.Grouping.{MustDirectly}
use Rattle.pst_square.specs.Squares.{IsBlank}
use Rattle.pst_square.specs.Spread.{AreOwn}
use Rattle.pst_graph.proofs.DirectRows.{numbers_own, spread_direct}
use Rattle.pst_graph.proofs.rows.direct_rows.Goals as goal

pub spread-requires-clause-own : goal.spread-requires-clause-own
spread-requires-clause-own c =
    let blank = c.in_ok-square.ensures in
    let added = c.in_ok-add_causes.ensures in
    subst (λ (n : ℕ). AreOwn c.args.groups.now n) (sym (added.sized ∙ blank.sized ∙ c.requires.count))
    (numbers_own c.args.scenario.now c.args.groups.now c.requires.built.linked c.requires.numbers)

pub returns : goal.returns
returns c =
    let blank = c.in_ok-square.ensures in
    let added = c.in_ok-add_causes.ensures in
    let spread = c.in_ok-spread.ensures in
    let size : c.into_rows.result.size ≡ length c.args.scenario.now.actions = ap (λ (r : Rows). r.size) c.into_rows.ensures.is ∙ spread.sized ∙ added.sized ∙ blank.sized ∙ c.requires.count in (
      size,
      c.into_rows.ensures.square,
      λ a b a_in b_in.
          subst (λ (r : Rows). Has r a b ↔ MustDirectly c.args.scenario.now a b) (sym c.into_rows.ensures.is)
          (spread_direct c.args.scenario.now c.args.groups.now c.in_ok-square.square c.add_causes.new.square c.spread.new.square c.requires.built.linked c.requires.numbers
          (subst (λ (n : ℕ). IsBlank c.in_ok-square.square n) c.requires.count blank) added spread a b a_in b_in),
    )
