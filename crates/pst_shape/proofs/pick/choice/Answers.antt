use Rattle.std.proofs.Common.{◌≡◌, ◌∙◌, ◌<◌, ◌+◌, ◌∷◌, ap, subst}
use Rattle.std.specs.Prelude.{slice_get}
use Rattle.std.proofs.lemmas.Result.{IfOk-weaker}
use Rattle.pst_rng.specs.Words.{start_of}
use Rattle.pst_model.specs.ModelView.{view_model}
use Rattle.pst_legal.specs.Reading.{then_read, option_at, read_pieces, read_piece}
use Rattle.pst_shape_parts.specs.Trees.{tree_of, scenario_of, values_at}
use Rattle.pst_shape_steps.specs.Pending.{IsDigit, way_at, options_at, options_of, spot_menu, first_size, below_fields, read_stack, read_on}
use Rattle.pst_shape_steps.proofs.Levels.{digit_read, value_read}
use Rattle.pst_shape.proofs.pick.choice.Goals as goal

pub returns-in-Place-clause-reads : goal.returns-in-Place-clause-reads
returns-in-Place-clause-reads c =
    let m = view_model c.args.model.now in
    let old = tree_of c.args.grown.now in
    let p = c.in-Place in
    let d : c.args.digit < options_of (spot_menu p.spot) = subst (λ a. IsDigit a c.args.digit) p.is c.requires.digit in
    IfOk-weaker c.choice_at_place.result _ _ (λ to h level left.
    ap (λ a. read_on m c.args.seed a (scenario_of m level old) c.args.place (c.args.digit ∷ left)) p.is
    ∙ ap (λ r. then_read r (read_stack m c.args.seed p.below.value)) (digit_read c.args.seed (spot_menu p.spot) (way_at m c.args.seed p.levels p.parent) (scenario_of m level old) c.args.place c.args.digit c.spot_option-option.result left d c.spot_option-option.ensures.option)
    ∙ h c.args.seed level (c.args.place + 1) left) c.choice_at_place.ensures.reads

pub returns-in-Value-clause-reads : goal.returns-in-Value-clause-reads
returns-in-Value-clause-reads c =
    let m = view_model c.args.model.now in
    let old = tree_of c.args.grown.now in
    let p = c.in-Value in
    let fs = p.fields.fields.now in
    let d : c.args.digit < first_size fs = subst (λ a. IsDigit a c.args.digit) p.is c.requires.digit in
    let n : c.options-count.result ≡ first_size fs = c.options-count.ensures ∙ ap options_at p.is in
    let k : c.option_from-option.result ≡ option_at (start_of c.args.seed c.args.place (first_size fs)) (first_size fs) c.args.digit =
    c.option_from-option.ensures.option ∙ ap (λ s. option_at s c.options-count.result c.args.digit) c.start.ensures ∙ ap (λ i. option_at (start_of c.args.seed c.args.place i) i c.args.digit) n in
    IfOk-weaker c.choice_of_value.result _ _ (λ to h level left.
    ap (λ a. read_on m c.args.seed a (scenario_of m level old) c.args.place (c.args.digit ∷ left)) p.is
    ∙ ap (λ r. then_read r (read_stack m c.args.seed p.below.value)) (value_read c.args.seed p.fields.node fs (values_at (slice_get old.nodes p.fields.node)) (λ values. read_pieces (read_piece m c.args.seed p.levels) (below_fields p.fields values) p.fields.node) (scenario_of m level old) c.args.place c.args.digit c.option_from-option.result left d k)
    ∙ h c.args.seed level (c.args.place + 1) left) c.choice_of_value.ensures.reads
