use Rattle.std.proofs.Common.{◌<◌, ◌∙◌, ap, sym, subst}
use Rattle.std.proofs.lemmas.Option.{same_Some, IfSome_then}
use Rattle.pst_model.specs.ModelView.{view_model}
use Rattle.pst_legal.specs.Blanks.{options}
use Rattle.pst_blanks.specs.Blanks.{blank_of, blank_value}
use Rattle.pst_value_walk.specs.Choices.{option_of}
use Rattle.pst_value_walk.proofs.Steps.{got_blank}
use Rattle.pst_value_walk.proofs.walk.value_at.Goals as goal

pub option_of-option-requires-clause-placed : goal.option_of-option-requires-clause-placed
option_of-option-requires-clause-placed c = c.requires.placed c.args.made c.in-Some.at (sym c.place_at.ensures ∙ c.in-Some.is)

pub option_of-option-requires-clause-below : goal.option_of-option-requires-clause-below
option_of-option-requires-clause-below c =
    let got = got_blank c.args.places.now c.args.made c.in-Some.at (sym c.place_at.ensures ∙ c.in-Some.is) in
    let same = same_Some c.requires.digit.blank (blank_of c.in-Some.at) (sym c.requires.digit.is ∙ got) in
    subst (λ b. c.args.digit < options (view_model c.args.model.now) c.args.scenario.now.actions b) same c.requires.digit.below

pub returns : goal.returns
returns c =
    let m = view_model c.args.model.now in
    let s = c.args.scenario.now in
    let b = blank_of c.in-Some.at in
    IfSome_then c.value_of.result c.value_of.ensures
    (λ v h. record {
      blank = b;
      is = got_blank c.args.places.now c.args.made c.in-Some.at (sym c.place_at.ensures ∙ c.in-Some.is);
      value = h ∙ ap (λ k. blank_value m s.actions b k) (c.option_of-option.ensures.option ∙ ap (λ p. option_of m c.args.seed p s b c.args.digit) c.in-Ok.ensures);
    })
