use Rattle.std.proofs.Common.{◌≡◌, ◌<◌, ◌∙◌, Some, map, ap, sym, subst}
use Rattle.std.specs.Prelude.{slice_get}
use Rattle.std.proofs.lemmas.Option.{same_Some}
use Rattle.std.proofs.lemmas.Result.{on_ok_weaker}
use Rattle.pst_model.specs.ModelView.{view_model}
use Rattle.pst_legal.specs.Blanks.{options}
use Rattle.pst_legal.specs.ValueReading.{with_option}
use Rattle.pst_blanks.specs.Blanks.{blank_of}
use Rattle.pst_value_walk.specs.Choices.{cleared_at, option_of}
use Rattle.pst_value_walk.proofs.Steps.{got_blank}
use Rattle.pst_value_walk.proofs.walk.put.Goals as goal

pub option_of-option-requires-clause-placed : goal.option_of-option-requires-clause-placed
option_of-option-requires-clause-placed c = c.requires.placed c.args.made c.in-Some.at (sym c.place_at.ensures ∙ c.in-Some.is)

pub option_of-option-requires-clause-below : goal.option_of-option-requires-clause-below
option_of-option-requires-clause-below c =
    let got = got_blank c.args.places.now c.args.made c.in-Some.at (sym c.place_at.ensures ∙ c.in-Some.is) in
    let same = same_Some c.requires.digit.blank (blank_of c.in-Some.at) (sym c.requires.digit.is ∙ got) in
    subst (λ b. c.args.digit < options (view_model c.args.model.now) c.args.scenario.now.actions b) same c.requires.digit.below

pub fill-requires-clause-placed : goal.fill-requires-clause-placed
fill-requires-clause-placed c = c.requires.placed c.args.made c.in-Some.at (sym c.place_at.ensures ∙ c.in-Some.is)

pub returns-clause-ok : goal.returns-clause-ok
returns-clause-ok c =
    let m = view_model c.args.model.now in
    let s = c.args.scenario.now in
    let b = blank_of c.in-Some.at in
    let got : slice_get (map blank_of c.args.places.now) c.args.made ≡ Some b = got_blank c.args.places.now c.args.made c.in-Some.at (sym c.place_at.ensures ∙ c.in-Some.is) in
    let same : c.requires.digit.blank ≡ b = same_Some c.requires.digit.blank b (sym c.requires.digit.is ∙ got) in
    on_ok_weaker c.fill.result
    (λ h. record {
      blank = b;
      is = got;
      below = subst (λ x. c.args.digit < options m s.actions x) same c.requires.digit.below;
      filled = h ∙ ap (λ k. with_option m k b s) (c.option_of-option.ensures.option ∙ ap (λ p. option_of m c.args.seed p s b c.args.digit) c.in_ok-number.ensures);
    }) c.fill.ensures.ok

pub returns-clause-back : goal.returns-clause-back
returns-clause-back c =
    let got : slice_get (map blank_of c.args.places.now) c.args.made ≡ Some (blank_of c.in-Some.at) = got_blank c.args.places.now c.args.made c.in-Some.at (sym c.place_at.ensures ∙ c.in-Some.is) in
    on_ok_weaker c.fill.result (λ h. h ∙ ap (λ o. cleared_at o c.fill.new.scenario) (sym got)) c.fill.ensures.back
