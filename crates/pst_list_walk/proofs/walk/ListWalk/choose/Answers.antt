use Rattle.std.proofs.Common.{◌∙◌, length, ap, sym, subst, refl}
use Rattle.pst_shape.specs.Walks.{HasDigit}
use Rattle.pst_value_walk.specs.Walks.{answer as value_answer}
use Rattle.pst_link_walk.specs.Walks.{with_choice}
use Rattle.pst_list_walk.specs.Walks.{answer}
use Rattle.pst_list_walk.specs.Made.{choices_of, Goes}
use Rattle.pst_list_walk.proofs.Parts.{behind_next}
use Rattle.pst_list_walk.proofs.Answering.{digit_same, some_stands, some_answers, one_valued}
use Rattle.pst_list_walk.proofs.Going.{goes_linked, goes_free}
use Rattle.pst_list_walk.proofs.Choosing.{goes_self, goes_values, goes_stands, link_value, link_digit, values_more}
use Rattle.pst_list_walk.proofs.walk.ListWalk.choose.Goals as goal

pub choose-requires : goal.choose-requires
choose-requires c =
    let w = c.self.inside in
    let k = c.in-Some.values in
    digit_same (value_answer k) c.args.digit
    (subst (λ a. HasDigit a c.args.digit) (some_answers w.model.now w.root w.seed w.level w.links.choices w.values k c.in-Some.is c.self.invariant.stands)
    (subst (λ x. HasDigit (answer x) c.args.digit) (sym c.self.view_is) c.requires))

pub invariant_of-self-in-Some : goal.invariant_of-self-in-Some
invariant_of-self-in-Some c =
    let w = c.self.inside in
    let k = c.in-Some.values in
    let l = c.choose.new.self in
    let e = c.in_ok-choose-in-Some.ensures.ok in
    record {
      sound = c.self.invariant.sound;
      far = c.self.invariant.far;
      inlines = c.self.invariant.inlines;
      linked = c.self.invariant.linked;
      free = c.self.invariant.free;
      links = c.self.invariant.links;
      valued = c.in_ok-valued-in-Some.ensures ∙ one_valued w.model.now w.root w.seed w.level k l c.args.digit w.valued (c.self.invariant.valued ∙ ap (λ o. length (choices_of o)) c.in-Some.is) e;
      stands = behind_next w.model.now w.root w.seed w.level w.links.choices k l c.args.digit (some_stands w.model.now w.root w.seed w.level w.links.choices w.values k c.in-Some.is c.self.invariant.stands) e;
    }

pub returns-in_ok-choose-in-Some-clause-ok : goal.returns-in_ok-choose-in-Some-clause-ok
returns-in_ok-choose-in-Some-clause-ok c =
    let w = c.self.inside in
    values_more w.model.now w.root w.seed w.level w.links.choices w.values c.in-Some.values c.choose.new.self c.args.digit c.in-Some.is c.in_ok-choose-in-Some.ensures.ok ∙ ap (λ x. with_choice x c.args.digit) c.self.view_is

-- before the sources are read through

pub choose_link-requires-clause-links : goal.choose_link-requires-clause-links
choose_link-requires-clause-links c = c.self.invariant.links

pub choose_link-requires-clause-digit : goal.choose_link-requires-clause-digit
choose_link-requires-clause-digit c =
    let w = c.self.inside in
    link_digit w.model.now w.root w.seed w.level w.links w.values c.args.digit c.self.invariant.links c.in-None.is c.self.invariant.stands
    (subst (λ x. HasDigit (answer x) c.args.digit) (sym c.self.view_is) c.requires)

pub invariant_of-self-in-None : goal.invariant_of-self-in-None
invariant_of-self-in-None c =
    let w = c.self.inside in
    let new = c.keep_acts.new.links in
    let after = c.in_ok-values-in-None.values in
    let goes = subst (λ k. Goes w.model.now w.root w.seed w.level w.links.choices c.args.digit k after) (sym c.keep_acts.ensures) c.in_ok-values-in-None.ensures.ok in
    record {
      sound = c.self.invariant.sound;
      far = c.self.invariant.far;
      inlines = c.self.invariant.inlines;
      linked = c.in_ok-linked-in-None.ensures ∙ goes_linked w.model.now w.root w.seed w.level w.links.choices new c.args.digit w.linked after c.self.invariant.linked goes;
      free = goes_free w.model.now w.root w.seed w.level w.links w.values new c.args.digit w.free w.linked c.free_behind-self-inside.result c.size-size.result (length c.nodes-nodes.result.now) c.nodes-nodes.result.now after c.is_freed-is_freed.result c.self.invariant.links
          c.self.invariant.linked c.self.invariant.free goes (link_digit w.model.now w.root w.seed w.level w.links w.values c.args.digit c.self.invariant.links c.in-None.is c.self.invariant.stands (subst (λ x. HasDigit (answer x) c.args.digit) (sym c.self.view_is) c.requires))
          c.size-size.ensures c.nodes-nodes.ensures refl c.free_behind-self-inside.ensures c.is_freed-is_freed.ensures;
      links = goes_self w.model.now w.root w.seed w.level w.links.choices new c.args.digit after goes;
      valued = goes_values w.model.now w.root w.seed w.level w.links.choices new c.args.digit w.valued w.values after c.in-None.is c.self.invariant.valued goes;
      stands = goes_stands w.model.now w.root w.seed w.level w.links.choices new c.args.digit after goes;
    }

pub returns-in_ok-values-in-None-clause-ok : goal.returns-in_ok-values-in-None-clause-ok
returns-in_ok-values-in-None-clause-ok c =
    let w = c.self.inside in
    link_value w.model.now w.root w.seed w.level w.links.choices c.keep_acts.new.links c.args.digit w.values c.in_ok-values-in-None.values c.in-None.is
    (subst (λ k. Goes w.model.now w.root w.seed w.level w.links.choices c.args.digit k c.in_ok-values-in-None.values) (sym c.keep_acts.ensures) c.in_ok-values-in-None.ensures.ok) ∙ ap (λ x. with_choice x c.args.digit) c.self.view_is
