use Rattle.std.proofs.Common.{◌≡◌, ◌+◌, ◌∙◌, [], ◌∷◌, ◌++◌, map, length, ap, sym, subst}
use Rattle.pst_shape_parts.specs.Trees.{bare}
use Rattle.pst_shape.specs.Walks.{Kept as Shape, HasDigit, IfRead}
use Rattle.pst_supply.specs.Walks.{answer as supply_answer}
use Rattle.pst_link_walk.specs.Walks.{answer, with_choice}
use Rattle.pst_link_walk.specs.Made.{choices_of}
use Rattle.pst_link_walk.proofs.Beginning.{behind_next, shape_reads}
use Rattle.pst_link_walk.proofs.Answering.{digit_same, none_stands, none_answers, some_stands, some_answers, one_linked, links_more}
use Rattle.pst_link_walk.proofs.Choosing.{goes_self, goes_count, goes_links, goes_stands, shape_value}
use Rattle.pst_link_walk.specs.Opened.{AreOpened}
use Rattle.pst_link_walk.proofs.Opened.{opened_next}
use Rattle.pst_link_walk.proofs.walk.LinkWalk.choose.Goals as goal

pub choose-requires : goal.choose-requires
choose-requires c =
    let w = c.self.inside in
    let k = c.in-Some.supply in
    digit_same (supply_answer k) c.args.digit
    (subst (λ a. HasDigit a c.args.digit) (some_answers w.model.now w.root w.seed w.level w.shape.choices w.supply k c.in-Some.is c.self.invariant.stands)
    (subst (λ x. HasDigit (answer x) c.args.digit) (sym c.self.view_is) c.requires))

pub invariant_of-self-in-Some : goal.invariant_of-self-in-Some
invariant_of-self-in-Some c =
    let w = c.self.inside in
    let k = c.in-Some.supply in
    let l = c.choose.new.self in
    let e = c.in_ok-choose-in-Some.ensures.ok in
    let has = subst (λ a. HasDigit a c.args.digit) (some_answers w.model.now w.root w.seed w.level w.shape.choices w.supply k c.in-Some.is c.self.invariant.stands)
    (subst (λ x. HasDigit (answer x) c.args.digit) (sym c.self.view_is) c.requires) in
    record {
      order = c.self.invariant.order;
      shape = c.self.invariant.shape;
      made = c.self.invariant.made;
      linked = c.in_ok-linked-in-Some.ensures ∙ one_linked w.model.now w.root w.seed w.level k l c.args.digit w.linked (c.self.invariant.linked ∙ ap (λ o. length (choices_of o)) c.in-Some.is) e;
      stands = behind_next w.model.now w.root w.seed w.level w.shape.choices k l c.args.digit (some_stands w.model.now w.root w.seed w.level w.shape.choices w.supply k c.in-Some.is c.self.invariant.stands) has e;
      opened = c.self.invariant.opened;
    }

pub returns-in_ok-choose-in-Some-clause-ok : goal.returns-in_ok-choose-in-Some-clause-ok
returns-in_ok-choose-in-Some-clause-ok c =
    let w = c.self.inside in
    links_more w.model.now w.root w.seed w.level w.shape.choices w.supply c.in-Some.supply c.choose.new.self c.args.digit c.in-Some.is c.in_ok-choose-in-Some.ensures.ok ∙ ap (λ x. with_choice x c.args.digit) c.self.view_is

-- before the activity is read through

pub choose_shape-requires-clause-shape : goal.choose_shape-requires-clause-shape
choose_shape-requires-clause-shape c = c.self.invariant.shape

pub choose_shape-requires-clause-made : goal.choose_shape-requires-clause-made
choose_shape-requires-clause-made c = c.in_ok-made-in-None.ensures ∙ ap (λ n. n + 1) c.self.invariant.made

pub choose_shape-requires-clause-inside : goal.choose_shape-requires-clause-inside
choose_shape-requires-clause-inside c =
    let w = c.self.inside in
    none_stands w.model.now w.root w.seed w.level w.shape.choices w.supply c.in-None.is c.self.invariant.stands

pub choose_shape-requires-clause-digit : goal.choose_shape-requires-clause-digit
choose_shape-requires-clause-digit c =
    let w = c.self.inside in
    subst (λ a. HasDigit a c.args.digit) (none_answers w.model.now w.root w.seed w.level w.shape.choices w.supply c.in-None.is c.self.invariant.stands)
    (subst (λ x. HasDigit (answer x) c.args.digit) (sym c.self.view_is) c.requires)

pub invariant_of-self-in-None : goal.invariant_of-self-in-None
invariant_of-self-in-None c =
    let w = c.self.inside in
    let new = c.choose_shape.new.shape in
    let after = c.in_ok-supply-in-None.supply in
    let goes = c.in_ok-supply-in-None.ensures.ok in
    record {
      order = c.self.invariant.order;
      shape = goes_self w.model.now w.root w.seed w.level w.shape.choices new c.args.digit after goes;
      made = goes_count w.model.now w.root w.seed w.level w.shape.choices new c.args.digit c.in_ok-made-in-None.made after (c.in_ok-made-in-None.ensures ∙ ap (λ n. n + 1) c.self.invariant.made) goes;
      linked = goes_links w.model.now w.root w.seed w.level w.shape.choices new c.args.digit w.linked w.supply after c.in-None.is c.self.invariant.linked goes;
      stands = goes_stands w.model.now w.root w.seed w.level w.shape.choices new c.args.digit after goes;
      opened =
          let leaves = c.leaves-leaves.result.now in
          subst (λ xs. AreOpened w.model.now w.root w.seed w.level xs c.truncate.new.self.items) (sym (ap (λ (x : Shape). x.choices) goes.is))
          (subst (AreOpened w.model.now w.root w.seed w.level (w.shape.choices ++ c.args.digit ∷ [])) (sym c.truncate.ensures.items)
          (opened_next w.model.now w.root w.seed w.level w.shape.choices c.args.digit w.opened.items leaves
          (subst (λ a. HasDigit a c.args.digit) (none_answers w.model.now w.root w.seed w.level w.shape.choices w.supply c.in-None.is c.self.invariant.stands) (subst (λ x. HasDigit (answer x) c.args.digit) (sym c.self.view_is) c.requires))
          (subst (λ a. IfRead a (λ s. leaves ≡ map bare s.actions)) (shape_reads w.model.now w.root w.seed w.level w.shape.choices w.shape c.self.invariant.shape) (c.leaves-leaves.ensures w.level))
          c.self.invariant.opened));
    }

pub returns-in_ok-supply-in-None-clause-ok : goal.returns-in_ok-supply-in-None-clause-ok
returns-in_ok-supply-in-None-clause-ok c =
    let w = c.self.inside in
    shape_value w.model.now w.root w.seed w.level w.shape.choices c.choose_shape.new.shape c.args.digit w.supply c.in_ok-supply-in-None.supply c.in-None.is c.in_ok-supply-in-None.ensures.ok ∙ ap (λ x. with_choice x c.args.digit) c.self.view_is
