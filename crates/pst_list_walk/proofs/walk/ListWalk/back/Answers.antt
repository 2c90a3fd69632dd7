use Rattle.std.proofs.Common.{◌<◌, ◌∙◌, length, sym, subst}
use Rattle.pst_list_walk.specs.Made.{choices_of}
use Rattle.pst_list_walk.proofs.Parts.{behind_back}
use Rattle.pst_list_walk.proofs.Answering.{some_stands}
use Rattle.pst_list_walk.proofs.Choosing.{valued_more, one_unvalued, values_before, links_some, no_values, link_before, link_inside, link_back}
use Rattle.pst_list_walk.proofs.Free.{free_before, linked_before}
use Rattle.pst_list_walk.proofs.walk.ListWalk.back.Goals as goal

pub back-requires : goal.back-requires
back-requires c =
    let w = c.self.inside in
    valued_more w.values c.in-Some.values w.valued c.in-Some.is c.self.invariant.valued c.if-self-gt0.true

pub invariant_of-self : goal.invariant_of-self
invariant_of-self c =
    let w = c.self.inside in
    let k = c.in-Some.values in
    let l = c.back.new.self in
    let d = c.back.ensures.0 in
    let e = c.back.ensures.1 in
    record {
      sound = c.self.invariant.sound;
      far = c.self.invariant.far;
      inlines = c.self.invariant.inlines;
      linked = c.self.invariant.linked;
      free = c.self.invariant.free;
      links = c.self.invariant.links;
      valued = one_unvalued w.values k l d w.valued c.in-Some.is c.self.invariant.valued e;
      stands = behind_back w.model.now w.root w.seed w.level w.links.choices k l d (some_stands w.model.now w.root w.seed w.level w.links.choices w.values k c.in-Some.is c.self.invariant.stands) e;
    }

pub returns-then-self-gt0 : goal.returns-then-self-gt0
returns-then-self-gt0 c =
    let w = c.self.inside in
    (c.back.ensures.0, sym c.self.view_is ∙ values_before w.model.now w.root w.seed w.level w.links.choices w.values c.in-Some.values c.back.new.self c.back.ensures.0 c.in-Some.is c.back.ensures.1)

-- a choice of what stands before the values

pub back-requires-2 : goal.back-requires-2
back-requires-2 c =
    let w = c.self.inside in
    links_some w.links.choices (choices_of w.values) w.valued c.self.invariant.valued c.if-self-gt0.false (subst (λ k. 0 < length k.choices) (sym c.self.view_is) c.requires)

pub invariant_of-self-2 : goal.invariant_of-self-2
invariant_of-self-2 c =
    let w = c.self.inside in
    let new = c.back-2.new.self in
    let d = c.back-2.ensures.0 in
    let e = c.back-2.ensures.1 in
    record {
      sound = c.self.invariant.sound;
      far = c.self.invariant.far;
      inlines = c.self.invariant.inlines;
      linked = c.saturating_sub-self-inside.ensures ∙ linked_before w.model.now w.root w.seed w.level w.links new d w.linked e c.self.invariant.linked;
      free = free_before w.model.now w.root w.seed w.level w.links new d w.free w.linked c.least-self-inside.result e c.self.invariant.linked c.least-self-inside.ensures.first c.least-self-inside.ensures.second c.self.invariant.free;
      links = link_before w.model.now w.root w.seed w.level w.links new d c.self.invariant.links e;
      valued = c.self.invariant.valued ∙ no_values w.values w.valued c.self.invariant.valued c.if-self-gt0.false;
      stands = link_inside w.model.now w.root w.seed w.level w.links new d w.values e c.self.invariant.stands;
    }

pub returns : goal.returns
returns c =
    let w = c.self.inside in
    let d = c.back-2.ensures.0 in
    (d, sym c.self.view_is ∙ link_back w.model.now w.root w.seed w.level w.links c.back-2.new.self d w.values (no_values w.values w.valued c.self.invariant.valued c.if-self-gt0.false) c.back-2.ensures.1)
