use Rattle.std.proofs.Common.{ap, sym, ◌∙◌, length}
use Rattle.pst_link_walk.specs.Walks.{Kept}
use Rattle.pst_list_walk.proofs.Free.{free_first}
use Rattle.pst_list_walk.proofs.Choosing.{first_self, first_value}
use Rattle.pst_list_walk.proofs.walk.ListWalk.new.Goals as goal

pub begin-requires : goal.begin-requires
begin-requires c = first_self c.args.model.now c.args.root c.args.seed c.args.level c.in_ok-links.links c.in_ok-links.ensures

pub invariant_of-result : goal.invariant_of-result
invariant_of-result c = record {
  sound = c.requires;
  far = c.in_ok-far.ensures;
  inlines = λ none. sym c.has_inlines-inlines.ensures ∙ none;
  linked = ap (λ (k : Kept). length k.choices) (sym c.in_ok-links.ensures);
  free = free_first c.args.model.now c.args.root c.args.seed c.args.level c.in_ok-links.links c.first_free-free.result c.in_ok-links.ensures c.first_free-free.ensures.few c.first_free-free.ensures.free;
  links = first_self c.args.model.now c.args.root c.args.seed c.args.level c.in_ok-links.links c.in_ok-links.ensures;
  valued = ap length (sym c.in_ok-values.ensures.fresh);
  stands = c.in_ok-values.ensures.stands;
}

pub returns : goal.returns
returns c = first_value c.args.model.now c.args.root c.args.seed c.args.level c.in_ok-links.links c.in_ok-values.values c.in_ok-links.ensures c.in_ok-values.ensures
