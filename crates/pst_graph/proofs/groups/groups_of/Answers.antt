use Rattle.std.proofs.Common.{◌<◌, ℕ, List, sym, subst, ◌∙◌}
use Rattle.pst_graph.specs.Grouping.{IsApart}
use Rattle.pst_graph.proofs.Grouped.{least_members, alone_members, lowered_members}
use Rattle.pst_graph.proofs.groups.groups_of.Goals as goal

pub passes-init : goal.passes-init
passes-init c =
    alone_members c.args.scenario.now c.in_ok-groups.groups.items (c.in_ok-groups.ensures.0 ∙ c.requires.count)
    (λ a a_in. c.in_ok-groups.ensures.1 a (subst (λ (n : ℕ). a < n) (sym c.requires.count) a_in))

pub join_all-requires-clause-members : goal.join_all-requires-clause-members
join_all-requires-clause-members c =
    let apart = subst (λ (g : List ℕ). IsApart c.args.scenario.now g c.in-Some.a c.in-Some.b) c.deref.ensures.value c.in-Some.ensures in
    lowered_members c.args.scenario.now c.passes.groups.items c.lower.new.groups.items c.in-Some.a c.in-Some.b c.passes.invariant apart
    c.lower.ensures.many c.lower.ensures.at c.lower.ensures.others

pub returns : goal.returns
returns c = (
  c.passes.invariant.many,
  least_members c.args.scenario.now c.passes.groups.items c.requires.linked c.passes.invariant
      (subst (λ (g : List ℕ). (x y : ℕ) → IsApart c.args.scenario.now g x y → ⊥) c.deref.ensures.value c.in_default.ensures),
)
