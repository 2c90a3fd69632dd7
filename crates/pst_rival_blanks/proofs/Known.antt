-- What is known of a built scenario by the numbers of its groups.
use Rattle.std.proofs.Common.{◌≡◌, ◌<◌, ℕ, List, length, get_or, sym, subst, arith}
use Rattle.pst_scen.specs.declared.scenario.Scenario.{Scenario}
use Rattle.pst_scen.specs.Order.{Together}
use Rattle.pst_scen.specs.Plans.{IsGroupNumber}
use Rattle.pst_order.specs.Built.{IsBuilt}
use Rattle.pst_claim_rivals.specs.Rivals.{IsKnown}
use Rattle.pst_claim_rivals.proofs.Differ.{group_of}

pub known : (s : Scenario) → IsBuilt s → (groups : List ℕ) → length groups ≡ length s.actions → ((a : ℕ) → a < length s.actions → IsGroupNumber s a (get_or groups a 0)) → IsKnown s groups
known s built groups many numbers = record {
  preorder = built.linked.preorder;
  one_leaf = built.linked.one_leaf;
  together = λ a b a_in b_in e.
      let one = (numbers a (omega (arith, a_in, many))).member in
      let other = (numbers b (omega (arith, b_in, many))).member in
      group_of one (subst (Together s b) (sym e) other);
}
