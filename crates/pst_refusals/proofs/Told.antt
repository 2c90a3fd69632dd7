-- What is told of a scenario's constraints follows from their list.
use Rattle.std.proofs.Common.{◌≡◌, Bool, true, false, not, refl, sym}
use Rattle.std.specs.Prelude.{length}
use Rattle.std.specs.List.{list_any}
use Rattle.std.proofs.lemmas.Bool.{false≢true}
use Rattle.pst_model.specs.ConstraintTree.{SlotTree, ConstraintTree}
use Rattle.pst_model.specs.ModelTree.{ModelTree}
use Rattle.pst_scen.specs.declared.scenario.Scenario.{Scenario}
use Rattle.pst_legal.specs.Standing.{Standing}
use Rattle.pst_legal.specs.Pieces.{is_true}
use Rattle.pst_legal.specs.Constraints.{HasConstraint, value_at}
use Rattle.pst_built.proofs.Members.{In, none_any, any_found}
use Rattle.pst_slots.specs.Listed.{Stating, stating, constraints_of}
use Rattle.pst_slots.proofs.Found.{found}
use Rattle.pst_slots.proofs.Kept.{all_found, stands_at}
use Rattle.pst_slots.proofs.Listed.{has_listed, listed_has}
use Rattle.pst_refusals.specs.Failing.{fails}
use Rattle.pst_refusals.specs.Answers.{StandEarlier, TellsRefusals, TellsUnmet}

to_list : (m : ModelTree) (s : Scenario) → StandEarlier s.nodes → (k : ConstraintTree) (standing : SlotTree → Standing) → HasConstraint m s k standing → In (stating standing k) (constraints_of m s)
to_list m s earlier k standing has =
    has_listed m s (λ n top step indices stands. all_found m s.nodes earlier n top step indices stands) (λ n top step indices stands. stands_at m s.nodes top stands) has

from_list : (m : ModelTree) (s : Scenario) (one : Stating) → In one (constraints_of m s) → HasConstraint m s one.constraint one.standing
from_list m s one has = listed_has m s (λ n x is. found m s.nodes (length s.nodes) n x is) one has

pub told_refused : (m : ModelTree) (s : Scenario) → StandEarlier s.nodes → (b : Bool) → b ≡ list_any (fails false) (constraints_of m s) → TellsRefusals m s b
told_refused m s earlier true e =
    let any = any_found (fails false) (constraints_of m s) (sym e) in
    record { constraint = any.0.constraint; standing = any.0.standing; has = from_list m s any.0 any.1; refused = any.2 }
told_refused m s earlier false e = λ k standing has. none_any (fails false) (constraints_of m s) (stating standing k) (sym e) (to_list m s earlier k standing has)

not_true : (b : Bool) → not b ≡ true → b ≡ true → ⊥
not_true true e h = false≢true e
not_true false e h = false≢true h

not_false : (b : Bool) → not b ≡ false → b ≡ true
not_false true e = refl
not_false false e = absurd (false≢true (sym e))

pub told_unmet : (m : ModelTree) (s : Scenario) → StandEarlier s.nodes → (b : Bool) → b ≡ list_any (fails true) (constraints_of m s) → TellsUnmet m s b
told_unmet m s earlier true e = λ holds.
    let any = any_found (fails true) (constraints_of m s) (sym e) in
    not_true (is_true (value_at any.0.constraint any.0.standing)) any.2 (holds any.0.constraint any.0.standing (from_list m s any.0 any.1))
told_unmet m s earlier false e = λ k standing has.
    not_false (is_true (value_at k standing)) (none_any (fails true) (constraints_of m s) (stating standing k) (sym e) (to_list m s earlier k standing has))
