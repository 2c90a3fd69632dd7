-- Constraints under premises, each of which implies what stands behind it.
use Rattle.std.specs.Prelude.{List, [], ◌∷◌, ◌++◌, map}
use Rattle.pst_expr.specs.Tree.{Expression, Binary, view}
use Rattle.pst_expr.specs.declared.tree.BinaryOp.TheVariants.{Implies}
use Rattle.pst_model.specs.ConstraintTree.{ConstraintTree, SlotTree}
use Rattle.pst_terms.specs.Terms.{Term}
use Rattle.pst_terms.specs.Slots.{with_term, numbered}
use Rattle.pst_numbering.specs.Kept.{view_all}
use Rattle.pst_constraints.specs.declared.premises.Premises.{Premises}

-- the premises by the numbers of their slots, and these
pub record Before : Type 0 where
  pub conditions : List Expression
  pub slots : List SlotTree

abbrev pub view_premises : Premises → Before
view_premises p = record { conditions = map view p.conditions.items; slots = view_all p.slots.items }

abbrev pub implied_by : List Expression → Expression → Expression
implied_by [] e = e
implied_by (c ∷ more) e = Binary Implies c (implied_by more e)

-- a constraint under premises
abbrev pub made : Before → Term SlotTree → ConstraintTree
made p t = record { expression = implied_by p.conditions (numbered (with_term p.slots t) t); slots = with_term p.slots t }

-- one more premise
abbrev pub with_premise : Before → Term SlotTree → Before
with_premise p c = record { conditions = p.conditions ++ numbered (with_term p.slots c) c ∷ []; slots = with_term p.slots c }
