-- Each token of a tree counts once: the trees of shared.
use Rattle.std.proofs.Common.{◌≡◌, ℕ, suc, length, ap, refl, ◌++◌}
use Rattle.pst_ast.specs.ExpressionTree.{RangesTree, MakeRanges, NextRangeTree, MakeNextRange, RangeTree, RangeSingle, RangeBetween, NextRangeRow, NoNextRangeRow, MoreNextRangeRow}
use Rattle.pst_ast.specs.SharedTree.{NextExprTree, MakeNextExpr, NamesTree, MakeNames, PlainTree, PlainInt, PlainBit, PlainBool, WidthTree, MakeWidth, LowTree, MakeLow, TypeTree, TypePlain, TypeNamed, DomainTree, MakeDomain}
use Rattle.pst_ast.specs.declared.shared.NextName.{NextName}
use Rattle.pst_ast.specs.declared.shared.DotName.{DotName}
use Rattle.pst_ast.specs.declared.shared.LabelNode.{LabelNode}
use Rattle.pst_ast.specs.declared.shared.TypeName.{TypeName}
use Rattle.pst_ast.specs.declared.shared.ScopedName.{ScopedName}
use Rattle.pst_ast.specs.SharedLimits.{counts_next_expr, counts_next_name, counts_dot_name, counts_names, counts_label, counts_scoped_name, counts_type_name, counts_low, counts_width, counts_plain, counts_own_range, counts_own_next_range, counts_own_range_row, counts_own_ranges, counts_domain, counts_type}
use Rattle.pst_ast.specs.SharedSpelling.{spell_next_expr, spell_next_name, spell_dot_name, spell_names, spell_label, spell_scoped_name, spell_type_name, spell_low, spell_width, spell_plain, spell_domain, spell_type}
use Rattle.pst_ast.specs.ExpressionSpelling.{spell_range, spell_next_range, spell_next_range_row, spell_ranges}
use Rattle.pst_ast.specs.Limits.{counts_option}
use Rattle.pst_ast.specs.Marks.{spell_option}
use Rattle.pst_counted_tokens.proofs.Expression.{each_expr}
use Rattle.pst_counted_tokens.proofs.Rows.{behind, each_of_list, each_of_option}

pub each_next_expr : (depth : ℕ) (t : NextExprTree) → length (counts_next_expr depth t) ≡ length (spell_next_expr t)
each_next_expr depth (MakeNextExpr comma_place expr) = ap suc (each_expr depth 0 expr)

pub each_next_name : (depth : ℕ) (t : NextName) → length (counts_next_name depth t) ≡ length (spell_next_name t)
each_next_name depth t = refl

pub each_dot_name : (depth : ℕ) (t : DotName) → length (counts_dot_name depth t) ≡ length (spell_dot_name t)
each_dot_name depth t = refl

pub each_names : (depth : ℕ) (t : NamesTree) → length (counts_names depth t) ≡ length (spell_names t)
each_names depth (MakeNames first rest) = ap suc (each_of_list (counts_next_name depth) spell_next_name (λ x. each_next_name depth x) rest)

pub each_label : (depth : ℕ) (t : LabelNode) → length (counts_label depth t) ≡ length (spell_label t)
each_label depth t = refl

pub each_scoped_name : (depth : ℕ) (t : ScopedName) → length (counts_scoped_name depth t) ≡ length (spell_scoped_name t)
each_scoped_name depth t = refl

pub each_type_name : (depth : ℕ) (t : TypeName) → length (counts_type_name depth t) ≡ length (spell_type_name t)
each_type_name depth t = ap suc (each_of_option (counts_scoped_name depth) spell_scoped_name (λ x. each_scoped_name depth x) t.second)

pub each_low : (depth : ℕ) (t : LowTree) → length (counts_low depth t) ≡ length (spell_low t)
each_low depth (MakeLow colon_place expr) = ap suc (each_expr depth 0 expr)

pub each_width : (depth : ℕ) (t : WidthTree) → length (counts_width depth t) ≡ length (spell_width t)
each_width depth (MakeWidth left_bracket_place expr low right_bracket_place) = ap suc (behind _ _ _ _ (each_expr depth 0 expr) (behind _ _ _ _ (each_of_option _ _ (λ x. each_low depth x) low) refl))

pub each_plain : (depth : ℕ) (t : PlainTree) → length (counts_plain depth t) ≡ length (spell_plain t)
each_plain depth (PlainInt int_place width) = ap suc (each_of_option _ _ (λ x. each_width depth x) width)
each_plain depth (PlainBit bit_place width) = ap suc (each_of_option _ _ (λ x. each_width depth x) width)
each_plain depth (PlainBool place) = refl

pub each_own_range : (depth : ℕ) (t : RangeTree) → length (counts_own_range depth t) ≡ length (spell_range t)
each_own_range depth (RangeSingle expr) = each_expr depth 0 expr
each_own_range depth (RangeBetween low dots_place high) = behind _ _ _ _ (each_expr depth 0 low) (ap suc (each_expr depth 0 high))

pub each_own_next_range : (depth : ℕ) (t : NextRangeTree) → length (counts_own_next_range depth t) ≡ length (spell_next_range t)
each_own_next_range depth (MakeNextRange comma_place range) = ap suc (each_own_range depth range)

pub each_own_range_row : (depth : ℕ) (t : NextRangeRow) → length (counts_own_range_row depth t) ≡ length (spell_next_range_row t)
each_own_range_row depth NoNextRangeRow = refl
each_own_range_row depth (MoreNextRangeRow (MakeNextRange comma_place range) tail) = ap suc (behind _ _ _ _ (each_own_range depth range) (each_own_range_row depth tail))

pub each_own_ranges : (depth : ℕ) (t : RangesTree) → length (counts_own_ranges depth t) ≡ length (spell_ranges t)
each_own_ranges depth (MakeRanges first rest) = behind _ _ _ _ (each_own_range depth first) (each_own_range_row depth rest)

pub each_domain : (depth : ℕ) (t : DomainTree) → length (counts_domain depth t) ≡ length (spell_domain t)
each_domain depth (MakeDomain in_place left_bracket_place ranges right_bracket_place) = ap suc (ap suc (behind _ _ _ _ (each_own_ranges depth ranges) refl))

pub each_type : (depth : ℕ) (t : TypeTree) → length (counts_type depth t) ≡ length (spell_type t)
each_type depth (TypePlain plain domain) = behind _ _ _ _ (each_plain depth plain) (each_of_option _ _ (λ x. each_domain depth x) domain)
each_type depth (TypeNamed name domain) = behind (counts_type_name depth name) (counts_option (counts_domain depth) domain) (spell_type_name name) (spell_option spell_domain domain) (each_type_name depth name) (each_of_option _ _ (λ x. each_domain depth x) domain)
