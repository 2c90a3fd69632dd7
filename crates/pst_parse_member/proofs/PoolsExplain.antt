-- What pools and binds explain.
use Rattle.pst_ast.specs.DeclarationLimits.{counts_size, counts_pool, counts_target, counts_next_target, counts_targets, counts_pool_bind}
use Rattle.pst_ast.specs.DeclarationProper.{IsProperSize, IsProperPool, IsProperTarget, IsProperNextTarget, IsProperTargets, IsProperPoolBind}
use Rattle.pst_ast.specs.DeclarationSpelling.{spell_size, spell_pool, spell_target, spell_next_target, spell_targets, spell_pool_bind}
use Rattle.pst_ast.specs.DeclarationTree.{MakeSize, MakePool, MakeTarget, MakeNextTarget, TargetsAll, TargetsOne, TargetsSeveral, MakePoolBind}
use Rattle.pst_ast.specs.ExpressionLimits.{counts_expr}
use Rattle.pst_ast.specs.ExpressionProper.{IsProperExpr}
use Rattle.pst_ast.specs.ExpressionSpelling.{spell_expr}
use Rattle.pst_ast.specs.Limits.{counted, counts_option}
use Rattle.pst_ast.specs.Marks.{spell_option, OptionIs}
use Rattle.pst_ast.specs.SharedLimits.{counts_dot_name, counts_type_name}
use Rattle.pst_ast.specs.SharedSpelling.{spell_dot_name, spell_type_name}
use Rattle.pst_parse_part.proofs.ChoicesExplain.{explains_if_mark, explains_option, explains_made, explains_empty, dot_name_explains}
use Rattle.pst_parse_part.proofs.NamesExplain.{type_name_explains}
use Rattle.pst_parse_member.specs.Pools.{target_by, next_target_by, several_targets_by, targets_by, pool_by, pool_bind_by, size_by}
use Rattle.pst_parse_part.specs.Names.{type_name_by}
use Rattle.pst_parse_expr.proofs.Answering.{explains}
use Rattle.pst_parse_expr.proofs.SharedLaws.{IsAny}
use Rattle.pst_parse_expr.specs.Constraints.{outermost_at, is_at, dot_name_by}
use Rattle.pst_reading.proofs.Chains.{explains_mark, explains_name, explains_part}
use Rattle.pst_reading.proofs.Explaining.{Means, Explains, explains_done}
use Rattle.pst_reading.proofs.Lists.{list_explains}
use Rattle.pst_reading.specs.Lists.{list_by}
use Rattle.pst_reading.specs.Options.{option_by}
use Rattle.pst_token.specs.declared.kind.Kind.TheVariants as kind
use Rattle.std.proofs.Common.{refl, append-nil, ℕ, suc}
use Rattle.std.specs.List.{flat_map, AllByRecursion}

pub size_explains : (size depth : ℕ) → Explains (Means spell_size IsProperSize (counts_size depth)) (size_by size depth)
size_explains size depth =
    explains_mark _ kind.LeftBracket (counted depth 0) _ (λ left_bracket.
    explains_part _ spell_expr IsProperExpr (counts_expr depth 0) (outermost_at (suc size) depth) _ (explains depth (suc size)) (λ expr h1.
    explains_mark _ kind.RightBracket (counted depth 0) _ (λ right_bracket.
    explains_done _ (MakeSize left_bracket expr right_bracket) (record { is = refl; proper = h1; counted = refl }))))

pub pool_explains : (size depth : ℕ) → Explains (Means spell_pool IsProperPool (counts_pool depth)) (pool_by size depth)
pool_explains size depth =
    explains_mark _ kind.Pool (counted depth 0) _ (λ pool.
    explains_part _ (spell_option spell_size) (OptionIs IsProperSize) (counts_option (counts_size depth)) (option_by (is_at kind.LeftBracket) (size_by size depth)) _ (explains_option spell_size IsProperSize (counts_size depth) (is_at kind.LeftBracket) (size_by size depth) (size_explains size depth)) (λ pool_size h1.
    explains_part _ spell_type_name IsAny (counts_type_name depth) (type_name_by depth) _ (type_name_explains depth) (λ object h2.
    explains_name _ (counted depth 0) _ (λ name.
    explains_mark _ kind.Semicolon (counted depth 0) _ (λ semicolon.
    explains_done _ (MakePool pool pool_size object name semicolon) (record { is = refl; proper = h1; counted = refl }))))))

pub target_explains : (size depth : ℕ) → Explains (Means spell_target IsProperTarget (counts_target depth)) (target_by size depth)
target_explains size depth =
    explains_name _ (counted depth 0) _ (λ first.
    explains_part _ spell_dot_name IsAny (counts_dot_name depth) (dot_name_by depth) _ (dot_name_explains depth) (λ second h1.
    explains_part _ (flat_map spell_dot_name) (AllByRecursion IsAny) (flat_map (counts_dot_name depth)) (list_by (is_at kind.Dot) (dot_name_by depth) size) _ (list_explains spell_dot_name IsAny (counts_dot_name depth) (is_at kind.Dot) (dot_name_by depth) (dot_name_explains depth) size) (λ rest h2.
    explains_done _ (MakeTarget first second rest) (record { is = rw append-nil refl; proper = tt; counted = rw append-nil refl }))))

pub next_target_explains : (size depth : ℕ) → Explains (Means spell_next_target IsProperNextTarget (counts_next_target depth)) (next_target_by size depth)
next_target_explains size depth =
    explains_mark _ kind.Comma (counted depth 0) _ (λ comma.
    explains_part _ spell_target IsProperTarget (counts_target depth) (target_by size depth) _ (target_explains size depth) (λ target h1.
    explains_done _ (MakeNextTarget comma target) (record { is = rw append-nil refl; proper = h1; counted = rw append-nil refl })))

pub several_targets_explains : (size depth : ℕ) → Explains (Means spell_targets IsProperTargets (counts_targets depth)) (several_targets_by size depth)
several_targets_explains size depth =
    explains_mark _ kind.LeftBrace (counted depth 0) _ (λ left_brace.
    explains_part _ spell_target IsProperTarget (counts_target depth) (target_by size depth) _ (target_explains size depth) (λ first h1.
    explains_part _ (flat_map spell_next_target) (AllByRecursion IsProperNextTarget) (flat_map (counts_next_target depth)) (list_by (is_at kind.Comma) (next_target_by size depth) size) _ (list_explains spell_next_target IsProperNextTarget (counts_next_target depth) (is_at kind.Comma) (next_target_by size depth) (next_target_explains size depth) size) (λ rest h2.
    explains_mark _ kind.RightBrace (counted depth 0) _ (λ right_brace.
    explains_done _ (TargetsSeveral left_brace first rest right_brace) (record { is = refl; proper = (h1, h2); counted = refl })))))

pub targets_explains : (size depth : ℕ) → Explains (Means spell_targets IsProperTargets (counts_targets depth)) (targets_by size depth)
targets_explains size depth =
    let M = Means spell_targets IsProperTargets (counts_targets depth) in
    explains_if_mark M kind.Star _ _ (explains_empty M kind.Star (counted depth 0) TargetsAll (λ p. record { is = refl; proper = tt; counted = refl }))
    (explains_if_mark M kind.LeftBrace _ _ (several_targets_explains size depth)
    (explains_made M spell_target IsProperTarget (counts_target depth) (target_by size depth) TargetsOne (target_explains size depth) (λ x p. record { is = refl; proper = p; counted = refl })))

pub pool_bind_explains : (size depth : ℕ) → Explains (Means spell_pool_bind IsProperPoolBind (counts_pool_bind depth)) (pool_bind_by size depth)
pool_bind_explains size depth =
    explains_mark _ kind.Bind (counted depth 0) _ (λ bind.
    explains_name _ (counted depth 0) _ (λ pool.
    explains_part _ spell_targets IsProperTargets (counts_targets depth) (targets_by size depth) _ (targets_explains size depth) (λ targets h2.
    explains_mark _ kind.Semicolon (counted depth 0) _ (λ semicolon.
    explains_done _ (MakePoolBind bind pool targets semicolon) (record { is = refl; proper = h2; counted = refl })))))
