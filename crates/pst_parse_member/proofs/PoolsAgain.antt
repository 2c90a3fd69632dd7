-- Pools and binds read what they spell again.
use Rattle.pst_ast.specs.DeclarationLimits.{counts_size, counts_pool, counts_target, counts_next_target, counts_targets, counts_pool_bind}
use Rattle.pst_ast.specs.DeclarationProper.{IsProperSize, IsProperPool, IsProperTarget, IsProperNextTarget, IsProperTargets, IsProperPoolBind}
use Rattle.pst_ast.specs.DeclarationSpelling.{spell_size, spell_pool, spell_target, spell_next_target, spell_targets, spell_pool_bind}
use Rattle.pst_ast.specs.DeclarationTree.{SizeTree, PoolTree, TargetTree, NextTargetTree, TargetsTree, PoolBindTree, MakeSize, MakePool, MakeTarget, MakeNextTarget, TargetsAll, TargetsOne, TargetsSeveral, MakePoolBind}
use Rattle.pst_ast.specs.ExpressionSpelling.{spell_expr}
use Rattle.pst_ast.specs.Limits.{counted}
use Rattle.pst_ast.specs.Marks.{mark, name_token, spell_option}
use Rattle.pst_ast.specs.SharedLimits.{counts_dot_name}
use Rattle.pst_ast.specs.SharedSpelling.{spell_dot_name, spell_type_name}
use Rattle.pst_ast.specs.declared.leaf.Name.{Name}
use Rattle.pst_base.specs.declared.position.Place.{Place}
use Rattle.pst_parse_part.proofs.Following.{other_mark, other_name, next_list_in, next_part_in, any_list, expr_rereads, dot_name_rereads, dot_name_begins, dot_name_some, reread_made, reread_empty}
use Rattle.pst_parse_part.proofs.NamesAgain.{type_name_begins, type_name_rereads}
use Rattle.pst_parse_member.specs.Pools.{target_by, next_target_by, several_targets_by, targets_by, pool_by, pool_bind_by, size_by}
use Rattle.pst_parse_part.specs.Names.{type_name_by}
use Rattle.pst_parse_expr.proofs.SharedLaws.{IsAny}
use Rattle.pst_parse_operator.proofs.Stops.{IsNo, Separates, right_bracket_closes}
use Rattle.pst_parse_expr.specs.Constraints.{outermost_at, is_at, dot_name_by}
use Rattle.pst_reading.proofs.Rereading.{Rereads, Anything, reread_done, narrower, reread_mark, reread_name, reread_part, reread_last, reread_choice, EndsOption, reread_option, reread_list}
use Rattle.pst_reading.proofs.Tokens.{mark_is_so}
use Rattle.pst_reading.specs.Lists.{list_by}
use Rattle.pst_reading.specs.Options.{option_by}
use Rattle.pst_reading.specs.Parser.{next}
use Rattle.pst_token.specs.declared.kind.Kind.TheVariants as kind
use Rattle.pst_token.specs.declared.token.Token.{Token}
use Rattle.std.proofs.Common.{refl, arith, length-append, ℕ, suc, ◌≤◌, ◌≡◌, true, false, List, [], ◌∷◌, ◌++◌, Option, Some, length}
use Rattle.std.specs.List.{flat_map}

pub size_rereads : (size depth : ℕ) (x : SizeTree) → IsProperSize x → length (spell_size x) ≤ size → Rereads Anything (size_by size depth) (spell_size x) (counts_size depth x) x
size_rereads size depth (MakeSize left_bracket expr right_bracket) proper short =
    let long = length-append (spell_expr expr) (mark kind.RightBracket right_bracket ∷ []) in
    reread_mark _ kind.LeftBracket (counted depth 0) _ left_bracket _ _ _
    (reread_part _ (Separates 0) (outermost_at (suc size) depth) _ (spell_expr expr) _ expr _ _ _ (expr_rereads size depth expr proper (omega (arith, short, long))) (λ more m. (right_bracket_closes right_bracket))
    (reread_mark _ kind.RightBracket (counted depth 0) _ right_bracket _ _ _
    (reread_done _ _)))

pub size_begins : (E : Option Token → Type 0) → ((place : Place) → E (Some (mark kind.LeftBracket place))) → (x : SizeTree) (us : List Token) → E (next (spell_size x ++ us))
size_begins E h (MakeSize left_bracket expr right_bracket) us = h left_bracket

pub pool_rereads : (size depth : ℕ) (x : PoolTree) → IsProperPool x → length (spell_pool x) ≤ size → Rereads Anything (pool_by size depth) (spell_pool x) (counts_pool depth x) x
pool_rereads size depth (MakePool pool pool_size object name semicolon) proper short =
    let long = length-append (spell_option spell_size pool_size) (spell_type_name object ++ name_token name ∷ mark kind.Semicolon semicolon ∷ []) in
    let long2 = length-append (spell_type_name object) (name_token name ∷ mark kind.Semicolon semicolon ∷ []) in
    reread_mark _ kind.Pool (counted depth 0) _ pool _ _ _
    (reread_part _ (EndsOption (is_at kind.LeftBracket) Anything) (option_by (is_at kind.LeftBracket) (size_by size depth)) _ (spell_option spell_size pool_size) _ pool_size _ _ _ (reread_option spell_size IsProperSize (counts_size depth) (is_at kind.LeftBracket) Anything (size_by size depth) size (λ x p n. (size_rereads size depth x p n)) (λ x us. size_begins (λ n. is_at kind.LeftBracket n ≡ true) (mark_is_so kind.LeftBracket) x us) pool_size proper (omega (arith, short, long, long2))) (λ more m. (next_part_in (EndsOption (is_at kind.LeftBracket) Anything) (spell_type_name object) (name_token name ∷ mark kind.Semicolon semicolon ∷ []) more (type_name_begins (EndsOption (is_at kind.LeftBracket) Anything) (λ p. ((other_name kind.LeftBracket p refl), tt)) object ((name_token name ∷ mark kind.Semicolon semicolon ∷ []) ++ more))))
    (reread_part _ (IsNo kind.ColonColon) (type_name_by depth) _ (spell_type_name object) _ object _ _ _ (type_name_rereads depth object) (λ more m. (other_name kind.ColonColon name refl))
    (reread_name _ (counted depth 0) _ name _ _ _
    (reread_mark _ kind.Semicolon (counted depth 0) _ semicolon _ _ _
    (reread_done _ _)))))

pub target_rereads : (size depth : ℕ) (x : TargetTree) → IsProperTarget x → length (spell_target x) ≤ size → Rereads (EndsOption (is_at kind.Dot) Anything) (target_by size depth) (spell_target x) (counts_target depth x) x
target_rereads size depth (MakeTarget first second rest) proper short =
    let long = length-append (spell_dot_name second) (flat_map spell_dot_name rest) in
    reread_name _ (counted depth 0) _ first _ _ _
    (reread_part _ Anything (dot_name_by depth) _ (spell_dot_name second) _ second _ _ _ (dot_name_rereads depth second) (λ more m. tt)
    (reread_last _ (list_by (is_at kind.Dot) (dot_name_by depth) size) _ _ _ rest _ (reread_list spell_dot_name IsAny (counts_dot_name depth) (is_at kind.Dot) Anything (dot_name_by depth) size size (λ x p n. (dot_name_rereads depth x)) (λ x us p. record { found = dot_name_begins (λ n. is_at kind.Dot n ≡ true) (mark_is_so kind.Dot) x us; good = tt }) dot_name_some rest (any_list rest) (omega (arith, short, long)) (omega (arith, short, long))) refl))

pub target_begins : (E : Option Token → Type 0) → ((name : Name) → E (Some (name_token name))) → (x : TargetTree) (us : List Token) → E (next (spell_target x ++ us))
target_begins E h (MakeTarget first second rest) us = h first

pub next_target_begins : (E : Option Token → Type 0) → ((place : Place) → E (Some (mark kind.Comma place))) → (x : NextTargetTree) (us : List Token) → E (next (spell_next_target x ++ us))
next_target_begins E h (MakeNextTarget comma target) us = h comma

pub next_target_some : (x : NextTargetTree) → 1 ≤ length (spell_next_target x)
next_target_some (MakeNextTarget comma target) = omega arith

pub next_target_rereads : (size depth : ℕ) (x : NextTargetTree) → IsProperNextTarget x → length (spell_next_target x) ≤ size → Rereads (EndsOption (is_at kind.Dot) Anything) (next_target_by size depth) (spell_next_target x) (counts_next_target depth x) x
next_target_rereads size depth (MakeNextTarget comma target) proper short =
    reread_mark _ kind.Comma (counted depth 0) _ comma _ _ _
    (reread_last _ (target_by size depth) _ _ _ target _ (target_rereads size depth target proper (omega (arith, short))) refl)

several_targets_rereads : (size depth : ℕ) (left_brace : Place) (first : TargetTree) (others : List NextTargetTree) (right_brace : Place) → IsProperTargets (TargetsSeveral left_brace first others right_brace) → length (spell_targets (TargetsSeveral left_brace first others right_brace)) ≤ size → Rereads Anything (several_targets_by size depth) (spell_targets (TargetsSeveral left_brace first others right_brace)) (counts_targets depth (TargetsSeveral left_brace first others right_brace)) (TargetsSeveral left_brace first others right_brace)
several_targets_rereads size depth left_brace first rest right_brace proper short =
    let long = length-append (spell_target first) (flat_map spell_next_target rest ++ mark kind.RightBrace right_brace ∷ []) in
    let long2 = length-append (flat_map spell_next_target rest) (mark kind.RightBrace right_brace ∷ []) in
    reread_mark _ kind.LeftBrace (counted depth 0) _ left_brace _ _ _
    (reread_part _ (EndsOption (is_at kind.Dot) Anything) (target_by size depth) _ (spell_target first) _ first _ _ _ (target_rereads size depth first proper.0 (omega (arith, short, long, long2))) (λ more m. (next_list_in (EndsOption (is_at kind.Dot) Anything) spell_next_target rest (mark kind.RightBrace right_brace ∷ []) more (λ x us. next_target_begins (EndsOption (is_at kind.Dot) Anything) (λ p. ((other_mark kind.Dot kind.Comma p refl), tt)) x us) ((other_mark kind.Dot kind.RightBrace right_brace refl), tt)))
    (reread_part _ (EndsOption (is_at kind.Comma) (EndsOption (is_at kind.Dot) Anything)) (list_by (is_at kind.Comma) (next_target_by size depth) size) _ (flat_map spell_next_target rest) _ rest _ _ _ (reread_list spell_next_target IsProperNextTarget (counts_next_target depth) (is_at kind.Comma) (EndsOption (is_at kind.Dot) Anything) (next_target_by size depth) size size (λ x p n. (next_target_rereads size depth x p n)) (λ x us p. record { found = next_target_begins (λ n. is_at kind.Comma n ≡ true) (mark_is_so kind.Comma) x us; good = (next_target_begins (EndsOption (is_at kind.Dot) Anything) (λ p. ((other_mark kind.Dot kind.Comma p refl), tt)) x us) }) next_target_some rest proper.1 (omega (arith, short, long, long2)) (omega (arith, short, long, long2))) (λ more m. ((other_mark kind.Comma kind.RightBrace right_brace refl), ((other_mark kind.Dot kind.RightBrace right_brace refl), tt)))
    (reread_mark _ kind.RightBrace (counted depth 0) _ right_brace _ _ _
    (reread_done _ _))))

pub targets_rereads : (size depth : ℕ) (x : TargetsTree) → IsProperTargets x → length (spell_targets x) ≤ size → Rereads (EndsOption (is_at kind.Dot) Anything) (targets_by size depth) (spell_targets x) (counts_targets depth x) x
targets_rereads size depth (TargetsAll place) proper short =
    reread_choice _ kind.Star _ _ _ _ _ true (λ rest m. mark_is_so kind.Star place)
    (reread_empty kind.Star (counted depth 0) TargetsAll place _)
targets_rereads size depth (TargetsOne target) proper short =
    reread_choice _ kind.Star _ _ _ _ _ false (λ rest m. target_begins (IsNo kind.Star) (λ n. other_name kind.Star n refl) target rest)
    (reread_choice _ kind.LeftBrace _ _ _ _ _ false (λ rest m. target_begins (IsNo kind.LeftBrace) (λ n. other_name kind.LeftBrace n refl) target rest)
    (reread_made _ (target_by size depth) TargetsOne (spell_target target) (counts_target depth target) target (target_rereads size depth target proper short)))
targets_rereads size depth (TargetsSeveral left_brace first rest right_brace) proper short =
    reread_choice _ kind.Star _ _ _ _ _ false (λ more m. other_mark kind.Star kind.LeftBrace left_brace refl)
    (reread_choice _ kind.LeftBrace _ _ _ _ _ true (λ more m. mark_is_so kind.LeftBrace left_brace)
    (narrower Anything (EndsOption (is_at kind.Dot) Anything) _ _ _ _ (λ n m. tt) (several_targets_rereads size depth left_brace first rest right_brace proper short)))

pub targets_begins : (E : Option Token → Type 0) → ((place : Place) → E (Some (mark kind.Star place))) → ((place : Place) → E (Some (mark kind.LeftBrace place))) → ((name : Name) → E (Some (name_token name))) → (x : TargetsTree) (us : List Token) → E (next (spell_targets x ++ us))
targets_begins E star brace name_case (TargetsAll place) us = star place
targets_begins E star brace name_case (TargetsOne target) us = target_begins E name_case target us
targets_begins E star brace name_case (TargetsSeveral left_brace first rest right_brace) us = brace left_brace

pub pool_bind_rereads : (size depth : ℕ) (x : PoolBindTree) → IsProperPoolBind x → length (spell_pool_bind x) ≤ size → Rereads Anything (pool_bind_by size depth) (spell_pool_bind x) (counts_pool_bind depth x) x
pool_bind_rereads size depth (MakePoolBind bind pool targets semicolon) proper short =
    let long = length-append (spell_targets targets) (mark kind.Semicolon semicolon ∷ []) in
    reread_mark _ kind.Bind (counted depth 0) _ bind _ _ _
    (reread_name _ (counted depth 0) _ pool _ _ _
    (reread_part _ (EndsOption (is_at kind.Dot) Anything) (targets_by size depth) _ (spell_targets targets) _ targets _ _ _ (targets_rereads size depth targets proper (omega (arith, short, long))) (λ more m. ((other_mark kind.Dot kind.Semicolon semicolon refl), tt))
    (reread_mark _ kind.Semicolon (counted depth 0) _ semicolon _ _ _
    (reread_done _ _))))
