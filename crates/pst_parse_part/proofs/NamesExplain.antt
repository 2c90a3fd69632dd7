-- What names explain.
use Rattle.pst_ast.specs.Limits.{counted, counts_option}
use Rattle.pst_ast.specs.Marks.{spell_option, OptionIs}
use Rattle.pst_ast.specs.SharedLimits.{counts_scoped_name, counts_type_name, counts_next_name, counts_names}
use Rattle.pst_ast.specs.SharedProper.{IsProperNames}
use Rattle.pst_ast.specs.SharedSpelling.{spell_scoped_name, spell_type_name, spell_next_name, spell_names}
use Rattle.pst_ast.specs.SharedTree.{MakeNames}
use Rattle.pst_parse_part.proofs.ChoicesExplain.{explains_option}
use Rattle.pst_parse_part.specs.Names.{scoped_name_by, type_name_by, names_by, next_name_by}
use Rattle.pst_parse_expr.proofs.SharedLaws.{IsAny}
use Rattle.pst_parse_expr.specs.Constraints.{is_at}
use Rattle.pst_reading.proofs.Chains.{explains_mark, explains_name, explains_part}
use Rattle.pst_reading.proofs.Explaining.{Means, Explains, explains_done}
use Rattle.pst_reading.proofs.Lists.{list_explains}
use Rattle.pst_reading.specs.Lists.{list_by}
use Rattle.pst_reading.specs.Options.{option_by}
use Rattle.pst_token.specs.declared.kind.Kind.TheVariants as kind
use Rattle.std.proofs.Common.{refl, append-nil, ℕ}
use Rattle.std.specs.List.{flat_map, AllByRecursion}

pub scoped_name_explains : (depth : ℕ) → Explains (Means spell_scoped_name IsAny (counts_scoped_name depth)) (scoped_name_by depth)
scoped_name_explains depth =
    explains_mark _ kind.ColonColon (counted depth 0) _ (λ colons.
    explains_name _ (counted depth 0) _ (λ name.
    explains_done _ (record { colons = colons; name = name }) (record { is = refl; proper = tt; counted = refl })))

pub type_name_explains : (depth : ℕ) → Explains (Means spell_type_name IsAny (counts_type_name depth)) (type_name_by depth)
type_name_explains depth =
    explains_name _ (counted depth 0) _ (λ first.
    explains_part _ (spell_option spell_scoped_name) (OptionIs IsAny) (counts_option (counts_scoped_name depth)) (option_by (is_at kind.ColonColon) (scoped_name_by depth)) _ (explains_option spell_scoped_name IsAny (counts_scoped_name depth) (is_at kind.ColonColon) (scoped_name_by depth) (scoped_name_explains depth)) (λ second h1.
    explains_done _ (record { first = first; second = second }) (record { is = rw append-nil refl; proper = tt; counted = rw append-nil refl })))

pub next_name_explains : (depth : ℕ) → Explains (Means spell_next_name IsAny (counts_next_name depth)) (next_name_by depth)
next_name_explains depth =
    explains_mark _ kind.Comma (counted depth 0) _ (λ comma.
    explains_name _ (counted depth 0) _ (λ name.
    explains_done _ (record { comma = comma; name = name }) (record { is = refl; proper = tt; counted = refl })))

pub names_explains : (size depth : ℕ) → Explains (Means spell_names IsProperNames (counts_names depth)) (names_by size depth)
names_explains size depth =
    explains_name _ (counted depth 0) _ (λ first.
    explains_part _ (flat_map spell_next_name) (AllByRecursion IsAny) (flat_map (counts_next_name depth)) (list_by (is_at kind.Comma) (next_name_by depth) size) _ (list_explains spell_next_name IsAny (counts_next_name depth) (is_at kind.Comma) (next_name_by depth) (next_name_explains depth) size) (λ rest h1.
    explains_done _ (MakeNames first rest) (record { is = rw append-nil refl; proper = tt; counted = rw append-nil refl })))
