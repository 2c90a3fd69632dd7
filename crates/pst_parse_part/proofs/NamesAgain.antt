-- Names read what they spell again.
use Rattle.pst_ast.specs.Limits.{counted}
use Rattle.pst_ast.specs.Marks.{mark, name_token, spell_option}
use Rattle.pst_ast.specs.SharedLimits.{counts_scoped_name, counts_type_name, counts_next_name, counts_names}
use Rattle.pst_ast.specs.SharedProper.{IsProperNames}
use Rattle.pst_ast.specs.SharedSpelling.{spell_scoped_name, spell_type_name, spell_next_name, spell_names}
use Rattle.pst_ast.specs.SharedTree.{NamesTree, MakeNames}
use Rattle.pst_ast.specs.declared.leaf.Name.{Name}
use Rattle.pst_ast.specs.declared.shared.ScopedName.{ScopedName}
use Rattle.pst_ast.specs.declared.shared.TypeName.{TypeName}
use Rattle.pst_base.specs.declared.position.Place.{Place}
use Rattle.pst_parse_part.proofs.Following.{any_option, any_list}
use Rattle.pst_parse_part.specs.Names.{scoped_name_by, type_name_by, names_by, next_name_by}
use Rattle.pst_parse_expr.proofs.SharedLaws.{IsAny}
use Rattle.pst_parse_operator.proofs.Stops.{IsNo}
use Rattle.pst_parse_expr.specs.Constraints.{is_at}
use Rattle.pst_reading.proofs.Rereading.{Rereads, Anything, reread_done, narrower, reread_mark, reread_name, reread_last, EndsOption, reread_option, reread_list}
use Rattle.pst_reading.proofs.Tokens.{mark_is_so}
use Rattle.pst_reading.specs.Lists.{list_by}
use Rattle.pst_reading.specs.Options.{option_by}
use Rattle.pst_reading.specs.Parser.{next}
use Rattle.pst_token.specs.declared.kind.Kind.TheVariants as kind
use Rattle.pst_token.specs.declared.token.Token.{Token}
use Rattle.std.proofs.Common.{refl, arith, ℕ, ◌≤◌, ◌≡◌, true, List, ◌++◌, Option, Some, length}
use Rattle.pst_ast.specs.declared.shared.NextName.{NextName}

pub scoped_name_rereads : (depth : ℕ) (x : ScopedName) → Rereads Anything (scoped_name_by depth) (spell_scoped_name x) (counts_scoped_name depth x) x
scoped_name_rereads depth x =
    reread_mark _ kind.ColonColon (counted depth 0) _ x.colons _ _ _
    (reread_name _ (counted depth 0) _ x.name _ _ _
    (reread_done _ _))

pub scoped_name_begins : (E : Option Token → Type 0) → ((place : Place) → E (Some (mark kind.ColonColon place))) → (x : ScopedName) (us : List Token) → E (next (spell_scoped_name x ++ us))
scoped_name_begins E h x us = h x.colons

pub type_name_begins : (E : Option Token → Type 0) → ((name : Name) → E (Some (name_token name))) → (x : TypeName) (us : List Token) → E (next (spell_type_name x ++ us))
type_name_begins E h x us = h x.first

pub type_name_rereads : (depth : ℕ) (x : TypeName) → Rereads (IsNo kind.ColonColon) (type_name_by depth) (spell_type_name x) (counts_type_name depth x) x
type_name_rereads depth x =
    reread_name _ (counted depth 0) _ x.first _ _ _
    (reread_last _ (option_by (is_at kind.ColonColon) (scoped_name_by depth)) _ _ _ x.second _ (narrower (EndsOption (is_at kind.ColonColon) Anything) (IsNo kind.ColonColon) _ _ _ _ (λ n m. (m, tt)) (reread_option spell_scoped_name IsAny (counts_scoped_name depth) (is_at kind.ColonColon) Anything (scoped_name_by depth) (length (spell_option spell_scoped_name x.second)) (λ x p n. (scoped_name_rereads depth x)) (λ x us. scoped_name_begins (λ n. is_at kind.ColonColon n ≡ true) (mark_is_so kind.ColonColon) x us) x.second (any_option x.second) (omega arith))) refl)

pub next_name_begins : (E : Option Token → Type 0) → ((place : Place) → E (Some (mark kind.Comma place))) → (x : NextName) (us : List Token) → E (next (spell_next_name x ++ us))
next_name_begins E h x us = h x.comma

pub names_begins : (E : Option Token → Type 0) → ((name : Name) → E (Some (name_token name))) → (x : NamesTree) (us : List Token) → E (next (spell_names x ++ us))
names_begins E h (MakeNames first rest) us = h first

pub next_name_some : (x : NextName) → 1 ≤ length (spell_next_name x)
next_name_some x = omega arith

pub next_name_rereads : (depth : ℕ) (x : NextName) → Rereads Anything (next_name_by depth) (spell_next_name x) (counts_next_name depth x) x
next_name_rereads depth x =
    reread_mark _ kind.Comma (counted depth 0) _ x.comma _ _ _
    (reread_name _ (counted depth 0) _ x.name _ _ _
    (reread_done _ _))

pub names_rereads : (size depth : ℕ) (x : NamesTree) → IsProperNames x → length (spell_names x) ≤ size → Rereads (EndsOption (is_at kind.Comma) Anything) (names_by size depth) (spell_names x) (counts_names depth x) x
names_rereads size depth (MakeNames first rest) proper short =
    reread_name _ (counted depth 0) _ first _ _ _
    (reread_last _ (list_by (is_at kind.Comma) (next_name_by depth) size) _ _ _ rest _ (reread_list spell_next_name IsAny (counts_next_name depth) (is_at kind.Comma) Anything (next_name_by depth) size size (λ x p n. (next_name_rereads depth x)) (λ x us p. record { found = next_name_begins (λ n. is_at kind.Comma n ≡ true) (mark_is_so kind.Comma) x us; good = tt }) next_name_some rest (any_list rest) (omega (arith, short)) (omega (arith, short))) refl)
