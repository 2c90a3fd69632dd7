-- What units spell, and that their parsers read it again.
use Rattle.pst_ast.specs.DeclarationLimits.{counts_item, counts_unit}
use Rattle.pst_ast.specs.DeclarationProper.{IsProperItem, IsProperUnit}
use Rattle.pst_ast.specs.DeclarationSpelling.{spell_item, spell_unit}
use Rattle.pst_ast.specs.DeclarationTree.{ItemTree, UnitTree, MakeUnit}
use Rattle.pst_ast.specs.Laws.{AtMostOneTree}
use Rattle.pst_ast.specs.Limits.{Count, counted, is_over}
use Rattle.pst_ast.specs.Marks.{mark}
use Rattle.pst_ast.specs.Rule.{TheUnit}
use Rattle.pst_base.specs.declared.position.Place.{Place}
use Rattle.pst_parse_decl.proofs.Counting.{over_both, over_list, same_item}
use Rattle.pst_parse_part.proofs.Following.{ends_there}
use Rattle.pst_parse_decl.proofs.Items.{whole_item_explains, whole_item_rereads, whole_item_free, some_item_token}
use Rattle.pst_parse_decl.proofs.Taken.{taken_item}
use Rattle.pst_parse_decl.specs.Components.{item_by}
use Rattle.pst_parse_decl.specs.Inner.{activity_parser, body_parser}
use Rattle.pst_parse_expr.specs.Constraints.{is_other}
use Rattle.pst_parser.specs.Units.{items_by, unit_by}
use Rattle.pst_reading.proofs.Becoming.{Becomes}
use Rattle.pst_reading.proofs.Chains.{explains_mark, explains_part}
use Rattle.pst_reading.proofs.Explaining.{Means, Explains, explains_done}
use Rattle.pst_reading.proofs.Final.{one_tree_by}
use Rattle.pst_reading.proofs.Lists.{StartsPart, list_explains}
use Rattle.pst_reading.proofs.Rereading.{Rereads, Anything, EndsOption, reread_done, reread_mark, reread_part, reread_list}
use Rattle.pst_reading.proofs.Tokens.{mark_is}
use Rattle.pst_reading.proofs.Whole.{NoEnd}
use Rattle.pst_reading.specs.Kinds.{is_mark}
use Rattle.pst_reading.specs.Parser.{Done, next}
use Rattle.pst_token.specs.declared.kind.Kind.TheVariants as kind
use Rattle.pst_token.specs.declared.token.Token.{Token}
use Rattle.std.proofs.Common.{arith, refl, sym, ap, subst, inl, ℕ, ◌<◌, ◌≤◌, ◌≡◌, Bool, true, false, if◌then◌else◌, List, [], ◌∷◌, ◌++◌, length, length-append, map}
use Rattle.std.specs.List.{flat_map, AllByRecursion}

-- what the parsers take
abbrev pub taken_unit : UnitTree → List Count
taken_unit (MakeUnit items finish) = flat_map (taken_item 0) items ++ counted 0 0 ∷ []

pub same_unit : (unit : UnitTree) → map is_over (taken_unit unit) ≡ map is_over (counts_unit 0 unit)
same_unit (MakeUnit items finish) = over_both (flat_map (taken_item 0) items) (flat_map (counts_item 0) items) (counted 0 0 ∷ []) (counted 0 0 ∷ []) (over_list (taken_item 0) (counts_item 0) same_item items) refl

pub unit_explains : (size : ℕ) → Explains (Means spell_unit IsProperUnit taken_unit) (unit_by size)
unit_explains size =
    explains_part _ (flat_map spell_item) (AllByRecursion IsProperItem) (flat_map (taken_item 0)) (items_by size) _ (list_explains spell_item IsProperItem (taken_item 0) (is_other kind.End) (item_by activity_parser body_parser size 0) (whole_item_explains size 0) size) (λ items h.
    explains_mark _ kind.End (counted 0 0) _ (λ finish.
    explains_done _ (MakeUnit items (mark kind.End finish)) (record { is = refl; proper = (h, refl); counted = refl })))

-- a part of a unit begins with a token other than `End`
starts_other : (ts us : List Token) → 1 ≤ length ts → NoEnd ts → StartsPart (is_other kind.End) Anything (ts ++ us)
starts_other [] us some free = absurd (omega (arith, some))
starts_other (t ∷ ts) us some free = go (is_mark kind.End t) refl
  where
    go : (b : Bool) → is_mark kind.End t ≡ b → StartsPart (is_other kind.End) Anything (t ∷ (ts ++ us))
    go true e = absurd (free.0 (ap (λ (u : Token). u.kind) (mark_is kind.End t e)))
    go false e = record { found = ap (λ (b : Bool). if b then false else true) e; good = tt }

-- where its last token is that of `End`
marked_unit : (size : ℕ) (items : List ItemTree) (place : Place) → AllByRecursion IsProperItem items → length (spell_unit (MakeUnit items (mark kind.End place))) < size → Rereads Anything (unit_by size) (spell_unit (MakeUnit items (mark kind.End place))) (taken_unit (MakeUnit items (mark kind.End place))) (MakeUnit items (mark kind.End place))
marked_unit size items place proper short =
    let long = length-append (flat_map spell_item items) (mark kind.End place ∷ []) in
    reread_part Anything (EndsOption (is_other kind.End) Anything) (items_by size) _ (flat_map spell_item items) (flat_map (taken_item 0) items) items _ _ _
    (reread_list spell_item IsProperItem (taken_item 0) (is_other kind.End) Anything (item_by activity_parser body_parser size 0) size size (λ x p n. whole_item_rereads size 0 x p n) (λ x us p. starts_other (spell_item x) us (some_item_token x) (whole_item_free x)) some_item_token items proper (omega (arith, short, long)) (omega (arith, short, long)))
    (λ more m. (ends_there kind.End place, tt))
    (reread_mark Anything kind.End (counted 0 0) _ place _ _ _
    (reread_done Anything _))

pub unit_rereads : (size : ℕ) (unit : UnitTree) → IsProperUnit unit → length (spell_unit unit) < size → Rereads Anything (unit_by size) (spell_unit unit) (taken_unit unit) unit
unit_rereads size (MakeUnit items finish) proper short = subst (λ (token : Token). Rereads Anything (unit_by size) (spell_unit (MakeUnit items finish)) (taken_unit (MakeUnit items finish)) (MakeUnit items token)) (sym proper.1) (marked_unit size items finish.place proper.0 short)

pub unit_again : (size : ℕ) (unit : UnitTree) (rest : List Token) → IsProperUnit unit → length (spell_unit unit) < size → Anything (next rest) → Becomes (unit_by size) (spell_unit unit ++ rest) (taken_unit unit) (Done unit) rest
unit_again size unit rest proper short m = (unit_rereads size unit proper short).again rest tt

pub one_unit : AtMostOneTree TheUnit
one_unit = one_tree_by TheUnit taken_unit unit_by unit_explains (λ unit. Anything) unit_again (λ unit proper. tt) (λ unit t proper. inl tt)
