-- The loop over the parts of a unit. As if one more token stood in front of them.
use Rattle.pst_ast.specs.Closing.{origin}
use Rattle.pst_ast.specs.DeclarationTree.{ItemTree}
use Rattle.pst_ast.specs.DeclarationView.{view_item}
use Rattle.pst_ast.specs.Marks.{mark}
use Rattle.pst_ast.specs.declared.declaration.Item.{Item}
use Rattle.pst_ast.specs.declared.fault.SyntaxFault.TheVariants as the_fault
use Rattle.pst_ast.specs.declared.fault.SyntaxFault.{SyntaxFault}
use Rattle.pst_parse_decl.specs.Families.{item_family}
use Rattle.pst_parse_decl.specs.Inner.{activity_parser, body_parser}
use Rattle.pst_parse_expr.specs.Constraints.{is_other}
use Rattle.pst_parser.specs.Units.{items_by, Settles, Fails}
use Rattle.pst_reading.proofs.Lists.{ListLoop, list_begins, list_turns, list_fails, list_ends}
use Rattle.pst_reading.specs.Gives.{Family, FailsFrom}
use Rattle.pst_reading.specs.Parser.{Took, next}
use Rattle.pst_reading.specs.Reads.{Read}
use Rattle.pst_token.specs.declared.kind.Kind.TheVariants as kind
use Rattle.pst_token.specs.declared.token.Token.{Token}
use Rattle.std.proofs.Common.{arith, ℕ, suc, ◌≤◌, ◌≡◌, true, false, List, [], ◌∷◌, ◌++◌, length, drop}

abbrev pub in_front : List Token → List Token
in_front tokens = mark kind.End origin ∷ tokens

abbrev pub parts : Family ItemTree
parts = item_family activity_parser body_parser 0

-- so many parts have been read up to the place
pub record ItemsLoop (tokens : List Token) (list : List ItemTree) (place : ℕ) : Type 0 where
  pub loop : ListLoop (is_other kind.End) parts (in_front tokens) 0 1 list (suc place)
  pub inside : place ≤ length tokens

module _ (tokens : List Token) where
  pub items_begin : ItemsLoop tokens [] 0
  items_begin = record { loop = list_begins (is_other kind.End) parts (in_front tokens) 0 1 (omega arith) (omega arith); inside = omega arith }

  module _ (list : List ItemTree) (place : ℕ) (l : ItemsLoop tokens list place) where
    pub items_turn : is_other kind.End (next (drop place tokens)) ≡ true → (item : Item) (after : ℕ) → Read view_item parts tokens place place 1 (item, after) → ItemsLoop tokens (list ++ view_item item ∷ []) after
    items_turn present item after h = record { loop = list_turns (is_other kind.End) parts (in_front tokens) 0 1 list (suc place) l.loop present (view_item item) (suc after) (λ size prefixes m n. h.settles size prefixes (omega (arith, m)) (omega (arith, n))) (omega (arith, h.after)) (omega (arith, h.inside)); inside = h.inside }

    pub items_fail : is_other kind.End (next (drop place tokens)) ≡ true → (e : SyntaxFault) → FailsFrom parts tokens place place e → Fails items_by tokens e
    items_fail present (the_fault.At k) h =
        let r = list_fails (is_other kind.End) parts (in_front tokens) 0 1 list (suc place) l.loop present (the_fault.At (suc k)) (λ size prefixes m n. h.0 size prefixes (omega (arith, m)) (omega (arith, n)), omega (arith, h.1), omega (arith, h.2)) in
        (λ size more. r.0 size size (omega (arith, more)) (omega (arith, more)), h.2)
    items_fail present (the_fault.Deep k) h =
        let r = list_fails (is_other kind.End) parts (in_front tokens) 0 1 list (suc place) l.loop present (the_fault.Deep (suc k)) (λ size prefixes m n. h.0 size prefixes (omega (arith, m)) (omega (arith, n)), omega (arith, h.1), omega (arith, h.2)) in
        (λ size more. r.0 size size (omega (arith, more)) (omega (arith, more)), h.2)
    items_fail present the_fault.NoMemory h = tt

    pub items_end : is_other kind.End (next (drop place tokens)) ≡ false → Settles items_by tokens (Took list (drop place tokens))
    items_end absent size more = list_ends (is_other kind.End) parts (in_front tokens) 0 1 list (suc place) l.loop absent size size (omega (arith, more)) (omega (arith, more))
