-- Units, parsed from left to right.
use Rattle.pst_ast.specs.DeclarationTree.{ItemTree, UnitTree, MakeUnit}
use Rattle.pst_ast.specs.DeclarationView.{view_item}
use Rattle.pst_ast.specs.Limits.{counted, is_over}
use Rattle.pst_ast.specs.Marks.{mark}
use Rattle.pst_ast.specs.declared.declaration.Item.{Item}
use Rattle.pst_ast.specs.declared.fault.SyntaxFault.TheVariants as the_fault
use Rattle.pst_ast.specs.declared.fault.SyntaxFault.{SyntaxFault}
use Rattle.pst_parse_decl.specs.Components.{item_by}
use Rattle.pst_parse_decl.specs.Inner.{activity_parser, body_parser}
use Rattle.pst_parse_expr.specs.Constraints.{is_other}
use Rattle.pst_reading.specs.Lists.{list_by}
use Rattle.pst_reading.specs.Parser.{Parser, Outcome, Took, Refused, TooDeep, Done, followed_by, ◌>>=◌, mark_by, run}
use Rattle.pst_token.specs.declared.kind.Kind.TheVariants as kind
use Rattle.pst_token.specs.declared.token.Token.{Token}
use Rattle.std.specs.Global.{Vec}
use Rattle.std.specs.Prelude.{ℕ, ◌≡◌, ◌<◌, ◌≤◌, List, length, map, drop, Result, Ok, Err}

-- { component | object | enum | function | ";" }
abbrev pub items_by : ℕ → Parser (List ItemTree)
items_by size = list_by (is_other kind.End) (item_by activity_parser body_parser size 0) size

-- unit = { component | object | enum | function | ";" } END
abbrev pub unit_by : ℕ → Parser UnitTree
unit_by size = do
  items ← items_by size
  finish ← mark_by kind.End (counted 0 0)
  Done (MakeUnit items (mark kind.End finish))

-- within the limits this is what the parser of each size that suffices makes of the tokens
abbrev pub Settles : {A : Type 0} → (ℕ → Parser A) → List Token → Outcome A → Type 0
Settles parser tokens outcome = (size : ℕ) → length tokens < size → run is_over (parser size) tokens ≡ outcome

abbrev pub Fails : {A : Type 0} → (ℕ → Parser A) → List Token → SyntaxFault → Type 0
Fails parser tokens (the_fault.At k) = Settles parser tokens (Refused (drop k tokens)) × (k ≤ length tokens)
Fails parser tokens (the_fault.Deep k) = Settles parser tokens (TooDeep (drop k tokens)) × (k ≤ length tokens)
Fails parser tokens the_fault.NoMemory = Unit {0}

-- the parts of a unit, and the place behind them
pub record AreItems (tokens : List Token) (x : Vec Item × ℕ) : Type 0 where
  pub settles : Settles items_by tokens (Took (map view_item x.0.items) (drop x.1 tokens))
  pub inside : x.1 ≤ length tokens

abbrev pub AnswersItems : List Token → Result (Vec Item × ℕ) SyntaxFault → Type 0
AnswersItems tokens (Ok x) = AreItems tokens x
AnswersItems tokens (Err fault) = Fails items_by tokens fault
