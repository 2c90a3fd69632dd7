-- What the parts of a unit spell, from the laws of their parsers.
use Rattle.pst_ast.specs.ActivityLimits.{counts_activity}
use Rattle.pst_ast.specs.ActivityProper.{IsProperActivity}
use Rattle.pst_ast.specs.ActivitySpelling.{spell_activity}
use Rattle.pst_ast.specs.ActivityTree.{ActivityTree}
use Rattle.pst_ast.specs.Answers.{AnswersItem}
use Rattle.pst_ast.specs.BodyLimits.{counts_body}
use Rattle.pst_ast.specs.BodyProper.{IsProperBody}
use Rattle.pst_ast.specs.BodySpelling.{spell_body}
use Rattle.pst_ast.specs.BodyTree.{BodyTree}
use Rattle.pst_ast.specs.DeclarationProper.{IsProperItem}
use Rattle.pst_ast.specs.DeclarationSpelling.{spell_item}
use Rattle.pst_ast.specs.DeclarationTree.{ItemTree}
use Rattle.pst_ast.specs.DeclarationView.{view_item}
use Rattle.pst_ast.specs.Laws.{AtMostOneTree}
use Rattle.pst_ast.specs.Limits.{is_over}
use Rattle.pst_ast.specs.Rule.{TheItem}
use Rattle.pst_ast.specs.declared.declaration.Item.{Item}
use Rattle.pst_ast.specs.declared.fault.SyntaxFault.TheVariants as the_fault
use Rattle.pst_ast.specs.declared.fault.SyntaxFault.{SyntaxFault}
use Rattle.pst_parse_decl.proofs.ComponentsAgain.{item_rereads}
use Rattle.pst_parse_decl.proofs.ComponentsExplain.{item_explains}
use Rattle.pst_parse_decl.proofs.Counting.{same_item}
use Rattle.pst_parse_decl.proofs.NoEnd.{item_free}
use Rattle.pst_parse_decl.proofs.Taken.{taken_item}
use Rattle.pst_parse_decl.specs.Components.{item_by}
use Rattle.pst_parse_expr.specs.Constraints.{Within}
use Rattle.pst_reading.proofs.Becoming.{Becomes}
use Rattle.pst_reading.proofs.Explaining.{Means, Explains}
use Rattle.pst_reading.proofs.Final.{one_tree_by}
use Rattle.pst_reading.proofs.Rereading.{Rereads, Anything}
use Rattle.pst_reading.proofs.Whole.{NoEnd, read_answer_by, stopped_answer_by, deep_answer_by}
use Rattle.pst_reading.specs.Ended.{IsEnded}
use Rattle.pst_reading.specs.Gives.{SettlesFrom}
use Rattle.pst_reading.specs.Parser.{Done, next, run, Outcome}
use Rattle.pst_reading.specs.Reads.{Reads}
use Rattle.pst_token.specs.declared.token.Token.{Token}
use Rattle.std.proofs.Common.{arith, length-drop, inl, ℕ, ◌≤◌, ◌<◌, ◌≡◌, List, ◌++◌, Option, length, drop, Result, Ok, Err}

-- nothing goes on with a part of a unit
abbrev Stops : ItemTree → Option Token → Type 0
Stops tree next = Unit {0}

-- parsers of activities and bodies, and their laws
module _ (activity : ℕ → Within ActivityTree) (body : ℕ → Within BodyTree)
    (activity_explains : (size depth : ℕ) → Explains (Means spell_activity IsProperActivity (counts_activity depth)) (activity size depth))
    (body_explains : (size depth : ℕ) → Explains (Means spell_body IsProperBody (counts_body depth)) (body size depth))
    (activity_rereads : (size depth : ℕ) (x : ActivityTree) → IsProperActivity x → length (spell_activity x) ≤ size → Rereads Anything (activity size depth) (spell_activity x) (counts_activity depth x) x)
    (body_rereads : (size depth : ℕ) (x : BodyTree) → IsProperBody x → length (spell_body x) ≤ size → Rereads Anything (body size depth) (spell_body x) (counts_body depth x) x) where
  again : (n : ℕ) (tree : ItemTree) (rest : List Token) → IsProperItem tree → length (spell_item tree) < n → Stops tree (next rest) → Becomes (item_by activity body n 0) (spell_item tree ++ rest) (taken_item 0 tree) (Done tree) rest
  again n tree rest proper short stops = (item_rereads activity body activity_rereads body_rereads n 0 tree proper (omega (arith, short))).again rest tt

  pub one_item : AtMostOneTree TheItem
  one_item = one_tree_by TheItem (taken_item 0) (λ n. item_by activity body n 0) (λ n. item_explains activity body activity_explains body_explains n 0) Stops again (λ tree proper. tt) (λ tree t proper. inl tt)

  module _ (activity_free : (x : ActivityTree) → NoEnd (spell_activity x)) (body_free : (x : BodyTree) → NoEnd (spell_body x)) (tokens : List Token) (start : ℕ) (e : IsEnded tokens) (lt : start < length tokens) where
    at_size : (o : Outcome ItemTree) → SettlesFrom (λ size prefixes. item_by activity body size 0) tokens start start o → (n : ℕ) → length (drop start tokens) < n → run is_over (item_by activity body n 0) (drop start tokens) ≡ o
    at_size o h n few = h n n (omega (arith, few, length-drop start tokens, lt)) (omega (arith, few, length-drop start tokens, lt))

    pub item_answers : (x : Result (Item × ℕ) SyntaxFault) → Reads view_item (λ size prefixes. item_by activity body size 0) tokens start start 1 x → AnswersItem tokens start x
    item_answers (Ok x) g = read_answer_by TheItem 0 (taken_item 0) same_item (λ n. item_by activity body n 0) (λ n. item_explains activity body activity_explains body_explains n 0) Stops again (λ tree proper. tt) (λ tree t proper. inl tt) (item_free activity_free body_free) tokens start e lt (view_item x.0) x.1 (omega (arith, g.after)) g.inside (at_size _ g.settles)
    item_answers (Err (the_fault.At k)) g = stopped_answer_by TheItem 0 (taken_item 0) same_item (λ n. item_by activity body n 0) (λ n. item_explains activity body activity_explains body_explains n 0) Stops again (λ tree proper. tt) (λ tree t proper. inl tt) (item_free activity_free body_free) tokens start e lt k g.1 g.2 (at_size _ g.0)
    item_answers (Err (the_fault.Deep k)) g = deep_answer_by TheItem 0 (taken_item 0) same_item (λ n. item_by activity body n 0) (λ n. item_explains activity body activity_explains body_explains n 0) Stops again (λ tree proper. tt) (λ tree t proper. inl tt) (item_free activity_free body_free) tokens start e lt k g.1 g.2 (at_size _ g.0)
    item_answers (Err the_fault.NoMemory) g = tt
