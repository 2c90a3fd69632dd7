-- What stands below the node of a compound action.
use Rattle.std.proofs.Common.{◌≡◌, ℕ, zero, suc, ℤ, List, [], Bool, true, false, Option, Some, None, refl, sym, ap, ◌∙◌, subst, ⊎_elim}
use Rattle.std.specs.Prelude.{slice_get}
use Rattle.std.specs.List.{AllZip}
use Rattle.std.proofs.lemmas.Option.{same_Some}
use Rattle.std.proofs.lemmas.Bool.{false≢true}
use Rattle.pst_model.specs.ActivityTree.{StepTree, Traverse, Sequence, Parallel, Schedule, Joined, Select, Repeat, If, Match, ActivityTree}
use Rattle.pst_model.specs.ModelTree.{ModelTree, ActionTree, ContentTree, Atomic, Compound}
use Rattle.pst_scen.specs.declared.tree.Node.{Node}
use Rattle.pst_scen.specs.declared.tree.Fill.{Fill}
use Rattle.pst_scen.specs.declared.tree.Fill.TheVariants as fill
use Rattle.pst_legal.specs.Types.{type_of}
use Rattle.pst_legal.specs.Growing.{Look, Inner, Leaf}
use Rattle.pst_legal.specs.Pieces.{Context, Piece, Action, Statement, Turning, statements, IsValueOf, IsContent, IsActionWay, IsStatementWay, IsWay}
use Rattle.pst_legal.specs.Statements.{children_of}
use Rattle.pst_slots.proofs.Parts.{IsLookOf}
use Rattle.pst_slots.proofs.Stood.{Stood, IsStood}

abbrev is_compound : Look → Bool
is_compound (Inner (fill.Compound action instance fields)) = true
is_compound _ = false

abbrev action_in : Look → ℕ
action_in (Inner (fill.Compound action instance fields)) = action
action_in _ = 0

abbrev fields_in : Look → List ℤ
fields_in (Inner (fill.Compound action instance fields)) = fields
fields_in _ = []

abbrev is_leaf : Fill → Bool
is_leaf (fill.Leaf act) = true
is_leaf _ = false

-- a node that is no leaf has the look of its fill
pub look_is : (f : Fill) (look : Look) → is_leaf f ≡ false → IsLookOf f look → look ≡ Inner f
look_is f (Inner g) leaf looks = ap Inner (sym looks)
look_is f (Leaf action instance) leaf looks = absurd (false≢true (sym leaf ∙ ap is_leaf looks.1))

other_look : {P : Type 0} (look other : Look) → is_compound look ≡ true → is_compound other ≡ false → look ≡ other → P
other_look look other one two same = absurd (false≢true (sym two ∙ sym (ap is_compound same) ∙ one))

-- below the node of a compound action of the type stand the statements of its activity
pub record IsCompoundAt (m : ModelTree) (nodes : List Node) (n action : ℕ) (fields : List ℤ) : Type 0 where
  pub type : ActionTree
  pub is : type_of m action ≡ Some type
  pub activity : ActivityTree
  pub content : type.content ≡ Compound activity
  pub values : AllZip IsValueOf type.fields fields
  pub context : Context
  pub levels : ℕ
  pub children : AllZip (Stood m nodes levels) (statements context activity.steps) (children_of nodes n)

module _ (m : ModelTree) (nodes : List Node) (n levels action : ℕ) (fields : List ℤ) (look : Look) (below : List Piece)
    (compound : is_compound look ≡ true) (same : action_in look ≡ action) (have : fields_in look ≡ fields) (zips : AllZip (Stood m nodes levels) below (children_of nodes n)) where
  by_content : (type : ActionTree) (content : ContentTree) (of instance : ℕ) → type_of m of ≡ Some type → type.content ≡ content → IsContent type content of instance look below → IsCompoundAt m nodes n action fields
  by_content type (Atomic body) of instance is contains (looks, none) = other_look look (Leaf of instance) compound refl looks
  by_content type (Compound activity) of instance is contains (own, zip, looks, stands) = record {
    type = type;
    is = subst (λ a. type_of m a ≡ Some type) (sym (ap action_in looks) ∙ same) is;
    activity = activity;
    content = contains;
    values = subst (AllZip IsValueOf type.fields) (sym (ap fields_in looks) ∙ have) zip;
    context = record { instance = instance; fields = own; indices = [] };
    levels = levels;
    children = subst (λ b. AllZip (Stood m nodes levels) b (children_of nodes n)) stands zips;
  }

  by_action : (of : ℕ) (top : Option ℕ) → IsActionWay m of top look below → IsCompoundAt m nodes n action fields
  by_action of top way = by_content way.type way.type.content of way.instance way.is refl way.content

  by_step : (c : Context) (step : StepTree) → IsStatementWay m c step look below → IsCompoundAt m nodes n action fields
  by_step c (Traverse of handle inline) way = by_action of (Some c.instance) way
  by_step c (Sequence steps) way = other_look look (Inner fill.Sequence) compound refl way.0
  by_step c (Parallel steps) way = other_look look (Inner fill.Parallel) compound refl way.0
  by_step c (Schedule steps) way = other_look look (Inner fill.Schedule) compound refl way.0
  by_step c (Joined parallel join steps) way = other_look look (Inner (fill.Joined parallel way.0)) compound refl way.2
  by_step c (Select _) way = other_look look (Inner (fill.Select way.index)) compound refl way.looks
  by_step c (Repeat count body) way = other_look look (Inner fill.Repeat) compound refl way.2
  by_step c (If condition holds fails) (v, value, looks, stands) = other_look look _ compound refl looks
  by_step c (Match matched arms other) (v, value, ways) =
      ⊎_elim (λ w. other_look look (Inner (fill.Match (Some w.0))) compound refl w.3) (λ w. other_look look (Inner (fill.Match None)) compound refl w.1.2) ways

  pub by_piece : (piece : Piece) → IsWay m piece look below → IsCompoundAt m nodes n action fields
  by_piece (Action of top) way = by_action of top way
  by_piece (Statement c step) way = by_step c step way
  by_piece (Turning c index body) way = other_look look (Inner (fill.Turn index)) compound refl way.0

compound_stood : (m : ModelTree) (nodes : List Node) (n levels : ℕ) (piece : Piece) (node : Node) (action instance : ℕ) (fields : List ℤ) → slice_get nodes n ≡ Some node → node.fill ≡ fill.Compound action instance fields
    → Stood m nodes levels piece n → IsCompoundAt m nodes n action fields
compound_stood m nodes n zero piece node action instance fields is of stood = absurd stood
compound_stood m nodes n (suc levels) piece node action instance fields is of (own, at, look, below, looks, way, zips) =
    let same : own ≡ node = same_Some own node (sym at ∙ is) in
    let filled : own.fill ≡ fill.Compound action instance fields = ap (λ (x : Node). x.fill) same ∙ of in
    let l : look ≡ Inner (fill.Compound action instance fields) = look_is (fill.Compound action instance fields) look refl (subst (λ f. IsLookOf f look) filled looks) in
    by_piece m nodes n levels action fields look below (ap is_compound l) (ap action_in l) (ap fields_in l) zips piece way

pub compound_at : (m : ModelTree) (nodes : List Node) (n : ℕ) (node : Node) (action instance : ℕ) (fields : List ℤ) → slice_get nodes n ≡ Some node → node.fill ≡ fill.Compound action instance fields
    → IsStood m nodes n → IsCompoundAt m nodes n action fields
compound_at m nodes n node action instance fields is of stood = compound_stood m nodes n stood.levels stood.piece node action instance fields is of stood.stood

-- the type of a compound action that stands for a traversal is the traversed one
pub same_type : (m : ModelTree) (nodes : List Node) (n levels of : ℕ) (c : Context) (handle : Option ℕ) (inline : List _) (node : Node) (action instance : ℕ) (fields : List ℤ) → slice_get nodes n ≡ Some node
    → node.fill ≡ fill.Compound action instance fields → Stood m nodes levels (Statement c (Traverse of handle inline)) n → of ≡ action
same_type m nodes n zero of c handle inline node action instance fields is filled stood = absurd stood
same_type m nodes n (suc levels) of c handle inline node action instance fields is filled (own, at, look, below, looks, way, zips) =
    let same : own ≡ node = same_Some own node (sym at ∙ is) in
    let own_fill : own.fill ≡ fill.Compound action instance fields = ap (λ (x : Node). x.fill) same ∙ filled in
    let l : look ≡ Inner (fill.Compound action instance fields) = look_is (fill.Compound action instance fields) look refl (subst (λ f. IsLookOf f look) own_fill looks) in
    go way.type way.type.content way.instance l way.content
  where
    go : (type : ActionTree) (content : ContentTree) (i : ℕ) → look ≡ Inner (fill.Compound action instance fields) → IsContent type content of i look below → of ≡ action
    go type (Atomic body) i l (leafs, none) = other_look look (Leaf of i) (ap is_compound l) refl leafs
    go type (Compound activity) i l (values, zip, other, stands) = sym (ap action_in other) ∙ ap action_in l
