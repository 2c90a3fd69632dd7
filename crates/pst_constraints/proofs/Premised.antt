-- Constraints under premises.
use Rattle.std.proofs.Common.{◌≡◌, List, [], ◌∷◌, ◌++◌, refl, sym, ap, ◌∙◌, Bool, true, false, map}
use Rattle.std.specs.Prelude.{if◌then◌else◌}
use Rattle.std.proofs.lemmas.List.{map-append}
use Rattle.pst_elab_rules.specs.Constraints.{implied}
use Rattle.pst_expr.specs.Tree.{Expression, Unary, Binary, view}
use Rattle.pst_expr.specs.declared.tree.Expr.{Expr}
use Rattle.pst_expr.specs.declared.tree.UnaryOp.TheVariants.{Not}
use Rattle.pst_expr.specs.declared.tree.BinaryOp.{BinaryOp}
use Rattle.pst_expr.specs.declared.tree.BinaryOp.TheVariants.{Implies, NotEqual}
use Rattle.pst_model.specs.ConstraintTree.{ConstraintTree, SlotTree}
use Rattle.pst_terms.specs.Terms.{Term, Prefix, Infix}
use Rattle.pst_terms.specs.Slots.{with_term, numbered}
use Rattle.pst_numbering.proofs.Grown.{numbered_stays}
use Rattle.pst_numbering.proofs.Indexed.{both_is}
use Rattle.pst_constraints.specs.Implied.{Before, implied_by, made, with_premise}

abbrev pub before : List Expression → List SlotTree → Before
before conditions slots = record { conditions = conditions; slots = slots }

abbrev pub constraint : Expression → List SlotTree → ConstraintTree
constraint e slots = record { expression = e; slots = slots }

-- ---- a further premise

pub premise_is : (p : Before) (negated : Bool) (c : Term SlotTree) (conditions : List Expression) (slots : List SlotTree) (e whole : Expression) → slots ≡ with_term p.slots c → e ≡ numbered slots c
    → whole ≡ (if negated then Unary Not e else e) → conditions ≡ p.conditions ++ whole ∷ [] → before conditions slots ≡ with_premise p (if negated then Prefix Not c else c)
premise_is p true c conditions slots e whole ss es ws cs =
    let same : whole ≡ Unary Not (numbered (with_term p.slots c) c) = ws ∙ ap (Unary Not) (es ∙ ap (λ (l : List SlotTree). numbered l c) ss) in
    (λ i. before ((cs ∙ ap (λ (w : Expression). p.conditions ++ w ∷ []) same) i) (ss i))
premise_is p false c conditions slots e whole ss es ws cs =
    let same : whole ≡ numbered (with_term p.slots c) c = ws ∙ es ∙ ap (λ (l : List SlotTree). numbered l c) ss in
    (λ i. before ((cs ∙ ap (λ (w : Expression). p.conditions ++ w ∷ []) same) i) (ss i))

implied_append : (cs : List Expression) (c e : Expression) → implied_by (cs ++ c ∷ []) e ≡ implied_by cs (Binary Implies c e)
implied_append [] c e = refl
implied_append (d ∷ cs) c e = ap (Binary Implies d) (implied_append cs c e)

pub implied_last : (left front : List Expr) (last : Expr) (c e : Expression) → left ≡ front ++ last ∷ [] → c ≡ view last → implied_by (map view left) e ≡ implied_by (map view front) (Binary Implies c e)
implied_last left front last c e is copy =
    ap (λ (l : List Expr). implied_by (map view l) e) is
    ∙ ap (λ (l : List Expression). implied_by l e) (map-append view front (last ∷ []))
    ∙ implied_append (map view front) (view last) e
    ∙ ap (λ (d : Expression). implied_by (map view front) (Binary Implies d e)) (sym copy)

one_implied : (p : Before) (c t : Term SlotTree) → made (with_premise p c) t ≡ made p (Infix Implies c t)
one_implied p c t =
    let slots = with_term (with_term p.slots c) t in
    ap (λ (e : Expression). constraint e slots)
    (implied_append p.conditions (numbered (with_term p.slots c) c) (numbered slots t)
    ∙ ap (λ (d : Expression). implied_by p.conditions (Binary Implies d (numbered slots t))) (sym (numbered_stays p.slots c t)))

pub implied_made : (p : Before) (c : Term SlotTree) (ts : List (Term SlotTree)) → map (made (with_premise p c)) ts ≡ map (made p) (implied c ts)
implied_made p c [] = refl
implied_made p c (t ∷ ts) = (λ i. one_implied p c t i ∷ implied_made p c ts i)

-- ---- a constraint of its parts

pub made_is : (p : Before) (t : Term SlotTree) (slots : List SlotTree) (e : Expression) → slots ≡ with_term p.slots t → e ≡ numbered slots t → constraint (implied_by p.conditions e) slots ≡ made p t
made_is p t slots e ss es = (λ i. constraint (implied_by p.conditions ((es ∙ ap (λ (l : List SlotTree). numbered l t) ss) i)) (ss i))

pub pair_is : (p : Before) (t u : Term SlotTree) (mid slots : List SlotTree) (d e : Expression) → mid ≡ with_term p.slots t → slots ≡ with_term mid u → d ≡ numbered mid t → e ≡ numbered slots u
    → constraint (implied_by p.conditions (Binary NotEqual d e)) slots ≡ made p (Infix NotEqual t u)
pair_is p t u mid slots d e ms ss ds es =
    made_is p (Infix NotEqual t u) slots (Binary NotEqual d e) (ss ∙ ap (λ (l : List SlotTree). with_term l u) ms) (both_is NotEqual p.slots mid slots t u d e ms ss ds es)
