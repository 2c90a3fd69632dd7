-- The children of a node, with one node more.
use Rattle.std.proofs.Common.{◌≡◌, ◌⊎◌, ℕ, zero, suc, ◌+◌, List, [], ◌∷◌, ◌++◌, map, length, Bool, true, false, if◌then◌else◌, Option, Some, None, refl, sym, ap, ◌∙◌, inl, inr, arith, append-nil, length-append}
use Rattle.std.specs.Prelude.{slice_get}
use Rattle.std.specs.List.{enumerate_from, filter}
use Rattle.std.proofs.lemmas.Option.{none-some, same_Some}
use Rattle.std.proofs.lemmas.Bool.{false≢true, eqb-true, eq-eqb}
use Rattle.pst_scen.specs.declared.tree.Node.{Node}
use Rattle.pst_scen.specs.Tree.{is_parent}
use Rattle.pst_legal.specs.Statements.{children_of, IsBranch}
use Rattle.pst_built.proofs.Parents.{get_cases}

abbrev kids : ℕ → List Node → ℕ → List ℕ
kids k nodes parent = map (λ (e : ℕ × Node). e.0) (filter (λ e. is_parent parent e.1.parent) (enumerate_from k nodes))

-- the new node, where it is in the parent
abbrev if_in : Bool → ℕ → List ℕ
if_in b n = if b then n ∷ [] else []

kids_push : (parent k : ℕ) (xs : List Node) (x : Node) → kids k (xs ++ x ∷ []) parent ≡ kids k xs parent ++ if_in (is_parent parent x.parent) (k + length xs)
kids_push parent k [] x = by (is_parent parent x.parent)
  where
    e : k ≡ k + 0
    e = omega arith

    by : (b : Bool) → map (λ (e : ℕ × Node). e.0) (if b then (k, x) ∷ [] else []) ≡ [] ++ if_in b (k + 0)
    by true = ap (λ n. n ∷ []) e
    by false = refl
kids_push parent k (y ∷ xs) x = by (is_parent parent y.parent) (kids_push parent (k + 1) xs x ∙ ap (λ n. kids (k + 1) xs parent ++ if_in (is_parent parent x.parent) n) e)
  where
    e : (k + 1) + length xs ≡ k + suc (length xs)
    e = omega arith

    by : (b : Bool) → kids (k + 1) (xs ++ x ∷ []) parent ≡ kids (k + 1) xs parent ++ if_in (is_parent parent x.parent) (k + suc (length xs))
        → map (λ (e : ℕ × Node). e.0) (if b then (k, y) ∷ filter (λ e. is_parent parent e.1.parent) (enumerate_from (k + 1) (xs ++ x ∷ [])) else filter (λ e. is_parent parent e.1.parent) (enumerate_from (k + 1) (xs ++ x ∷ [])))
        ≡ map (λ (e : ℕ × Node). e.0) (if b then (k, y) ∷ filter (λ e. is_parent parent e.1.parent) (enumerate_from (k + 1) xs) else filter (λ e. is_parent parent e.1.parent) (enumerate_from (k + 1) xs))
        ++ if_in (is_parent parent x.parent) (k + suc (length xs))
    by true is = ap (λ ns. k ∷ ns) is
    by false is = is

push : (nodes : List Node) (x : Node) (parent : ℕ) → children_of (nodes ++ x ∷ []) parent ≡ children_of nodes parent ++ if_in (is_parent parent x.parent) (0 + length nodes)
push nodes x parent = kids_push parent 0 nodes x

in_it : (parent : ℕ) (of : Option ℕ) → of ≡ Some parent → is_parent parent of ≡ true
in_it parent of e = ap (is_parent parent) e ∙ eq-eqb parent parent refl

not_in : (parent : ℕ) (of : Option ℕ) (b : Bool) → is_parent parent of ≡ b → (of ≡ Some parent → ⊥) → b ≡ false
not_in parent of false is other = refl
not_in parent None true is other = absurd (false≢true is)
not_in parent (Some p) true is other = absurd (other (ap Some (sym (eqb-true parent p is))))

-- one child more in its parent
pub push_in : (nodes : List Node) (x : Node) (parent : ℕ) → x.parent ≡ Some parent → length (children_of (nodes ++ x ∷ []) parent) ≡ suc (length (children_of nodes parent))
push_in nodes x parent e =
    let long = length-append (children_of nodes parent) ((0 + length nodes) ∷ []) in
    ap length (push nodes x parent ∙ ap (λ b. children_of nodes parent ++ if_in b (0 + length nodes)) (in_it parent x.parent e)) ∙ omega (arith, long)

-- and none elsewhere
pub push_out : (nodes : List Node) (x : Node) (parent : ℕ) → (x.parent ≡ Some parent → ⊥) → children_of (nodes ++ x ∷ []) parent ≡ children_of nodes parent
push_out nodes x parent other =
    push nodes x parent ∙ ap (λ b. children_of nodes parent ++ if_in b (0 + length nodes)) (not_in parent x.parent (is_parent parent x.parent) refl other) ∙ append-nil (children_of nodes parent)

-- a child of the longer list is an old one, or the new one
pub data PushedChild (nodes : List Node) (x : Node) (parent index child : ℕ) : Type 0 where
  Old : IsBranch nodes parent index child → PushedChild nodes x parent index child
  New : x.parent ≡ Some parent → index ≡ length (children_of nodes parent) → child ≡ length nodes → PushedChild nodes x parent index child

is_in : (parent : ℕ) (of : Option ℕ) → is_parent parent of ≡ true → of ≡ Some parent
is_in parent None e = absurd (false≢true e)
is_in parent (Some p) e = ap Some (sym (eqb-true parent p e))

pub pushed : (nodes : List Node) (x : Node) (parent index child : ℕ) → IsBranch (nodes ++ x ∷ []) parent index child → PushedChild nodes x parent index child
pushed nodes x parent index child is = by (is_parent parent x.parent) refl (ap (λ ns. slice_get ns index) (sym (push nodes x parent)) ∙ is)
  where
    by : (b : Bool) → is_parent parent x.parent ≡ b → slice_get (children_of nodes parent ++ if_in b (0 + length nodes)) index ≡ Some child → PushedChild nodes x parent index child
    by false e at = Old (ap (λ ns. slice_get ns index) (sym (append-nil (children_of nodes parent))) ∙ at)
    by true e at = cases (get_cases (children_of nodes parent) (0 + length nodes) index child at)
      where
        cases : ((slice_get (children_of nodes parent) index ≡ Some child) ⊎ ((index ≡ length (children_of nodes parent)) × (0 + length nodes ≡ child))) → PushedChild nodes x parent index child
        cases (inl old) = Old old
        cases (inr (last, same)) = New (is_in parent x.parent e) last (omega (arith, same))

-- a child is a node
kid_there : (parent first : ℕ) (nodes : List Node) (index child : ℕ) → slice_get (kids first nodes parent) index ≡ Some child → (k : ℕ) × (child ≡ first + k) × (node : Node) × (slice_get nodes k ≡ Some node) × (node.parent ≡ Some parent)
kid_there parent first [] index child is = absurd (none-some child is)
kid_there parent first (x ∷ nodes) index child is = by (is_parent parent x.parent) refl index (λ i e. later (kid_there parent (first + 1) nodes i child e)) is
  where
    later : ((k : ℕ) × (child ≡ first + 1 + k) × (node : Node) × (slice_get nodes k ≡ Some node) × (node.parent ≡ Some parent)) → (k : ℕ) × (child ≡ first + k) × (node : Node) × (slice_get (x ∷ nodes) k ≡ Some node) × (node.parent ≡ Some parent)
    later (k, e, node, at, own) = (suc k, omega (arith, e), node, at, own)

    by : (b : Bool) → is_parent parent x.parent ≡ b → (index : ℕ)
        → ((i : ℕ) → slice_get (kids (first + 1) nodes parent) i ≡ Some child → (k : ℕ) × (child ≡ first + k) × (node : Node) × (slice_get (x ∷ nodes) k ≡ Some node) × (node.parent ≡ Some parent))
        → slice_get (map (λ (e : ℕ × Node). e.0) (if b then (first, x) ∷ filter (λ e. is_parent parent e.1.parent) (enumerate_from (first + 1) nodes) else filter (λ e. is_parent parent e.1.parent) (enumerate_from (first + 1) nodes))) index ≡ Some child
        → (k : ℕ) × (child ≡ first + k) × (node : Node) × (slice_get (x ∷ nodes) k ≡ Some node) × (node.parent ≡ Some parent)
    by true e zero each is = let same : first ≡ child = same_Some first child is in (0, omega (arith, same), x, refl, is_in parent x.parent e)
    by true e (suc index) each is = each index is
    by false e index each is = each index is

pub child_node : (nodes : List Node) (parent index child : ℕ) → IsBranch nodes parent index child → (node : Node) × (slice_get nodes child ≡ Some node) × (node.parent ≡ Some parent)
child_node nodes parent index child is =
    let r = kid_there parent 0 nodes index child is in
    let same : child ≡ r.0 = omega (arith, r.1) in
    (r.2, ap (slice_get nodes) same ∙ r.3, r.4)
