-- What each node of a filled-in activity stands for, with the nodes that stand directly in it.
use Rattle.std.proofs.Common.{◌≡◌, ◌⊎◌, ℕ, zero, suc, ◌+◌, ◌<◌, ◌≤◌, List, [], ◌∷◌, ◌++◌, map, length, Bool, true, false, cond, Option, Some, None, refl, sym, ap, ap₂, ◌∙◌, subst, inl, inr, ⊎_elim, arith, append_assoc, append-nil, length-append}
use Rattle.std.specs.Prelude.{slice_get}
use Rattle.std.specs.List.{enumerate_from, filter, AllZip}
use Rattle.std.proofs.lemmas.Option.{none-some, same_Some}
use Rattle.std.proofs.lemmas.Bool.{false≢true, eqb-true, eq-eqb}
use Rattle.pst_model.specs.ModelTree.{ModelTree}
use Rattle.pst_scen.specs.declared.tree.Node.{Node}
use Rattle.pst_scen.specs.Tree.{is_parent}
use Rattle.pst_legal.specs.Growing.{Look}
use Rattle.pst_legal.specs.Pieces.{Piece, IsWay}
use Rattle.pst_legal.specs.Statements.{children_of}
use Rattle.pst_built.proofs.Parents.{get_more, get_last}
use Rattle.pst_slots.proofs.Children.{kids}
use Rattle.pst_slots.proofs.Parts.{IsLookOf, PartsOf, PartOf}

-- ---- the nodes in a parent, of longer lists

push_by : (b : Bool) (k : ℕ) (x : Node) (xs ys : List Node) (parent : ℕ) → kids (k + 1) (xs ++ ys) parent ≡ kids (k + 1) xs parent ++ kids (k + length (x ∷ xs)) ys parent
    → map (λ (e : ℕ × Node). e.0) (cond b ((k, x) ∷ filter (λ e. is_parent parent e.1.parent) (enumerate_from (k + 1) (xs ++ ys))) (filter (λ e. is_parent parent e.1.parent) (enumerate_from (k + 1) (xs ++ ys))))
    ≡ map (λ (e : ℕ × Node). e.0) (cond b ((k, x) ∷ filter (λ e. is_parent parent e.1.parent) (enumerate_from (k + 1) xs)) (filter (λ e. is_parent parent e.1.parent) (enumerate_from (k + 1) xs)))
    ++ kids (k + length (x ∷ xs)) ys parent
push_by true k x xs ys parent e = ap (λ ns. k ∷ ns) e
push_by false k x xs ys parent e = e

pub kids_append : (k : ℕ) (xs ys : List Node) (parent : ℕ) → kids k (xs ++ ys) parent ≡ kids k xs parent ++ kids (k + length xs) ys parent
kids_append k [] ys parent = let e : k ≡ k + 0 = omega arith in ap (λ v. kids v ys parent) e
kids_append k (x ∷ xs) ys parent =
    let e : (k + 1) + length xs ≡ k + length (x ∷ xs) = omega arith in
    push_by (is_parent parent x.parent) k x xs ys parent (kids_append (k + 1) xs ys parent ∙ ap (λ v. kids (k + 1) xs parent ++ kids v ys parent) e)

is_it : (parent : ℕ) (of : Option ℕ) (b : Bool) → is_parent parent of ≡ b → of ≡ Some parent → b ≡ true
is_it parent of b is e = sym is ∙ ap (is_parent parent) e ∙ eq-eqb parent parent refl

isn't_it : (parent : ℕ) (of : Option ℕ) (b : Bool) → is_parent parent of ≡ b → (of ≡ Some parent → ⊥) → b ≡ false
isn't_it parent of false is other = refl
isn't_it parent None true is other = absurd (false≢true is)
isn't_it parent (Some p) true is other = absurd (other (ap Some (sym (eqb-true parent p is))))

pub kids_with : (k : ℕ) (x : Node) (xs : List Node) (parent : ℕ) → x.parent ≡ Some parent → kids k (x ∷ xs) parent ≡ k ∷ kids (k + 1) xs parent
kids_with k x xs parent e =
    ap (λ b. map (λ (e : ℕ × Node). e.0) (cond b ((k, x) ∷ filter (λ e. is_parent parent e.1.parent) (enumerate_from (k + 1) xs)) (filter (λ e. is_parent parent e.1.parent) (enumerate_from (k + 1) xs))))
    (is_it parent x.parent (is_parent parent x.parent) refl e)

pub kids_without : (k : ℕ) (x : Node) (xs : List Node) (parent : ℕ) → (x.parent ≡ Some parent → ⊥) → kids k (x ∷ xs) parent ≡ kids (k + 1) xs parent
kids_without k x xs parent other =
    ap (λ b. map (λ (e : ℕ × Node). e.0) (cond b ((k, x) ∷ filter (λ e. is_parent parent e.1.parent) (enumerate_from (k + 1) xs)) (filter (λ e. is_parent parent e.1.parent) (enumerate_from (k + 1) xs))))
    (isn't_it parent x.parent (is_parent parent x.parent) refl other)

-- ---- parts

abbrev IsOut : ℕ → List Node → ℕ → Type 0
IsOut k nodes p = (p < k) ⊎ (k + length nodes ≤ p)

both_none : (k : ℕ) (first rest : List Node) (p : ℕ) → kids k first p ≡ [] → kids (k + length first) rest p ≡ [] → kids k (first ++ rest) p ≡ []
both_none k first rest p one other = kids_append k first rest p ∙ ap₂ (λ xs ys. xs ++ ys) one other

nones_in : (m : ModelTree) (levels : ℕ) → ((piece : Piece) (parent : Option ℕ) (k : ℕ) (nodes : List Node) → PartOf m levels piece parent k nodes → (p : ℕ) → IsOut k nodes p → (parent ≡ Some p → ⊥) → kids k nodes p ≡ [])
    → (pieces : List Piece) (parent k : ℕ) (nodes : List Node) → PartsOf (PartOf m levels) pieces parent k nodes → (p : ℕ) → IsOut k nodes p → (parent ≡ p → ⊥) → kids k nodes p ≡ []
nones_in m levels each [] parent k nodes same p out other = ap (λ ns. kids k ns p) same
nones_in m levels each (x ∷ xs) parent k nodes (first, rest, same, one, more) p out other =
    let long : length nodes ≡ length first + length rest = ap length same ∙ length-append first rest in
    let in_first : IsOut k first p = ⊎_elim (λ l. inl l) (λ l. inr (omega (arith, l, long))) out in
    let in_rest : IsOut (k + length first) rest p = ⊎_elim (λ l. inl (omega (arith, l))) (λ l. inr (omega (arith, l, long))) out in
    ap (λ ns. kids k ns p) same
    ∙ both_none k first rest p (each x (Some parent) k first one p in_first (λ e. other (same_Some parent p e))) (nones_in m levels each xs parent (k + length first) rest more p in_rest other)

pub none_in : (m : ModelTree) (levels : ℕ) (piece : Piece) (parent : Option ℕ) (k : ℕ) (nodes : List Node) → PartOf m levels piece parent k nodes → (p : ℕ) → IsOut k nodes p → (parent ≡ Some p → ⊥) → kids k nodes p ≡ []
none_in m zero piece parent k nodes part p out other = absurd part
none_in m (suc levels) piece parent k nodes (node, rest, same, of, look, below, looks, way, parts) p out other =
    let long : length nodes ≡ suc (length rest) = ap length same in
    let in_rest : IsOut (k + 1) rest p = ⊎_elim (λ l. inl (omega (arith, l))) (λ l. inr (omega (arith, l, long))) out in
    let apart : k ≡ p → ⊥ = λ e. ⊎_elim (λ l. omega (arith, l, e)) (λ l. omega (arith, l, e, long)) out in
    ap (λ ns. kids k ns p) same
    ∙ kids_without k node rest p (λ e. other (sym of ∙ e))
    ∙ nones_in m levels (none_in m levels) below k (k + 1) rest parts p in_rest apart

-- the first nodes of the parts
starts : (m : ModelTree) (levels : ℕ) (pieces : List Piece) (parent k : ℕ) (nodes : List Node) → PartsOf (PartOf m levels) pieces parent k nodes → List ℕ
starts m levels [] parent k nodes same = []
starts m levels (x ∷ xs) parent k nodes (first, rest, same, one, more) = k ∷ starts m levels xs parent (k + length first) rest more

-- a part has one node in its parent
one_in : (m : ModelTree) (levels : ℕ) (piece : Piece) (parent k : ℕ) (nodes : List Node) → PartOf m levels piece (Some parent) k nodes → parent < k → kids k nodes parent ≡ k ∷ []
one_in m zero piece parent k nodes part l = absurd part
one_in m (suc levels) piece parent k nodes (node, rest, same, of, look, below, looks, way, parts) l =
    ap (λ ns. kids k ns parent) same
    ∙ kids_with k node rest parent of
    ∙ ap (λ ns. k ∷ ns) (nones_in m levels (none_in m levels) below k (k + 1) rest parts parent (inl (omega (arith, l))) (λ e. omega (arith, l, e)))

kids_are : (m : ModelTree) (levels : ℕ) (pieces : List Piece) (parent k : ℕ) (nodes : List Node) (parts : PartsOf (PartOf m levels) pieces parent k nodes) → parent < k
    → kids k nodes parent ≡ starts m levels pieces parent k nodes parts
unfolding starts
kids_are m levels [] parent k nodes same l = ap (λ ns. kids k ns parent) same
kids_are m levels (x ∷ xs) parent k nodes (first, rest, same, one, more) l =
    ap (λ ns. kids k ns parent) same ∙ kids_append k first rest parent
    ∙ ap₂ (λ xs ys. xs ++ ys) (one_in m levels x parent k first one l) (kids_are m levels xs parent (k + length first) rest more (omega (arith, l)))

-- ---- nodes

-- node n stands for the piece, and the nodes in it for what stands below the piece
abbrev pub Stood : ModelTree → List Node → ℕ → Piece → ℕ → Type 0
Stood m nodes zero piece n = ⊥
Stood m nodes (suc levels) piece n =
    (node : Node) × (slice_get nodes n ≡ Some node) × (look : Look) × (below : List Piece) × IsLookOf node.fill look × IsWay m piece look below
    × AllZip (Stood m nodes levels) below (children_of nodes n)

-- a node stands for some piece
pub record IsStood (m : ModelTree) (nodes : List Node) (n : ℕ) : Type 0 where
  pub levels : ℕ
  pub piece : Piece
  pub stood : Stood m nodes levels piece n

-- the part of the list between what is before it and what is behind it, where neither has a node in one of the part
pub record IsBetween (nodes pre part post : List Node) (k : ℕ) : Type 0 where
  pub all : nodes ≡ pre ++ (part ++ post)
  pub from : k ≡ length pre
  pub early : (p : ℕ) → k ≤ p → kids 0 pre p ≡ []
  pub late : (p : ℕ) → k ≤ p → p < k + length part → kids (k + length part) post p ≡ []

pub record AllStood (m : ModelTree) (nodes : List Node) (k n : ℕ) : Type 0 where
  pub each : (i : ℕ) → k ≤ i → i < k + n → IsStood m nodes i

module _ (m : ModelTree) (nodes : List Node) where
  stoods : (levels : ℕ)
      → ((piece : Piece) (parent : Option ℕ) (k : ℕ) (pre part post : List Node) → PartOf m levels piece parent k part → ((p : ℕ) → parent ≡ Some p → p < k) → IsBetween nodes pre part post k → Stood m nodes levels piece k × AllStood m nodes k (length part))
      → (pieces : List Piece) (parent k : ℕ) (pre part post : List Node) (parts : PartsOf (PartOf m levels) pieces parent k part) → parent < k → IsBetween nodes pre part post k
      → AllZip (Stood m nodes levels) pieces (starts m levels pieces parent k part parts) × AllStood m nodes k (length part)
  unfolding starts
  stoods levels one [] parent k pre part post same l between = (tt, record { each = λ i low high. let none : length part ≡ 0 = ap length same in absurd (omega (arith, low, high, none)) })
  stoods levels one (x ∷ xs) parent k pre part post (first, rest, same, of_first, more) l between =
      let long : length part ≡ length first + length rest = ap length same ∙ length-append first rest in
      let here : IsBetween nodes pre first (rest ++ post) k = record {
        all = between.all ∙ ap (λ ns. pre ++ (ns ++ post)) same ∙ ap (λ ns. pre ++ ns) (append_assoc first rest post);
        from = between.from;
        early = between.early;
        late = λ p low high. kids_append (k + length first) rest post p
            ∙ ap₂ (λ ns os. ns ++ os)
            (nones_in m levels (none_in m levels) xs parent (k + length first) rest more p (inl high) (λ e. omega (arith, e, low, l)))
            (let v : k + length part ≡ (k + length first) + length rest = omega (arith, long) in subst (λ w. kids w post p ≡ []) v (between.late p low (omega (arith, high, long))));
      } in
      let there : IsBetween nodes (pre ++ first) rest post (k + length first) = record {
        all = here.all ∙ sym (append_assoc pre first (rest ++ post));
        from = let e = length-append pre first in omega (arith, e, between.from);
        early = λ p low.
            let e : k ≡ 0 + length pre = omega (arith, between.from) in
            kids_append 0 pre first p
            ∙ ap₂ (λ ns os. ns ++ os) (between.early p (omega (arith, low)))
            (subst (λ w. kids w first p ≡ []) e (none_in m levels x (Some parent) k first of_first p (inr low) (λ e. let f : parent ≡ p = same_Some parent p e in omega (arith, f, low, l))));
        late = λ p low high. let v : k + length part ≡ (k + length first) + length rest = omega (arith, long) in
            subst (λ w. kids w post p ≡ []) v (between.late p (omega (arith, low)) (omega (arith, high, long)));
      } in
      let a = one x (Some parent) k pre first (rest ++ post) of_first (λ p e. let f : parent ≡ p = same_Some parent p e in omega (arith, f, l)) here in
      let b = stoods levels one xs parent (k + length first) (pre ++ first) rest post more (omega (arith, l)) there in
      ((a.0, b.0), record { each = λ i low high. ⊎_elim (λ in_first. a.1.each i low in_first) (λ in_rest. b.1.each i in_rest (omega (arith, high, long))) (split i (k + length first)) })
    where
      split : (i n : ℕ) → (i < n) ⊎ (n ≤ i)
      split i zero = inr (omega arith)
      split zero (suc n) = inl (omega arith)
      split (suc i) (suc n) = ⊎_elim (λ l. inl (omega (arith, l))) (λ l. inr (omega (arith, l))) (split i n)

  pub stood : (levels : ℕ) (piece : Piece) (parent : Option ℕ) (k : ℕ) (pre part post : List Node) → PartOf m levels piece parent k part → ((p : ℕ) → parent ≡ Some p → p < k) → IsBetween nodes pre part post k
      → Stood m nodes levels piece k × AllStood m nodes k (length part)
  stood zero piece parent k pre part post is earlier between = absurd is
  stood (suc levels) piece parent k pre part post (node, rest, same, of, look, below, looks, way, parts) earlier between =
      let long : length part ≡ suc (length rest) = ap length same in
      let start : k ≡ 0 + length pre = omega (arith, between.from) in
      let isn't_own : node.parent ≡ Some k → ⊥ = λ e. let l = earlier k (sym of ∙ e) in omega (arith, l) in
      let from_zero : kids 0 pre k ≡ [] = between.early k (omega arith) in
      let own : kids k part k ≡ kids (k + 1) rest k = ap (λ ns. kids k ns k) same ∙ kids_without k node rest k isn't_own in
      let inner : IsBetween nodes (pre ++ node ∷ []) rest post (k + 1) = record {
        all = between.all ∙ ap (λ ns. pre ++ (ns ++ post)) same ∙ sym (append_assoc pre (node ∷ []) (rest ++ post));
        from = let e = length-append pre (node ∷ []) in omega (arith, e, between.from);
        early = λ p low.
            kids_append 0 pre (node ∷ []) p
            ∙ ap₂ (λ ns os. ns ++ os) (between.early p (omega (arith, low)))
            (kids_without (0 + length pre) node [] p (λ e. let l = earlier p (sym of ∙ e) in omega (arith, l, low)));
        late = λ p low high. let v : k + length part ≡ (k + 1) + length rest = omega (arith, long) in
            subst (λ w. kids w post p ≡ []) v (between.late p (omega (arith, low)) (omega (arith, high, long)));
      } in
      let all = stoods levels (stood levels) below k (k + 1) (pre ++ node ∷ []) rest post parts (omega arith) inner in
      let late : kids (k + length part) post k ≡ [] = between.late k (omega arith) (omega (arith, long)) in
      let children : children_of nodes k ≡ starts m levels below k (k + 1) rest parts =
      ap (λ ns. kids 0 ns k) between.all ∙ kids_append 0 pre (part ++ post) k
      ∙ ap₂ (λ ns os. ns ++ os) from_zero (ap (λ w. kids w (part ++ post) k) (sym start) ∙ kids_append k part post k ∙ ap₂ (λ ns os. ns ++ os) own late ∙ append-nil (kids (k + 1) rest k))
      ∙ kids_are m levels below k (k + 1) rest parts (omega arith) in
      let at : slice_get nodes k ≡ Some node =
      ap (λ ns. slice_get ns k) (inner.all) ∙ get_more (pre ++ node ∷ []) (rest ++ post) k node (subst (λ i. slice_get (pre ++ node ∷ []) i ≡ Some node) (sym between.from) (get_last pre node)) in
      let whole : Stood m nodes (suc levels) piece k = (node, at, look, below, looks, way, subst (AllZip (Stood m nodes levels) below) (sym children) all.0) in
      (whole, record { each = λ i low high. ⊎_elim (λ e. subst (IsStood m nodes) e (record { levels = suc levels; piece = piece; stood = whole })) (λ l. all.1.each i l (omega (arith, high, long))) (next i k low) })
    where
      next : (i k : ℕ) → k ≤ i → (k ≡ i) ⊎ (k + 1 ≤ i)
      next zero zero l = inl refl
      next (suc i) zero l = inr (omega arith)
      next zero (suc k) l = absurd (omega (arith, l))
      next (suc i) (suc k) l = ⊎_elim (λ e. inl (ap suc e)) (λ m. inr (omega (arith, m))) (next i k (omega (arith, l)))

  pub whole_stood : (levels : ℕ) (piece : Piece) → PartOf m levels piece None 0 nodes → (i : ℕ) → i < length nodes → IsStood m nodes i
  whole_stood levels piece part i l =
      (stood levels piece None 0 [] nodes [] part (λ p e. absurd (none-some p e))
      (record { all = sym (append-nil nodes); from = refl; early = λ p low. refl; late = λ p low high. refl })).1.each i (omega arith) (omega (arith, l))
