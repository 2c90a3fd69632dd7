-- An activity grows at its end: from one list of choices to one more, all nodes but the last and all actions stay as they are.
use Rattle.std.proofs.Common.{◌≡◌, ℕ, zero, suc, ◌+◌, ◌<◌, ◌≤◌, ℤ, List, [], ◌∷◌, ◌++◌, length, take, drop, Option, Some, refl, sym, ap, ◌∙◌, subst, append_assoc, append-nil, length-append, arith}
use Rattle.std.specs.Prelude.{slice_get}
use Rattle.std.proofs.lemmas.Option.{none-some}
use Rattle.pst_model.specs.declared.action.Field.{Field}
use Rattle.pst_model.specs.ModelTree.{ModelTree}
use Rattle.pst_scen.specs.declared.tree.Node.{Node}
use Rattle.pst_scen.specs.declared.tree.Fill.TheVariants as fill
use Rattle.pst_scen.specs.declared.act.Act.{Act}
use Rattle.pst_scen.specs.declared.scenario.Scenario.{Scenario}
use Rattle.pst_legal.specs.Growing.{Look, Inner, Leaf, nothing_yet, with_look, open_act}
use Rattle.pst_legal.specs.Menus.{menu}
use Rattle.pst_legal.specs.Reading.{Reading, Wants, Stops, Reads, node_with_value, put_value, value_number, read_place, read_tree}
use Rattle.pst_built.proofs.Goes.{Stands, After, Goes, place_stands_at}
use Rattle.pst_built.proofs.Readers.{FieldSteps, goes_tree}
use Rattle.pst_built.proofs.Read.{AnyWay, any_ways}
use Rattle.pst_built.proofs.Parents.{get_more}

pub record Grown (s t : Scenario) : Type 0 where
  pub front : (n : ℕ) (node : Node) → n + 1 < length s.nodes → slice_get s.nodes n ≡ Some node → slice_get t.nodes n ≡ Some node
  pub longer : length s.nodes ≤ length t.nodes
  pub more : List Act
  pub acts : t.actions ≡ s.actions ++ more

grown_same : (s : Scenario) → Grown s s
grown_same s = record { front = λ n node l is. is; longer = omega arith; more = []; acts = sym (append-nil s.actions) }

grown_then : (s t u : Scenario) → Grown s t → Grown t u → Grown s u
grown_then s t u one other =
    let long = one.longer in
    record {
      front = λ n node l is. other.front n node (omega (arith, l, long)) (one.front n node l is);
      longer = (let on = other.longer in omega (arith, long, on));
      more = one.more ++ other.more;
      acts = other.acts ∙ ap (λ acts. acts ++ other.more) one.acts ∙ append_assoc s.actions one.more other.more;
    }

grown_look : (m : ModelTree) (s : Scenario) (parent : Option ℕ) (look : Look) → Grown s (with_look m s parent look)
grown_look m s parent (Inner f) =
    let x : Node = record { parent = parent; fill = f } in
    let sum = length-append s.nodes (x ∷ []) in
    record { front = λ n node l is. get_more s.nodes (x ∷ []) n node is; longer = omega (arith, sum); more = []; acts = sym (append-nil s.actions) }
grown_look m s parent (Leaf action instance) =
    let x : Node = record { parent = parent; fill = fill.Leaf (length s.actions) } in
    let sum = length-append s.nodes (x ∷ []) in
    record { front = λ n node l is. get_more s.nodes (x ∷ []) n node is; longer = omega (arith, sum); more = open_act m action instance (Some (length s.nodes)) ∷ []; acts = refl }

-- ---- a further value of the last node

abbrev put_node : ℤ → ℕ → List Node → List Node
put_node v n nodes = take n nodes ++ (node_with_value v (slice_get nodes n) ++ drop (suc n) nodes)

put_before : (v : ℤ) (n : ℕ) (nodes : List Node) (k : ℕ) (node : Node) → k < n → slice_get nodes k ≡ Some node → slice_get (put_node v n nodes) k ≡ Some node
put_before v n [] k node l is = absurd (none-some node is)
put_before v zero (x ∷ xs) k node l is = absurd (omega (arith, l))
put_before v (suc n) (x ∷ xs) zero node l is = is
put_before v (suc n) (x ∷ xs) (suc k) node l is = put_before v n xs k node (omega (arith, l)) is

put_length : (v : ℤ) (n : ℕ) (nodes : List Node) → length (put_node v n nodes) ≡ length nodes
put_length v zero [] = refl
put_length v (suc n) [] = refl
put_length v zero (x ∷ xs) = refl
put_length v (suc n) (x ∷ xs) = ap suc (put_length v n xs)

grown_put : (n : ℕ) (v : ℤ) (s : Scenario) → length s.nodes ≡ n + 1 → Grown s (put_value s n v)
grown_put n v s long = record {
  front = λ k node l is. put_before v n s.nodes k node (omega (arith, l, long)) is;
  longer = (let same = put_length v n s.nodes in omega (arith, same));
  more = [];
  acts = sym (append-nil s.actions);
}

field_steps : (n : ℕ) (fields : List Field) (s : Scenario) → length s.nodes ≡ n + 1 → FieldSteps Grown n fields s
field_steps n [] s long = tt
field_steps n (field ∷ fields) s long = λ k l. (grown_put n (value_number field k) s long, field_steps n fields (put_value s n (value_number field k)) (put_length (value_number field k) n s.nodes ∙ long))

look_length : (m : ModelTree) (s : Scenario) (parent : Option ℕ) (look : Look) → length (with_look m s parent look).nodes ≡ length s.nodes + 1
look_length m s parent (Inner f) = let x : Node = record { parent = parent; fill = f } in length-append s.nodes (x ∷ [])
look_length m s parent (Leaf action instance) = let x : Node = record { parent = parent; fill = fill.Leaf (length s.actions) } in length-append s.nodes (x ∷ [])

goes : (m : ModelTree) (seed root level : ℕ) (ds : List ℕ) → Goes Grown (nothing_yet level) (read_tree m seed root) 0 ds
goes m seed root level ds =
    goes_tree Grown grown_same grown_then m AnyWay (λ piece. any_ways (menu m piece))
    (λ s parent look fields is. (grown_look m s parent look, field_steps (length s.nodes) fields (with_look m s parent look) (look_length m s parent look))) seed root (nothing_yet level) 0 ds

-- ---- one choice more

next : (first s : Scenario) (n d : ℕ) (r : Reading) (go : List ℕ → Reading) → After Grown first r go → r ≡ Wants s n → Stands Grown s (go (d ∷ []))
next first s n d (Wants u j) go after is =
    let x = after.1 in
    let stood : Stands Grown u (read_place x.start j x.next u x.place (d ∷ [])) = place_stands_at Grown u x.start j x.place x.next (d ∷ []) (grown_same u) (λ i e rest l same. x.on i (x.place + 1) rest l) in
    let same : u ≡ s = cc in
    subst (λ v. Stands Grown v (go (d ∷ []))) same (subst (Stands Grown u) (sym (x.is (d ∷ []))) stood)
next first s n d Stops go after is = absurd cc
next first s n d (Reads u p left) go after is = absurd cc

pub grown : (m : ModelTree) (seed root level : ℕ) (xs : List ℕ) (d : ℕ) (s : Scenario) (n : ℕ) → read_tree m seed root (nothing_yet level) 0 xs ≡ Wants s n → Stands Grown s (read_tree m seed root (nothing_yet level) 0 (xs ++ d ∷ []))
grown m seed root level xs d s n is =
    next (nothing_yet level) s n d (read_tree m seed root (nothing_yet level) 0 xs) (λ more. read_tree m seed root (nothing_yet level) 0 (xs ++ more)) (goes m seed root level xs) is

-- ---- any choices more

further : (first s : Scenario) (n : ℕ) (ys : List ℕ) (r : Reading) (go : List ℕ → Reading) → After Grown first r go → r ≡ Wants s n → Stands Grown s (go ys)
further first s n ys (Wants u j) go after is =
    let x = after.1 in
    let stood : Stands Grown u (read_place x.start j x.next u x.place ys) = place_stands_at Grown u x.start j x.place x.next ys (grown_same u) (λ i e rest l same. x.on i (x.place + 1) rest l) in
    let same : u ≡ s = cc in
    subst (λ v. Stands Grown v (go ys)) same (subst (Stands Grown u) (sym (x.is ys)) stood)
further first s n ys Stops go after is = absurd cc
further first s n ys (Reads u p left) go after is = absurd cc

pub grown_on : (m : ModelTree) (seed root level : ℕ) (xs ys : List ℕ) (s : Scenario) (n : ℕ) → read_tree m seed root (nothing_yet level) 0 xs ≡ Wants s n → Stands Grown s (read_tree m seed root (nothing_yet level) 0 (xs ++ ys))
grown_on m seed root level xs ys s n is =
    further (nothing_yet level) s n ys (read_tree m seed root (nothing_yet level) 0 xs) (λ more. read_tree m seed root (nothing_yet level) 0 (xs ++ more)) (goes m seed root level xs) is
