-- What a filled-in activity keeps as it grows.
use Rattle.std.proofs.Common.{◌≡◌, ℕ, zero, suc, ◌≤◌, ℤ, List, [], ◌∷◌, ◌++◌, map, length, true, Option, Some, None, refl, sym, ap, ◌∙◌, subst, arith, append-nil, length-append}
use Rattle.std.specs.Prelude.{slice_get}
use Rattle.std.specs.List.{range_with_len}
use Rattle.std.proofs.lemmas.List.{map-append, length-map}
use Rattle.std.proofs.lemmas.Option.{none-some}
use Rattle.std.proofs.lemmas.Bool.{and_parts, leb-true}
use Rattle.pst_expr.specs.Spans.{size_of}
use Rattle.pst_model.specs.declared.action.Field.{Field}
use Rattle.pst_model.specs.ModelTree.{ModelTree}
use Rattle.pst_scen.specs.declared.tree.Node.{Node}
use Rattle.pst_scen.specs.declared.tree.Fill.TheVariants as fill
use Rattle.pst_scen.specs.declared.scenario.Scenario.{Scenario}
use Rattle.pst_scen.specs.Scenarios.{leaves_of}
use Rattle.pst_legal.specs.Growing.{nothing_yet, Look, Inner, Leaf, open_act, with_look, most_nodes, most_acts, most_levels, IsWithin, is_within}
use Rattle.pst_legal.specs.Pieces.{Piece, Action}
use Rattle.pst_legal.specs.Menus.{menu}
use Rattle.pst_legal.specs.Reading.{Stops, Reader, put_value, value_number, read_fields, read_way, read_piece, read_tree}
use Rattle.pst_built.proofs.Gives.{Gives, gives_if, gives_more, gives_seeded, gives_pieces}
use Rattle.pst_built.proofs.Bares.{bares_in, bares, node_in, nodes_in}
use Rattle.pst_built.proofs.Ways.{gives_menu}
use Rattle.pst_built.proofs.Looks.{IsLook, menu_looks}
use Rattle.pst_built.proofs.Parents.{get_last, parent_in, parents, Under, Here, Lower, under_all, under_more, InOrder, IsPlace, order_push}
use Rattle.pst_built.proofs.Leaves.{leaves_push, put_parents, put_leaves, length_put, numbers_push}
use Rattle.pst_built.proofs.Opens.{AreOpen, act_is_open, opens_push, bares_push}

-- the nodes stand in preorder, the actions are those of the leaves, and no reference is linked
pub record Grown (level : ℕ) (s : Scenario) : Type 0 where
  pub of_level : s.level ≡ level
  pub order : InOrder (parents s.nodes)
  pub numbers : map (λ e. e.0) (leaves_of s.nodes) ≡ range_with_len 0 (length (leaves_of s.nodes))
  pub acts : nodes_in s.actions ≡ map (λ e. Some e.1) (leaves_of s.nodes)
  pub unlinked : AreOpen (bares s.actions)

-- ---- one node more

as_many : (s : Scenario) → nodes_in s.actions ≡ map (λ e. Some e.1) (leaves_of s.nodes) → length s.actions ≡ length (leaves_of s.nodes)
as_many s acts = sym (length-map s.actions node_in) ∙ ap length acts ∙ length-map (leaves_of s.nodes) (λ e. Some e.1)

parents_look : (m : ModelTree) (s : Scenario) (parent : Option ℕ) (look : Look) → parents (with_look m s parent look).nodes ≡ parents s.nodes ++ parent ∷ []
parents_look m s parent (Inner f) = map-append parent_in s.nodes (record { parent = parent; fill = f } ∷ [])
parents_look m s parent (Leaf action instance) = map-append parent_in s.nodes (record { parent = parent; fill = fill.Leaf (length s.actions) } ∷ [])

grown_look : (m : ModelTree) (level : ℕ) (s : Scenario) (parent : Option ℕ) (look : Look) → IsLook look → Grown level s → IsPlace parent (parents s.nodes)
    → Grown level (with_look m s parent look)
grown_look m level s parent (Inner f) looks grown place =
    let same : leaves_of (s.nodes ++ record { parent = parent; fill = f } ∷ []) ≡ leaves_of s.nodes =
    leaves_push s.nodes (record { parent = parent; fill = f }) ∙ ap (λ ls. leaves_of s.nodes ++ ls) (looks (length s.nodes)) ∙ append-nil (leaves_of s.nodes) in
    record {
      of_level = grown.of_level;
      order = subst InOrder (sym (parents_look m s parent (Inner f))) (order_push (parents s.nodes) parent grown.order place);
      numbers = subst (λ ls. map (λ e. e.0) ls ≡ range_with_len 0 (length ls)) (sym same) grown.numbers;
      acts = subst (λ ls. nodes_in s.actions ≡ map (λ e. Some e.1) ls) (sym same) grown.acts;
      unlinked = grown.unlinked;
    }
grown_look m level s parent (Leaf action instance) looks grown place =
    let node : Node = record { parent = parent; fill = fill.Leaf (length s.actions) } in
    let act = open_act m action instance (Some (length s.nodes)) in
    let more : leaves_of (s.nodes ++ node ∷ []) ≡ leaves_of s.nodes ++ (length s.actions, length s.nodes) ∷ [] = leaves_push s.nodes node in
    record {
      of_level = grown.of_level;
      order = subst InOrder (sym (parents_look m s parent (Leaf action instance))) (order_push (parents s.nodes) parent grown.order place);
      numbers = subst (λ ls. map (λ e. e.0) ls ≡ range_with_len 0 (length ls)) (sym more)
          (numbers_push (leaves_of s.nodes) (length s.actions) (length s.nodes) grown.numbers (as_many s grown.acts));
      acts = map-append node_in s.actions (act ∷ [])
          ∙ ap (λ ns. ns ++ Some (length s.nodes) ∷ []) grown.acts
          ∙ sym (map-append (λ e. Some e.1) (leaves_of s.nodes) ((length s.actions, length s.nodes) ∷ []))
          ∙ ap (map (λ e. Some e.1)) (sym more);
      unlinked = subst AreOpen (sym (bares_push s.actions act)) (opens_push (bares s.actions) (bares_in act) grown.unlinked (act_is_open m action instance (Some (length s.nodes))));
    }

pub few : (s : Scenario) → is_within s ≡ true → IsWithin s.nodes s.actions
few s test =
    let parts = and_parts _ _ test in
    record { few_nodes = leb-true (length s.nodes) most_nodes parts.0; few_acts = leb-true (length s.actions) most_acts parts.1 }

-- ---- what stands below a node

-- the last node stands in the parent, if there is one
abbrev pub IsAfter : Option ℕ → List (Option ℕ) → Type 0
IsAfter None above = Unit {0}
IsAfter (Some parent) above = IsPlace (Some parent) above

-- the second scenario has grown from the first, in the parent
pub record IsGrowth (level : ℕ) (s : Scenario) (parent : Option ℕ) (t : Scenario) : Type 0 where
  pub grown : Grown level t
  pub within : IsWithin t.nodes t.actions
  pub kept : (a b : ℕ) → Under (parents s.nodes) a b → Under (parents t.nodes) a b
  pub after : IsAfter parent (parents t.nodes)

put_grown : (level : ℕ) (s : Scenario) (n : ℕ) (v : ℤ) → Grown level s → Grown level (put_value s n v)
put_grown level s n v grown = record {
  of_level = grown.of_level;
  order = subst InOrder (sym (put_parents s.nodes n v)) grown.order;
  numbers = subst (λ ls. map (λ e. e.0) ls ≡ range_with_len 0 (length ls)) (sym (put_leaves s.nodes n v)) grown.numbers;
  acts = subst (λ ls. nodes_in s.actions ≡ map (λ e. Some e.1) ls) (sym (put_leaves s.nodes n v)) grown.acts;
  unlinked = grown.unlinked;
}

put_growth : (level : ℕ) (s : Scenario) (parent : Option ℕ) (t : Scenario) (n : ℕ) (v : ℤ) → IsGrowth level s parent t → IsGrowth level s parent (put_value t n v)
put_growth level s parent t n v growth = record {
  grown = put_grown level t n v growth.grown;
  within = record { few_nodes = subst (λ k. k ≤ most_nodes) (sym (length_put t.nodes n v)) growth.within.few_nodes; few_acts = growth.within.few_acts };
  kept = λ a b under. subst (λ ps. Under ps a b) (sym (put_parents t.nodes n v)) (growth.kept a b under);
  after = subst (IsAfter parent) (sym (put_parents t.nodes n v)) growth.after;
}

pub gives_fields : (P : Scenario → Type 0) (seed n : ℕ) (fields : List Field) (known : List ℤ) (go : List ℤ → Reader) (s : Scenario) (place : ℕ) (left : List ℕ) → P s
    → ((t : Scenario) (v : ℤ) → P t → P (put_value t n v))
    → ((values : List ℤ) (t : Scenario) (next : ℕ) (rest : List ℕ) → P t → Gives P (go values t next rest))
    → Gives P (read_fields seed n fields known go s place left)
gives_fields P seed n [] known go s place left holds puts each = each known s place left holds
gives_fields P seed n (field ∷ fields) known go s place left holds puts each =
    gives_seeded P seed (size_of field.domain) (λ k read. read_fields seed n fields (known ++ value_number field k ∷ []) go (put_value read n (value_number field k))) s place left
    (λ k next rest. gives_fields P seed n fields (known ++ value_number field k ∷ []) go (put_value s n (value_number field k)) next rest (puts s (value_number field k) holds) puts each)

after_growth : (level : ℕ) (s : Scenario) (parent other : Option ℕ) (t u : Scenario) → IsGrowth level s parent t → IsGrowth level t other u → IsAfter parent (parents u.nodes) → IsGrowth level s parent u
after_growth level s parent other t u one next after = record {
  grown = next.grown;
  within = next.within;
  kept = λ a b under. next.kept a b (one.kept a b under);
  after = after;
}

-- below the node of a way
module _ (m : ModelTree) (level : ℕ) (s : Scenario) (parent : Option ℕ) (look : Look) (looks : IsLook look) (grown : Grown level s) (place : IsPlace parent (parents s.nodes)) where
  abbrev t : Scenario
  t = with_look m s parent look

  abbrev n : ℕ
  n = length s.nodes

  begun : is_within t ≡ true → IsGrowth level t (Some n) t
  begun test = record {
    grown = grown_look m level s parent look looks grown place;
    within = few t test;
    kept = λ a b under. under;
    after = (n, ap length (parents_look m s parent look) ∙ length-append (parents s.nodes) (parent ∷ []) ∙ omega (arith, length-map s.nodes parent_in), Here);
  }

  ends_after : (above : Option ℕ) (u : Scenario) → parent ≡ above → IsGrowth level t (Some n) u → IsAfter above (parents u.nodes)
  ends_after None u is growth = tt
  ends_after (Some p) u is growth =
      let last : slice_get (parents t.nodes) n ≡ Some (Some p) =
      ap (λ ps. slice_get ps n) (parents_look m s parent look)
      ∙ ap (λ k. slice_get (parents s.nodes ++ parent ∷ []) k) (sym (length-map s.nodes parent_in))
      ∙ get_last (parents s.nodes) parent ∙ ap Some is in
      (growth.after.0, growth.after.1, under_all (growth.kept p n (Lower n p Here last)) growth.after.2)

  ended : (u : Scenario) → IsGrowth level t (Some n) u → IsGrowth level s parent u
  ended u growth = record {
    grown = growth.grown;
    within = growth.within;
    kept = λ a b under. growth.kept a b (subst (λ ps. Under ps a b) (sym (parents_look m s parent look)) (under_more (parents s.nodes) (parent ∷ []) under));
    after = ends_after parent u refl growth;
  }

  way_grows : (seed : ℕ) (one : Piece → Option ℕ → Reader)
      → ((piece : Piece) (top : ℕ) (u : Scenario) (next : ℕ) (rest : List ℕ) → Grown level u → IsPlace (Some top) (parents u.nodes) → Gives (IsGrowth level u (Some top)) (one piece (Some top) u next rest))
      → (fields : List Field) (below : List ℤ → List Piece) (next : ℕ) (rest : List ℕ) → Gives (IsGrowth level s parent) (read_way m seed one parent look fields below s next rest)
  way_grows seed one each fields below next rest =
      gives_if (IsGrowth level s parent) (is_within t) _ Stops
      (λ test. gives_more (IsGrowth level t (Some n)) (IsGrowth level s parent) _
      (gives_fields (IsGrowth level t (Some n)) seed n fields [] _ t next rest (begun test) (λ u v growth. put_growth level t (Some n) u n v growth)
      (λ values u next rest growth. gives_pieces (IsGrowth level t (Some n)) one (below values) n u next rest growth
      (λ piece inside v next rest held. gives_more (IsGrowth level v (Some n)) (IsGrowth level t (Some n)) _ (each piece n v next rest held.grown held.after)
      (λ w growth. after_growth level t (Some n) (Some n) v w held growth growth.after))))
      ended)
      tt

piece_grows : (m : ModelTree) (seed level levels : ℕ) (piece : Piece) (parent : Option ℕ) (s : Scenario) (place : ℕ) (left : List ℕ) → Grown level s → IsPlace parent (parents s.nodes)
    → Gives (IsGrowth level s parent) (read_piece m seed levels piece parent s place left)
piece_grows m seed level zero piece parent s place left grown at =
    gives_menu (IsGrowth level s parent) (λ look fields below. IsLook look) seed (menu m piece) (menu_looks m piece) _ s place left (λ look fields below looks next rest. tt)
piece_grows m seed level (suc levels) piece parent s place left grown at =
    gives_menu (IsGrowth level s parent) (λ look fields below. IsLook look) seed (menu m piece) (menu_looks m piece) _ s place left
    (λ look fields below looks next rest. way_grows m level s parent look looks grown at seed (read_piece m seed levels)
    (λ piece top u next rest grown at. piece_grows m seed level levels piece (Some top) u next rest grown at) fields below next rest)

nothing_grown : (level : ℕ) → Grown level (nothing_yet level)
nothing_grown level = record {
  of_level = refl;
  order = record { root = λ p is. absurd (none-some p is); below = λ n p is. absurd (none-some p is) };
  numbers = refl;
  acts = refl;
  unlinked = λ a r x is. absurd (none-some x is);
}

pub tree_grows : (m : ModelTree) (seed root level place : ℕ) (left : List ℕ) → Gives (IsGrowth level (nothing_yet level) None) (read_tree m seed root (nothing_yet level) place left)
tree_grows m seed root level place left = piece_grows m seed level most_levels (Action root None) None (nothing_yet level) place left (nothing_grown level) refl
