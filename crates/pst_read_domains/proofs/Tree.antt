-- The nodes that the activity's reading comes to stand for pieces.
use Rattle.std.proofs.Common.{◌≡◌, ◌⊎◌, ℕ, zero, suc, ◌+◌, ◌<◌, ◌≤◌, ℤ, List, [], ◌∷◌, ◌++◌, length, Bool, true, false, nat_lt, if◌then◌else◌, Option, Some, None, refl, sym, ap, ◌∙◌, subst, inl, inr, arith, length-append}
use Rattle.std.specs.Prelude.{slice_get}
use Rattle.std.proofs.lemmas.Option.{none-some, same_Some, slice_get_within}
use Rattle.pst_rng.specs.Words.{start_of}
use Rattle.pst_rng.specs.Weights.{weighted_start_of}
use Rattle.pst_expr.specs.Spans.{size_of}
use Rattle.pst_model.specs.declared.action.Field.{Field}
use Rattle.pst_model.specs.ActivityTree.{StepTree, Traverse, Sequence, Parallel, Schedule, Joined, Select, Repeat, If, Match}
use Rattle.pst_model.specs.ModelTree.{ModelTree}
use Rattle.pst_scen.specs.declared.tree.Node.{Node}
use Rattle.pst_scen.specs.declared.tree.Fill.{Fill}
use Rattle.pst_scen.specs.declared.tree.Fill.TheVariants as fill
use Rattle.pst_scen.specs.declared.act.Act.{Act}
use Rattle.pst_scen.specs.declared.scenario.Scenario.{Scenario}
use Rattle.pst_legal.specs.Growing.{Look, Inner, Leaf, open_act, with_look, is_within, most_levels, nothing_yet}
use Rattle.pst_legal.specs.Pieces.{Piece, Action, Statement, Turning}
use Rattle.pst_legal.specs.Menus.{Menu, Way, Place, Weighted, Closed, menu}
use Rattle.pst_legal.specs.Reading.{Reading, Wants, Stops, Reads, Reader, then_read, option_at, read_place, put_value, value_number, read_fields, read_menu, read_pieces, read_way, read_piece, read_tree}
use Rattle.pst_legal.specs.Statements.{children_of, IsBranch}
use Rattle.pst_built.proofs.Parents.{get_more, get_last, get_cases}
use Rattle.pst_built.proofs.Menus.{look_with}
use Rattle.pst_built.proofs.ReachedNodes.{look_none, put_look}
use Rattle.pst_built.specs.Known.{IsOf}
use Rattle.pst_read_domains.specs.Stood.{Suits, IsPiece, Under, StandFor}
use Rattle.pst_read_domains.proofs.Ways.{Fine, Ways, menu_fine}
use Rattle.pst_read_domains.proofs.Kids.{PushedChild, Old, New, pushed, push_in, push_out, child_node}

-- ---- actions stay of their types

abbrev pub TypesStay : List Act → List Act → Type 0
TypesStay xs ys = (k : ℕ) (x : Act) → slice_get xs k ≡ Some x → (y : Act) × (slice_get ys k ≡ Some y) × (y.action ≡ x.action)

is_of_more : (s t : Scenario) → TypesStay s.actions t.actions → (type : ℕ) (f : Fill) → IsOf s type f → IsOf t type f
is_of_more s t stay type (fill.Compound action instance values) is = is
is_of_more s t stay type (fill.Leaf a) (act, at, e) = let y = stay a act at in (y.0, y.1, y.2 ∙ e)
is_of_more s t stay type fill.Sequence is = is
is_of_more s t stay type fill.Parallel is = is
is_of_more s t stay type fill.Schedule is = is
is_of_more s t stay type (fill.Joined parallel joined) is = is
is_of_more s t stay type (fill.Select branch) is = is
is_of_more s t stay type fill.Repeat is = is
is_of_more s t stay type (fill.Turn index) is = is
is_of_more s t stay type (fill.If taken) is = is
is_of_more s t stay type (fill.Match arm) is = is

suits_more : (s t : Scenario) → TypesStay s.actions t.actions → (step : StepTree) (f : Fill) → Suits s step f → Suits t step f
suits_more s t stay (Traverse action handle inline) f is = is_of_more s t stay action f is
suits_more s t stay (Sequence steps) f is = is
suits_more s t stay (Parallel steps) f is = is
suits_more s t stay (Schedule steps) f is = is
suits_more s t stay (Joined parallel join steps) f is = is
suits_more s t stay (Select rows) f is = is
suits_more s t stay (Repeat count body) f is = is
suits_more s t stay (If condition holds fails) f is = is
suits_more s t stay (Match matched arms other) f is = is

pub piece_more : (s t : Scenario) → TypesStay s.actions t.actions → (piece : Piece) (f : Fill) → IsPiece s piece f → IsPiece t piece f
piece_more s t stay (Action action top) f is = is_of_more s t stay action f is
piece_more s t stay (Statement c step) f is = suits_more s t stay step f is
piece_more s t stay (Turning c index body) f is = is

-- ---- one node more

-- the parent asks for the piece next
abbrev pub Asked : ModelTree → ℕ → Scenario → List Piece → Option ℕ → Piece → Type 0
Asked m root s pieces None piece = (s.nodes ≡ []) × ((top : Option ℕ) × (piece ≡ Action root top))
Asked m root s pieces (Some p) piece =
    (node : Node) × (above : Piece) × (slice_get s.nodes p ≡ Some node) × (slice_get pieces p ≡ Some above) × Under m above node.fill (length (children_of s.nodes p)) piece

module _ (m : ModelTree) (root : ℕ) (s t : Scenario) (pieces : List Piece) (stand : StandFor m root s pieces) (parent : Option ℕ) (piece : Piece) (asked : Asked m root s pieces parent piece)
    (x : Node) (in_parent : x.parent ≡ parent) (nodes : t.nodes ≡ s.nodes ++ x ∷ []) (stay : TypesStay s.actions t.actions) (suits : IsPiece t piece x.fill) where
  as_asked : (p : ℕ) → x.parent ≡ Some p → Asked m root s pieces (Some p) piece
  as_asked p e = subst (λ o. Asked m root s pieces o piece) (sym in_parent ∙ e) asked

  new_first : (o : Option ℕ) → Asked m root s pieces o piece → length pieces ≡ 0 → (top : Option ℕ) × (piece ≡ Action root top)
  new_first None is none = is.1
  new_first (Some p) (node, above, at, has, under) none = let l = slice_get_within pieces p above has in absurd (omega (arith, l, none))

  long : length (pieces ++ piece ∷ []) ≡ length t.nodes
  long =
      let a = length-append pieces (piece ∷ []) in
      let b = length-append s.nodes (x ∷ []) in
      let c : length t.nodes ≡ length (s.nodes ++ x ∷ []) = ap length nodes in
      let d = stand.long in
      omega (arith, a, b, c, d)

  first : (q : Piece) → slice_get (pieces ++ piece ∷ []) 0 ≡ Some q → (top : Option ℕ) × (q ≡ Action root top)
  first q is = by (get_cases pieces piece 0 q is)
    where
      by : ((slice_get pieces 0 ≡ Some q) ⊎ ((0 ≡ length pieces) × (piece ≡ q))) → (top : Option ℕ) × (q ≡ Action root top)
      by (inl old) = stand.first q old
      by (inr (none, same)) = let r = new_first parent asked (sym none) in (r.0, sym same ∙ r.1)

  node_at : (n : ℕ) (node : Node) → slice_get t.nodes n ≡ Some node → (slice_get s.nodes n ≡ Some node) ⊎ ((n ≡ length s.nodes) × (x ≡ node))
  node_at n node is = get_cases s.nodes x n node (ap (λ ns. slice_get ns n) (sym nodes) ∙ is)

  -- below the old length
  old_node : (n : ℕ) (node : Node) → n < length s.nodes → slice_get t.nodes n ≡ Some node → slice_get s.nodes n ≡ Some node
  old_node n node l is = by (node_at n node is)
    where
      by : ((slice_get s.nodes n ≡ Some node) ⊎ ((n ≡ length s.nodes) × (x ≡ node))) → slice_get s.nodes n ≡ Some node
      by (inl old) = old
      by (inr (last, same)) = absurd (omega (arith, last, l))

  old_piece : (n : ℕ) (q : Piece) → n < length s.nodes → slice_get (pieces ++ piece ∷ []) n ≡ Some q → slice_get pieces n ≡ Some q
  old_piece n q l is = by (get_cases pieces piece n q is)
    where
      by : ((slice_get pieces n ≡ Some q) ⊎ ((n ≡ length pieces) × (piece ≡ q))) → slice_get pieces n ≡ Some q
      by (inl old) = old
      by (inr (last, same)) = let e = stand.long in absurd (omega (arith, last, l, e))

  new_piece : (n : ℕ) (q : Piece) → n ≡ length s.nodes → slice_get (pieces ++ piece ∷ []) n ≡ Some q → piece ≡ q
  new_piece n q last is = by (get_cases pieces piece n q is)
    where
      by : ((slice_get pieces n ≡ Some q) ⊎ ((n ≡ length pieces) × (piece ≡ q))) → piece ≡ q
      by (inl old) = let l = slice_get_within pieces n q old in let e = stand.long in absurd (omega (arith, last, l, e))
      by (inr (end, same)) = same

  all_suit : (n : ℕ) (node : Node) (q : Piece) → slice_get t.nodes n ≡ Some node → slice_get (pieces ++ piece ∷ []) n ≡ Some q → IsPiece t q node.fill
  all_suit n node q is at = by (node_at n node is)
    where
      by : ((slice_get s.nodes n ≡ Some node) ⊎ ((n ≡ length s.nodes) × (x ≡ node))) → IsPiece t q node.fill
      by (inl old) = piece_more s t stay q node.fill (stand.suits n node q old (old_piece n q (slice_get_within s.nodes n node old) at))
      by (inr (last, same)) = subst (λ (y : Node). IsPiece t q y.fill) same (subst (λ p. IsPiece t p x.fill) (new_piece n q last at) suits)

  all_under : (n index child : ℕ) (node : Node) (q below : Piece) → slice_get t.nodes n ≡ Some node → slice_get (pieces ++ piece ∷ []) n ≡ Some q → IsBranch t.nodes n index child
      → slice_get (pieces ++ piece ∷ []) child ≡ Some below → Under m q node.fill index below
  all_under n index child node q below is at branch has = by (pushed s.nodes x n index child (subst (λ ns. IsBranch ns n index child) nodes branch))
    where
      by : PushedChild s.nodes x n index child → Under m q node.fill index below
      by (Old old) =
          let kid = child_node s.nodes n index child old in
          let low = slice_get_within s.nodes child kid.0 kid.1 in
          let before = stand.earlier child n kid.0 kid.1 kid.2 in
          let l : n < length s.nodes = omega (arith, low, before) in
          stand.under n index child node q below (old_node n node l is) (old_piece n q l at) old (old_piece child below low has)
      by (New own last end) =
          let a = as_asked n own in
          let l = slice_get_within s.nodes n a.0 a.2 in
          let same : a.0 ≡ node = same_Some a.0 node (sym a.2 ∙ old_node n node l is) in
          let over : a.1 ≡ q = same_Some a.1 q (sym a.3 ∙ old_piece n q l at) in
          let it : piece ≡ below = new_piece child below end has in
          subst (λ b. Under m q node.fill index b) it
          (subst (λ i. Under m q node.fill i piece) (sym last)
          (subst (λ (y : Node). Under m q y.fill (length (children_of s.nodes n)) piece) same
          (subst (λ p. Under m p a.0.fill (length (children_of s.nodes n)) piece) over a.4)))

  all_earlier : (n p : ℕ) (node : Node) → slice_get t.nodes n ≡ Some node → node.parent ≡ Some p → p < n
  all_earlier n p node is own = by (node_at n node is)
    where
      by : ((slice_get s.nodes n ≡ Some node) ⊎ ((n ≡ length s.nodes) × (x ≡ node))) → p < n
      by (inl old) = stand.earlier n p node old own
      by (inr (last, same)) =
          let a = as_asked p (ap (λ (y : Node). y.parent) same ∙ own) in
          let l = slice_get_within s.nodes p a.0 a.2 in
          omega (arith, last, l)

  pub one_more : StandFor m root t (pieces ++ piece ∷ [])
  one_more = record { long = long; first = first; suits = all_suit; under = all_under; earlier = all_earlier }

-- ---- what a reading comes to

-- nodes and pieces stay; the parent has one child more, and no other node that was there has
pub record Grown (s t : Scenario) (parent : Option ℕ) (pieces more : List Piece) : Type 0 where
  pub nodes : (k : ℕ) (x : Node) → slice_get s.nodes k ≡ Some x → slice_get t.nodes k ≡ Some x
  pub pieces_stay : (k : ℕ) (x : Piece) → slice_get pieces k ≡ Some x → slice_get more k ≡ Some x
  pub longer : length s.nodes ≤ length t.nodes
  pub own : (p : ℕ) → parent ≡ Some p → length (children_of t.nodes p) ≡ suc (length (children_of s.nodes p))
  pub others : (q : ℕ) → q < length s.nodes → (parent ≡ Some q → ⊥) → length (children_of t.nodes q) ≡ length (children_of s.nodes q)

-- nodes and pieces stay, and no node has further children but that one
pub record Widened (s t : Scenario) (n : ℕ) (pieces more : List Piece) : Type 0 where
  pub nodes : (k : ℕ) (x : Node) → slice_get s.nodes k ≡ Some x → slice_get t.nodes k ≡ Some x
  pub pieces_stay : (k : ℕ) (x : Piece) → slice_get pieces k ≡ Some x → slice_get more k ≡ Some x
  pub longer : length s.nodes ≤ length t.nodes
  pub others : (q : ℕ) → q < length s.nodes → (q ≡ n → ⊥) → length (children_of t.nodes q) ≡ length (children_of s.nodes q)

abbrev pub SomeStand : ModelTree → ℕ → Scenario → Type 0
SomeStand m root t = (pieces : List Piece) × StandFor m root t pieces

abbrev pub Result : ModelTree → ℕ → Scenario → Option ℕ → List Piece → Reading → Type 0
Result m root s parent pieces (Wants t n) = SomeStand m root t
Result m root s parent pieces Stops = Unit {0}
Result m root s parent pieces (Reads t place left) = (more : List Piece) × StandFor m root t more × Grown s t parent pieces more

abbrev Rest : ModelTree → ℕ → Scenario → ℕ → List Piece → Reading → Type 0
Rest m root s n pieces (Wants t k) = SomeStand m root t
Rest m root s n pieces Stops = Unit {0}
Rest m root s n pieces (Reads t place left) = (more : List Piece) × StandFor m root t more × Widened s t n pieces more

place_comes : (P : Reading → Type 0) (start n : ℕ) (next : ℕ → Reader) (s : Scenario) (place : ℕ) (left : List ℕ) → P (Wants s n) → P Stops → ((k q : ℕ) (rest : List ℕ) → P (next k s q rest)) → P (read_place start n next s place left)
place_comes P start n next s place [] wants stops each = by (nat_lt 0 n)
  where
    by : (b : Bool) → P (if b then Wants s n else Stops)
    by true = wants
    by false = stops
place_comes P start n next s place (d ∷ left) wants stops each = by (nat_lt d n)
  where
    by : (b : Bool) → P (if b then next (option_at start n d) s (place + 1) left else Stops)
    by true = each (option_at start n d) (place + 1) left
    by false = stops

-- ---- a new node of a look

abbrev new_fill : Scenario → Look → Fill
new_fill s (Inner f) = f
new_fill s (Leaf action instance) = fill.Leaf (length s.actions)

abbrev new_node : Scenario → Option ℕ → Look → Node
new_node s parent look = record { parent = parent; fill = new_fill s look }

look_nodes : (m : ModelTree) (s : Scenario) (parent : Option ℕ) (look : Look) → (with_look m s parent look).nodes ≡ s.nodes ++ new_node s parent look ∷ []
look_nodes m s parent (Inner f) = refl
look_nodes m s parent (Leaf action instance) = refl

look_types : (m : ModelTree) (s : Scenario) (parent : Option ℕ) (look : Look) → TypesStay s.actions (with_look m s parent look).actions
look_types m s parent (Inner f) k x is = (x, is, refl)
look_types m s parent (Leaf action instance) k x is = (x, get_more s.actions (open_act m action instance (Some (length s.nodes)) ∷ []) k x is, refl)

look_suits : (m : ModelTree) (piece : Piece) (s : Scenario) (parent : Option ℕ) (look : Look) (below : List Piece) → Fine m piece look below → IsPiece (with_look m s parent look) piece (new_fill s look)
look_suits m piece s parent (Inner f) below fine = fine.0 (with_look m s parent (Inner f))
look_suits m piece s parent (Leaf action instance) below fine =
    fine.0 (with_look m s parent (Leaf action instance)) (length s.actions) (open_act m action instance (Some (length s.nodes))) (get_last s.actions (open_act m action instance (Some (length s.nodes)))) refl

look_under : (m : ModelTree) (piece : Piece) (s : Scenario) (look : Look) (below : List Piece) → Fine m piece look below → (i : ℕ) (x : Piece) → slice_get below i ≡ Some x → Under m piece (new_fill s look) i x
look_under m piece s (Inner f) below fine i x is = fine.1 i x is
look_under m piece s (Leaf action instance) below fine i x is = absurd (none-some x (ap (λ xs. slice_get xs i) (sym fine.1) ∙ is))

-- ---- reading

module _ (m : ModelTree) (root seed : ℕ) where
  abbrev One : (Piece → Option ℕ → Reader) → Type 0
  One one = (x : Piece) (parent : Option ℕ) (s : Scenario) (place : ℕ) (left : List ℕ) (pieces : List Piece) → StandFor m root s pieces → Asked m root s pieces parent x → Result m root s parent pieces (one x parent s place left)

  rest_on : (s t : Scenario) (n : ℕ) (pieces more : List Piece) → Grown s t (Some n) pieces more → (r : Reading) → Rest m root t n more r → Rest m root s n pieces r
  rest_on s t n pieces more grown (Wants u k) rest = rest
  rest_on s t n pieces more grown Stops rest = rest
  rest_on s t n pieces more grown (Reads u place left) (last, stand, wide) = (
    last,
    stand,
    record {
      nodes = λ k x is. wide.nodes k x (grown.nodes k x is);
      pieces_stay = λ k x is. wide.pieces_stay k x (grown.pieces_stay k x is);
      longer = let a = grown.longer in let b = wide.longer in omega (arith, a, b);
      others = λ q l other. let a = grown.longer in wide.others q (omega (arith, a, l)) other ∙ grown.others q l (λ e. other (sym (same_Some n q e)));
    },
  )

  module _ (one : Piece → Option ℕ → Reader) (each : One one) where
    rest : (xs : List Piece) (n count : ℕ) (s : Scenario) (place : ℕ) (left : List ℕ) (pieces : List Piece) (node : Node) (piece : Piece) → StandFor m root s pieces → slice_get s.nodes n ≡ Some node → slice_get pieces n ≡ Some piece
        → length (children_of s.nodes n) ≡ count → ((i : ℕ) (x : Piece) → slice_get xs i ≡ Some x → Under m piece node.fill (count + i) x) → Rest m root s n pieces (read_pieces one xs n s place left)
    rest [] n count s place left pieces node piece stand at has long under =
        (pieces, stand, record { nodes = λ k x is. is; pieces_stay = λ k x is. is; longer = omega arith; others = λ q l other. refl })
    rest (x ∷ xs) n count s place left pieces node piece stand at has long under =
        let e : count + 0 ≡ length (children_of s.nodes n) = omega (arith, long) in
        by (one x (Some n) s place left) (each x (Some n) s place left pieces stand (node, piece, at, has, subst (λ i. Under m piece node.fill i x) e (under 0 x refl)))
        (λ t p more grown stands next.
        let many : length (children_of t.nodes n) ≡ suc count = grown.own n refl ∙ ap suc long in
        rest_on s t n pieces more grown (read_pieces one xs n t p next)
        (rest xs n (suc count) t p next more node piece stands (grown.nodes n node at) (grown.pieces_stay n piece has) many
        (λ i y is. let e : count + suc i ≡ suc count + i = omega arith in subst (λ j. Under m piece node.fill j y) e (under (suc i) y is))))
      where
        by : (r : Reading) → Result m root s (Some n) pieces r
            → ((t : Scenario) (p : ℕ) (more : List Piece) → Grown s t (Some n) pieces more → StandFor m root t more → (next : List ℕ) → Rest m root s n pieces (read_pieces one xs n t p next))
            → Rest m root s n pieces (then_read r (read_pieces one xs n))
        by (Wants t k) result go = result
        by Stops result go = tt
        by (Reads t p next) (more, stands, grown) go = go t p more grown stands next

    module _ (piece : Piece) (parent : Option ℕ) (s : Scenario) (pieces : List Piece) (stand : StandFor m root s pieces) (asked : Asked m root s pieces parent piece) where
      parent_there : (p : ℕ) → parent ≡ Some p → p < length s.nodes
      parent_there p e = let a = subst (λ o. Asked m root s pieces o piece) e asked in slice_get_within s.nodes p a.0 a.2

      module _ (look : Look) (below : List Piece) (fine : Fine m piece look below) where
        stands_new : StandFor m root (with_look m s parent look) (pieces ++ piece ∷ [])
        stands_new =
            one_more m root s (with_look m s parent look) pieces stand parent piece asked (new_node s parent look) refl (look_nodes m s parent look) (look_types m s parent look) (look_suits m piece s parent look below fine)

        -- from the new node's pieces to the whole
        grown_by : (r : Reading) → Rest m root (with_look m s parent look) (length s.nodes) (pieces ++ piece ∷ []) r → Result m root s parent pieces r
        grown_by (Wants t k) is = is
        grown_by Stops is = is
        grown_by (Reads t place left) (more, stands, wide) =
            let x = new_node s parent look in
            let e = look_nodes m s parent look in
            let one_longer : length (with_look m s parent look).nodes ≡ length s.nodes + 1 = ap length e ∙ length-append s.nodes (x ∷ []) in (
              more,
              stands,
              record {
                nodes = λ k y is. wide.nodes k y (ap (λ ns. slice_get ns k) e ∙ get_more s.nodes (x ∷ []) k y is);
                pieces_stay = λ k y is. wide.pieces_stay k y (get_more pieces (piece ∷ []) k y is);
                longer = let l = wide.longer in omega (arith, l, one_longer);
                own = λ p is.
                    let l = parent_there p is in
                    wide.others p (omega (arith, l, one_longer)) (λ same. omega (arith, l, same))
                    ∙ ap (λ ns. length (children_of ns p)) e ∙ push_in s.nodes x p is;
                others = λ q l other.
                    wide.others q (omega (arith, l, one_longer)) (λ same. omega (arith, l, same))
                    ∙ ap (λ ns. length (children_of ns q)) e ∙ ap length (push_out s.nodes x q other);
              },
            )

        pieces_read : (place : ℕ) (left : List ℕ) → Result m root s parent pieces (read_pieces one below (length s.nodes) (with_look m s parent look) place left)
        pieces_read place left =
            let x = new_node s parent look in
            let n = length s.nodes in
            let e = look_nodes m s parent look in
            let none : length (children_of (with_look m s parent look).nodes n) ≡ 0 =
            no_children (with_look m s parent look) stands_new n (let l : length (with_look m s parent look).nodes ≡ n + 1 = ap length e ∙ length-append s.nodes (x ∷ []) in omega (arith, l)) in
            let same : n ≡ length pieces = sym stand.long in
            grown_by (read_pieces one below n (with_look m s parent look) place left)
            (rest below n 0 (with_look m s parent look) place left (pieces ++ piece ∷ []) x piece stands_new (ap (λ ns. slice_get ns n) e ∙ get_last s.nodes x)
            (subst (λ k. slice_get (pieces ++ piece ∷ []) k ≡ Some piece) (sym same) (get_last pieces piece)) none
            (λ i y is. let first : i ≡ 0 + i = omega arith in subst (λ j. Under m piece (new_fill s look) j y) first (look_under m piece s look below fine i y is)))
          where
            -- nothing stands in the last node
            no_children : (t : Scenario) → StandFor m root t (pieces ++ piece ∷ []) → (n : ℕ) → length t.nodes ≤ n + 1 → length (children_of t.nodes n) ≡ 0
            no_children t stands n most = by (children_of t.nodes n) refl
              where
                by : (ks : List ℕ) → children_of t.nodes n ≡ ks → length ks ≡ 0
                by [] is = refl
                by (k ∷ ks) is =
                    let kid = child_node t.nodes n 0 k (ap (λ xs. slice_get xs 0) is) in
                    let l = slice_get_within t.nodes k kid.0 kid.1 in
                    let before = stands.earlier k n kid.0 kid.1 kid.2 in
                    absurd (omega (arith, l, before, most))

      module _ (look : Look) (below : List ℤ → List Piece) (fine : (known : List ℤ) → Fine m piece (look_with look known) (below known)) where
        fields_read : (fields : List Field) (known : List ℤ) (place : ℕ) (left : List ℕ)
            → Result m root s parent pieces (read_fields seed (length s.nodes) fields known (λ values. read_pieces one (below values) (length s.nodes)) (with_look m s parent (look_with look known)) place left)
        fields_read [] known place left = pieces_read (look_with look known) (below known) (fine known) place left
        fields_read (field ∷ fields) known place left =
            let n = length s.nodes in
            let go : List ℤ → Reader = λ values. read_pieces one (below values) n in
            let t = with_look m s parent (look_with look known) in
            place_comes (Result m root s parent pieces) (start_of seed place (size_of field.domain)) (size_of field.domain)
            (λ k read. read_fields seed n fields (known ++ value_number field k ∷ []) go (put_value read n (value_number field k))) t place left
            (pieces ++ piece ∷ [], stands_new (look_with look known) (below known) (fine known)) tt
            (λ k q more. subst (λ u. Result m root s parent pieces (read_fields seed n fields (known ++ value_number field k ∷ []) go u q more)) (sym (put_look m s parent look known (value_number field k)))
            (fields_read fields (known ++ value_number field k ∷ []) q more))

        way_read : (fields : List Field) (place : ℕ) (left : List ℕ) → Result m root s parent pieces (read_way m seed one parent look fields below s place left)
        way_read fields place left = by (is_within (with_look m s parent look))
          where
            all : Result m root s parent pieces (read_fields seed (length s.nodes) fields [] (λ values. read_pieces one (below values) (length s.nodes)) (with_look m s parent look) place left)
            all =
                subst (λ l. Result m root s parent pieces (read_fields seed (length s.nodes) fields [] (λ values. read_pieces one (below values) (length s.nodes)) (with_look m s parent l) place left)) (look_none look)
                (fields_read fields [] place left)

            by : (b : Bool) → Result m root s parent pieces (if b then read_fields seed (length s.nodes) fields [] (λ values. read_pieces one (below values) (length s.nodes)) (with_look m s parent look) place left else Stops)
            by true = all
            by false = tt

      menu_read : (x : Menu) → Ways m piece x → (place : ℕ) (left : List ℕ) → Result m root s parent pieces (read_menu seed x (read_way m seed one parent) s place left)
      menu_read (Way look fields below) fine place left = way_read look below fine fields place left
      menu_read (Place n after) fine place left =
          place_comes (Result m root s parent pieces) (start_of seed place n) n (λ k. read_menu seed (after k) (read_way m seed one parent)) s place left (pieces, stand) tt (λ k q more. menu_read (after k) (fine k) q more)
      menu_read (Weighted weights after) fine place left =
          place_comes (Result m root s parent pieces) (weighted_start_of seed place weights) (length weights) (λ k. read_menu seed (after k) (read_way m seed one parent)) s place left (pieces, stand) tt
          (λ k q more. menu_read (after k) (fine k) q more)
      menu_read Closed fine place left = tt

  no_levels : (x : Menu) (parent : Option ℕ) (s : Scenario) (pieces : List Piece) → StandFor m root s pieces → (place : ℕ) (left : List ℕ) → Result m root s parent pieces (read_menu seed x (λ look fields below s place left. Stops) s place left)
  no_levels (Way look fields below) parent s pieces stand place left = tt
  no_levels (Place n after) parent s pieces stand place left =
      place_comes (Result m root s parent pieces) (start_of seed place n) n (λ k. read_menu seed (after k) (λ look fields below s place left. Stops)) s place left (pieces, stand) tt (λ k q more. no_levels (after k) parent s pieces stand q more)
  no_levels (Weighted weights after) parent s pieces stand place left =
      place_comes (Result m root s parent pieces) (weighted_start_of seed place weights) (length weights) (λ k. read_menu seed (after k) (λ look fields below s place left. Stops)) s place left (pieces, stand) tt
      (λ k q more. no_levels (after k) parent s pieces stand q more)
  no_levels Closed parent s pieces stand place left = tt

  piece_read : (levels : ℕ) → One (read_piece m seed levels)
  piece_read zero x parent s place left pieces stand asked = no_levels (menu m x) parent s pieces stand place left
  piece_read (suc levels) x parent s place left pieces stand asked = menu_read (read_piece m seed levels) (piece_read levels) x parent s pieces stand asked (menu m x) (menu_fine m x) place left

  nothing_stands : (level : ℕ) → StandFor m root (nothing_yet level) []
  nothing_stands level = record {
    long = refl;
    first = λ piece is. absurd (none-some piece is);
    suits = λ n node piece is at. absurd (none-some piece at);
    under = λ n index child node piece below is at branch has. absurd (none-some piece at);
    earlier = λ n parent node is own. absurd (none-some node is);
  }

  pub tree_read : (level place : ℕ) (left : List ℕ) → Result m root (nothing_yet level) None [] (read_tree m seed root (nothing_yet level) place left)
  tree_read level place left = piece_read most_levels (Action root None) None (nothing_yet level) place left [] (nothing_stands level) (refl, (None, refl))
