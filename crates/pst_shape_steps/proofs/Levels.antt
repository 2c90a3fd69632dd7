-- What stands below a node, with its levels; a digit at a place.
use Rattle.std.proofs.Common.{◌≡◌, ℕ, zero, suc, ◌+◌, ◌-◌, ◌<◌, ℤ, List, [], ◌∷◌, ◌++◌, length, map, Bool, true, false, Option, Some, None, refl, sym, ap, ◌∙◌, subst, arith, drop}
use Rattle.std.specs.Prelude.{MatchBool, ◌&&◌, nat_le, nat_lt, if◌then◌else◌, slice_get}
use Rattle.std.proofs.lemmas.Bool.{le-leb, lt-ltb, le-ltb}
use Rattle.std.proofs.lemmas.List.{length-map, map-append}
use Rattle.pst_rng.specs.Words.{start_of}
use Rattle.pst_rng.specs.Weights.{weighted_start_of}
use Rattle.pst_expr.specs.Spans.{size_of}
use Rattle.pst_model.specs.declared.action.Field.{Field}
use Rattle.pst_model.specs.ModelTree.{ModelTree, ActionTree, Compound}
use Rattle.pst_model.specs.ModelView.{view_step}
use Rattle.pst_scen.specs.declared.act.Act.{Act}
use Rattle.pst_scen.specs.declared.tree.Fill.{Fill}
use Rattle.pst_scen.specs.declared.tree.Fill.TheVariants as fill
use Rattle.pst_scen.specs.declared.scenario.Scenario.{Scenario}
use Rattle.pst_legal.specs.Growing.{Look, Inner, Leaf, with_look, is_within, nothing_yet, most_nodes, most_acts, open_act}
use Rattle.pst_model.specs.ActivityTree.{StepTree, ActivityTree}
use Rattle.pst_legal.specs.Types.{type_of}
use Rattle.pst_legal.specs.Pieces.{Context, Piece, Action, Turning, turns, statements}
use Rattle.pst_legal.specs.Menus.{Menu, Way, Place, Weighted, Closed, menu, action_menu, content_menu}
use Rattle.pst_legal.specs.Reading.{Reading, Wants, Stops, Reads, Reader, then_read, read_place, option_at, read_menu, read_fields, read_pieces, read_piece, put_value, value_number, read_tree}
use Rattle.pst_shape_parts.specs.Trees.{Tree, scenario_of, opened, grown_by, is_small, IsGrown, values_at}
use Rattle.pst_shape_steps.specs.declared.pending.Stack.{Stack, Empty}
use Rattle.pst_shape_steps.specs.declared.pending.Fields.{Fields}
use Rattle.pst_shape_steps.specs.declared.pending.At.{At}
use Rattle.pst_shape_steps.specs.Pending.{Goes, GoesOn, GoesOnFields, IsCompound, below_fields, read_stack, read_on, way_at, options_of, start_in, menu_after, first_size, first_value}

pub then_assoc : (r : Reading) (f g : Reader) → then_read (then_read r f) g ≡ then_read r (λ t p l. then_read (f t p l) g)
then_assoc (Wants t n) f g = refl
then_assoc Stops f g = refl
then_assoc (Reads t p l) f g = refl

-- a piece is its menu, and then the way
pub piece_is : (m : ModelTree) (seed levels : ℕ) (x : Piece) (parent : Option ℕ) (s : Scenario) (p : ℕ) (l : List ℕ) → read_piece m seed levels x parent s p l ≡ read_menu seed (menu m x) (way_at m seed levels parent) s p l
piece_is m seed zero x parent s p l = refl
piece_is m seed (suc levels) x parent s p l = refl

-- the first of some pieces, and then the others
pub next_piece : (m : ModelTree) (seed levels parent : ℕ) (x : Piece) (xs : List Piece) (after : Reader) (s : Scenario) (p : ℕ) (l : List ℕ) → then_read (read_pieces (read_piece m seed levels) (x ∷ xs) parent s p l) after ≡ then_read (read_menu seed (menu m x) (way_at m seed levels (Some parent)) s p l) (λ t q k. then_read (read_pieces (read_piece m seed levels) xs parent t q k) after)
next_piece m seed levels parent x xs after s p l =
    then_assoc (read_piece m seed levels x (Some parent) s p l) (read_pieces (read_piece m seed levels) xs parent) after
    ∙ ap (λ r. then_read r (λ t q k. then_read (read_pieces (read_piece m seed levels) xs parent t q k) after)) (piece_is m seed levels x (Some parent) s p l)

-- ---- a node more

pub look_is : (m : ModelTree) (level : ℕ) (t : Tree) (parent : Option ℕ) (look : Look) → with_look m (scenario_of m level t) parent look ≡ scenario_of m level (grown_by t parent look)
look_is m level t parent (Inner fill) = refl
look_is m level t parent (Leaf action instance) =
    let n : length (map (opened m) t.leaves) ≡ length t.leaves = length-map t.leaves (opened m) in
    let x : Act = record { action = action; instance = instance; node = Some (length t.nodes); fields = []; references = []; claims = [] } in
    let e : map (opened m) t.leaves ++ open_act m action instance (Some (length t.nodes)) ∷ [] ≡ map (opened m) (t.leaves ++ x ∷ []) = sym (map-append (opened m) t.leaves (x ∷ [])) in
    λ i. record { level = level; nodes = t.nodes ++ record { parent = parent; fill = leaf (n i) } ∷ []; actions = e i; firsts = [] }
  where
    leaf : ℕ → Fill
    leaf k = fill.Leaf k

pub small_is : (m : ModelTree) (level : ℕ) (t : Tree) → is_within (scenario_of m level t) ≡ is_small t
small_is m level t = ap (λ n. nat_le (length t.nodes) most_nodes && nat_le n most_acts) (length-map t.leaves (opened m))

pub grown_small : (t : Tree) → IsGrown t → is_small t ≡ true
grown_small t h = ap (λ b. b && nat_le (length t.leaves) most_acts) (le-leb (length t.nodes) 65536 h.few_nodes) ∙ le-leb (length t.leaves) 16384 h.few_acts

-- without a level
pub no_level : (m : ModelTree) (seed levels : ℕ) (parent : Option ℕ) (look : Look) (fields : List Field) (below : List ℤ → List Piece) (s : Scenario) (p : ℕ) (l : List ℕ) (after : Reader) → levels ≡ 0 → then_read (way_at m seed levels parent look fields below s p l) after ≡ Stops
no_level m seed zero parent look fields below s p l after h = refl
no_level m seed (suc n) parent look fields below s p l after h = absurd (omega arith)

-- too large
pub too_large : (m : ModelTree) (seed levels level : ℕ) (parent : Option ℕ) (look : Look) (fields : List Field) (below : List ℤ → List Piece) (t : Tree) (p : ℕ) (l : List ℕ) (after : Reader) → is_small (grown_by t parent look) ≡ false → then_read (way_at m seed levels parent look fields below (scenario_of m level t) p l) after ≡ Stops
too_large m seed zero level parent look fields below t p l after h = refl
too_large m seed (suc n) level parent look fields below t p l after h =
    let s = with_look m (scenario_of m level t) parent look in
    let e : is_within s ≡ false = ap is_within (look_is m level t parent look) ∙ small_is m level (grown_by t parent look) ∙ h in
    ap (λ b. then_read (if b then read_fields seed (length t.nodes) fields [] (λ values. read_pieces (read_piece m seed n) (below values) (length t.nodes)) s p l else Stops) after) e

-- the node stands
pub stood : (m : ModelTree) (seed levels level : ℕ) (parent : Option ℕ) (look : Look) (fields : List Field) (below : List ℤ → List Piece) (t u : Tree) (p : ℕ) (l : List ℕ) (after : Reader) → 0 < levels → u ≡ grown_by t parent look → IsGrown u → then_read (way_at m seed levels parent look fields below (scenario_of m level t) p l) after ≡ then_read (read_fields seed (length t.nodes) fields [] (λ values. read_pieces (read_piece m seed (levels - 1)) (below values) (length t.nodes)) (scenario_of m level u) p l) after
stood m seed zero level parent look fields below t u p l after h eu g = absurd (omega arith)
stood m seed (suc n) level parent look fields below t u p l after h eu g =
    let s = with_look m (scenario_of m level t) parent look in
    let es : s ≡ scenario_of m level u = look_is m level t parent look ∙ ap (scenario_of m level) (sym eu) in
    let e : is_within s ≡ true = ap is_within es ∙ small_is m level u ∙ grown_small u g in
    let en : n ≡ suc n - 1 = omega arith in
    ap (λ b. then_read (if b then read_fields seed (length t.nodes) fields [] (λ values. read_pieces (read_piece m seed n) (below values) (length t.nodes)) s p l else Stops) after) e
    ∙ ap (λ x. then_read (read_fields seed (length t.nodes) fields [] (λ values. read_pieces (read_piece m seed n) (below values) (length t.nodes)) x p l) after) es
    ∙ ap (λ k. then_read (read_fields seed (length t.nodes) fields [] (λ values. read_pieces (read_piece m seed k) (below values) (length t.nodes)) (scenario_of m level u) p l) after) en

-- ---- a digit at a place

pub digit_read : (seed : ℕ) (x : Menu) (go : Look → List Field → (List ℤ → List Piece) → Reader) (s : Scenario) (p d k : ℕ) (l : List ℕ) → d < options_of x → k ≡ option_at (start_in seed p x) (options_of x) d → read_menu seed x go s p (d ∷ l) ≡ read_menu seed (menu_after x k) go s (p + 1) l
digit_read seed (Way look fields below) go s p d k l h e = absurd (omega arith)
digit_read seed (Place n after) go s p d k l h e =
    ap (λ b. if b then read_menu seed (after (option_at (start_of seed p n) n d)) go s (p + 1) l else Stops) (lt-ltb d n h)
    ∙ ap (λ o. read_menu seed (after o) go s (p + 1) l) (sym e)
digit_read seed (Weighted weights after) go s p d k l h e =
    ap (λ b. if b then read_menu seed (after (option_at (weighted_start_of seed p weights) (length weights) d)) go s (p + 1) l else Stops) (lt-ltb d (length weights) h)
    ∙ ap (λ o. read_menu seed (after o) go s (p + 1) l) (sym e)
digit_read seed Closed go s p d k l h e = absurd (omega arith)

-- ---- places without an option

no_place : (start n : ℕ) (go : ℕ → Reader) (s : Scenario) (p : ℕ) (l : List ℕ) → n ≡ 0 → read_place start n go s p l ≡ Stops
no_place start n go s p [] h = ap (λ k. if nat_lt 0 k then Wants s k else Stops) h
no_place start n go s p (d ∷ l) h = ap (λ b. if b then go (option_at start n d) s (p + 1) l else Stops) (le-ltb d n (omega arith))

pub no_option : (seed n : ℕ) (after : ℕ → Menu) (go : Look → List Field → (List ℤ → List Piece) → Reader) (s : Scenario) (p : ℕ) (l : List ℕ) (rest : Reader) → n ≡ 0 → then_read (read_menu seed (Place n after) go s p l) rest ≡ Stops
no_option seed n after go s p l rest h = ap (λ r. then_read r rest) (no_place (start_of seed p n) n (λ k. read_menu seed (after k) go) s p l h)

pub no_weight : (seed : ℕ) (weights : List ℕ) (after : ℕ → Menu) (go : Look → List Field → (List ℤ → List Piece) → Reader) (s : Scenario) (p : ℕ) (l : List ℕ) (rest : Reader) → length weights ≡ 0 → then_read (read_menu seed (Weighted weights after) go s p l) rest ≡ Stops
no_weight seed weights after go s p l rest h = ap (λ r. then_read r rest) (no_place (weighted_start_of seed p weights) (length weights) (λ k. read_menu seed (after k) go) s p l h)

pub no_value : (seed n : ℕ) (fields : List Field) (known : List ℤ) (go : List ℤ → Reader) (s : Scenario) (p : ℕ) (l : List ℕ) (rest : Reader) → 0 < length fields → first_size fields ≡ 0 → then_read (read_fields seed n fields known go s p l) rest ≡ Stops
no_value seed n [] known go s p l rest i h = absurd (omega arith)
no_value seed n (f ∷ fields) known go s p l rest i h =
    ap (λ r. then_read r rest) (no_place (start_of seed p (size_of f.domain)) (size_of f.domain) (λ k read. read_fields seed n fields (known ++ value_number f k ∷ []) go (put_value read n (value_number f k))) s p l h)

-- a digit at a field
pub value_read : (seed n : ℕ) (fields : List Field) (known : List ℤ) (go : List ℤ → Reader) (s : Scenario) (p d k : ℕ) (l : List ℕ) → d < first_size fields → k ≡ option_at (start_of seed p (first_size fields)) (first_size fields) d → read_fields seed n fields known go s p (d ∷ l) ≡ read_fields seed n (drop 1 fields) (known ++ first_value fields k ∷ []) go (put_value s n (first_value fields k)) (p + 1) l
value_read seed n [] known go s p d k l h e = absurd (omega arith)
value_read seed n (f ∷ fields) known go s p d k l h e =
    ap (λ b. if b then read_fields seed n fields (known ++ value_number f (option_at (start_of seed p (size_of f.domain)) (size_of f.domain) d) ∷ []) go (put_value s n (value_number f (option_at (start_of seed p (size_of f.domain)) (size_of f.domain) d))) (p + 1) l else Stops) (lt-ltb d (size_of f.domain) h)
    ∙ ap (λ o. read_fields seed n fields (known ++ value_number f o ∷ []) go (put_value s n (value_number f o)) (p + 1) l) (sym e)

-- nothing is below
pub then_reads : (r : Reading) (after : Reader) → ((s : Scenario) (p : ℕ) (l : List ℕ) → after s p l ≡ Reads s p l) → then_read r after ≡ r
then_reads (Wants s n) after h = refl
then_reads Stops after h = refl
then_reads (Reads s p l) after h = h s p l

-- ---- menus that are the same

pub goes_menu : (m : ModelTree) (x y : Menu) (levels : ℕ) (parent : Option ℕ) (below : Stack) (old : Tree) (a : At) (new : Tree) → x ≡ y → Goes m y levels parent below old a new → Goes m x levels parent below old a new
goes_menu m x y levels parent below old a new e h = subst (λ z. Goes m z levels parent below old a new) (sym e) h

-- the first of some pieces is read, and then a stack that has the others
pub went_on : (m : ModelTree) (levels parent : ℕ) (x : Piece) (xs pieces : List Piece) (below stack : Stack) (old : Tree) (a : At) (new : Tree) → pieces ≡ x ∷ xs → ((seed : ℕ) → read_stack m seed stack ≡ (λ s p l. then_read (read_pieces (read_piece m seed levels) xs parent s p l) (read_stack m seed below))) → Goes m (menu m x) levels (Some parent) stack old a new → GoesOn m levels parent pieces below old a new
went_on m levels parent x xs pieces below stack old a new e f h seed level place left =
    ap (λ ys. then_read (read_pieces (read_piece m seed levels) ys parent (scenario_of m level old) place left) (read_stack m seed below)) e
    ∙ next_piece m seed levels parent x xs (read_stack m seed below) (scenario_of m level old) place left
    ∙ ap (λ g. then_read (read_menu seed (menu m x) (way_at m seed levels (Some parent)) (scenario_of m level old) place left) g) (sym (f seed))
    ∙ h seed level place left

-- the whole activity
pub first_read : (m : ModelTree) (root : ℕ) (stack : Stack) (a : At) → stack ≡ Empty → Goes m (action_menu m root None (type_of m root)) 64 None stack (record { nodes = []; leaves = [] }) a (record { nodes = []; leaves = [] }) → (seed level : ℕ) (left : List ℕ) → read_tree m seed root (nothing_yet level) 0 left ≡ read_on m seed a (nothing_yet level) 0 left
first_read m root stack a e h seed level left =
    piece_is m seed 64 (Action root None) None (nothing_yet level) 0 left
    ∙ sym (then_reads (read_menu seed (action_menu m root None (type_of m root)) (way_at m seed 64 None) (nothing_yet level) 0 left) (read_stack m seed Empty) (λ s p l. refl))
    ∙ ap (λ x. then_read (read_menu seed (action_menu m root None (type_of m root)) (way_at m seed 64 None) (nothing_yet level) 0 left) (read_stack m seed x)) (sym e)
    ∙ h seed level 0 left

pub first_turn : (c : Context) (body : StepTree) (index count : ℕ) → 0 < count → turns c body index count ≡ Turning c index body ∷ turns c body (index + 1) (count - 1)
first_turn c body index zero h = absurd (omega arith)
first_turn c body index (suc n) h =
    let e : n ≡ suc n - 1 = omega arith in
    ap (λ k. Turning c index body ∷ turns c body (index + 1) k) e

-- ---- a compound action

got_last : {X : Type 0} (xs : List X) (x : X) → slice_get (xs ++ x ∷ []) (length xs) ≡ Some x
got_last [] x = refl
got_last (y ∷ xs) x = got_last xs x

pub added_true : (b : Bool) (X Y : Type 0) → MatchBool b X Y → b ≡ true → X
added_true true X Y h e = h
added_true false X Y h e = cc

pub compound_stands : (t u : Tree) (parent : Option ℕ) (action instance n : ℕ) → u ≡ grown_by t parent (Inner (fill.Compound action instance [])) → n ≡ length t.nodes → slice_get u.nodes n ≡ Some (record { parent = parent; fill = fill.Compound action instance [] })
compound_stands t u parent action instance n e en =
    ap (λ (x : Tree). slice_get x.nodes n) e ∙ ap (λ k. slice_get (t.nodes ++ record { parent = parent; fill = fill.Compound action instance [] } ∷ []) k) en ∙ got_last t.nodes _

pub compound_open : (t u : Tree) (parent : Option ℕ) (action instance n : ℕ) → u ≡ grown_by t parent (Inner (fill.Compound action instance [])) → n ≡ length t.nodes → IsCompound (slice_get u.nodes n)
compound_open t u parent action instance n e en = subst IsCompound (sym (compound_stands t u parent action instance n e en)) (action, instance, [], refl)

pub compound_read : (m : ModelTree) (levels : ℕ) (parent : Option ℕ) (type : ActionTree) (activity : ActivityTree) (action instance : ℕ) (t u : Tree) (f : Fields) (values : List ℤ) (below : Stack) (a : At) → 0 < levels → u ≡ grown_by t parent (Inner (fill.Compound action instance [])) → IsGrown u → f.node ≡ length t.nodes → f.fields.now ≡ type.fields → map view_step f.steps.now ≡ activity.steps → f.instance ≡ instance → values ≡ [] → ((s : Scenario) → values_at (slice_get s.nodes f.node) ≡ values → GoesOnFields m (levels - 1) f f.fields.now values below a s) → Goes m (content_menu type (Compound activity) action instance) levels parent below t a u
compound_read m levels parent type activity action instance t u f values below a h eu g en ef es ei ev reads seed level place left =
    let after = read_stack m seed below in
    let S = scenario_of m level u in
    let vat : values_at (slice_get u.nodes f.node) ≡ values = ap values_at (compound_stands t u parent action instance f.node eu en) ∙ sym ev in
    stood m seed levels level parent (Inner (fill.Compound action instance [])) type.fields (λ vs. statements (record { instance = instance; fields = vs; indices = [] }) activity.steps) t u place left after h eu g
    ∙ ap (λ n. then_read (read_fields seed n type.fields [] (λ vs. read_pieces (read_piece m seed (levels - 1)) (statements (record { instance = instance; fields = vs; indices = [] }) activity.steps) n) S place left) after) (sym en)
    ∙ ap (λ fs. then_read (read_fields seed f.node fs [] (λ vs. read_pieces (read_piece m seed (levels - 1)) (statements (record { instance = instance; fields = vs; indices = [] }) activity.steps) f.node) S place left) after) (sym ef)
    ∙ ap (λ st. then_read (read_fields seed f.node f.fields.now [] (λ vs. read_pieces (read_piece m seed (levels - 1)) (statements (record { instance = instance; fields = vs; indices = [] }) st) f.node) S place left) after) (sym es)
    ∙ ap (λ i. then_read (read_fields seed f.node f.fields.now [] (λ vs. read_pieces (read_piece m seed (levels - 1)) (statements (record { instance = i; fields = vs; indices = [] }) (map view_step f.steps.now)) f.node) S place left) after) (sym ei)
    ∙ ap (λ ws. then_read (read_fields seed f.node f.fields.now ws (λ vs. read_pieces (read_piece m seed (levels - 1)) (below_fields f vs) f.node) S place left) after) (sym ev)
    ∙ reads S vat seed place left
