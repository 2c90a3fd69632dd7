-- What is read fills the activity.
use Rattle.std.proofs.Common.{◌≡◌, ℕ, zero, suc, ◌+◌, ℤ, pos, negsuc, List, [], ◌∷◌, ◌++◌, length, Bool, true, false, nat_lt, nat_le, if◌then◌else◌, Option, Some, None, refl, sym, ◌∙◌, subst, arith}
use Rattle.std.specs.Prelude.{slice_get}
use Rattle.std.specs.List.{enumerate_from, find, AllZip}
use Rattle.std.proofs.lemmas.List.{take_all}
use Rattle.pst_rng.specs.Words.{start_of}
use Rattle.pst_rng.specs.Weights.{weighted_start_of}
use Rattle.pst_expr.specs.Laws.{DomainsListValues}
use Rattle.pst_expr.specs.Value.{is_false}
use Rattle.pst_model.specs.declared.action.Field.{Field}
use Rattle.pst_model.specs.declared.activity.Join.{Join}
use Rattle.pst_model.specs.declared.activity.Join.TheVariants.{Fixed, Choose}
use Rattle.pst_model.specs.ActivityTree.{StepTree, Traverse, Sequence, Parallel, Schedule, Joined, Select, Repeat, If, Match, BranchTree, ArmTree, steps_of, branches_of, arms_of, step_of}
use Rattle.pst_model.specs.ModelTree.{ModelTree, ActionTree, ContentTree, Atomic, Compound}
use Rattle.pst_model.specs.Sound.{IsSound, IsSoundAction, IsSoundField}
use Rattle.pst_scen.specs.declared.tree.Fill.TheVariants as fill
use Rattle.pst_scen.specs.declared.act.Act.{Act}
use Rattle.pst_scen.specs.declared.scenario.Scenario.{Scenario}
use Rattle.pst_legal.specs.Types.{type_of, action_instances}
use Rattle.pst_legal.specs.Growing.{nothing_yet, with_look, most_levels}
use Rattle.pst_legal.specs.Pieces.{Context, Piece, Action, Statement, Turning, statements, value_in, mask}
use Rattle.pst_legal.specs.Menus.{Menu, Way, Place, Weighted, Closed, plain, content_menu, instance_menu, action_menu, join_menu, block_menu, available, branch_menu, repeat_menu, if_menu, is_in_arm, arm_menu, match_menu, statement_menu, menu}
use Rattle.pst_legal.specs.Reading.{Reading, Wants, Stops, Reads, Reader, then_read, read_pieces, read_menu, read_piece, read_tree}
use Rattle.pst_legal.specs.SupplyReading.{read_supply}
use Rattle.pst_legal.specs.ValueReading.{Whole, read_values, answer_of, read_all}
use Rattle.pst_legal.specs.Fits.{Filling, FillAll, Fills, IsSameLeaf}
use Rattle.pst_built.proofs.SoundActs.{all_get}
use Rattle.pst_built.proofs.Gives.{Gives}
use Rattle.pst_built.proofs.Trees.{IsGrowth, tree_grows}
use Rattle.pst_built.specs.ReadFitsLaws.{ActivitiesFillTheirRoot, WholeReadingsFillTheirRoot}
use Rattle.pst_built.proofs.ReadFitsWays.{from_menu}
use Rattle.pst_built.proofs.Went.{AreDomains, HasDomains, place_went, twice, menu_went, no_stops}
use Rattle.pst_built.proofs.Keeps.{keeps_then, supply_keeps, values_keep, zip_each}

-- ---- fields of a sound model have domains

pub all_domains : (fields : List Field) → ((k : ℕ) (field : Field) → slice_get fields k ≡ Some field → IsSoundField field) → AreDomains fields
all_domains [] each = tt
all_domains (field ∷ fields) each = ((each zero field refl).domain, all_domains fields (λ k x is. each (suc k) x is))

type_domains : (m : ModelTree) → IsSound m → (action : ℕ) (type : ActionTree) → type_of m action ≡ Some type → AreDomains type.fields
type_domains m sound action type is =
    let whole = all_get (IsSoundAction m) m.actions action type sound.actions is in
    all_domains type.fields (λ k field at. all_get IsSoundField type.fields k field whole.fields at)

module _ (m : ModelTree) (sound : IsSound m) where
  content_domains : (type : ActionTree) (content : ContentTree) (action instance : ℕ) → AreDomains type.fields → HasDomains (content_menu type content action instance)
  content_domains type (Atomic body) action instance are = tt
  content_domains type (Compound activity) action instance are = are

  instance_domains : (type : ActionTree) (action : ℕ) (instance : Option ℕ) → AreDomains type.fields → HasDomains (instance_menu type action instance)
  instance_domains type action None are = tt
  instance_domains type action (Some instance) are = content_domains type type.content action instance are

  action_domains : (action : ℕ) (top : Option ℕ) (type : Option ActionTree) → type_of m action ≡ type → HasDomains (action_menu m action top type)
  action_domains action top None is = tt
  action_domains action top (Some type) is = λ k. instance_domains type action (slice_get (action_instances m (Some type) top) k) (type_domains m sound action type is)

  domains_if : (b : Bool) (one other : Menu) → HasDomains one → HasDomains other → HasDomains (if b then one else other)
  domains_if true one other first second = first
  domains_if false one other first second = second

  join_domains : (after : List Bool → Menu) → ((joined : List Bool) → HasDomains (after joined)) → (n branches : ℕ) (joined : List Bool) → HasDomains (join_menu after n branches joined)
  join_domains after each n zero joined = each joined
  join_domains after each zero (suc branches) joined = λ k. join_domains after each zero branches (joined ++ false ∷ [])
  join_domains after each (suc n) (suc branches) joined =
      domains_if (nat_le (suc n) branches) _ _
      (λ k. domains_if (nat_lt k 1) _ _ (join_domains after each n branches (joined ++ true ∷ [])) (join_domains after each (suc n) branches (joined ++ false ∷ [])))
      (λ k. join_domains after each n branches (joined ++ true ∷ []))

  block_domains : (c : Context) (parallel : Bool) (join : Join) (steps : List StepTree) → HasDomains (block_menu c parallel join steps)
  block_domains c parallel (Fixed named) steps = tt
  block_domains c parallel (Choose n) steps =
      domains_if (nat_le n (length steps)) _ _ (join_domains (λ joined. plain (fill.Joined parallel (mask joined)) (statements c steps)) (λ joined. tt) n (length steps) []) tt

  branch_domains : (c : Context) (e : Option (ℕ × BranchTree)) → HasDomains (branch_menu c e)
  branch_domains c None = tt
  branch_domains c (Some e) = tt

  repeat_domains : (c : Context) (body : StepTree) (count : Option ℤ) → HasDomains (repeat_menu c body count)
  repeat_domains c body None = tt
  repeat_domains c body (Some (pos n)) = tt
  repeat_domains c body (Some (negsuc n)) = tt

  if_domains : (c : Context) (holds : StepTree) (fails : Option StepTree) (v : Option ℤ) → HasDomains (if_menu c holds fails v)
  if_domains c holds fails None = tt
  if_domains c holds fails (Some v) = domains_if (is_false v) _ _ tt tt

  arm_domains : (c : Context) (other : Option StepTree) (e : Option (ℕ × ArmTree)) → HasDomains (arm_menu c other e)
  arm_domains c None None = tt
  arm_domains c (Some step) None = tt
  arm_domains c other (Some e) = tt

  match_domains : (c : Context) (arms : List ArmTree) (other : Option StepTree) (v : Option ℤ) → HasDomains (match_menu c arms other v)
  match_domains c arms other None = tt
  match_domains c arms other (Some v) = arm_domains c other (find (is_in_arm v) (enumerate_from 0 arms))

  statement_domains : (c : Context) (step : StepTree) → HasDomains (statement_menu m c step)
  statement_domains c (Traverse action handle inline) = action_domains action (Some c.instance) (type_of m action) refl
  statement_domains c (Sequence steps) = tt
  statement_domains c (Parallel steps) = tt
  statement_domains c (Schedule steps) = tt
  statement_domains c (Joined parallel join steps) = block_domains c parallel join (steps_of steps)
  statement_domains c (Select rows) = λ k. branch_domains c (slice_get (available c (branches_of rows)) k)
  statement_domains c (Repeat count body) = repeat_domains c body (value_in c count)
  statement_domains c (If condition holds fails) = if_domains c holds (step_of fails) (value_in c condition)
  statement_domains c (Match matched arms other) = match_domains c (arms_of arms) (step_of other) (value_in c matched)

  menu_domains : (piece : Piece) → HasDomains (menu m piece)
  menu_domains (Action action top) = action_domains action top (type_of m action) refl
  menu_domains (Statement c step) = statement_domains c step
  menu_domains (Turning c index body) = tt

  -- ---- what is read fills

  abbrev Fitting : (Piece → Option ℕ → Reader) → Filling → Type 0
  Fitting one One = (x : Piece) (parent : Option ℕ) (s t : Scenario) (place : ℕ) (left : List ℕ) (end : ℕ) (rest : List ℕ) → one x parent s place left ≡ Reads t end rest → One x parent s t

  pieces_fill : (one : Piece → Option ℕ → Reader) (One : Filling) → Fitting one One → (xs : List Piece) (parent : ℕ) (s t : Scenario) (place : ℕ) (left : List ℕ) (end : ℕ) (rest : List ℕ)
      → read_pieces one xs parent s place left ≡ Reads t end rest → FillAll One xs parent s t
  pieces_fill one One fits [] parent s t place left end rest e = same_scenario s t place end left rest e
    where
      same_scenario : (s t : Scenario) (place end : ℕ) (left rest : List ℕ) → Reads s place left ≡ Reads t end rest → t ≡ s
      same_scenario s t place end left rest e = cc
  pieces_fill one One fits (x ∷ xs) parent s t place left end rest e =
      let w = twice (one x (Some parent) s place left) (read_pieces one xs parent) t end rest e in
      (w.mid, fits x (Some parent) s w.mid place left w.place w.left w.first, pieces_fill one One fits xs parent w.mid t w.place w.left end rest w.second)

  no_level : (seed : ℕ) (x : Menu) (s t : Scenario) (place : ℕ) (left : List ℕ) (end : ℕ) (rest : List ℕ) → read_menu seed x (λ look fields below s place left. Stops) s place left ≡ Reads t end rest → ⊥
  no_level seed (Way look fields below) s t place left end rest e = no_stops t end rest e
  no_level seed (Place n after) s t place left end rest e =
      let w = place_went (start_of seed place n) n (λ k. read_menu seed (after k) (λ look fields below s place left. Stops)) s t place left end rest e in
      no_level seed (after w.k) s t (place + 1) w.left end rest w.reads
  no_level seed (Weighted weights after) s t place left end rest e =
      let w = place_went (weighted_start_of seed place weights) (length weights) (λ k. read_menu seed (after k) (λ look fields below s place left. Stops)) s t place left end rest e in
      no_level seed (after w.k) s t (place + 1) w.left end rest w.reads
  no_level seed Closed s t place left end rest e = no_stops t end rest e

  piece_fills : DomainsListValues → (seed levels : ℕ) → Fitting (read_piece m seed levels) (Fills m levels)
  piece_fills listed seed zero x parent s t place left end rest e = absurd (no_level seed (menu m x) s t place left end rest e)
  piece_fills listed seed (suc levels) x parent s t place left end rest e =
      let w = menu_went listed m seed (menu m x) (read_piece m seed levels) parent s t place left end rest (menu_domains x) e in (
        w.look,
        w.below,
        from_menu m x w.look w.below w.leads,
        pieces_fill (read_piece m seed levels) (Fills m levels) (piece_fills listed seed levels) w.below (length s.nodes) (with_look m s parent w.look) t w.place w.left end rest w.reads,
      )

-- ---- the root

pub gives_here : (P : Scenario → Type 0) (r : Reading) (s : Scenario) (next : ℕ) (left : List ℕ) → Gives P r → r ≡ Reads s next left → P s
gives_here P r s next left gives e = subst (Gives P) e gives

same_leaf : (acts : List Act) → AllZip IsSameLeaf acts acts
same_leaf [] = tt
same_leaf (x ∷ xs) = (record { action = refl; instance = refl; node = refl }, same_leaf xs)

pub fill_root : DomainsListValues → ActivitiesFillTheirRoot
fill_root listed m root seed level place choices left s next sound e =
    let growth = gives_here (IsGrowth level (nothing_yet level) None) (read_tree m seed root (nothing_yet level) place choices) s next left (tree_grows m seed root level place choices) e in (
      record {
        tree = s;
        fills = subst (λ l. Fills m most_levels (Action root None) None (nothing_yet l) s) (sym growth.grown.of_level)
            (piece_fills m sound listed seed most_levels (Action root None) None (nothing_yet level) s place choices next left e);
        nodes = refl;
        leaves = subst (λ acts. AllZip IsSameLeaf acts s.actions) (sym (take_all (length s.actions) s.actions (omega arith))) (same_leaf s.actions);
      },
      growth.within,
    )

-- what is answered whole is read to its end
pub answered : (r : Reading) (s : Scenario) → answer_of r ≡ Whole s → (place : ℕ) × (r ≡ Reads s place [])
answered (Wants t n) s e = absurd cc
answered Stops s e = absurd cc
answered (Reads t place []) s e = (place, cc)
answered (Reads t place (d ∷ left)) s e = absurd cc

pub whole_fills_root : DomainsListValues → WholeReadingsFillTheirRoot
whole_fills_root listed m root seed level choices s sound e =
    let a = answered (read_all m seed root (nothing_yet level) 0 choices) s e in
    let w = twice (then_read (read_tree m seed root (nothing_yet level) 0 choices) (read_supply m seed)) (read_values m seed) s a.0 [] a.1 in
    let v = twice (read_tree m seed root (nothing_yet level) 0 choices) (read_supply m seed) w.mid w.place w.left w.first in
    let t = v.mid in
    let one = supply_keeps m seed t w.mid v.place v.left w.place w.left v.second in
    let two = values_keep m seed w.mid s w.place w.left a.0 [] w.second in
    let kept = keeps_then t w.mid s one two in
    let growth = gives_here (IsGrowth level (nothing_yet level) None) (read_tree m seed root (nothing_yet level) 0 choices) t v.place v.left (tree_grows m seed root level 0 choices) v.first in
    record {
      tree = t;
      fills = subst (λ l. Fills m most_levels (Action root None) None (nothing_yet l) t) (sym (kept.level ∙ growth.grown.of_level))
          (piece_fills m sound listed seed most_levels (Action root None) None (nothing_yet level) t 0 choices v.place v.left v.first);
      nodes = kept.nodes;
      leaves = zip_each t.actions s.actions kept.leaves;
    }
