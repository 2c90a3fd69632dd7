-- Where nothing new is refused, nothing is.
use Rattle.std.proofs.Common.{◌≡◌, ℕ, ◌-◌, ◌≤◌, List, [], ◌∷◌, ◌++◌, length, Bool, Some, refl, sym, ap, subst, arith}
use Rattle.std.specs.Prelude.{slice_get}
use Rattle.std.proofs.lemmas.Option.{slice_get_within, option_and_then_some}
use Rattle.pst_model.specs.declared.model.Model.{Model}
use Rattle.pst_model.specs.ModelTree.{ModelTree}
use Rattle.pst_model.specs.ModelView.{view_model}
use Rattle.pst_model.specs.ConstraintTree.{SlotTree, ConstraintTree}
use Rattle.pst_scen.specs.declared.act.Act.{Act}
use Rattle.pst_scen.specs.declared.tree.Node.{Node}
use Rattle.pst_scen.specs.declared.scenario.Scenario.{Scenario}
use Rattle.pst_legal.specs.Standing.{Standing}
use Rattle.pst_legal.specs.Constraints.{HasConstraint, OfCompound, OfAct, OfOutput, OfClaim, OfFirst, Inline}
use Rattle.pst_legal.specs.First.{NoneRefused}
use Rattle.pst_legal.specs.Reading.{Reading, Wants, Stops, Reads, then_read}
use Rattle.pst_legal.specs.ValueReading.{answer_of, read_values, read}
use Rattle.pst_built.specs.SoFar.{HasRead}
use Rattle.pst_built.proofs.Longer.{longer_onward}
use Rattle.pst_slots.proofs.Kept.{stands_at}
use Rattle.pst_read_domains.proofs.Empty.{place_unvalued}
use Rattle.pst_read_domains.proofs.ReadNodesWhole.{some_stand}
use Rattle.pst_shape.specs.Walks.{IfRead, HasDigit}
use Rattle.pst_new_refusals.specs.Since.{IsUnread, IsSince}
use Rattle.pst_new_refusals.specs.Newly.{AreGiven, StaysFree}
use Rattle.pst_link_walk.specs.Walks.{reading}
use Rattle.pst_link_walk.specs.News.{GoesOnBy}
use Rattle.pst_list_walk.specs.Free.{kept_at, IfPlace, RefusesNone}
use Rattle.pst_list_walk.proofs.Homes.{leaves_named, acts_named}

-- ---- nothing is refused of nothing

none_at : {A : Type 0} (xs : List A) (k : ℕ) (x : A) → length xs ≤ 0 → slice_get xs k ≡ Some x → ⊥
none_at xs k x none is = let l = slice_get_within xs k x is in omega (arith, none, l)

module _ (m : ModelTree) (s : Scenario) (nodes : length s.nodes ≤ 0) (acts : length s.actions ≤ 0) where
  no_constraint : {k : ConstraintTree} {standing : SlotTree → Standing} → HasConstraint m s k standing → ⊥
  no_constraint (OfCompound n action instance fields node type k is leaf of has) = none_at s.nodes n node nodes is
  no_constraint (OfAct a act type k is has) = none_at s.actions a act acts is.is
  no_constraint (OfOutput a r filled object k is output of has) = option_and_then_some (λ (x : Act). slice_get x.references r) (slice_get s.actions a) filled is (λ act there at. none_at s.actions a act acts there)
  no_constraint (OfClaim a c act type claim object k is at of has) = none_at s.actions a act acts is.is
  no_constraint (OfFirst a r filled object k is state of has) = option_and_then_some (λ (x : Act). slice_get x.references r) (slice_get s.actions a) filled is (λ act there at. none_at s.actions a act acts there)
  no_constraint (Inline n top action handle inline indices k stands has) = let at = stands_at m s.nodes top stands in none_at s.nodes n at.0 nodes at.1

  pub nothing_refused : NoneRefused m s
  nothing_refused k standing has = absurd (no_constraint has)

-- ---- what is new

module _ (m : Model) (root seed level : ℕ) where
  unread : (xs : List ℕ) (s : Scenario) (n : ℕ) → reading (kept_at m root seed level xs) ≡ Wants s n → IsUnread s
  unread xs s n e = let none = place_unvalued (view_model m) root seed level xs s n e in record { outputs = none.outputs; firsts = none.firsts }

  -- what is read up to a place of the activity or the sources is read by the whole list too
  read_at : (xs : List ℕ) (s : Scenario) (n : ℕ) → reading (kept_at m root seed level xs) ≡ Wants s n → HasRead (read (view_model m) root seed level xs) s
  read_at xs s n e = subst (λ r. HasRead (answer_of (then_read r (read_values (view_model m) seed))) s) (sym e) refl

  since : (xs : List ℕ) (d : ℕ) (s t : Scenario) (n k : ℕ) (fresh : List Act) → reading (kept_at m root seed level xs) ≡ Wants s n → reading (kept_at m root seed level (xs ++ d ∷ [])) ≡ Wants t k → GoesOnBy s t fresh
      → IsSince s t (length s.nodes - 1) fresh
  since xs d s t n k fresh e f news =
      let ys = xs ++ d ∷ [] in
      let onward = longer_onward (view_model m) root seed level xs (d ∷ []) s t (read_at xs s n e) (read_at ys t k f) in
      record {
        nodes = λ j node l is. news.nodes j node (omega (arith, l)) is;
        acts = news.acts;
        old = unread xs s n e;
        new = unread ys t k f;
        few = omega arith;
        more = onward.nodes;
        earlier = (some_stand (view_model m) root seed level ys t (read_at ys t k f)).1.earlier;
        leaves = leaves_named (view_model m) root seed level ys t k f;
        homes = acts_named (view_model m) root seed level xs s n e;
      }

  module _ (xs : List ℕ) (d : ℕ) (far : Bool) (nodes : List Node) (acts : List Act) (count : ℕ) (fresh : List Act) (stays : StaysFree (view_model m) far nodes acts (count - 1) fresh)
      (news : (s t : Scenario) (n k : ℕ) → reading (kept_at m root seed level xs) ≡ Wants s n → reading (kept_at m root seed level (xs ++ d ∷ [])) ≡ Wants t k → GoesOnBy s t fresh) where
    freed_by : (r q : Reading) → reading (kept_at m root seed level xs) ≡ r → reading (kept_at m root seed level (xs ++ d ∷ [])) ≡ q → HasDigit (answer_of r) d → IfRead (answer_of r) (λ s. count ≡ length s.nodes) → IfRead (answer_of q) (λ t. nodes ≡ t.nodes) → IfRead (answer_of q) (AreGiven far acts)
        → IfPlace (answer_of r) (NoneRefused (view_model m)) → IfPlace (answer_of q) (NoneRefused (view_model m))
    freed_by (Wants s n) (Wants t k) e f digit counts same given none =
        stays s t (sym same) given (subst (λ i. IsSince s t i fresh) (ap (λ c. c - 1) (sym counts)) (since xs d s t n k fresh e f (news s t n k e f))) none
    freed_by (Wants s n) Stops e f digit counts same given none = tt
    freed_by (Wants s n) (Reads t q []) e f digit counts same given none = tt
    freed_by (Wants s n) (Reads t q (x ∷ left)) e f digit counts same given none = tt
    freed_by Stops q e f digit counts same given none = absurd digit
    freed_by (Reads s p []) q e f digit counts same given none = absurd digit
    freed_by (Reads s p (x ∷ left)) q e f digit counts same given none = absurd digit

    -- with one choice more nothing is refused
    pub freed : HasDigit (answer_of (reading (kept_at m root seed level xs))) d → IfRead (answer_of (reading (kept_at m root seed level xs))) (λ s. count ≡ length s.nodes)
        → IfRead (answer_of (reading (kept_at m root seed level (xs ++ d ∷ [])))) (λ t. nodes ≡ t.nodes) → IfRead (answer_of (reading (kept_at m root seed level (xs ++ d ∷ [])))) (AreGiven far acts)
        → RefusesNone m root seed level xs → RefusesNone m root seed level (xs ++ d ∷ [])
    freed digit counts same given none = freed_by (reading (kept_at m root seed level xs)) (reading (kept_at m root seed level (xs ++ d ∷ []))) refl refl digit counts same given none
