-- Needs that no action serves refuse all longer lists.
use Rattle.std.proofs.Common.{◌≡◌, ℕ, zero, suc, ◌<◌, ◌≤◌, List, [], ◌∷◌, ◌++◌, length, Bool, true, false, not, ◌&&◌, ◌||◌, nat_eq, Option, Some, None, refl, sym, ap, ap₂, ◌∙◌, subst, arith}
use Rattle.std.specs.Prelude.{slice_get, option_and_then}
use Rattle.std.specs.List.{list_any}
use Rattle.std.proofs.lemmas.Bool.{and_parts, eq-eqb}
use Rattle.std.proofs.lemmas.Option.{none-some, same_Some, slice_get_within}
use Rattle.pst_model.specs.ModelTree.{ModelTree}
use Rattle.pst_scen.specs.declared.act.Act.{Act}
use Rattle.pst_scen.specs.declared.act.Filled.{Filled}
use Rattle.pst_scen.specs.declared.act.Flow.{Flow}
use Rattle.pst_scen.specs.declared.act.Flow.TheVariants.{BufferIn, BufferOut, StreamIn, StreamOut, StateIn, StateOut}
use Rattle.pst_scen.specs.declared.act.Link.{Link}
use Rattle.pst_scen.specs.declared.act.Link.TheVariants as link
use Rattle.pst_scen.specs.declared.scenario.Scenario.{Scenario}
use Rattle.pst_scen.specs.Scenarios.{reference_at, leaves_of, IsLinkOf}
use Rattle.pst_legal.specs.Legal.{Legal}
use Rattle.pst_legal.specs.Supplied.{is_source_for, IsSource}
use Rattle.pst_legal.specs.SupplyReading.{fits}
use Rattle.pst_legal.specs.ValueReading.{read}
use Rattle.pst_legal.specs.First.{ReadsLegal}
use Rattle.pst_built.specs.SoFar.{HasRead}
use Rattle.pst_built.specs.Onward.{Onward, MoreFilled, Row, Both}
use Rattle.pst_built.specs.ReadOnwardLaws.{LongerListsKeepWhatIsKnown}
use Rattle.pst_order_ahead.specs.LaidOut.{IsLaidOut, ReadsTree}
use Rattle.pst_order_ahead.specs.Laws.{TreesAreLaidOut}
use Rattle.pst_open_needs.specs.Needs.{needs_another, is_open, serves, is_served, is_unserved, lacks_source, IsLacking, UnservedNeedsRefuseLists}
use Rattle.pst_open_needs.proofs.Counted.{counted, many}
use Rattle.pst_open_needs.proofs.Stays.{StaysIn, stays_here, stays_longer}

-- ---- one that passes a test

pub record Passes {A : Type 0} (test : A → Bool) (xs : List A) : Type 0 where
  pub at : ℕ
  pub one : A
  pub is : slice_get xs at ≡ Some one
  pub passes : test one ≡ true

passing_by : {A : Type 0} (test : A → Bool) (x : A) (xs : List A) (b : Bool) → test x ≡ b → (b || list_any test xs) ≡ true → (list_any test xs ≡ true → Passes test xs) → Passes test (x ∷ xs)
passing_by test x xs true e any rest = record { at = 0; one = x; is = refl; passes = e }
passing_by test x xs false e any rest = let p = rest any in record { at = suc p.at; one = p.one; is = p.is; passes = p.passes }

passing : {A : Type 0} (test : A → Bool) (xs : List A) → list_any test xs ≡ true → Passes test xs
passing test [] e = absurd cc
passing test (x ∷ xs) e = passing_by test x xs (test x) refl e (passing test xs)

or_true : (b : Bool) → (b || true) ≡ true
or_true true = refl
or_true false = refl

passes_any : {A : Type 0} (test : A → Bool) (xs : List A) (i : ℕ) (x : A) → slice_get xs i ≡ Some x → test x ≡ true → list_any test xs ≡ true
passes_any test [] i x is e = absurd (none-some x is)
passes_any test (y ∷ xs) zero x is e = ap (λ b. b || list_any test xs) (ap test (same_Some y x is) ∙ e)
passes_any test (y ∷ xs) (suc i) x is e = ap (λ b. test y || b) (passes_any test xs i x is e) ∙ or_true (test y)

both_true : (a b : Bool) → a ≡ true → b ≡ true → (a && b) ≡ true
both_true a b p q = ap₂ ◌&&◌ p q

not_true : (b : Bool) → not b ≡ true → b ≡ false
not_true true e = absurd cc
not_true false e = refl

false_true : (b : Bool) → b ≡ false → b ≡ true → ⊥
false_true true e t = cc
false_true false e t = cc

-- ---- references that go on

there : {A : Type 0} (xs : List A) (i : ℕ) → i < length xs → (x : A) × (slice_get xs i ≡ Some x)
there [] i l = let bad : ⊥ = omega (arith, l) in absurd bad
there (x ∷ xs) zero l = (x, refl)
there (x ∷ xs) (suc i) l = there xs i (omega (arith, l))

row_on : (o p : Option Filled) (f : Filled) → Both MoreFilled o p → o ≡ Some f → (g : Filled) × (p ≡ Some g) × MoreFilled f g
row_on None p f both e = absurd (none-some f e)
row_on (Some x) None f both e = absurd both
row_on (Some x) (Some y) f both e = (y, refl, subst (λ z. MoreFilled z y) (same_Some x f e) both)

row_back : (o p : Option Filled) (g : Filled) → Both MoreFilled o p → p ≡ Some g → (f : Filled) × (o ≡ Some f) × MoreFilled f g
row_back None None g both e = absurd (none-some g e)
row_back None (Some y) g both e = absurd both
row_back (Some x) None g both e = absurd both
row_back (Some x) (Some y) g both e = (x, refl, subst (MoreFilled x) (same_Some y g e) both)

at_act : (acts : List Act) (a r : ℕ) (act : Act) → slice_get acts a ≡ Some act → reference_at acts a r ≡ slice_get act.references r
at_act acts a r act is = ap (option_and_then (λ (x : Act). slice_get x.references r)) is

act_by : (acts : List Act) (a r : ℕ) (o : Option Act) (f : Filled) → slice_get acts a ≡ o → option_and_then (λ (x : Act). slice_get x.references r) o ≡ Some f → a < length acts
act_by acts a r None f e is = absurd (none-some f is)
act_by acts a r (Some x) f e is = slice_get_within acts a x e

-- ---- a link

linked_by : (flow : Flow) (to : Link) → needs_another flow ≡ true → IsLinkOf flow to → (b : ℕ) × (q : ℕ) × (to ≡ link.Act b q)
linked_by BufferIn link.Nothing n kind = absurd kind
linked_by BufferIn link.Initial n kind = absurd kind
linked_by BufferIn (link.Act b q) n kind = (b, q, refl)
linked_by StreamIn link.Nothing n kind = absurd kind
linked_by StreamIn link.Initial n kind = absurd kind
linked_by StreamIn (link.Act b q) n kind = (b, q, refl)
linked_by StreamOut link.Nothing n kind = absurd kind
linked_by StreamOut link.Initial n kind = absurd kind
linked_by StreamOut (link.Act b q) n kind = (b, q, refl)
linked_by BufferOut to n kind = absurd cc
linked_by StateIn to n kind = absurd cc
linked_by StateOut to n kind = absurd cc

eq_self : (n : ℕ) → nat_eq n n ≡ true
eq_self n = eq-eqb n n refl

module _ (m : ModelTree) (root : ℕ) (s t : Scenario) (onward : Onward s t) (legal : Legal m root t) (few : length t.actions ≤ length s.actions) where
  -- where the source of a need stands in both, it fits
  serves_it : (need : Filled) (g : Filled) (a b q : ℕ) → MoreFilled need g → IsSource t.actions a g b q → is_served s.actions need ≡ true
  serves_it need g a b q more source =
      let below = act_by t.actions b q (slice_get t.actions b) source.source refl source.is in
      let x = there s.actions b (omega (arith, below, few)) in
      let y = onward.acts b x.0 x.1 in
      let in_row : slice_get y.0.references q ≡ Some source.source = sym (at_act t.actions b q y.0 y.1) ∙ source.is in
      let f = row_back (slice_get x.0.references q) (slice_get y.0.references q) source.source (y.2.references q) in_row in
      let kind : is_source_for need.flow f.0.flow ≡ true = ap₂ (λ k l. is_source_for k l) (sym more.flow) (sym f.2.flow) ∙ source.fits in
      let pool : f.0.pool ≡ need.pool = sym f.2.pool ∙ source.pool ∙ more.pool in
      let same : nat_eq f.0.pool need.pool ≡ true = ap (λ p. nat_eq p need.pool) pool ∙ eq_self need.pool in
      passes_any (serves need) s.actions b x.0 x.1
      (passes_any (fits need) x.0.references q f.0 f.1 (both_true (is_source_for need.flow f.0.flow) (nat_eq f.0.pool need.pool) kind same))

  never : list_any (lacks_source s.actions) s.actions ≡ true → ⊥
  never lacks =
      let x = passing (lacks_source s.actions) s.actions lacks in
      let r = passing (is_unserved s.actions) x.one.references x.passes in
      let parts = and_parts (needs_another r.one.flow) (is_open r.one.link && not (is_served s.actions r.one)) r.passes in
      let none = not_true (is_served s.actions r.one) (and_parts (is_open r.one.link) (not (is_served s.actions r.one)) parts.1).1 in
      let y = onward.acts x.at x.one x.is in
      let g = row_on (slice_get x.one.references r.at) (slice_get y.0.references r.at) r.one (y.2.references r.at) r.is in
      let own : reference_at t.actions x.at r.at ≡ Some g.0 = at_act t.actions x.at r.at y.0 y.1 ∙ g.1 in
      let linked = legal.scenario.links x.at r.at g.0 own in
      let another : needs_another g.0.flow ≡ true = ap needs_another g.2.flow ∙ parts.0 in
      let l = linked_by g.0.flow g.0.link another linked.kind in
      let source = legal.supplied.sources x.at r.at l.0 l.1 g.0 own l.2 in
      false_true (is_served s.actions r.one) none (serves_it r.one g.0 x.at l.0 l.1 g.2 source)

pub refuse : LongerListsKeepWhatIsKnown → TreesAreLaidOut → UnservedNeedsRefuseLists
refuse onward laid_out m root seed level choices s (u, place, left, tree) has lacking more t reads =
    let has_longer : HasRead (read m root seed level (choices ++ more)) t = subst (λ a. HasRead a t) (sym reads.reads) refl in
    let here = stays_here m root seed level choices u place left tree s has in
    let longer = stays_longer m root seed level choices u place left tree more t has_longer in
    let laid = laid_out m root seed level choices s (u, place, left, tree) has in
    let nodes : t.nodes ≡ s.nodes = longer.nodes ∙ sym here.nodes in
    let level_same : t.level ≡ s.level = longer.level ∙ sym here.level in
    let leaves : length (leaves_of t.nodes) ≡ length (leaves_of s.nodes) = ap (λ ns. length (leaves_of ns)) nodes in
    let inferred = counted s.actions (leaves_of s.nodes) laid.inferred laid.leaves.nodes in
    let have = many s.actions (leaves_of s.nodes) laid.inferred laid.leaves.nodes in
    let want = many t.actions (leaves_of t.nodes) t.level reads.legal.scenario.leaves.nodes in
    let full = lacking.full in
    never m root s t (onward m root seed level choices more s t has has_longer) reads.legal (omega (arith, inferred, have, want, leaves, level_same, full)) lacking.lacks
