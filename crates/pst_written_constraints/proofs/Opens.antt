-- Where no constraint over the blanks is refused, none of the scenario is.
use Rattle.std.proofs.Common.{◌≡◌, ℕ, zero, suc, pos, List, [], ◌∷◌, ◌++◌, map, Contains, true, false, Option, Some, None, IfSome, refl, sym, ap, ap₂, ◌∙◌, subst, arith}
use Rattle.std.specs.Prelude.{slice_get, flat_map, option_to_list}
use Rattle.std.specs.Option.{option_and_then}
use Rattle.std.specs.Ordering.{int_eq}
use Rattle.std.proofs.lemmas.Bool.{and_parts, and_from, false≢true, false_from_ne_true}
use Rattle.std.proofs.lemmas.Bool.Decides.{Decides-int_eq}
use Rattle.std.proofs.lemmas.Int.{ints}
use Rattle.std.proofs.lemmas.Option.{none-some, same_Some, slice_get-get_or}
use Rattle.pst_expr.specs.declared.ranges.Span.{Span}
use Rattle.pst_expr.specs.Tree.{Expression}
use Rattle.pst_expr.specs.Value.{variable_value}
use Rattle.pst_domain.specs.Bounds.{IsInside, bound_of as bound_at}
use Rattle.pst_domain.specs.Truth.{is_zero}
use Rattle.pst_domain.specs.Interval.{interval, is_refused}
use Rattle.pst_domain.specs.Laws.{IsSane, SpansAreSane}
use Rattle.pst_model.specs.ConstraintTree.{SlotTree}
use Rattle.pst_model.specs.ModelTree.{ModelTree}
use Rattle.pst_scen.specs.declared.act.Act.{Act}
use Rattle.pst_scen.specs.declared.act.Filled.{Filled}
use Rattle.pst_scen.specs.declared.scenario.Scenario.{Scenario}
use Rattle.pst_scen.specs.Scenarios.{reference_at}
use Rattle.pst_legal.specs.Types.{action_field, served_claim}
use Rattle.pst_legal.specs.Blanks.{Blank, Instance, OfFirst, OfAct, OfOutput, OfClaim, instances_in, claim_instances, pool_field, claim_field, domain_in, domain_of}
use Rattle.pst_legal.specs.Standing.{Standing, bound_of, value_or, open_value, hull}
use Rattle.pst_legal.specs.ValueReading.{with_firsts}
use Rattle.pst_legal.specs.Constraints.{is_refused_at}
use Rattle.pst_few_places.specs.Fillings.{all_blanks, filled}
use Rattle.pst_built.specs.Onward.{Both}
use Rattle.pst_refusals.specs.Answers.{StandEarlier}
use Rattle.pst_blank_values.specs.Values.{blank_values, AreBare, IsSameReference, IsSameAct, IsSameButValues}
use Rattle.pst_blank_values.specs.Laws.{FilledBlanksStand}
use Rattle.pst_constraint_sites.specs.Sites.{SiteTree, slot_at}
use Rattle.pst_constraint_sites.specs.Senses.{LinksJoin}
use Rattle.pst_constraint_sites.specs.Groups.{groups}
use Rattle.pst_constraint_sites.specs.Laws.{ConstraintsAreGrouped}
use Rattle.pst_written_constraints.specs.Written.{slot_bounds, bound_in, LieInBlanks}
use Rattle.pst_written_constraints.specs.Open.{blank_bounds, IsAllWritten, OpenTogether}
use Rattle.pst_written_constraints.proofs.Sites.{has_firsts}

-- ---- the same domains

module _ (u t : Scenario) (same : IsSameButValues u t) where
  references_both : (r : ℕ) (o p : Option Act) → Both IsSameAct o p → Both IsSameReference (option_and_then (λ (x : Act). slice_get x.references r) o) (option_and_then (λ (x : Act). slice_get x.references r) p)
  references_both r None None both = tt
  references_both r None (Some y) both = absurd both
  references_both r (Some x) None both = absurd both
  references_both r (Some x) (Some y) both = both.references r

  reference_both : (a r : ℕ) → Both IsSameReference (reference_at u.actions a r) (reference_at t.actions a r)
  reference_both a r = references_both r (slice_get u.actions a) (slice_get t.actions a) (same.acts a)

  module _ (m : ModelTree) where
    claim_domain : (claim : ℕ) (o p : Option Act) → Both IsSameAct o p → flat_map (λ (x : Act). claim_instances m x claim) (option_to_list p) ≡ flat_map (λ (x : Act). claim_instances m x claim) (option_to_list o)
    claim_domain claim None None both = refl
    claim_domain claim None (Some y) both = absurd both
    claim_domain claim (Some x) None both = absurd both
    claim_domain claim (Some x) (Some y) both = ap₂ (λ a i. instances_in (option_and_then (λ pool. slice_get m.pools pool) (served_claim m a i claim)) ++ []) both.action both.instance

    own_domain : (field : ℕ) (o p : Option Act) → Both IsSameAct o p → domain_in (option_and_then (λ (x : Act). action_field m x.action field) p) ≡ domain_in (option_and_then (λ (x : Act). action_field m x.action field) o)
    own_domain field None None both = refl
    own_domain field None (Some y) both = absurd both
    own_domain field (Some x) None both = absurd both
    own_domain field (Some x) (Some y) both = ap (λ a. domain_in (action_field m a field)) both.action

    resource_domain : (claim field : ℕ) (o p : Option Act) → Both IsSameAct o p → domain_in (option_and_then (λ (x : Act). claim_field m x.action claim field) p) ≡ domain_in (option_and_then (λ (x : Act). claim_field m x.action claim field) o)
    resource_domain claim field None None both = refl
    resource_domain claim field None (Some y) both = absurd both
    resource_domain claim field (Some x) None both = absurd both
    resource_domain claim field (Some x) (Some y) both = ap (λ a. domain_in (claim_field m a claim field)) both.action

    output_domain : (field : ℕ) (o p : Option Filled) → Both IsSameReference o p → domain_in (option_and_then (λ (f : Filled). pool_field m f.pool field) p) ≡ domain_in (option_and_then (λ (f : Filled). pool_field m f.pool field) o)
    output_domain field None None both = refl
    output_domain field None (Some g) both = absurd both
    output_domain field (Some f) None both = absurd both
    output_domain field (Some f) (Some g) both = ap (λ p. domain_in (pool_field m p field)) both.pool

    same_domain : (blank : Blank) → domain_of m t.actions blank ≡ domain_of m u.actions blank
    same_domain (Instance act claim) = claim_domain claim (slice_get u.actions act) (slice_get t.actions act) (same.acts act)
    same_domain (OfFirst pool field) = refl
    same_domain (OfAct act field) = own_domain field (slice_get u.actions act) (slice_get t.actions act) (same.acts act)
    same_domain (OfOutput act reference field) = output_domain field (reference_at u.actions act reference) (reference_at t.actions act reference) (reference_both act reference)
    same_domain (OfClaim act claim field) = resource_domain claim field (slice_get u.actions act) (slice_get t.actions act) (same.acts act)

  before : (g : Filled) (o p : Option Filled) → p ≡ Some g → Both IsSameReference o p → (f : Filled) × (o ≡ Some f) × IsSameReference f g
  before g o p is both = by o (subst (λ q. Both IsSameReference o q) is both)
    where
      by : (q : Option Filled) → Both IsSameReference q (Some g) → (f : Filled) × (q ≡ Some f) × IsSameReference f g
      by None both = absurd both
      by (Some f) both = (f, refl, both)

  after : (f : Filled) (o p : Option Filled) → o ≡ Some f → Both IsSameReference o p → (g : Filled) × (p ≡ Some g) × IsSameReference f g
  after f o p is both = by p (subst (λ q. Both IsSameReference q p) is both)
    where
      by : (q : Option Filled) → Both IsSameReference (Some f) q → (g : Filled) × (q ≡ Some g) × IsSameReference f g
      by None both = absurd both
      by (Some g) both = (g, refl, both)

  joins_stay : LinksJoin u.actions → LinksJoin t.actions
  joins_stay joins a r b q g is linked =
      let f = before g (reference_at u.actions a r) (reference_at t.actions a r) is (reference_both a r) in
      let other = joins a r b q f.0 f.1 (sym f.2.link ∙ linked) in
      let now = after other.0 (reference_at u.actions b q) (reference_at t.actions b q) other.1 (reference_both b q) in
      (now.0, now.1, now.2.pool ∙ other.2 ∙ sym f.2.pool)

-- ---- the spans of blanks

bound_of_open : (blank : Blank) (span : Option Span) → bound_of (open_value blank span) ≡ span
bound_of_open blank None = refl
bound_of_open blank (Some span) = refl

no_values : (m : ModelTree) (acts : List Act) (blanks : List Blank) → blank_values m acts blanks [] ≡ []
no_values m acts [] = refl
no_values m acts (blank ∷ blanks) = refl

blank_bound_at : (m : ModelTree) (acts : List Act) (blanks : List Blank) (chosen : List ℕ) (i : ℕ) (blank : Blank) → slice_get blanks i ≡ Some blank
    → bound_at (blank_bounds m acts blanks chosen) i ≡ bound_of (value_or (variable_value (blank_values m acts blanks chosen) i) (open_value blank (hull (domain_of m acts blank))))
blank_bound_at m acts [] chosen i blank is = absurd (none-some blank is)
blank_bound_at m acts (b ∷ blanks) [] zero blank is =
    ap (λ c. hull (domain_of m acts c)) (same_Some b blank is) ∙ sym (bound_of_open blank (hull (domain_of m acts blank)))
blank_bound_at m acts (b ∷ blanks) [] (suc i) blank is =
    blank_bound_at m acts blanks [] i blank is ∙ ap (λ vs. bound_of (value_or (variable_value vs i) (open_value blank (hull (domain_of m acts blank))))) (no_values m acts blanks)
blank_bound_at m acts (b ∷ blanks) (k ∷ chosen) zero blank is = refl
blank_bound_at m acts (b ∷ blanks) (k ∷ chosen) (suc i) blank is = blank_bound_at m acts blanks chosen i blank is

-- ---- what isn't refused

ends_are_zero : (s : Span) → is_zero s ≡ true → (s.low ≡ pos 0) × (s.high ≡ pos 0)
ends_are_zero s test = let parts = and_parts (int_eq s.low (pos 0)) (int_eq s.high (pos 0)) test in ((Decides-int_eq s.low (pos 0)).0 parts.0, (Decides-int_eq s.high (pos 0)).0 parts.1)

zero_inside : (inner outer : Option Span) → IfSome inner IsSane → IsInside inner outer → is_refused outer ≡ true → is_refused inner ≡ true
zero_inside None outer sane inside refused = refl
zero_inside (Some s) None sane inside refused = absurd inside
zero_inside (Some s) (Some t) sane inside refused =
    let ends = ends_are_zero t refused in
    let up = sane.upright in
    let low : s.low ≡ pos 0 = omega (arith, ints, ends.0, ends.1, inside.0, inside.1, up) in
    let high : s.high ≡ pos 0 = omega (arith, ints, ends.0, ends.1, inside.0, inside.1, up) in
    and_from (int_eq s.low (pos 0)) (int_eq s.high (pos 0)) ((Decides-int_eq s.low (pos 0)).1 low) ((Decides-int_eq s.high (pos 0)).1 high)

same_bounds : (m : ModelTree) (t : Scenario) (site : SiteTree) (standing : SlotTree → Standing) → ((slot : SlotTree) → slot_at m t site slot ≡ standing slot) → (slots : List SlotTree)
    → slot_bounds m t site slots ≡ map (λ slot. bound_of (standing slot)) slots
same_bounds m t site standing same [] = refl
same_bounds m t site standing same (slot ∷ slots) = λ i. bound_of (same slot i) ∷ same_bounds m t site standing same slots i

in_list : {A : Type 0} (xs : List A) (x : A) (has : Contains xs x) → slice_get xs has.0 ≡ Some x
in_list xs x has = slice_get-get_or xs has.0 x has.1 ∙ ap Some has.2

pub open_all : FilledBlanksStand → ConstraintsAreGrouped → SpansAreSane → (m : ModelTree) (u : Scenario) (es : List Expression) → AreBare u.actions
    → IsAllWritten m (with_firsts m u) (all_blanks m u) es → OpenTogether m u es
open_all stand grouped sane m u es bare all chosen bounds joins earlier long inside fit k standing has =
    let start = with_firsts m u in
    let t = filled m (all_blanks m u) chosen start in
    let w = stand m u chosen bare in
    let same : IsSameButValues start t = record { nodes = w.same.nodes; acts = w.same.acts } in
    let g = grouped m start t (has_firsts m u) (subst StandEarlier (sym w.same.nodes) earlier) same k standing has in
    let one = all g.is.0 g.group (in_list (groups m start) g.group g.is) g.has.0 k (in_list g.group.constraints k g.has) in
    let lie : LieInBlanks m t (all_blanks m u) bounds = record {
      long = long;
      each = λ i blank at.
          let stands = w.stands i blank at in
          let domain = same_domain u t w.same m blank in
          let is : bound_at (blank_bounds m u.actions (all_blanks m u) chosen) i ≡ bound_in m t blank =
          blank_bound_at m u.actions (all_blanks m u) chosen i blank at
          ∙ ap₂ (λ v spans. bound_of (value_or v (open_value blank (hull spans)))) (sym stands) (sym domain) in
          subst (IsInside (bound_at bounds i)) is (inside i);
    } in
    let inner = one.writes.span_is t bounds same (joins_stay u t w.same joins) lie in
    let outer = subst (λ xs. IsInside (interval one.written bounds) (interval k.expression xs)) (same_bounds m t g.group.site standing g.same k.slots) inner in
    let unrefused : is_refused (interval one.written bounds) ≡ false = subst (λ e. is_refused (interval e bounds) ≡ false) one.is.2 (fit one.is.0 one.written one.is.1) in
    false_from_ne_true (is_refused_at k standing)
    (λ refused. false≢true (sym unrefused ∙ zero_inside (interval one.written bounds) (interval k.expression (map (λ slot. bound_of (standing slot)) k.slots)) (sane one.written bounds) outer refused))
