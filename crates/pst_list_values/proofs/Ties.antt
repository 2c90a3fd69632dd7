-- What is kept behind the sources stays of the choices.
use Rattle.std.proofs.Common.{◌≡◌, ⊎_elim, ℕ, zero, suc, ◌+◌, ◌<◌, ◌≤◌, ℤ, List, [], ◌∷◌, ◌++◌, length, map, Bool, true, false, nat_lt, Option, Some, None, refl, sym, ap, ◌∙◌, subst, append_assoc, append-nil, length-append, arith}
use Rattle.std.proofs.Math.Seq.{take-append_seam}
use Rattle.std.proofs.lemmas.List.{length-map, map-append}
use Rattle.std.proofs.lemmas.List.Elements.{All-append, All-take}
use Rattle.std.specs.Prelude.{slice_get, Contains, IfSome}
use Rattle.std.proofs.lemmas.Bool.{cases_lt}
use Rattle.std.proofs.lemmas.Option.{none-some}
use Rattle.pst_expr.specs.declared.ranges.Span.{Span}
use Rattle.pst_expr.specs.declared.tree.Expr.{Expr}
use Rattle.pst_expr.specs.Tree.{view}
use Rattle.pst_expr.specs.Value.{variable_value}
use Rattle.pst_domain.specs.Bounds.{bound_of, AreWithin, AreInside, HasVariablesBelow}
use Rattle.pst_domain.specs.Bounds.{Holds as BoundHolds}
use Rattle.pst_domain.specs.Interval.{interval, is_refused}
use Rattle.pst_narrow.specs.Solutions.{IsMet, AreMet}
use Rattle.pst_narrow.specs.Local.{LiesWithin}
use Rattle.pst_narrow.specs.Narrowing.{AreOpen, HaveVariablesBelow}
use Rattle.pst_model.specs.ModelView.{view_model}
use Rattle.pst_model.specs.ModelTree.{ModelTree}
use Rattle.pst_scen.specs.declared.scenario.Scenario.{Scenario}
use Rattle.pst_scen.specs.Refusals.{IsUnrefused}
use Rattle.pst_scen.specs.declared.act.Act.{Act}
use Rattle.pst_legal.specs.Blanks.{Blank, options, domain_of, claim_blanks, value_blanks}
use Rattle.pst_legal.specs.Standing.{hull}
use Rattle.pst_legal.specs.Constraints.{Holds}
use Rattle.pst_legal.specs.Reading.{then_read}
use Rattle.pst_legal.specs.ValueReading.{Answer, Options, Dead, Whole, answer_of, with_firsts, read_blanks, read_values}
use Rattle.pst_built.specs.SoFar.{HasRead}
use Rattle.pst_few_places.proofs.Named.{blanks_join}
use Rattle.pst_blank_values.specs.Values.{blank_values}
use Rattle.pst_written_constraints.specs.Spans.{HoldOptions}
use Rattle.pst_written_constraints.specs.Written.{AreWritten}
use Rattle.pst_written_constraints.specs.Open.{blank_bounds, OpenTogether}
use Rattle.pst_rival_blanks.specs.Pairs.{AreMetWherePlanned}
use Rattle.pst_written_constraints.specs.PassedOn.{LinksJoin}
use Rattle.pst_refusals.specs.Answers.{StandEarlier}
use Rattle.pst_built.proofs.Values.{IsSameOrder}
use Rattle.pst_built.proofs.Goes.{Stands}
use Rattle.pst_read_slots.proofs.Same.{values_same}
use Rattle.pst_few_places.specs.Fillings.{all_blanks, AreOptions, filled}
use Rattle.pst_shape.specs.Walks.{IfRead, HasDigit}
use Rattle.pst_link_walk.specs.Walks.{Kept, with_choice}
use Rattle.pst_list_walk.specs.Walks.{answer, IsRead, HasFront, HasValue}
use Rattle.pst_value_walk.specs.Choices.{value_by}
use Rattle.pst_search_loop.specs.declared.conflict.Conflict.{Conflict}
use Rattle.pst_search_loop.specs.Kept.{IsConflict}
use Rattle.pst_search_places.specs.Facts.{sources_of}
use Rattle.pst_search_places.specs.Laws.{IsOfPlaces, NoneHold, FewPlacesConflict}
use Rattle.pst_search_places.proofs.Few.{options_wants, values_on}
use Rattle.pst_search_places.proofs.Fronts.{one_front}
use Rattle.pst_value_search.specs.Values.{Kept as Given, with_value, Begins}
use Rattle.pst_value_search.specs.Laws.{AreKeptBy, AreNamed, RefusalsHoldNothing}
use Rattle.pst_list_values.specs.declared.behind.Behind.{Behind}
use Rattle.pst_list_values.specs.Walked.{kept_of}
use Rattle.pst_list_values.specs.Tied.{StandOpen, IsValued, IsOf, IsTied, IsMore, IsFurther, IsLess, HasGiven, IsShorter, IsRefusal, IsBegunOf}
use Rattle.pst_list_values.proofs.Values.{more_named, fewer_named, value_there}
use Rattle.pst_list_values.proofs.Opens.{read_by, inside_self, bounds_long}

-- ---- a conflict

none_contained : (i : ℕ) → Contains [] i → ⊥
none_contained i (q, l, e) = omega (arith, l)

by_given : RefusalsHoldNothing → (m : ModelTree) (seed : ℕ) (u : Scenario) (place : ℕ) (present : List ℕ) (whole : Bool) (o : Option Given) (places : List ℕ) → IsValued m seed u place present whole o → IsRefusal o places
    → NoneHold m seed u place present places × ((i : ℕ) → Contains places i → i < length present)
by_given law m seed u place present whole None places valued none = (
  λ chosen options agree holds unrefused. valued chosen options holds unrefused,
  λ i there. absurd (none_contained i (subst (λ xs. Contains xs i) none there)),
)
by_given law m seed u place present whole (Some k) places (kept, names, opens) refuses = (
  law m seed u place present k places kept names refuses,
  λ i there. let l = refuses.within i there in let many = names.many in omega (arith, l, many),
)

pub refused : RefusalsHoldNothing → FewPlacesConflict → (k : Kept) (b : Behind) (places : List ℕ) (c : Conflict) → IsOf k b → IsRefusal b.valued places → IsOfPlaces c b.front places → IsConflict (kept_of k) c
refused law few k b places c of refusal is =
    let told = by_given law (view_model k.model) k.seed of.linked (length of.front) of.present b.whole b.valued places of.valued refusal in
    few (kept_of k) c of.front of.present places of.linked refl (record { choices = of.choices; reads = of.reads }) told.1 told.0 (subst (λ n. IsOfPlaces c n places) of.count is)

-- ---- one choice more

wants_of : (a : Answer) (d : ℕ) → HasDigit a d → (s : Scenario) × (n : ℕ) × (a ≡ Options s n)
wants_of (Options s n) d has = (s, n, refl)
wants_of Dead d has = absurd has
wants_of (Whole s) d has = absurd has

module _ (k : Kept) (b : Behind) (of : IsOf k b) (d : ℕ) where
  abbrev m : ModelTree
  m = view_model k.model

  -- what is read behind the sources is the same but for values
  same_there : (s : Scenario) (n : ℕ) → answer k ≡ Options s n → IsSameOrder of.linked s
  same_there s n is =
      let u = of.linked in
      let here : answer_of (read_values m k.seed u (length of.front) of.present) ≡ Options s n =
      values_on (kept_of k) refl of.front of.present u (record { choices = of.choices; reads = of.reads }) of.present
      ∙ ap (λ zs. answer_of (then_read (sources_of m k.root k.seed k.level zs) (read_values m k.seed))) (sym of.choices) ∙ is in
      subst (Stands IsSameOrder u) (options_wants (read_values m k.seed u (length of.front) of.present) s n here) (values_same m k.seed u (length of.front) of.present)

  -- the value of the choice
  pub value_is : (v : ℤ) → HasDigit (answer k) d → HasValue k d v → (vs : List ℤ) → AreNamed m k.seed of.linked (length of.front) of.present vs
      → AreNamed m k.seed of.linked (length of.front) (of.present ++ d ∷ []) (vs ++ v ∷ [])
  value_is v has value vs names =
      let one = one_front m k.root k.seed k.level of.front of.present value.front value.present of.linked value.linked (sym of.choices ∙ value.choices) of.reads value.reads in
      let at = wants_of (answer k) d has in
      let told : v ≡ value_by m k.seed (length value.front + length value.present) at.0 value.blank d =
      subst (λ a. IfRead a (λ s. v ≡ value_by m k.seed (length value.front + length value.present) s value.blank d)) at.2 value.value in
      let there : v ≡ value_by m k.seed (length of.front + length of.present) at.0 value.blank d =
      told ∙ ap (λ xs. value_by m k.seed (length xs + length value.present) at.0 value.blank d) (sym one.front)
      ∙ ap (λ xs. value_by m k.seed (length of.front + length xs) at.0 value.blank d) (sym one.present) in
      let is : slice_get (all_blanks m of.linked) (length of.present) ≡ Some value.blank =
      ap (λ xs. slice_get (all_blanks m of.linked) (length xs)) one.present ∙ ap (λ t. slice_get (all_blanks m t) (length value.present)) one.scenario ∙ value.is in
      more_named m k.seed of.linked (length of.front) of.present vs d value.blank v is
      (value_there m k.seed of.linked (length of.front) at.0 value.blank (length of.front + length of.present) d v (same_there at.0 at.1 at.2) there) names

  more_by : (whole : Bool) (o new : Option Given) (value : Option ℤ) → IsValued m k.seed of.linked (length of.front) of.present whole o → IsMore o value new → HasDigit (answer k) d → IfSome value (λ v. HasValue k d v)
      → IsValued m k.seed of.linked (length of.front) (of.present ++ d ∷ []) whole new
  more_by whole None new value valued more has told = subst (IsValued m k.seed of.linked (length of.front) (of.present ++ d ∷ []) whole) (sym more) valued
  more_by whole (Some g) new value (kept, names, opens) (v, is, e) has told =
      subst (IsValued m k.seed of.linked (length of.front) (of.present ++ d ∷ []) whole) (sym e) (
        record { met = kept.met; within = kept.within },
        value_is v has (subst (λ o. IfSome o (λ w. HasValue k d w)) is told) g.values names,
        λ w. let stand = opens w in record { inside = stand.inside; open_there = stand.open_there },
      )

  further_by : (value : Option ℤ) (o : Option Behind) → HasDigit (answer k) d → IfSome value (λ v. HasValue k d v) → IsFurther b value o → IsTied (with_choice k d) o
  further_by value None has told further = tt
  further_by value (Some new) has told (same, whole, more) = record {
    front = of.front;
    present = of.present ++ d ∷ [];
    choices = ap (λ xs. xs ++ d ∷ []) of.choices ∙ append_assoc of.front of.present (d ∷ []);
    count = same ∙ of.count;
    linked = of.linked;
    reads = of.reads;
    valued = subst (λ w. IsValued m k.seed of.linked (length of.front) (of.present ++ d ∷ []) w new.valued) (sym whole) (more_by b.whole b.valued new.valued value of.valued more has told);
  }

  pub tied_further : (l : Kept) (value : Option ℤ) (o : Option Behind) → l ≡ with_choice k d → HasDigit (answer k) d → IfSome value (λ v. HasValue k d v) → IsFurther b value o → IsTied l o
  tied_further l value o is has told further = subst (λ x. IsTied x o) (sym is) (further_by value o has told further)

-- ---- one choice less

-- the last of the choices behind the front
pub record IsSnoc (xs ys present : List ℕ) (d : ℕ) : Type 0 where
  pub rest : List ℕ
  pub is : present ≡ rest ++ d ∷ []
  pub before : xs ≡ ys ++ rest

head_same : (x y : ℕ) (xs ys : List ℕ) → (x ∷ xs) ≡ (y ∷ ys) → x ≡ y
head_same x y xs ys e = cc

tail_same : (x y : ℕ) (xs ys : List ℕ) → (x ∷ xs) ≡ (y ∷ ys) → xs ≡ ys
tail_same x y xs ys e = cc

-- where a list without its last choice is no shorter than the front, that choice is one behind it
snoc_behind : (xs front present : List ℕ) (d : ℕ) → xs ++ d ∷ [] ≡ front ++ present → length front ≤ length xs → IsSnoc xs front present d
snoc_behind xs [] present d e l = record { rest = xs; is = sym e; before = refl }
snoc_behind [] (f ∷ front) present d e l = let bad : ⊥ = omega (arith, l) in absurd bad
snoc_behind (x ∷ xs) (f ∷ front) present d e l =
    let rest = snoc_behind xs front present d (tail_same x f (xs ++ d ∷ []) (front ++ present) e) (omega (arith, l)) in
    record { rest = rest.rest; is = rest.is; before = ap (λ zs. x ∷ zs) rest.before ∙ ap (λ y. y ∷ (front ++ rest.rest)) (head_same x f (xs ++ d ∷ []) (front ++ present) e) }

less_by : (m : ModelTree) (seed : ℕ) (u : Scenario) (place : ℕ) (rest : List ℕ) (d : ℕ) (whole : Bool) (o new : Option Given) → IsValued m seed u place (rest ++ d ∷ []) whole o → IsLess o new → IsValued m seed u place rest whole new
less_by m seed u place rest d whole None new valued less = subst (IsValued m seed u place rest whole) (sym less) valued
less_by m seed u place rest d whole (Some g) new (kept, names, opens) (v, l, e, is) =
    let own : AreKeptBy m u (with_value l v) = subst (AreKeptBy m u) e kept in
    subst (IsValued m seed u place rest whole) (sym is) (
      record { met = own.met; within = own.within },
      fewer_named m seed u place rest l.values d v (subst (λ (x : Given). AreNamed m seed u place (rest ++ d ∷ []) x.values) e names),
      λ w. let stand : StandOpen m u (with_value l v) = subst (StandOpen m u) e (opens w) in record { inside = stand.inside; open_there = stand.open_there },
    )

given_by : (m : ModelTree) (seed : ℕ) (u : Scenario) (place : ℕ) (present : List ℕ) (whole : Bool) (o : Option Given) → IsValued m seed u place present whole o → 0 < length present → HasGiven o
given_by m seed u place present whole None valued some = tt
given_by m seed u place present whole (Some g) (kept, names, opens) some = let many = names.many in omega (arith, many, some)

module _ (old new : Kept) (d : ℕ) (b : Behind) (of : IsOf old b) (is : old ≡ with_choice new d) (least : b.front ≤ length new.choices) where
  own : IsOf (with_choice new d) b
  own = subst (λ x. IsOf x b) is of

  snoc : IsSnoc new.choices own.front own.present d
  snoc = snoc_behind new.choices own.front own.present d own.choices (subst (λ n. n ≤ length new.choices) own.count least)

  -- there is a value to take back
  pub given_there : HasGiven b.valued
  given_there =
      let many = length-append snoc.rest (d ∷ []) in
      let same : length own.present ≡ length (snoc.rest ++ d ∷ []) = ap length snoc.is in
      given_by (view_model new.model) new.seed own.linked (length own.front) own.present b.whole b.valued own.valued (omega (arith, many, same))

  pub tied_shorter : (after : Behind) → IsShorter b after → IsOf new after
  tied_shorter after (same, whole, less) = record {
    front = own.front;
    present = snoc.rest;
    choices = snoc.before;
    count = same ∙ own.count;
    linked = own.linked;
    reads = own.reads;
    valued = subst (λ w. IsValued (view_model new.model) new.seed own.linked (length own.front) snoc.rest w after.valued) (sym whole)
        (less_by (view_model new.model) new.seed own.linked (length own.front) snoc.rest d b.whole b.valued after.valued
        (subst (λ xs. IsValued (view_model new.model) new.seed own.linked (length own.front) xs b.whole b.valued) snoc.is own.valued) less);
  }

-- ---- where the sources have just been read through

all_front : (front present : List ℕ) → length front ≡ length (front ++ present) → present ≡ []
all_front front [] e = refl
all_front front (x ∷ xs) e = let many = length-append front (x ∷ xs) in let bad : ⊥ = omega (arith, e, many) in absurd bad

-- what is read there
read_first : (m : ModelTree) (seed : ℕ) (blanks : List Blank) (s t : Scenario) (place : ℕ) → HasRead (answer_of (read_blanks m seed blanks s place [])) t → t ≡ s
read_first m seed [] s t place has = sym has
read_first m seed (b ∷ blanks) s t place has = read_by (nat_lt 0 (options m s.actions b)) s t (options m s.actions b) has

begun_by : (m : ModelTree) (seed : ℕ) (u : Scenario) (place : ℕ) (whole : Bool) (o : Option Given) → IsBegunOf m u whole o → IsValued m seed u place [] whole o
begun_by m seed u place whole None begun = begun
begun_by m seed u place whole (Some g) (kept, none, opens) = (
  kept,
  record { many = ap length none; each = λ i v is. absurd (none-some v (subst (λ xs. slice_get xs i ≡ Some v) none is)) },
  opens,
)

same_begun : (m : ModelTree) (u : Scenario) (whole : Bool) (o : Option Given) → IsBegunOf m (with_firsts m u) whole o → IsBegunOf m u whole o
same_begun m u whole None begun = begun
same_begun m u whole (Some g) (kept, none, opens) = (
  record { met = kept.met; within = kept.within },
  none,
  λ w. let stand = opens w in record { inside = stand.inside; open_there = stand.open_there },
)

pub tied_begun : (k : Kept) (n : ℕ) (t : Scenario) (b : Behind) → b.front ≡ n → HasFront k n → n ≡ length k.choices → HasRead (answer k) t → IsBegunOf (view_model k.model) t b.whole b.valued → IsOf k b
tied_begun k n t b front_is has all read begun =
    let m = view_model k.model in
    let u = has.linked in
    let e : length has.front ≡ length (has.front ++ has.present) = sym has.count ∙ all ∙ ap length has.choices in
    let none : has.present ≡ [] = all_front has.front has.present e in
    let here : answer k ≡ answer_of (read_values m k.seed u (length has.front) []) =
    ap (λ zs. answer_of (then_read (sources_of m k.root k.seed k.level zs) (read_values m k.seed))) (has.choices ∙ ap (λ xs. has.front ++ xs) none ∙ append-nil has.front)
    ∙ ap (λ r. answer_of (then_read r (read_values m k.seed))) has.reads in
    let joined : read_values m k.seed u (length has.front) [] ≡ read_blanks m k.seed (all_blanks m u) (with_firsts m u) (length has.front) [] =
    blanks_join m k.seed (claim_blanks m u.actions) (value_blanks m u.actions) (with_firsts m u) (length has.front) [] in
    let is : t ≡ with_firsts m u =
    read_first m k.seed (all_blanks m u) (with_firsts m u) t (length has.front)
    (subst (λ r. HasRead (answer_of r) t) joined (subst (λ a. HasRead a t) here read)) in
    record {
      front = has.front;
      present = has.present;
      choices = has.choices;
      count = front_is ∙ has.count;
      linked = u;
      reads = has.reads;
      valued = subst (λ xs. IsValued m k.seed u (length has.front) xs b.whole b.valued) (sym none)
          (begun_by m k.seed u (length has.front) b.whole b.valued (same_begun m u b.whole b.valued (subst (λ x. IsBegunOf m x b.whole b.valued) is begun)));
    }

pub has_read : (a : Answer) (s : Scenario) → IsRead a → IfRead a (λ t. s ≡ t) → HasRead a s
has_read (Options t n) s is same = sym same
has_read Dead s is same = absurd is
has_read (Whole t) s is same = sym same

-- ---- constraints that are written

bound_past : (bounds : List (Option Span)) (v : ℕ) → length bounds ≤ v → bound_of bounds v ≡ None
bound_past [] zero l = refl
bound_past [] (suc v) l = refl
bound_past (b ∷ bounds) zero l = let bad : ⊥ = omega (arith, l) in absurd bad
bound_past (b ∷ bounds) (suc v) l = bound_past bounds v (omega (arith, l))

value_past : (m : ModelTree) (acts : List Act) (blanks : List Blank) (chosen : List ℕ) (v : ℕ) → length blanks ≤ v → variable_value (blank_values m acts blanks chosen) v ≡ None
value_past m acts [] chosen zero l = refl
value_past m acts [] chosen (suc v) l = refl
value_past m acts (b ∷ blanks) [] zero l = refl
value_past m acts (b ∷ blanks) [] (suc v) l = refl
value_past m acts (b ∷ blanks) (k ∷ chosen) zero l = let bad : ⊥ = omega (arith, l) in absurd bad
value_past m acts (b ∷ blanks) (k ∷ chosen) (suc v) l = value_past m acts blanks chosen v (omega (arith, l))

none_holds : (b : Option Span) (o : Option ℤ) → o ≡ None → BoundHolds b o
none_holds b o e = subst (BoundHolds b) (sym e) tt

lies_by : (bounds : List (Option Span)) (values : List (Option ℤ)) → AreWithin bounds values → ((v : ℕ) → length bounds ≤ v → variable_value values v ≡ None) → (v : ℕ) → LiesWithin bounds values v
lies_by bounds values within past v = ⊎_elim (λ (l : v < length bounds). within v l) (λ (l : length bounds ≤ v). none_holds (bound_of bounds v) (variable_value values v) (past v l)) (cases_lt v (length bounds))

pub bounds_count : (m : ModelTree) (u : Scenario) (spans : List (Option Span)) → HoldOptions m u spans → length spans ≡ length (all_blanks m u)
bounds_count m u spans hold = ap length hold.each ∙ length-map (all_blanks m u) (λ blank. hull (domain_of m u.actions blank))

-- constraints over the blanks that are met by the values of any options that are kept by all constraints and a plan
abbrev pub AreImplied : ModelTree → Scenario → List Expr → Type 0
AreImplied m u es =
    (chosen : List ℕ) → AreOptions m u.actions (all_blanks m u) chosen → Holds m (filled m (all_blanks m u) chosen (with_firsts m u))
    → IsUnrefused (filled m (all_blanks m u) chosen (with_firsts m u)) → AreMet (map view es) (blank_values m u.actions (all_blanks m u) chosen)

-- the written ones, and those that keep claims apart
pub both_implied : (m : ModelTree) (u : Scenario) (es rs : List Expr) → AreWritten m u (map view es) → AreMetWherePlanned m u (map view rs) → AreImplied m u (es ++ rs)
both_implied m u es rs written apart chosen options holds unrefused =
    let values = blank_values m u.actions (all_blanks m u) chosen in
    subst (λ xs. AreMet xs values) (sym (map-append view es rs)) (All-append (λ e. IsMet e values) (map view es) (map view rs) (written.met chosen options holds) (apart.met chosen options unrefused))

pub both_below : (n : ℕ) (es rs : List Expr) → HaveVariablesBelow n (map view es) → HaveVariablesBelow n (map view rs) → HaveVariablesBelow n (map view (es ++ rs))
both_below n es rs below under = subst (HaveVariablesBelow n) (sym (map-append view es rs)) (All-append (HasVariablesBelow n) (map view es) (map view rs) below under)

first_open : (es rs : List Expr) (bounds : List (Option Span)) → AreOpen (map view (es ++ rs)) bounds → AreOpen (map view es) bounds
first_open es rs bounds free =
    let xs = map view es in
    let ys = map view rs in
    subst (λ zs. AreOpen zs bounds) (take-append_seam xs ys)
    (All-take (λ e. is_refused (interval e bounds) ≡ false) (length xs) (xs ++ ys) (subst (λ zs. AreOpen zs bounds) (map-append view es rs) free))

pub both_open : (m : ModelTree) (u : Scenario) (es rs : List Expr) → OpenTogether m u (map view es) → OpenTogether m u (map view (es ++ rs))
both_open m u es rs together chosen bounds joins earlier long inside free = together chosen bounds joins earlier long inside (first_open es rs bounds free)

pub begun_written : (m : ModelTree) (u : Scenario) (es : List Expr) (spans : List (Option Span)) (whole : Bool) (o : Option Given) → AreImplied m u es → HoldOptions m u spans
    → (whole ≡ true → OpenTogether m u (map view es)) → LinksJoin u.actions → StandEarlier u.nodes → Begins es spans o → IsBegunOf m u whole o
begun_written m u es spans whole None met hold together joins earlier none =
    λ chosen options holds unrefused. none (blank_values m u.actions (all_blanks m u) chosen) (hold.within chosen options) (met chosen options holds unrefused)
begun_written m u es spans whole (Some g) met hold together joins earlier begun = (
  record {
    met = λ chosen options holds unrefused.
        subst (λ xs. AreMet (map view xs) (blank_values m u.actions (all_blanks m u) chosen)) (sym begun.constraints_same) (met chosen options holds unrefused);
    within = λ chosen options holds unrefused.
        let values = blank_values m u.actions (all_blanks m u) chosen in
        let count : length g.bounds ≡ length (all_blanks m u) = begun.narrows.count ∙ bounds_count m u spans hold in
        lies_by g.bounds values (begun.narrows.keeps values (hold.within chosen options) (met chosen options holds unrefused))
        (λ v l. value_past m u.actions (all_blanks m u) chosen v (omega (arith, l, count)));
  },
  begun.none,
  λ w. record {
    inside = subst (AreInside g.bounds) hold.each begun.narrows.inside;
    open_there = λ chosen free.
        let bounds = blank_bounds m u.actions (all_blanks m u) chosen in
        together w chosen bounds joins earlier (bounds_long m u.actions (all_blanks m u) chosen) (λ i. inside_self (bound_of bounds i))
        (subst (λ xs. AreOpen (map view xs) bounds) begun.constraints_same free);
  },
)
