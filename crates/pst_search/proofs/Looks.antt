-- What the walker shows and judges.
use Rattle.std.proofs.Common.{◌≡◌, ℕ, [], ◌∷◌, length, Bool, true, false, Option, None, Some, is_some, refl, sym, ap, ◌∙◌, subst, append-nil}
use Rattle.pst_model.specs.ModelView.{view_model}
use Rattle.pst_model.specs.Sound.{IsSound}
use Rattle.pst_scen.specs.declared.next.Next.TheVariants as next
use Rattle.pst_scen.specs.declared.scenario.Scenario.{Scenario}
use Rattle.pst_scen.specs.Plan.{Entries}
use Rattle.pst_scen.specs.Plans.{IsPlanOf}
use Rattle.pst_scen.specs.Refusals.{IsUnrefused}
use Rattle.pst_legal.specs.Constraints.{Holds}
use Rattle.pst_legal.specs.First.{NoneRefused}
use Rattle.pst_legal.specs.ValueReading.{Answer, Options, Dead, Whole, read}
use Rattle.pst_built.specs.LongerLaws.{DeadStaysDead, WholeListsEnd}
use Rattle.pst_built.specs.Laws.{IsConcreteRoot, WholeReadingsAreBuilt}
use Rattle.pst_order.specs.Built.{IsBuilt}
use Rattle.pst_built.specs.SoFar.{HasRead}
use Rattle.pst_read_legal.specs.Laws.{PlannedReadingsAreLegal, LegalIsUnrefused}
use Rattle.pst_list_values.specs.PassedOn.{RefusedListsAreBarren}
use Rattle.pst_refusals.specs.Answers.{TellsRefusals}
use Rattle.pst_shape.specs.Walks.{next_of, IfRead, HasDigit}
use Rattle.pst_link_walk.specs.Walks.{Kept}
use Rattle.pst_list_walk.specs.Walks.{answer, IsRead, HasFront}
use Rattle.pst_search_loop.specs.Kept.{Shows, Sought, IsWhole, HasOptions, Rests, IsConflict}
use Rattle.pst_search_loop.specs.Kept.{HasDigit as NamesOption}
use Rattle.pst_search_loop.specs.Conflicts.{IsEarlier}
use Rattle.pst_search_loop.specs.declared.conflict.Conflict.{Conflict}
use Rattle.pst_list_values.specs.PassedOn.{IsOfPlaces, BarrenListsConflict, PlacesRestOnEarlierOnes, PlacesRestOnTheSources}
use Rattle.pst_search_loop.specs.declared.walker.Look.{Look}
use Rattle.pst_search_loop.specs.declared.walker.Look.TheVariants as look
use Rattle.pst_list_values.specs.Walked.{kept_of}
use Rattle.pst_search.specs.Readings.{barren_at, IsAnswer, HasPlan, IsPlanned}
use Rattle.pst_plan_so_far.specs.Laws.{ReadsSources, PlansRefuseLists, SourcesAreBuilt}
use Rattle.pst_order_ahead.specs.LaidOut.{IsLaidOut, ReadsTree}
use Rattle.pst_order_ahead.specs.Ahead.{IsRefusedAhead}
use Rattle.pst_order_ahead.specs.Laws.{TreesAreLaidOut, RefusalsAheadStay}
use Rattle.pst_open_needs.specs.Needs.{IsLacking, UnservedNeedsRefuseLists}
use Rattle.pst_search.specs.Judging.{TellsPlan, TellsLegal}

next_dead : (a : Answer) → next_of a ≡ next.Dead → a ≡ Dead
next_dead (Options s n) e = absurd cc
next_dead Dead e = refl
next_dead (Whole s) e = absurd cc

module _ (k : Kept) where
  pub dead_barren : DeadStaysDead → next_of (answer k) ≡ next.Dead → barren_at k
  dead_barren law e more t reads =
      let dead = law (view_model k.model) k.root k.seed k.level k.choices more (next_dead (answer k) e) in
      let both : Dead ≡ Whole t = sym dead ∙ reads.reads in
      absurd cc

  refused_by : RefusedListsAreBarren → IsSound (view_model k.model) → (a : Answer) → answer k ≡ a → IsRead a → IfRead a (λ s. TellsRefusals (view_model k.model) s true) → barren_at k
  refused_by law sound (Options s n) e is told = law (view_model k.model) k.root k.seed k.level k.choices s sound (subst (λ a. HasRead a s) (sym e) refl) told
  refused_by law sound Dead e is told = absurd is
  refused_by law sound (Whole s) e is told = law (view_model k.model) k.root k.seed k.level k.choices s sound (subst (λ a. HasRead a s) (sym e) refl) told

  pub refused_barren : RefusedListsAreBarren → IsSound (view_model k.model) → (b : Bool) → b ≡ true → IsRead (answer k) → IfRead (answer k) (λ s. TellsRefusals (view_model k.model) s b) → barren_at k
  refused_barren law sound b e is told = refused_by law sound (answer k) refl is (subst (λ b. IfRead (answer k) (λ s. TellsRefusals (view_model k.model) s b)) e told)

  shows_by : (a : Answer) (shown : Look) → answer k ≡ a → IsAnswer a shown → IfRead a (NoneRefused (view_model k.model)) → Shows (kept_of k) shown
  shows_by (Options s n) (look.Options count) e is told = (s, e ∙ ap (Options s) is, told)
  shows_by (Options s n) look.Whole e is told = absurd is
  shows_by (Options s n) (look.Closed c) e is told = absurd is
  shows_by Dead shown e is told = absurd is
  shows_by (Whole s) (look.Options count) e is told = absurd is
  shows_by (Whole s) look.Whole e is told = (s, e, told)
  shows_by (Whole s) (look.Closed c) e is told = absurd is

  pub shows_live : (shown : Look) → IsAnswer (answer k) shown → IfRead (answer k) (NoneRefused (view_model k.model)) → Shows (kept_of k) shown
  shows_live shown is free = shows_by (answer k) shown refl is free

  pub none_refused : (b : Bool) → b ≡ false → IfRead (answer k) (λ s. TellsRefusals (view_model k.model) s b) → IfRead (answer k) (NoneRefused (view_model k.model))
  none_refused b e told = subst (λ b. IfRead (answer k) (λ s. TellsRefusals (view_model k.model) s b)) e told

  -- ---- plans

  planned_by : PlansRefuseLists → SourcesAreBuilt → (a : Answer) → answer k ≡ a → IsRead a → ReadsSources (view_model k.model) k.root k.seed k.level k.choices → (s : Scenario) → IfRead a (λ t. s ≡ t) → TellsPlan s false → barren_at k
  planned_by law built (Options t n) e is sources s same refused =
      let has : HasRead (answer k) s = subst (λ a. HasRead a s) (sym e) (sym same) in
      law (view_model k.model) k.root k.seed k.level k.choices s refused.0.0 (built (view_model k.model) k.root k.seed k.level k.choices s sources has).1 has refused.0.1
  planned_by law built (Whole t) e is sources s same refused =
      let has : HasRead (answer k) s = subst (λ a. HasRead a s) (sym e) (sym same) in
      law (view_model k.model) k.root k.seed k.level k.choices s refused.0.0 (built (view_model k.model) k.root k.seed k.level k.choices s sources has).1 has refused.0.1
  planned_by law built Dead e is sources s same refused = absurd is

  pub plan_barren : PlansRefuseLists → SourcesAreBuilt → IsRead (answer k) → ReadsSources (view_model k.model) k.root k.seed k.level k.choices → (s : Scenario) → IfRead (answer k) (λ t. s ≡ t) → (b : Bool) → b ≡ false → TellsPlan s b → barren_at k
  plan_barren law built is sources s same b off refused = planned_by law built (answer k) refl is sources s same (subst (TellsPlan s) off refused)

  built_by : SourcesAreBuilt → (a : Answer) → answer k ≡ a → IsRead a → ReadsSources (view_model k.model) k.root k.seed k.level k.choices → (s : Scenario) → IfRead a (λ t. s ≡ t) → IsBuilt s
  built_by built (Options t n) e is sources s same = (built (view_model k.model) k.root k.seed k.level k.choices s sources (subst (λ a. HasRead a s) (sym e) (sym same))).0
  built_by built (Whole t) e is sources s same = (built (view_model k.model) k.root k.seed k.level k.choices s sources (subst (λ a. HasRead a s) (sym e) (sym same))).0
  built_by built Dead e is sources s same = absurd is

  pub built_at : SourcesAreBuilt → IsRead (answer k) → ReadsSources (view_model k.model) k.root k.seed k.level k.choices → (s : Scenario) → IfRead (answer k) (λ t. s ≡ t) → IsBuilt s
  built_at built is sources s same = built_by built (answer k) refl is sources s same

  -- ---- the order so far

  laid_by : TreesAreLaidOut → (a : Answer) → answer k ≡ a → IsRead a → ReadsTree (view_model k.model) k.root k.seed k.level k.choices → (s : Scenario) → IfRead a (λ t. s ≡ t) → IsLaidOut s
  laid_by laid (Options t n) e is tree s same = laid (view_model k.model) k.root k.seed k.level k.choices s tree (subst (λ a. HasRead a s) (sym e) (sym same))
  laid_by laid (Whole t) e is tree s same = laid (view_model k.model) k.root k.seed k.level k.choices s tree (subst (λ a. HasRead a s) (sym e) (sym same))
  laid_by laid Dead e is tree s same = absurd is

  pub laid_at : TreesAreLaidOut → IsRead (answer k) → ReadsTree (view_model k.model) k.root k.seed k.level k.choices → (s : Scenario) → IfRead (answer k) (λ t. s ≡ t) → IsLaidOut s
  laid_at laid is tree s same = laid_by laid (answer k) refl is tree s same

  ordered_by : RefusalsAheadStay → (a : Answer) → answer k ≡ a → IsRead a → (s : Scenario) → IfRead a (λ t. s ≡ t) → IsRefusedAhead s → barren_at k
  ordered_by law (Options t n) e is s same refused = law (view_model k.model) k.root k.seed k.level k.choices s (subst (λ a. HasRead a s) (sym e) (sym same)) refused
  ordered_by law (Whole t) e is s same refused = law (view_model k.model) k.root k.seed k.level k.choices s (subst (λ a. HasRead a s) (sym e) (sym same)) refused
  ordered_by law Dead e is s same refused = absurd is

  pub order_barren : RefusalsAheadStay → IsRead (answer k) → (s : Scenario) → IfRead (answer k) (λ t. s ≡ t) → IsRefusedAhead s → barren_at k
  order_barren law is s same refused = ordered_by law (answer k) refl is s same refused

  -- ---- needs that no action serves

  needs_by : UnservedNeedsRefuseLists → (a : Answer) → answer k ≡ a → IsRead a → ReadsTree (view_model k.model) k.root k.seed k.level k.choices → (s : Scenario) → IfRead a (λ t. s ≡ t) → IsLacking s → barren_at k
  needs_by law (Options t n) e is tree s same lacks = law (view_model k.model) k.root k.seed k.level k.choices s tree (subst (λ a. HasRead a s) (sym e) (sym same)) lacks
  needs_by law (Whole t) e is tree s same lacks = law (view_model k.model) k.root k.seed k.level k.choices s tree (subst (λ a. HasRead a s) (sym e) (sym same)) lacks
  needs_by law Dead e is tree s same lacks = absurd is

  pub needs_barren : UnservedNeedsRefuseLists → IsRead (answer k) → ReadsTree (view_model k.model) k.root k.seed k.level k.choices → (s : Scenario) → IfRead (answer k) (λ t. s ≡ t) → IsLacking s → barren_at k
  needs_barren law is tree s same lacks = needs_by law (answer k) refl is tree s same lacks

  -- ---- whole scenarios

  pub whole_at : (a : Answer) → answer k ≡ a → IsWhole a → (s : Scenario) × (answer k ≡ Whole s)
  whole_at (Options s n) e is = absurd is
  whole_at Dead e is = absurd is
  whole_at (Whole s) e is = (s, e)

  pub whole_barren : WholeListsEnd → LegalIsUnrefused → (s : Scenario) → answer k ≡ Whole s → (Holds (view_model k.model) s → IsUnrefused s → ⊥) → barren_at k
  whole_barren ends unrefused s e none [] t reads =
      let both : Whole s ≡ Whole t = sym e ∙ ap (read (view_model k.model) k.root k.seed k.level) (sym (append-nil k.choices)) ∙ reads.reads in
      let same : t ≡ s = cc in
      none (subst (Holds (view_model k.model)) same reads.legal.holds) (subst IsUnrefused same (unrefused (view_model k.model) k.root t reads.legal))
  whole_barren ends unrefused s e none (d ∷ ds) t reads =
      let dead = ends (view_model k.model) k.root k.seed k.level k.choices s d ds e in
      let both : Dead ≡ Whole t = sym dead ∙ reads.reads in
      absurd cc

  pub whole_legal : PlannedReadingsAreLegal → IsSound (view_model k.model) → IsConcreteRoot (view_model k.model) k.root → (s : Scenario) → answer k ≡ Whole s → TellsLegal (view_model k.model) s true
      → Sought (kept_of k) k.level k.choices
  whole_legal law sound concrete s e judges =
      (s, (law (view_model k.model) k.root k.seed k.level k.choices s judges.1.0 sound concrete e judges.0 judges.1.1).0)

  whole_read_in : (a : Answer) → IsWhole a → IsRead a
  whole_read_in (Options s n) is = absurd is
  whole_read_in Dead is = absurd is
  whole_read_in (Whole s) is = tt

  pub whole_read : IsWhole (answer k) → IsRead (answer k)
  whole_read is = whole_read_in (answer k) is

  whole_in : (a : Answer) (r : Scenario) → IsWhole a → IfRead a (λ s. r ≡ s) → a ≡ Whole r
  whole_in (Options s n) r is same = absurd is
  whole_in Dead r is same = absurd is
  whole_in (Whole s) r is same = ap Whole (sym same)

  pub whole_is : (r : Scenario) → IsWhole (answer k) → IfRead (answer k) (λ s. r ≡ s) → answer k ≡ Whole r
  whole_is r is same = whole_in (answer k) r is same

  pub whole_built : WholeReadingsAreBuilt → (r : Scenario) → IsWhole (answer k) → IfRead (answer k) (λ s. r ≡ s) → IsBuilt r
  whole_built law r is same = (law (view_model k.model) k.root k.seed k.level k.choices r (whole_is r is same)).0

  pub whole_refused : WholeListsEnd → LegalIsUnrefused → (r : Scenario) (b : Bool) → IsWhole (answer k) → IfRead (answer k) (λ s. r ≡ s) → b ≡ false → TellsLegal (view_model k.model) r b → barren_at k
  whole_refused ends unrefused r b is same off told = whole_barren ends unrefused r (whole_is r is same) (subst (TellsLegal (view_model k.model) r) off told)

  pub whole_sought : PlannedReadingsAreLegal → IsSound (view_model k.model) → IsConcreteRoot (view_model k.model) k.root → (r : Scenario) (b : Bool) → IsWhole (answer k) → IfRead (answer k) (λ s. r ≡ s) → b ≡ true → TellsLegal (view_model k.model) r b
      → Sought (kept_of k) k.level k.choices
  whole_sought law sound concrete r b is same on told = whole_legal law sound concrete r (whole_is r is same) (subst (TellsLegal (view_model k.model) r) on told)

  whole_same : (s r : Scenario) → answer k ≡ Whole s → answer k ≡ Whole r → s ≡ r
  whole_same s r e f = let both : Whole s ≡ Whole r = sym e ∙ f in cc

  pub has_plan : (p : Entries) (r : Scenario) → IsWhole (answer k) → IfRead (answer k) (λ s. r ≡ s) → HasPlan k p → IsPlanOf r p
  has_plan p r is same has = subst (λ s. IsPlanOf s p) (whole_same has.0 r has.1 (whole_is r is same)) has.2

  pub known_plan : (o : Option Entries) (b : Bool) (r : Scenario) → IsWhole (answer k) → IfRead (answer k) (λ s. r ≡ s) → IsPlanned k o → b ≡ is_some o → b ≡ true → (p : Entries) × IsPlanOf r p
  known_plan None b r is same planned told on = absurd cc
  known_plan (Some p) b r is same planned told on = (p, has_plan p r is same planned)

  -- ---- what is shown

  pub next_options : (n : ℕ) → next_of (answer k) ≡ next.Options n → IsRead (answer k) × IsAnswer (answer k) (look.Options n)
  next_options n e = options_in (answer k) n e
    where
      options_in : (a : Answer) (n : ℕ) → next_of a ≡ next.Options n → IsRead a × IsAnswer a (look.Options n)
      options_in (Options s i) n e = let same : i ≡ n = cc in (tt, same)
      options_in Dead n e = absurd cc
      options_in (Whole s) n e = absurd cc

  pub next_whole : next_of (answer k) ≡ next.Whole → IsRead (answer k) × IsAnswer (answer k) look.Whole
  next_whole e = whole_end (answer k) e
    where
      whole_end : (a : Answer) → next_of a ≡ next.Whole → IsRead a × IsAnswer a look.Whole
      whole_end (Options s i) e = absurd cc
      whole_end Dead e = absurd cc
      whole_end (Whole s) e = (tt, tt)

  -- ---- conflicts

  pub closes : BarrenListsConflict → barren_at k → (c : Conflict) → IsEarlier c (length k.choices) → IsConflict (kept_of k) c
  closes law barren c earlier = law (kept_of k) c refl earlier barren

  rests_by : PlacesRestOnEarlierOnes → (a : Answer) → answer k ≡ a → (count : ℕ) → HasOptions a count → (c : Conflict) → IsEarlier c (length k.choices) → Rests (kept_of k) count c
  rests_by law (Options s n) e count is c earlier = subst (λ x. Rests (kept_of k) x c) is (law (kept_of k) c s n refl earlier e)
  rests_by law Dead e count is c earlier = absurd is
  rests_by law (Whole s) e count is c earlier = absurd is

  pub rests : PlacesRestOnEarlierOnes → (count : ℕ) → HasOptions (answer k) count → (c : Conflict) → IsEarlier c (length k.choices) → Rests (kept_of k) count c
  rests law count is c earlier = rests_by law (answer k) refl count is c earlier

  front_by : PlacesRestOnTheSources → (a : Answer) → answer k ≡ a → (count n : ℕ) → HasOptions a count → (c : Conflict) → HasFront k n → IsOfPlaces c n [] → Rests (kept_of k) count c
  front_by law (Options s i) e count n is c has of =
      subst (λ x. Rests (kept_of k) x c) is
      (law (kept_of k) c has.front has.present has.linked s i refl (record { choices = has.choices; reads = has.reads }) (subst (λ v. IsOfPlaces c v []) has.count of) e)
  front_by law Dead e count n is c has of = absurd is
  front_by law (Whole s) e count n is c has of = absurd is

  pub rests_behind : PlacesRestOnTheSources → (count n : ℕ) → HasOptions (answer k) count → (c : Conflict) → HasFront k n → IsOfPlaces c n [] → Rests (kept_of k) count c
  rests_behind law count n is c has of = front_by law (answer k) refl count n is c has of

  digit_in : (a : Answer) (d : ℕ) → NamesOption a d → HasDigit a d
  digit_in (Options s n) d has = has
  digit_in Dead d has = absurd has
  digit_in (Whole s) d has = absurd has

  pub digit_at : (d : ℕ) → NamesOption (answer k) d → HasDigit (answer k) d
  digit_at d has = digit_in (answer k) d has
