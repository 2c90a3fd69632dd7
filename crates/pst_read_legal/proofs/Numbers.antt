-- The actions that are inferred are numbered in the order in which the needs name them.
use Rattle.std.proofs.Common.{◌≡◌, ◌≢◌, ◌⊎◌, ℕ, suc, ◌+◌, ◌<◌, ◌≤◌, List, [], ◌∷◌, ◌++◌, map, length, cond, Bool, true, false, not, ◌&&◌, ◌||◌, nat_eq, if◌then◌else◌, Option, Some, None, refl, sym, ap, ap₂, ◌∙◌, subst, arith, length-append, inl, inr, ⊎_elim}
use Rattle.std.specs.Prelude.{slice_get, flat_map}
use Rattle.std.specs.List.{enumerate_from, filter}
use Rattle.std.specs.Option.{option_and_then}
use Rattle.std.proofs.lemmas.Bool.{and_parts, and_from, or_left, or_cases, cases_lt, false≢true}
use Rattle.std.proofs.lemmas.List.{length-map}
use Rattle.std.proofs.lemmas.Option.{none-some, same_Some, slice_get_within, option_and_then_some}
use Rattle.pst_model.specs.ModelTree.{ModelTree, ActionTree}
use Rattle.pst_scen.specs.declared.act.Act.{Act}
use Rattle.pst_scen.specs.declared.act.Filled.{Filled}
use Rattle.pst_scen.specs.declared.act.Link.{Link}
use Rattle.pst_scen.specs.declared.act.Link.TheVariants as link
use Rattle.pst_scen.specs.declared.scenario.Scenario.{Scenario}
use Rattle.pst_scen.specs.Scenarios.{reference_at, leaves_of}
use Rattle.pst_legal.specs.Growing.{nothing_yet, open_act, open_reference, open_references}
use Rattle.pst_legal.specs.Types.{type_of}
use Rattle.pst_legal.specs.Reading.{Reading, Reads, then_read, read_tree}
use Rattle.pst_legal.specs.Supplied.{is_need, NamesBelow, Linking, linkings_in, linkings, AreNamedInTurn}
use Rattle.pst_legal.specs.SupplyReading.{Spot, Source, Initially, From, New, spots, same_link, is_open, is_stream, is_writer, is_previous, fixed_for, is_elsewhere, has_turn, next_need, is_free, fits, is_candidate, sources_by, sources, with_link, act_with_link, put_link, linked_to, supplied_by, read_supply}
use Rattle.pst_legal.specs.ValueReading.{read_values, read_all}
use Rattle.pst_built.specs.GoesOn.{GoesOn}
use Rattle.pst_built.proofs.Members.{In, in_get, in_find, in_if, in_map}
use Rattle.pst_built.proofs.Bares.{Bare, bare, bares_in, bares, bare_from, node_in}
use Rattle.pst_built.proofs.Trees.{Grown, IsGrowth, tree_grows}
use Rattle.pst_built.proofs.Values.{IsValued, values_keep}
use Rattle.pst_built.proofs.Goes.{Stands, stands}
use Rattle.pst_built.proofs.Readers.{goes_supply}
use Rattle.pst_built.proofs.Went.{twice}
use Rattle.pst_built.proofs.Filled.{answered, gives_here}
use Rattle.pst_built.proofs.Parents.{get_more, get_last, get_cases}
use Rattle.pst_built.proofs.Spots.{spot_is, Suits, suits}
use Rattle.pst_built.proofs.Steps.{goes_supplied}
use Rattle.pst_built.proofs.Lists.{length_numbered}
use Rattle.pst_built.proofs.ReachedLinks.{same_is}
use Rattle.pst_built.proofs.Naming.{below_more}
use Rattle.pst_built.proofs.Splits.{IsEarlier, spot_at, linking_at, first_found}
use Rattle.pst_read_legal.specs.ReadNumbersLaws.{WholeReadingsAreNumbered}
use Rattle.pst_read_legal.proofs.Came.{put_came, linked_came, linked_need}
use Rattle.pst_read_legal.proofs.Turns.{IsNamed, in_turn}

abbrev pub AreBelow : List Act → Type 0
AreBelow acts = (a r : ℕ) (f : Filled) → reference_at acts a r ≡ Some f → (a < length acts) × NamesBelow (length acts) f.link

-- the action is named, and each need before the one that names it first is linked
record NamedSoFar (acts : List Act) (k : ℕ) : Type 0 where
  named : IsNamed acts k
  linked : (b q : ℕ) (f : Filled) → IsEarlier b q named.act named.reference → reference_at acts b q ≡ Some f → is_need f.flow ≡ true → f.link ≢ link.Nothing

-- those below the top are named
record Numbered (leaves top : ℕ) (acts : List Act) : Type 0 where
  from : leaves ≤ top
  below : AreBelow acts
  named : (k : ℕ) → leaves ≤ k → k < top → NamedSoFar acts k

-- ---- one link more

-- what the link of a need and of its source's end leaves as it was
record Step (acts new : List Act) (need : Spot) : Type 0 where
  long : length new ≡ length acts
  came : (x y : ℕ) (f : Filled) → reference_at new x y ≡ Some f → (g : Filled) × (reference_at acts x y ≡ Some g) × (f.flow ≡ g.flow) × ((f.link ≡ g.link) ⊎ ((g.link ≡ link.Nothing) × NamesBelow (length acts) f.link))
  on : (x y : ℕ) (g : Filled) → reference_at acts x y ≡ Some g → g.link ≢ link.Nothing → (f : Filled) × (reference_at new x y ≡ Some f) × (f.flow ≡ g.flow) × (f.link ≡ g.link)

step_numbered : (leaves top : ℕ) (acts new : List Act) (need : Spot) → Step acts new need → Numbered leaves top acts → Numbered leaves top new
step_numbered leaves top acts new need step is = record {
  from = is.from;
  below = λ a r f at.
      let c = step.came a r f at in
      let b = is.below a r c.0 c.1 in
      let names : NamesBelow (length acts) f.link = ⊎_elim (λ (e : f.link ≡ c.0.link). subst (NamesBelow (length acts)) (sym e) b.1) (λ (e : (c.0.link ≡ link.Nothing) × NamesBelow (length acts) f.link). e.1) c.3 in
      (subst (λ n. a < n) (sym step.long) b.0, subst (λ n. NamesBelow n f.link) (sym step.long) names);
  named = λ k l m.
      let x = is.named k l m in
      let w = x.named in
      let names = w.names in
      let there = step.on w.act w.reference w.filled w.at (λ none. not_nothing k w.other (sym names ∙ none)) in
      let early = λ (b q : ℕ) (f : Filled) (e : IsEarlier b q w.act w.reference) (at : reference_at new b q ≡ Some f) (wants : is_need f.flow ≡ true).
      kept k w x.linked b q f e wants (step.came b q f at) in
      record {
        named = record {
          act = w.act;
          reference = w.reference;
          filled = there.0;
          at = there.1;
          need = ap is_need there.2 ∙ w.need;
          other = w.other;
          names = there.3 ∙ w.names;
          above = w.above;
          first = λ b q f e at wants. (early b q f e at wants).0;
        };
        linked = λ b q f e at wants. (early b q f e at wants).1;
      };
}
  where
    not_nothing : (k q : ℕ) → link.Act k q ≡ link.Nothing → ⊥
    not_nothing k q e = cc

    kept : (k : ℕ) (w : IsNamed acts k) → ((b q : ℕ) (f : Filled) → IsEarlier b q w.act w.reference → reference_at acts b q ≡ Some f → is_need f.flow ≡ true → f.link ≢ link.Nothing)
        → (b q : ℕ) (f : Filled) → IsEarlier b q w.act w.reference → is_need f.flow ≡ true
        → (g : Filled) × (reference_at acts b q ≡ Some g) × (f.flow ≡ g.flow) × ((f.link ≡ g.link) ⊎ ((g.link ≡ link.Nothing) × NamesBelow (length acts) f.link)) → NamesBelow k f.link × (f.link ≢ link.Nothing)
    kept k w linked b q f e wants (g, at, flow, cases) =
        let need : is_need g.flow ≡ true = ap is_need (sym flow) ∙ wants in
        let some = linked b q g e at need in
        ⊎_elim (λ (same : f.link ≡ g.link). (subst (NamesBelow k) (sym same) (w.first b q g e at need), (λ none. some (sym same ∙ none))))
        (λ (new : (g.link ≡ link.Nothing) × NamesBelow (length acts) f.link). absurd (some new.0)) cases

-- ---- sources

length_put : (a r : ℕ) (to : Link) (acts : List Act) → length (put_link a r to acts) ≡ length acts
length_put a r to acts = length-map (enumerate_from 0 acts) (λ e. if nat_eq e.0 a then act_with_link r to e.1 else e.1) ∙ length_numbered 0 acts

length_linked : (need : Spot) (b q : ℕ) (acts : List Act) → length (linked_to need b q acts) ≡ length acts
length_linked need b q acts = by (is_stream need.filled.flow)
  where
    by : (c : Bool) → length (if c then put_link b q (link.Act need.act need.reference) (put_link need.act need.reference (link.Act b q) acts) else put_link need.act need.reference (link.Act b q) acts) ≡ length acts
    by true = length_put b q (link.Act need.act need.reference) (put_link need.act need.reference (link.Act b q) acts) ∙ length_put need.act need.reference (link.Act b q) acts
    by false = length_put need.act need.reference (link.Act b q) acts

need_open : (m : ModelTree) (s : Scenario) (need : Spot) (source : Source) (k : ℕ) → next_need m s ≡ Some need → slice_get (sources m s need) k ≡ Some source → is_open need ≡ true
need_open m s need source k turn is =
    let found = in_find (has_turn m s) (spots s.actions) need turn in
    let p = and_parts _ (is_open need || is_elsewhere (fixed_for m s need) need) found.1 in
    by (fixed_for m s need) p.1 (in_get (sources m s need) k source is)
  where
    by : (o : Option (ℕ × ℕ)) → (is_open need || is_elsewhere o need) ≡ true → In source (sources_by m s need o) → is_open need ≡ true
    by None e has = ⊎_elim (λ (h : is_open need ≡ true). h) (λ h. absurd (false≢true h)) (or_cases (is_open need) false e)
    by (Some x) e has = (in_if (is_open need) _ source has).0

fresh_unlinked : (m : ModelTree) (action instance : ℕ) (type : Option ActionTree) (q : ℕ) (f : Filled) → slice_get (open_references m action instance type) q ≡ Some f → f.link ≡ link.Nothing
fresh_unlinked m action instance None q f is = absurd (none-some f is)
fresh_unlinked m action instance (Some type) q f is =
    let i = in_map (open_reference m action instance) (enumerate_from 0 type.references) f (in_get (map (open_reference m action instance) (enumerate_from 0 type.references)) q f is) in
    ap (λ (g : Filled). g.link) (sym i.2)

-- a reference that is linked stays so where the scenario goes on
stays_linked : (s t : Scenario) → GoesOn s t → (x y : ℕ) (g : Filled) → reference_at s.actions x y ≡ Some g → g.link ≢ link.Nothing → (f : Filled) × (reference_at t.actions x y ≡ Some f) × (f.flow ≡ g.flow) × (f.link ≡ g.link)
stays_linked s t on x y g at some =
    option_and_then_some (λ (z : Act). slice_get z.references y) (slice_get s.actions x) g at
    (λ act there has.
    let a = on.acts x act there in
    let f = a.2.references y g has in
    (f.0, ap (option_and_then (λ (z : Act). slice_get z.references y)) a.1 ∙ f.1, f.2.flow, ⊎_elim (λ none. absurd (some none)) (λ e. e) f.2.link))

reference_low : (acts : List Act) (a r : ℕ) (f : Filled) → reference_at acts a r ≡ Some f → a < length acts
reference_low acts a r f at = option_and_then_some (λ (y : Act). slice_get y.references r) (slice_get acts a) f at (λ act there has. slice_get_within acts a act there)

was_open : (acts : List Act) (need : Spot) → reference_at acts need.act need.reference ≡ Some need.filled → need.filled.link ≡ link.Nothing → (x y : ℕ) (g : Filled) → reference_at acts x y ≡ Some g → x ≡ need.act → y ≡ need.reference → g.link ≡ link.Nothing
was_open acts need at none x y g has e f = ap (λ (z : Filled). z.link) (same_Some g need.filled (sym has ∙ (λ i. reference_at acts (e i) (f i)) ∙ at)) ∙ none

end_open : (acts : List Act) (need : Spot) (b q : ℕ) (source : Filled) → reference_at acts b q ≡ Some source → is_candidate acts need (spot_at b q source) ≡ true → is_stream need.filled.flow ≡ true → (x y : ℕ) (g : Filled) → reference_at acts x y ≡ Some g → x ≡ b → y ≡ q → g.link ≡ link.Nothing
end_open acts need b q source at candidate stream x y g has e f =
    let spot = spot_at b q source in
    let p = and_parts (not (nat_eq b need.act)) (fits need.filled source && is_free acts need.filled spot) candidate in
    let h = and_parts (fits need.filled source) (is_free acts need.filled spot) p.1 in
    let ends : is_open spot ≡ true = sym (ap (λ c. if c then is_open spot else not (is_writer need.filled.flow && is_previous acts need.filled.pool (link.Act b q))) stream) ∙ h.1 in
    ap (λ (z : Filled). z.link) (same_Some g source (sym has ∙ (λ i. reference_at acts (e i) (f i)) ∙ at)) ∙ same_is source.link link.Nothing ends

wide_at : (acts : List Act) (act : Act) (a r : ℕ) (f : Filled) → reference_at acts a r ≡ Some f → reference_at (acts ++ act ∷ []) a r ≡ Some f
wide_at acts act a r f at =
    option_and_then_some (λ (y : Act). slice_get y.references r) (slice_get acts a) f at
    (λ x there has. ap (option_and_then (λ (y : Act). slice_get y.references r)) (get_more acts (act ∷ []) a x there) ∙ has)

wide_came : (acts : List Act) (act : Act) (a r : ℕ) (f : Filled) → reference_at (acts ++ act ∷ []) a r ≡ Some f → (reference_at acts a r ≡ Some f) ⊎ (a ≡ length acts)
wide_came acts act a r f at =
    option_and_then_some (λ (y : Act). slice_get y.references r) (slice_get (acts ++ act ∷ []) a) f at
    (λ x there has. ⊎_elim (λ old. inl (ap (option_and_then (λ (y : Act). slice_get y.references r)) old ∙ has)) (λ new. inr new.0) (get_cases acts act a x there))

new_unlinked : (m : ModelTree) (acts : List Act) (action instance : ℕ) (x y : ℕ) (g : Filled) → reference_at (acts ++ open_act m action instance None ∷ []) x y ≡ Some g → x ≡ length acts → g.link ≡ link.Nothing
new_unlinked m acts action instance x y g has e =
    let act = open_act m action instance None in
    fresh_unlinked m action instance (type_of m action) y g
    (sym (ap (option_and_then (λ (z : Act). slice_get z.references y)) (ap (slice_get (acts ++ act ∷ [])) e ∙ get_last acts act)) ∙ has)

wide_numbered : (m : ModelTree) (leaves : ℕ) (acts : List Act) (action instance : ℕ) → Numbered leaves (length acts) acts → Numbered leaves (length acts) (acts ++ open_act m action instance None ∷ [])
wide_numbered m leaves acts action instance is =
    let act = open_act m action instance None in
    let wider : length (acts ++ act ∷ []) ≡ suc (length acts) = length-append acts (act ∷ []) ∙ omega arith in
    record {
      from = is.from;
      below = λ a r f at.
          let low = reference_low (acts ++ act ∷ []) a r f at in
          (low, ⊎_elim (λ old. below_more (length acts) (length (acts ++ act ∷ [])) f.link (omega (arith, wider)) (is.below a r f old).1) (λ new. subst (NamesBelow (length (acts ++ act ∷ []))) (sym (new_unlinked m acts action instance a r f at new)) tt) (wide_came acts act a r f at));
      named = λ k l h.
          let x = is.named k l h in
          let w = x.named in
          let above = w.above in
          let old = λ (b q : ℕ) (f : Filled) (early : IsEarlier b q w.act w.reference) (at : reference_at (acts ++ act ∷ []) b q ≡ Some f). early_old acts act b q w.act w.reference k f early at above h in
          record {
            named = record {
              act = w.act;
              reference = w.reference;
              filled = w.filled;
              at = wide_at acts act w.act w.reference w.filled w.at;
              need = w.need;
              other = w.other;
              names = w.names;
              above = w.above;
              first = λ b q f early at wants. w.first b q f early (old b q f early at) wants;
            };
            linked = λ b q f early at wants. x.linked b q f early (old b q f early at) wants;
          };
    }
  where
    early_old : (acts : List Act) (act : Act) (b q a r k : ℕ) (f : Filled) → IsEarlier b q a r → reference_at (acts ++ act ∷ []) b q ≡ Some f → a < k → k < length acts → reference_at acts b q ≡ Some f
    early_old acts act b q a r k f early at above top = ⊎_elim (λ o. o) (λ (e : b ≡ length acts). absurd (late early e)) (wide_came acts act b q f at)
      where
        late : IsEarlier b q a r → b ≡ length acts → ⊥
        late (inl l) e = omega (arith, l, e, above, top)
        late (inr l) e = let h = l.0 in omega (arith, h, e, above, top)

module _ (m : ModelTree) (leaves : ℕ) where
  supplied_numbered : (s : Scenario) (need : Spot) (source : Source) (k : ℕ) → next_need m s ≡ Some need → slice_get (sources m s need) k ≡ Some source → Numbered leaves (length s.actions) s.actions
      → Numbered leaves (length (supplied_by m s need source).actions) (supplied_by m s need source).actions
  supplied_numbered s need source k turn is numbered = by source (suits m s need source (in_get (sources m s need) k source is)) (goes_supplied m s need source k turn is)
    where
      found : In need (spots s.actions) × (has_turn m s need ≡ true)
      found = in_find (has_turn m s) (spots s.actions) need turn

      at : reference_at s.actions need.act need.reference ≡ Some need.filled
      at = spot_is s.actions need found.0

      opens : is_open need ≡ true
      opens = need_open m s need source k turn is

      unlinked : need.filled.link ≡ link.Nothing
      unlinked = same_is need.filled.link link.Nothing opens

      low : need.act < length s.actions
      low = reference_low s.actions need.act need.reference need.filled at

      by : (source : Source) → Suits m s need source → GoesOn s (supplied_by m s need source) → Numbered leaves (length (supplied_by m s need source).actions) (supplied_by m s need source).actions
      by Initially suit on =
          let new = put_link need.act need.reference link.Initial s.actions in
          let long = length_put need.act need.reference link.Initial s.actions in
          subst (λ n. Numbered leaves n new) (sym long)
          (step_numbered leaves (length s.actions) s.actions new need
          (record {
            long = long;
            came = λ x y f has.
                let c = put_came s.actions need.act need.reference link.Initial x y f has in (
                  c.old,
                  c.at,
                  c.flow,
                  ⊎_elim (λ e. inl e) (λ (e : (x ≡ need.act) × (y ≡ need.reference) × (f.link ≡ link.Initial)). inr (was_open s.actions need at unlinked x y c.old c.at e.0 e.1, subst (NamesBelow (length s.actions)) (sym e.2) tt)) c.link,
                );
            on = stays_linked s (supplied_by m s need Initially) on;
          }) numbered)
      by (From b q) suit on =
          let new = linked_to need b q s.actions in
          let long = length_linked need b q s.actions in
          let far = reference_low s.actions b q suit.0 suit.1 in
          subst (λ n. Numbered leaves n new) (sym long)
          (step_numbered leaves (length s.actions) s.actions new need
          (record {
            long = long;
            came = λ x y f has.
                let c = linked_came need b q s.actions x y f has in (
                  c.old,
                  c.at,
                  c.flow,
                  ⊎_elim (λ e. inl e)
                      (λ h. inr (⊎_elim
                      (λ (e : (x ≡ need.act) × (y ≡ need.reference) × (f.link ≡ link.Act b q)). (was_open s.actions need at unlinked x y c.old c.at e.0 e.1, subst (NamesBelow (length s.actions)) (sym e.2) far))
                      (λ (e : (is_stream need.filled.flow ≡ true) × (x ≡ b) × (y ≡ q) × (f.link ≡ link.Act need.act need.reference)).
                      (end_open s.actions need b q suit.0 suit.1 suit.2 e.0 x y c.old c.at e.1 e.2, subst (NamesBelow (length s.actions)) (sym e.3) low)) h)) c.link,
                );
            on = stays_linked s (supplied_by m s need (From b q)) on;
          }) numbered)
      by (New action instance q) suit on =
          let n = length s.actions in
          let act = open_act m action instance None in
          let wide = s.actions ++ act ∷ [] in
          let new = linked_to need n q wide in
          let wider : length wide ≡ suc n = length-append s.actions (act ∷ []) ∙ omega arith in
          let long : length new ≡ length wide = length_linked need n q wide in
          let at_wide : reference_at wide need.act need.reference ≡ Some need.filled = wide_at s.actions act need.act need.reference need.filled at in
          let other : n ≢ need.act = λ e. let l = low in omega (arith, l, e) in
          let came = λ (x y : ℕ) (f : Filled) (has : reference_at new x y ≡ Some f). linked_came need n q wide x y f has in
          let step : Step wide new need = record {
            long = long;
            came = λ x y f has.
                let c = came x y f has in (
                  c.old,
                  c.at,
                  c.flow,
                  ⊎_elim (λ e. inl e)
                      (λ h. inr (⊎_elim
                      (λ (e : (x ≡ need.act) × (y ≡ need.reference) × (f.link ≡ link.Act n q)). let l : n < length wide = omega (arith, wider) in (was_open wide need at_wide unlinked x y c.old c.at e.0 e.1, subst (NamesBelow (length wide)) (sym e.2) l))
                      (λ (e : (is_stream need.filled.flow ≡ true) × (x ≡ n) × (y ≡ q) × (f.link ≡ link.Act need.act need.reference)).
                      let l = low in
                      let k : need.act < length wide = omega (arith, l, wider) in
                      (new_unlinked m s.actions action instance x y c.old c.at e.1, subst (NamesBelow (length wide)) (sym e.3) k)) h)) c.link,
                );
            on = λ x y g has some.
                ⊎_elim (λ old. stays_linked s (supplied_by m s need (New action instance q)) on x y g old some)
                (λ (fresh : x ≡ n). absurd (some (new_unlinked m s.actions action instance x y g has fresh))) (wide_came s.actions act x y g has);
          } in
          let first = step_numbered leaves n wide new need step (wide_numbered m leaves s.actions action instance numbered) in
          let top : NamedSoFar new n = record {
            named = record {
              act = need.act;
              reference = need.reference;
              filled = with_link (link.Act n q) need.filled;
              at = linked_need need n q wide other at_wide;
              need = (and_parts (is_need need.filled.flow) _ found.1).0;
              other = q;
              names = refl;
              above = low;
              first = λ b r f early has wants. (earlier_linked b r f early wants (step.came b r f has)).0;
            };
            linked = λ b r f early has wants. (earlier_linked b r f early wants (step.came b r f has)).1;
          } in
          let same : length new ≡ suc n = long ∙ wider in
          subst (λ k. Numbered leaves k new) (sym same)
          (record {
            from = let l = numbered.from in omega (arith, l);
            below = first.below;
            named = λ k l h. ⊎_elim (λ (low : k < n). first.named k l low) (λ (high : n ≤ k). let e : n ≡ k = omega (arith, h, high) in subst (NamedSoFar new) e top) (cases_lt k n);
          })
        where
          not_late : (b r : ℕ) → b ≡ length s.actions → IsEarlier b r need.act need.reference → ⊥
          not_late b r e (inl l) = let h = low in omega (arith, l, e, h)
          not_late b r e (inr l) = let h = low in let k = l.0 in omega (arith, k, e, h)

          earlier_linked : (b r : ℕ) (f : Filled) → IsEarlier b r need.act need.reference → is_need f.flow ≡ true
              → (g : Filled) × (reference_at (s.actions ++ open_act m action instance None ∷ []) b r ≡ Some g) × (f.flow ≡ g.flow) × ((f.link ≡ g.link) ⊎ ((g.link ≡ link.Nothing) × NamesBelow (length (s.actions ++ open_act m action instance None ∷ [])) f.link))
              → NamesBelow (length s.actions) f.link × (f.link ≢ link.Nothing)
          earlier_linked b r f early wants (g, has, flow, cases) =
              let in_old : reference_at s.actions b r ≡ Some g = ⊎_elim (λ old. old) (λ (e : b ≡ length s.actions). absurd (not_late b r e early)) (wide_came s.actions (open_act m action instance None) b r g has) in
              let need_g : is_need g.flow ≡ true = ap is_need (sym flow) ∙ wants in
              let some : g.link ≢ link.Nothing = λ none.
              first_found (has_turn m s) s.actions need b r g turn in_old early
              (and_from (is_need g.flow) (is_open (spot_at b r g) || is_elsewhere (fixed_for m s (spot_at b r g)) (spot_at b r g)) need_g (or_left (is_open (spot_at b r g)) (is_elsewhere (fixed_for m s (spot_at b r g)) (spot_at b r g)) (ap (λ l. same_link l link.Nothing) none))) in
              ⊎_elim (λ (same : f.link ≡ g.link). (subst (NamesBelow (length s.actions)) (sym same) (numbered.below b r g in_old).1, (λ none. some (sym same ∙ none)))) (λ new. absurd (some new.0)) cases

-- ---- values change no link

abbrev bare_row : ℕ × List Bare → List Linking
bare_row e = map (λ f. record { act = e.0; reference = f.0; link = f.1.link }) (filter (λ (f : ℕ × Bare). is_need f.1.flow) (enumerate_from 0 e.1))

row_bare : (a k : ℕ) (refs : List Filled)
    → map (λ (f : ℕ × Filled). linking_at a f.0 f.1) (filter (λ (f : ℕ × Filled). is_need f.1.flow) (enumerate_from k refs)) ≡ map (λ (f : ℕ × Bare). record { act = a; reference = f.0; link = f.1.link }) (filter (λ (f : ℕ × Bare). is_need f.1.flow) (enumerate_from k (map bare refs)))
row_bare a k [] = refl
row_bare a k (f ∷ refs) = by (is_need f.flow) (row_bare a (k + 1) refs)
  where
    by : (b : Bool) → map (λ (f : ℕ × Filled). linking_at a f.0 f.1) (filter (λ (f : ℕ × Filled). is_need f.1.flow) (enumerate_from (k + 1) refs)) ≡ map (λ (f : ℕ × Bare). record { act = a; reference = f.0; link = f.1.link }) (filter (λ (f : ℕ × Bare). is_need f.1.flow) (enumerate_from (k + 1) (map bare refs)))
        → map (λ (f : ℕ × Filled). linking_at a f.0 f.1) (cond b ((k, f) ∷ filter (λ (f : ℕ × Filled). is_need f.1.flow) (enumerate_from (k + 1) refs)) (filter (λ (f : ℕ × Filled). is_need f.1.flow) (enumerate_from (k + 1) refs)))
        ≡ map (λ (f : ℕ × Bare). record { act = a; reference = f.0; link = f.1.link }) (cond b ((k, bare f) ∷ filter (λ (f : ℕ × Bare). is_need f.1.flow) (enumerate_from (k + 1) (map bare refs))) (filter (λ (f : ℕ × Bare). is_need f.1.flow) (enumerate_from (k + 1) (map bare refs))))
    by true e = ap (λ ls. linking_at a k f ∷ ls) e
    by false e = e

all_bare : (k : ℕ) (acts : List Act) → flat_map linkings_in (enumerate_from k acts) ≡ flat_map bare_row (enumerate_from k (bares acts))
all_bare k [] = refl
all_bare k (x ∷ xs) = ap₂ (λ a b. a ++ b) (row_bare k 0 x.references) (all_bare (k + 1) xs)

-- ---- the activity

tree_numbered : (s : Scenario) (level : ℕ) → Grown level s → Numbered (length (leaves_of s.nodes)) (length s.actions) s.actions
tree_numbered s level grown =
    let many : length s.actions ≡ length (leaves_of s.nodes) = sym (length-map s.actions node_in) ∙ ap length grown.acts ∙ length-map (leaves_of s.nodes) (λ e. Some e.1) in
    record {
      from = omega (arith, many);
      below = λ a r f at. (reference_low s.actions a r f at, subst (NamesBelow (length s.actions)) (sym (grown.unlinked a r (bare f) (bare_from s.actions a r f at))) tt);
      named = λ k l h. absurd (omega (arith, many, l, h));
    }

-- ---- the sources

record Keeps (leaves : ℕ) (s t : Scenario) : Type 0 where
  nodes : t.nodes ≡ s.nodes
  numbered : Numbered leaves (length s.actions) s.actions → Numbered leaves (length t.actions) t.actions

keeps_same : (leaves : ℕ) (s : Scenario) → Keeps leaves s s
keeps_same leaves s = record { nodes = refl; numbered = λ is. is }

keeps_then : (leaves : ℕ) (s t u : Scenario) → Keeps leaves s t → Keeps leaves t u → Keeps leaves s u
keeps_then leaves s t u one other = record { nodes = other.nodes ∙ one.nodes; numbered = λ is. other.numbered (one.numbered is) }

nodes_stay : (m : ModelTree) (s : Scenario) (need : Spot) (source : Source) → (supplied_by m s need source).nodes ≡ s.nodes
nodes_stay m s need Initially = refl
nodes_stay m s need (From b q) = refl
nodes_stay m s need (New action instance q) = refl

read_stands : (leaves : ℕ) (s t : Scenario) (r : Reading) (place : ℕ) (left : List ℕ) → Stands (Keeps leaves) s r → r ≡ Reads t place left → Keeps leaves s t
read_stands leaves s t r place left stands e = subst (Stands (Keeps leaves) s) e stands

supply_keeps : (m : ModelTree) (leaves seed : ℕ) (s t : Scenario) (place : ℕ) (left : List ℕ) (end : ℕ) (rest : List ℕ) → read_supply m seed s place left ≡ Reads t end rest → Keeps leaves s t
supply_keeps m leaves seed s t place left end rest e =
    read_stands leaves s t (read_supply m seed s place left) end rest
    (stands (Keeps leaves) s (read_supply m seed s place left) (λ more. read_supply m seed s place (left ++ more))
    (goes_supply (Keeps leaves) (keeps_same leaves) (keeps_then leaves) m seed
    (λ u need source k turn is. record { nodes = nodes_stay m u need source; numbered = λ numbered. supplied_numbered m leaves u need source k turn is numbered }) left s place)) e

pub whole_numbered : WholeReadingsAreNumbered
whole_numbered m root seed level choices s e =
    let a = answered (read_all m seed root (nothing_yet level) 0 choices) s e in
    let w = twice (then_read (read_tree m seed root (nothing_yet level) 0 choices) (read_supply m seed)) (read_values m seed) s a.0 [] a.1 in
    let v = twice (read_tree m seed root (nothing_yet level) 0 choices) (read_supply m seed) w.mid w.place w.left w.first in
    let t = v.mid in
    let u = w.mid in
    let growth = gives_here (IsGrowth level (nothing_yet level) None) (read_tree m seed root (nothing_yet level) 0 choices) t v.place v.left (tree_grows m seed root level 0 choices) v.first in
    let leaves = length (leaves_of t.nodes) in
    let kept = supply_keeps m leaves seed t u v.place v.left w.place w.left v.second in
    let numbered = kept.numbered (tree_numbered t level growth.grown) in
    let turns : AreNamedInTurn (linkings u.actions) leaves (length u.actions) = in_turn u.actions leaves numbered.below (λ k l h. (numbered.named k l h).named) numbered.from in
    let valued = gives_here (IsValued m u) (read_values m seed u w.place w.left) s a.0 [] (values_keep m seed u w.place w.left) w.second in
    let rows = valued.same.references in
    let links : linkings u.actions ≡ linkings s.actions = all_bare 0 u.actions ∙ ap (λ xs. flat_map bare_row (enumerate_from 0 xs)) (sym rows) ∙ sym (all_bare 0 s.actions) in
    let many : length u.actions ≡ length s.actions = sym (length-map u.actions bares_in) ∙ ap length (sym rows) ∙ length-map s.actions bares_in in
    let own : leaves ≡ length (leaves_of s.nodes) = ap (λ ns. length (leaves_of ns)) (sym (valued.same.nodes ∙ kept.nodes)) in
    subst (λ n. AreNamedInTurn (linkings s.actions) n (length s.actions)) own
    (subst (λ n. AreNamedInTurn (linkings s.actions) leaves n) many (subst (λ ls. AreNamedInTurn ls leaves (length u.actions)) links turns))
