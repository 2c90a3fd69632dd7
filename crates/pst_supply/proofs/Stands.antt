-- What a walk's invariant says of its answers.
use Rattle.std.proofs.Common.{◌≡◌, ℕ, ◌+◌, ◌<◌, List, [], ◌∷◌, ◌++◌, length, Option, Some, None, Bool, true, false, nat_eq, nat_lt, if◌then◌else◌, refl, sym, ap, ◌∙◌, subst, arith, append_assoc, length-append}
use Rattle.std.specs.Prelude.{slice_get}
use Rattle.std.specs.Option.{option_map}
use Rattle.std.proofs.lemmas.Bool.{lt-ltb}
use Rattle.std.proofs.lemmas.Option.{none-some, same_Some}
use Rattle.std.proofs.lemmas.List.{append-nil}
use Rattle.pst_rng.specs.Words.{start_of}
use Rattle.pst_scen.specs.declared.act.Act.{Act}
use Rattle.pst_scen.specs.declared.scenario.Scenario.{Scenario}
use Rattle.pst_scen.specs.Scenarios.{leaves_of}
use Rattle.pst_legal.specs.Binds.{bounds_of, fixed_source}
use Rattle.pst_legal.specs.Reading.{Wants, Stops, Reads, Reader, option_at}
use Rattle.pst_legal.specs.SupplyReading.{Spot as Read, Source, Initially, From, New, next_need, sources, sources_by, supplied_by, inferred, chosen, read_turn, read_supply}
use Rattle.pst_legal.specs.ValueReading.{Answer, Options, Dead, Whole, answer_of}
use Rattle.pst_open_ends.specs.declared.spot.Spot.{Spot}
use Rattle.pst_open_ends.specs.Spots.{read_spot, kept_spot}
use Rattle.pst_open_ends.specs.Options.{options_by}
use Rattle.pst_open_ends.specs.Changes.{undone, supplied_acts, Supplies}
use Rattle.pst_supply.specs.declared.walk.Stop.{Stop}
use Rattle.pst_supply.specs.declared.walk.Made.{Made}
use Rattle.pst_supply.specs.Walks.{scenario_with, scenario_at, next_of, IfRead, HasDigit}
use Rattle.pst_supply.specs.Stops.{may_infer, options_at, stop_after, shown_by, shown_at}
use Rattle.pst_supply.specs.Choices.{digits_of, NamesSource}
use Rattle.pst_supply.specs.Made.{Ground, Stands, StopsAt, AllStand}

pub length-digits_of : (made : List Made) → length (digits_of made) ≡ length made
length-digits_of [] = refl
length-digits_of (x ∷ made) = let e = length-digits_of made in let w = length-append (digits_of made) (x.digit ∷ []) in omega arith

module _ (g : Ground) where
  abbrev now : List Act → Scenario
  now acts = scenario_with g.level g.nodes acts

  abbrev offered : List Act → Spot → List Source
  offered acts need = options_at g.model (bounds_of g.model g.nodes) acts (length (leaves_of g.nodes)) g.level need

  -- what the reading finds of the sources of a need is what the program finds
  sources_are : (acts : List Act) (n : Read) → sources g.model (now acts) n ≡ offered acts (kept_spot n)
  sources_are acts n = go (fixed_source (bounds_of g.model g.nodes) n.act n.reference n.filled.flow)
    where
      go : (o : Option (ℕ × ℕ)) → sources_by g.model (now acts) n o ≡ options_by g.model acts (may_infer (length acts) (length (leaves_of g.nodes)) g.level) (read_spot (kept_spot n)) o
      go None = refl
      go (Some source) = refl

  source_does : (acts : List Act) (n : Read) (source : Source) → supplied_by g.model (now acts) n source ≡ now (supplied_acts g.model acts (read_spot (kept_spot n)) source)
  source_does acts n Initially = refl
  source_does acts n (From b q) = refl
  source_does acts n (New action instance q) = refl

  -- ---- no choice is left

  abbrev shown_of : Option Spot → ℕ → Scenario → Answer
  shown_of None options s = if nat_eq (inferred s) s.level then Whole s else Dead
  shown_of (Some need) options s = if nat_lt 0 options then Options s options else Dead

  if_whole : (b : Bool) (s : Scenario) (place : ℕ) → answer_of (if b then Reads s place [] else Stops) ≡ (if b then Whole s else Dead)
  if_whole true s place = refl
  if_whole false s place = refl

  if_wants : (b : Bool) (s : Scenario) (n : ℕ) → answer_of (if b then Wants s n else Stops) ≡ (if b then Options s n else Dead)
  if_wants true s n = refl
  if_wants false s n = refl

  turn_answer : (acts : List Act) (stop : Stop) (place : ℕ) (go : Reader) (o : Option Read) → stop.need ≡ option_map kept_spot o → ((need : Spot) → stop.need ≡ Some need → stop.count ≡ length (offered acts need))
      → answer_of (read_turn g.model g.seed o go (now acts) place []) ≡ shown_of stop.need stop.count (now acts)
  turn_answer acts stop place go None e count =
      if_whole (nat_eq (inferred (now acts)) g.level) (now acts) place
      ∙ ap (λ need. shown_of need stop.count (now acts)) (sym e)
  turn_answer acts stop place go (Some n) e count =
      let size : length (sources g.model (now acts) n) ≡ stop.count = ap length (sources_are acts n) ∙ sym (count (kept_spot n) e) in
      if_wants (nat_lt 0 (length (sources g.model (now acts) n))) (now acts) (length (sources g.model (now acts) n))
      ∙ ap (λ k. if nat_lt 0 k then Options (now acts) k else Dead) size
      ∙ ap (λ need. shown_of need stop.count (now acts)) (sym e)

  stop_answer : (acts : List Act) (stop : Stop) (place : ℕ) → StopsAt g acts stop → answer_of (read_supply g.model g.seed (now acts) place []) ≡ shown_of stop.need stop.count (now acts)
  stop_answer acts stop place h = turn_answer acts stop place (λ s place left. Stops) (next_need g.model (now acts)) h.next h.count

  -- ---- one choice more

  turn_goes : (acts : List Act) (place digit : ℕ) (left : List ℕ) (go : Reader) (o : Option Read) (need : Spot) (source : Source) → Some need ≡ option_map kept_spot o → digit < length (offered acts need) → NamesSource g.seed place (offered acts need) digit source
      → read_turn g.model g.seed o go (now acts) place (digit ∷ left) ≡ go (now (supplied_acts g.model acts (read_spot need) source)) (place + 1) left
  turn_goes acts place digit left go None need source e d named = absurd (none-some need (sym e))
  turn_goes acts place digit left go (Some n) need source e d named =
      let is : need ≡ kept_spot n = same_Some need (kept_spot n) e in
      let opts = sources g.model (now acts) n in
      let same : opts ≡ offered acts need = sources_are acts n ∙ ap (offered acts) (sym is) in
      let below : digit < length opts = subst (λ l. digit < length l) (sym same) d in
      let got : slice_get opts (option_at (start_of g.seed place (length opts)) (length opts) digit) ≡ Some source = subst (λ l. NamesSource g.seed place l digit source) (sym same) named in
      ap (λ b. if b then chosen g.model n (slice_get opts (option_at (start_of g.seed place (length opts)) (length opts) digit)) go (now acts) (place + 1) left else Stops) (lt-ltb digit (length opts) below)
      ∙ ap (λ o. chosen g.model n o go (now acts) (place + 1) left) got
      ∙ ap (λ s. go s (place + 1) left) (source_does acts n source)
      ∙ ap (λ k. go (now (supplied_acts g.model acts (read_spot k) source)) (place + 1) left) (sym is)

  -- ---- what a walk has made

  pub standing : (first : Stop) (made : List Made) (acts : List Act) → AllStand g first made acts → Stands g (digits_of made) acts
  standing first [] acts h = record {
    reads = λ left. let z : g.place ≡ g.place + 0 = omega arith in
        ap (λ p. read_supply g.model g.seed (scenario_at g.model g.level g.nodes g.leaves) p left) z ∙ ap (λ l. read_supply g.model g.seed (now l) (g.place + 0) left) (sym h.0);
  }
  standing first (x ∷ older) acts h = h.0

  pub stops : (first : Stop) (made : List Made) (acts : List Act) → AllStand g first made acts → StopsAt g acts (stop_after first made)
  stops first [] acts h = h.1
  stops first (x ∷ older) acts h = h.1

  abbrev read_of : List ℕ → Answer
  read_of choices = answer_of (read_supply g.model g.seed (scenario_at g.model g.level g.nodes g.leaves) g.place choices)

  made_answer : (first : Stop) (made : List Made) (acts : List Act) → AllStand g first made acts → read_of (digits_of made) ≡ shown_of (stop_after first made).need (stop_after first made).count (now acts)
  made_answer first made acts h =
      ap read_of (sym (append-nil (digits_of made)))
      ∙ ap answer_of ((standing first made acts h).reads [])
      ∙ stop_answer acts (stop_after first made) (g.place + length (digits_of made)) (stops first made acts h)

  next_shown : (o : Option Spot) (options : ℕ) (acts : List Act) → next_of (shown_of o options (now acts)) ≡ shown_by o options (length acts) (length (leaves_of g.nodes)) g.level
  next_shown None options acts = go (nat_eq (inferred (now acts)) g.level)
    where
      go : (b : Bool) → next_of (if b then Whole (now acts) else Dead) ≡ (if b then next_of (Whole (now acts)) else next_of Dead)
      go true = refl
      go false = refl
  next_shown (Some need) options acts = go (nat_lt 0 options)
    where
      go : (b : Bool) → next_of (if b then Options (now acts) options else Dead) ≡ (if b then next_of (Options (now acts) options) else next_of Dead)
      go true = refl
      go false = refl

  -- what the walk stands at
  pub made_next : (first : Stop) (made : List Made) (acts : List Act) → AllStand g first made acts → next_of (read_of (digits_of made)) ≡ shown_at (stop_after first made) (length acts) (length (leaves_of g.nodes)) g.level
  made_next first made acts h = ap next_of (made_answer first made acts h) ∙ next_shown (stop_after first made).need (stop_after first made).count acts

  if_shown : (o : Option Spot) (options : ℕ) (s : Scenario) (P : Scenario → Type 0) → P s → IfRead (shown_of o options s) P
  if_shown None options s P h = go (nat_eq (inferred s) s.level)
    where
      go : (b : Bool) → IfRead (if b then Whole s else Dead) P
      go true = h
      go false = tt
  if_shown (Some need) options s P h = go (nat_lt 0 options)
    where
      go : (b : Bool) → IfRead (if b then Options s options else Dead) P
      go true = h
      go false = tt

  -- what is read so far
  pub made_reads : (first : Stop) (made : List Made) (acts : List Act) (P : Scenario → Type 0) → AllStand g first made acts → P (now acts) → IfRead (read_of (digits_of made)) P
  made_reads first made acts P h p = subst (λ a. IfRead a P) (sym (made_answer first made acts h)) (if_shown (stop_after first made).need (stop_after first made).count (now acts) P p)

  -- a digit that there is names a source of a need
  pub record Turns (acts : List Act) (o : Option Spot) (digit : ℕ) : Type 0 where
    pub need : Spot
    pub is : o ≡ Some need
    pub below : digit < length (offered acts need)

  digit_shown : (stop : Stop) (o : Option Spot) (acts : List Act) (digit : ℕ) → stop.need ≡ o → ((need : Spot) → stop.need ≡ Some need → stop.count ≡ length (offered acts need)) → HasDigit (shown_of o stop.count (now acts)) digit → Turns acts o digit
  digit_shown stop None acts digit e count h = go (nat_eq (inferred (now acts)) g.level) h
    where
      go : (b : Bool) → HasDigit (if b then Whole (now acts) else Dead) digit → Turns acts None digit
      go true h = absurd h
      go false h = absurd h
  digit_shown stop (Some need) acts digit e count h = go (nat_lt 0 stop.count) h
    where
      go : (b : Bool) → HasDigit (if b then Options (now acts) stop.count else Dead) digit → Turns acts (Some need) digit
      go true h = record { need = need; is = refl; below = subst (λ n. digit < n) (count need e) h }
      go false h = absurd h

  pub made_digit : (first : Stop) (made : List Made) (acts : List Act) (digit : ℕ) → AllStand g first made acts → HasDigit (read_of (digits_of made)) digit → Turns acts (stop_after first made).need digit
  made_digit first made acts digit h d =
      let s = stops first made acts h in
      digit_shown (stop_after first made) (stop_after first made).need acts digit refl s.count (subst (λ a. HasDigit a digit) (made_answer first made acts h) d)

  -- one choice more
  pub one_more : (first : Stop) (made : List Made) (acts new : List Act) (x : Made) (need : Spot) (source : Source) → AllStand g first made acts → (stop_after first made).need ≡ Some need → x.digit < length (offered acts need) → NamesSource g.seed (g.place + length made) (offered acts need) x.digit source
      → Supplies g.model (read_spot need) source x.change acts new → StopsAt g new x.stop → AllStand g first (x ∷ made) new
  one_more first made acts new x need source h n d named s stop =
      let at = stops first made acts h in
      let ds = digits_of made in
      let many : length made ≡ length ds = sym (length-digits_of made) in
      let goes = subst (λ k. NamesSource g.seed (g.place + k) (offered acts need) x.digit source) many named in
      let size : g.place + length ds + 1 ≡ g.place + length (ds ++ x.digit ∷ []) = let w = length-append ds (x.digit ∷ []) in omega arith in
      let stands : Stands g (ds ++ x.digit ∷ []) new =
      record {
        reads = λ left.
            ap (read_supply g.model g.seed (scenario_at g.model g.level g.nodes g.leaves) g.place) (append_assoc ds (x.digit ∷ []) left)
            ∙ (standing first made acts h).reads (x.digit ∷ left)
            ∙ turn_goes acts (g.place + length ds) x.digit left (λ more next rest. read_supply g.model g.seed more next left) (next_need g.model (now acts)) need source (sym n ∙ at.next) d goes
            ∙ ap (λ l. read_supply g.model g.seed (now l) (g.place + length ds + 1) left) (sym s.supplied)
            ∙ ap (λ p. read_supply g.model g.seed (now new) p left) size;
      } in
      (stands, stop, subst (AllStand g first made) s.back h)

  -- what the last choice changed
  pub last_change : (first : Stop) (x : Made) (older : List Made) (acts : List Act) → AllStand g first (x ∷ older) acts → IfRead (read_of (digits_of (x ∷ older))) (λ s. IfRead (read_of (digits_of older)) (λ t. t.actions ≡ undone x.change s.actions))
  last_change first x older acts h =
      made_reads first (x ∷ older) acts (λ s. IfRead (read_of (digits_of older)) (λ t. t.actions ≡ undone x.change s.actions)) h
      (made_reads first older (undone x.change acts) (λ t. t.actions ≡ undone x.change acts) h.2 refl)
