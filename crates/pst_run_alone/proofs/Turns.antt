-- What the core makes on one lane of turns.
use Rattle.std.proofs.Common.{◌≡◌, ◌≢◌, ◌≤◌, ◌<◌, ℕ, zero, suc, List, [], ◌∷◌, ◌++◌, length, false, refl, ap, sym, ◌∙◌, subst, append_assoc, append-nil, arith}
use Rattle.std.specs.Prelude.{Contains, Option, None, Some}
use Rattle.std.proofs.lemmas.List.{length-append, append_cancel_left}
use Rattle.pst_scen.specs.declared.event.Event.{Event}
use Rattle.pst_scen.specs.declared.event.Event.TheVariants.{Start, End}
use Rattle.pst_scen.specs.declared.scenario.Scenario.{Scenario}
use Rattle.pst_scen.specs.Trace.{Started, starts_of}
use Rattle.pst_scen.specs.Core.{Command, Open, Close, Opens, Step, Opened, Shut, Closed, Idle, Makes, Done, Then}
use Rattle.pst_exec.specs.Alone.{turns_of, events_of}

-- ---- one command

first_in : (x : ℕ) (xs : List ℕ) → Contains (x ∷ xs) x
first_in x xs = (0, omega arith, refl)

second_in : (x y : ℕ) (xs : List ℕ) → Contains (x ∷ y ∷ xs) y
second_in x y xs = (1, omega arith, refl)

-- one lane starts one action
pub record StartsOne (s : Scenario) (trace : List Event) (members used : List ℕ) : Type 0 where
  pub action : ℕ
  pub events : starts_of members used ≡ Start action 0 false ∷ []
  pub fresh : Started trace action → ⊥
  pub inside : action < length s.actions

pub starts_one : (s : Scenario) (trace : List Event) (members used : List ℕ) → Opens s 1 trace members used → StartsOne s trace members used
starts_one s trace [] used opens = let some = opens.ready.group.some in absurd (omega (arith, some))
starts_one s trace (a ∷ []) [] opens = let many = opens.free.many in absurd (omega (arith, many))
starts_one s trace (a ∷ []) (zero ∷ []) opens = record {
  action = a;
  events = refl;
  fresh = opens.ready.fresh a (first_in a []);
  inside = opens.ready.group.inside a (first_in a []);
}
starts_one s trace (a ∷ []) (suc l ∷ []) opens = let below = opens.free.below (suc l) (first_in (suc l) []) in absurd (omega (arith, below))
starts_one s trace (a ∷ []) (l ∷ k ∷ ls) opens = let many = opens.free.many in absurd (omega (arith, many))
starts_one s trace (a ∷ b ∷ more) [] opens = let many = opens.free.many in absurd (omega (arith, many))
starts_one s trace (a ∷ b ∷ more) (l ∷ []) opens = let many = opens.free.many in absurd (omega (arith, many))
starts_one s trace (a ∷ b ∷ more) (l ∷ k ∷ ls) opens =
    let first = opens.free.below l (first_in l (k ∷ ls)) in
    let second = opens.free.below k (second_in l k ls) in
    let apart : l ≢ k = opens.free.different 0 1 (omega arith) (omega arith) in
    absurd (apart (omega (arith, first, second)))

-- so many events at most come behind a trace
pub record Grows (t u : List Event) (most : ℕ) : Type 0 where
  pub more : List Event
  pub are : u ≡ t ++ more
  pub few : length more ≤ most

pub step_grows : (s : Scenario) (t u : List Event) (c : Command) → Step s 1 t c u → Grows t u 1
step_grows s t _ _ (Opened members used opens) =
    let one = starts_one s t members used opens in
    record { more = starts_of members used; are = refl; few = subst (λ (es : List Event). length es ≤ 1) (sym one.events) (omega arith) }
step_grows s t _ _ (Shut none) = record { more = []; are = sym (append-nil t); few = omega arith }
step_grows s t _ _ (Closed a runs) = record { more = End a ∷ []; are = refl; few = omega arith }
step_grows s t _ _ (Idle a none) = record { more = []; are = sym (append-nil t); few = omega arith }

pub makes_grow : (s : Scenario) (t u : List Event) (cs : List Command) → Makes s 1 t cs u → Grows t u (length cs)
makes_grow s t _ _ (Done _) = record { more = []; are = sym (append-nil t); few = omega arith }
makes_grow s t u _ (Then _ middle _ c more step rest) =
    let first = step_grows s t middle c step in
    let second = makes_grow s middle u more rest in
    let one = first.few in
    let others = second.few in
    record {
      more = first.more ++ second.more;
      are = second.are ∙ ap (λ (l : List Event). l ++ second.more) first.are ∙ append_assoc t first.more second.more;
      few = omega (arith, one, others, length-append first.more second.more);
    }

-- one more command
pub makes_one_more : (s : Scenario) (t u v : List Event) (cs : List Command) (c : Command) → Makes s 1 t cs u → Step s 1 u c v → Makes s 1 t (cs ++ c ∷ []) v
makes_one_more s t _ v _ c (Done _) step = Then t v v c [] step (Done v)
makes_one_more s t u v _ c (Then _ middle _ d more first rest) step = Then t middle v d (more ++ c ∷ []) first (makes_one_more s middle u v more c rest step)

-- ---- a turn

-- behind a list, one event and the rest
split_one : {A : Type 0} (x y : A) (xs m n : List A) → x ∷ y ∷ xs ≡ m ++ n → length m ≤ 1 → length n ≤ suc (length xs) → m ≡ x ∷ []
split_one x y xs [] n same few short = absurd (let l : suc (suc (length xs)) ≡ length n = ap length same in omega (arith, l, short))
split_one x y xs (z ∷ []) n same few short = let head : x ≡ z = cc in ap (λ a. a ∷ []) (sym head)
split_one x y xs (z ∷ w ∷ m) n same few short = absurd (omega (arith, few))

split_last : {A : Type 0} (y : A) (xs m n : List A) → y ∷ xs ≡ m ++ n → length m ≤ 1 → length n ≤ length xs → m ≡ y ∷ []
split_last y xs [] n same few short = absurd (let l : suc (length xs) ≡ length n = ap length same in omega (arith, l, short))
split_last y xs (z ∷ []) n same few short = let head : y ≡ z = cc in ap (λ a. a ∷ []) (sym head)
split_last y xs (z ∷ w ∷ m) n same few short = absurd (omega (arith, few))

-- a turn of an action, and what comes behind it
pub record IsTurn (s : Scenario) (t : List Event) (a : ℕ) (cs : List Command) (es : List Event) : Type 0 where
  pub opens : Step s 1 t Open (t ++ Start a 0 false ∷ [])
  pub closes : Step s 1 (t ++ Start a 0 false ∷ []) (Close a) ((t ++ Start a 0 false ∷ []) ++ End a ∷ [])
  pub rest : Makes s 1 ((t ++ Start a 0 false ∷ []) ++ End a ∷ []) cs (((t ++ Start a 0 false ∷ []) ++ End a ∷ []) ++ es)

turn_at : (s : Scenario) (t u v : List Event) (a : ℕ) (cs : List Command) (es : List Event)
    → Step s 1 t Open u → Step s 1 u (Close a) v → Makes s 1 v cs (t ++ Start a 0 false ∷ End a ∷ es) → length es ≡ length cs → IsTurn s t a cs es
turn_at s t u v a cs es opens closes rest many =
    let first = step_grows s t u Open opens in
    let second = step_grows s u v (Close a) closes in
    let third = makes_grow s v (t ++ Start a 0 false ∷ End a ∷ es) cs rest in
    let one = first.few in
    let two = second.few in
    let three = third.few in
    let whole : Start a 0 false ∷ End a ∷ es ≡ first.more ++ (second.more ++ third.more) =
    append_cancel_left t (Start a 0 false ∷ End a ∷ es) (first.more ++ (second.more ++ third.more))
    (third.are ∙ ap (λ (l : List Event). l ++ third.more) second.are ∙ ap (λ (l : List Event). (l ++ second.more) ++ third.more) first.are
    ∙ append_assoc (t ++ first.more) second.more third.more ∙ append_assoc t first.more (second.more ++ third.more)) in
    let m1 : first.more ≡ Start a 0 false ∷ [] =
    split_one (Start a 0 false) (End a) es first.more (second.more ++ third.more) whole one (omega (arith, two, three, many, length-append second.more third.more)) in
    let behind : End a ∷ es ≡ second.more ++ third.more =
    append_cancel_left (Start a 0 false ∷ []) (End a ∷ es) (second.more ++ third.more) (whole ∙ ap (λ (l : List Event). l ++ (second.more ++ third.more)) m1) in
    let m2 : second.more ≡ End a ∷ [] = split_last (End a) es second.more third.more behind two (omega (arith, three, many)) in
    let is_u : u ≡ t ++ Start a 0 false ∷ [] = first.are ∙ ap (λ (l : List Event). t ++ l) m1 in
    let is_v : v ≡ (t ++ Start a 0 false ∷ []) ++ End a ∷ [] = second.are ∙ ap (λ (l : List Event). l ++ second.more) is_u ∙ ap (λ (l : List Event). (t ++ Start a 0 false ∷ []) ++ l) m2 in
    let end : t ++ Start a 0 false ∷ End a ∷ es ≡ ((t ++ Start a 0 false ∷ []) ++ End a ∷ []) ++ es =
    sym (append_assoc (t ++ Start a 0 false ∷ []) (End a ∷ []) es ∙ append_assoc t (Start a 0 false ∷ []) (End a ∷ es)) in
    record {
      opens = subst (λ (l : List Event). Step s 1 t Open l) is_u opens;
      closes = subst (λ (l : List Event). Step s 1 (t ++ Start a 0 false ∷ []) (Close a) l) is_v (subst (λ (l : List Event). Step s 1 l (Close a) v) is_u closes);
      rest = subst (λ (l : List Event). Makes s 1 ((t ++ Start a 0 false ∷ []) ++ End a ∷ []) cs l) end (subst (λ (l : List Event). Makes s 1 l cs (t ++ Start a 0 false ∷ End a ∷ es)) is_v rest);
    }

pub turn_of : (s : Scenario) (t : List Event) (a : ℕ) (cs : List Command) (es : List Event)
    → Makes s 1 t (Open ∷ Close a ∷ cs) (t ++ Start a 0 false ∷ End a ∷ es) → length es ≡ length cs → IsTurn s t a cs es
turn_of s t a cs es (Then _ u _ _ _ opens (Then _ v _ _ _ closes rest)) many = turn_at s t u v a cs es opens closes rest many

-- ---- turns, and perhaps one more action that starts

abbrev pub last_commands : Option ℕ → List Command
last_commands None = []
last_commands (Some z) = Open ∷ []

abbrev pub last_events : Option ℕ → List Event
last_events None = []
last_events (Some z) = Start z 0 false ∷ []

pub as_many : (actions : List ℕ) (o : Option ℕ) → length (events_of actions ++ last_events o) ≡ length (turns_of actions ++ last_commands o)
as_many [] None = refl
as_many [] (Some z) = refl
as_many (a ∷ more) o = ap (λ n. suc (suc n)) (as_many more o)

-- what the last start is
pub last_step : (s : Scenario) (t : List Event) (z : ℕ) → Makes s 1 t (Open ∷ []) (t ++ Start z 0 false ∷ []) → Step s 1 t Open (t ++ Start z 0 false ∷ [])
last_step s t z (Then _ u _ _ _ opens (Done _)) = opens
