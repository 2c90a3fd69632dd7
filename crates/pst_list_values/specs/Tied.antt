-- What is kept of the values behind the sources, and that it is of the choices.
use Rattle.std.specs.Prelude.{◌≡◌, ℕ, ◌<◌, ℤ, List, [], ◌++◌, length, map, Bool, true, Option, None, Some}
use Rattle.pst_expr.specs.declared.ranges.Span.{Span}
use Rattle.pst_expr.specs.Spans.{IsDomain, size_of}
use Rattle.pst_expr.specs.Tree.{view}
use Rattle.pst_domain.specs.Bounds.{AreInside}
use Rattle.pst_narrow.specs.Narrowing.{AreOpen}
use Rattle.pst_model.specs.ModelView.{view_model}
use Rattle.pst_model.specs.ModelTree.{ModelTree}
use Rattle.pst_scen.specs.declared.scenario.Scenario.{Scenario}
use Rattle.pst_scen.specs.Refusals.{IsUnrefused}
use Rattle.pst_legal.specs.Reading.{Reads}
use Rattle.pst_legal.specs.Constraints.{Holds}
use Rattle.pst_legal.specs.ValueReading.{with_firsts}
use Rattle.pst_legal.specs.First.{NoneRefused}
use Rattle.pst_few_places.specs.Fillings.{all_blanks, AreOptions, filled}
use Rattle.pst_link_walk.specs.Walks.{Kept, reading}
use Rattle.pst_list_walk.specs.Walks.{HasDomain}
use Rattle.pst_written_constraints.specs.Spans.{blank_hulls}
use Rattle.pst_written_constraints.specs.Open.{blank_bounds}
use Rattle.pst_value_search.specs.Values.{Kept as Given, with_value, Refuses, RefusesNothing}
use Rattle.pst_value_search.specs.Laws.{AreKeptBy, AreNamed}
use Rattle.pst_list_values.specs.declared.behind.Behind.{Behind}

-- no options of the blanks are kept by all constraints and a plan
abbrev pub NoneKeep : ModelTree → Scenario → Type 0
NoneKeep m u =
    (chosen : List ℕ) → AreOptions m u.actions (all_blanks m u) chosen → Holds m (filled m (all_blanks m u) chosen (with_firsts m u))
    → IsUnrefused (filled m (all_blanks m u) chosen (with_firsts m u)) → ⊥

-- Where the first blanks have any options, and at their values no constraint over the blanks is refused, no constraint of the
-- scenario is.
pub record StandOpen (m : ModelTree) (u : Scenario) (k : Given) : Type 0 where
  pub inside : AreInside k.bounds (blank_hulls m u)
  pub open_there : (chosen : List ℕ) → AreOpen (map view k.constraints) (blank_bounds m u.actions (all_blanks m u) chosen) → NoneRefused m (filled m (all_blanks m u) chosen (with_firsts m u))

-- the values are those that the choices name, under constraints that hold of them, of all of the scenario's if so it says; or there
-- are none
abbrev pub IsValued : ModelTree → ℕ → Scenario → ℕ → List ℕ → Bool → Option Given → Type 0
IsValued m seed u place present whole None = NoneKeep m u
IsValued m seed u place present whole (Some k) = AreKeptBy m u k × AreNamed m seed u place present k.values × (whole ≡ true → StandOpen m u k)

-- no value is given yet
abbrev pub IsBegunOf : ModelTree → Scenario → Bool → Option Given → Type 0
IsBegunOf m u whole None = NoneKeep m u
IsBegunOf m u whole (Some k) = AreKeptBy m u k × (k.values ≡ []) × (whole ≡ true → StandOpen m u k)

pub record IsOf (k : Kept) (b : Behind) : Type 0 where
  pub front : List ℕ
  pub present : List ℕ
  pub choices : k.choices ≡ front ++ present
  pub count : b.front ≡ length front
  pub linked : Scenario
  pub reads : reading (record k { choices = front }) ≡ Reads linked (length front) []
  pub valued : IsValued (view_model k.model) k.seed linked (length front) present b.whole b.valued

abbrev pub behind_of : ℕ → Bool → Given → Behind
behind_of front whole given = record { front = front; whole = whole; valued = Some given }

-- the values given are of the choices behind so many
abbrev pub IsGivenAt : Kept → ℕ → Given → Type 0
IsGivenAt k front given = (whole : Bool) × IsOf k (behind_of front whole given)

-- the values that the blank at hand may have, of which there are so many, where an option was passed
pub record IsUsable (k : Kept) (from count : ℕ) (spans : List Span) : Type 0 where
  pub domain : HasDomain k spans
  pub size : size_of spans ≡ count
  pub sound : IsDomain spans
  pub some : 0 < from

-- nothing is kept, or what is of the choices
abbrev pub IsTied : Kept → Option Behind → Type 0
IsTied k None = Unit {0}
IsTied k (Some b) = IsOf k b

-- ---- one value more, and one less

abbrev pub IsMore : Option Given → Option ℤ → Option Given → Type 0
IsMore None value new = new ≡ None
IsMore (Some k) value new = (v : ℤ) × (value ≡ Some v) × (new ≡ Some (with_value k v))

abbrev pub IsWithValue : Behind → ℤ → Behind → Type 0
IsWithValue old value new = (new.front ≡ old.front) × (new.whole ≡ old.whole) × IsMore old.valued (Some value) new.valued

-- one value more, or nothing is kept any more
abbrev pub IsFurther : Behind → Option ℤ → Option Behind → Type 0
IsFurther old value None = Unit {0}
IsFurther old value (Some new) = (new.front ≡ old.front) × (new.whole ≡ old.whole) × IsMore old.valued value new.valued

abbrev pub IsLess : Option Given → Option Given → Type 0
IsLess None new = new ≡ None
IsLess (Some k) new = (v : ℤ) × (l : Given) × (k ≡ with_value l v) × (new ≡ Some l)

abbrev pub HasGiven : Option Given → Type 0
HasGiven None = Unit {0}
HasGiven (Some k) = 0 < length k.values

-- one value less
abbrev pub IsShorter : Behind → Behind → Type 0
IsShorter old new = (new.front ≡ old.front) × (new.whole ≡ old.whole) × IsLess old.valued new.valued

-- ---- why the list is refused

abbrev pub IsRefusal : Option Given → List ℕ → Type 0
IsRefusal None places = places ≡ []
IsRefusal (Some k) places = Refuses k places

-- no constraint over the blanks is refused
abbrev pub IsOpenAt : Option Given → Type 0
IsOpenAt None = ⊥
IsOpenAt (Some k) = RefusesNothing k

-- the same walk at another list
pub record IsSameWalk (old new : Kept) : Type 0 where
  pub model : new.model ≡ old.model
  pub root : new.root ≡ old.root
