-- What holds between calls, and what a span that is given comes to.
use Rattle.std.specs.Prelude.{◌≡◌, ℕ, ◌≤◌, List, [], ◌∷◌, ◌++◌, length, map, take, drop, reverse, Option, Some, None, Result, Ok, Err, slice_set}
use Rattle.std.specs.Global.{Vec}
use Rattle.pst_base.specs.declared.memory.NoMemory.{NoMemory}
use Rattle.pst_expr.specs.declared.ranges.Span.{Span}
use Rattle.pst_expr.specs.declared.tree.Expr.{Expr}
use Rattle.pst_expr.specs.Tree.{Expression, view}
use Rattle.pst_domain.specs.Bounds.{bound_of, AreUpright, AreInside}
use Rattle.pst_narrow.specs.declared.trail.Former.{Former}
use Rattle.pst_narrow.specs.declared.watch.Watch.{Watch}
use Rattle.pst_narrow.specs.Trail.{put_back, AreBelow, Extends}
use Rattle.pst_narrow.specs.Solutions.{AreMet}
use Rattle.pst_narrow.specs.Narrowing.{Narrows, HaveNone, HaveVariablesBelow, AreOpen}
use Rattle.pst_narrow.specs.Settled.{QuietAreOpen}
use Rattle.pst_narrow.specs.Watch.{IsWatch}
use Rattle.pst_reasons.specs.declared.reasons.Narrowed.{Narrowed}
use Rattle.pst_reasons.specs.declared.step.Cause.TheVariants as cause
use Rattle.pst_reasons.specs.declared.step.Given.{Given}
use Rattle.pst_reasons.specs.declared.step.Mark.{Mark}
use Rattle.pst_reasons.specs.declared.step.Step.{Step}
use Rattle.pst_reasons.specs.Explained.{AreExplained}
use Rattle.pst_reasons.specs.Firsts.{AreFirsts, AreNoLater, AreForgotten}
use Rattle.pst_reasons.specs.Reasons.{AreReasons}
use Rattle.pst_reasons.specs.Settled.{IsAppended}

-- bounds in which variables have the spans that they were given
abbrev pub with_given : List (Option Span) → List Given → List (Option Span)
with_given bounds [] = bounds
with_given bounds (g ∷ more) = with_given (slice_set bounds g.variable (Some g.span)) more

-- no constraint is refused at bounds inside the spans that were given, and the steps explain the trail
pub record IsState (es : List Expression) (start : List (Option Span)) (given : List Given) (steps : List Step) (trail : List Former) (bounds : List (Option Span)) : Type 0 where
  pub upright : AreUpright bounds
  pub unrefused : AreOpen es bounds
  pub inside : AreInside bounds (with_given start given)
  pub from_start : put_back trail bounds ≡ start
  pub explained : AreExplained es given (reverse steps) trail bounds

-- one can go back to a mark
pub record IsMark (m : Mark) (variables : ℕ) (trail : List Former) : Type 0 where
  pub room : m.trail ≤ length trail
  pub below : AreBelow variables (drop m.trail trail)

-- so it is, and so it was before each span that was given; the latest mark stands first
abbrev pub AreStates : List Expression → List (Option Span) → List Given → List Mark → List Step → List Former → List (Option Span) → Type 0
AreStates es start given [] steps trail bounds = IsState es start given steps trail bounds
AreStates es start given (m ∷ older) steps trail bounds =
    IsState es start given steps trail bounds × IsMark m (length bounds) trail × AreStates es start (take (length older) given) older (take m.steps steps) (take m.trail trail) (put_back (drop m.trail trail) bounds)

pub record AreKept (es : List Expression) (w : Watch) (bounds : List (Option Span)) (trail : List Former) (steps : List Step) (given : List Given) (marks : List Mark) (firsts : List ℕ) : Type 0 where
  pub watch : IsWatch es (length bounds) w
  pub variables : HaveVariablesBelow (length bounds) es
  pub number : length marks ≡ length given
  pub states : AreStates es (put_back trail bounds) given (reverse marks) steps trail bounds
  pub firsts_are : AreFirsts firsts trail

-- the index is that of the constraints, and so it is with the bounds now, and before each span that was given
abbrev pub IsKept : Narrowed → Type 0
IsKept s = AreKept (map view s.constraints.items) s.watch s.bounds s.trail s.steps.items s.given.items s.marks.items s.firsts.items

-- the bounds at the start
abbrev pub start_of : Narrowed → List (Option Span)
start_of s = put_back s.trail s.bounds

-- ---- the start

-- narrowed by all constraints, and nothing given yet
pub record IsBegun (constraints : List Expr) (bounds : List (Option Span)) (s : Narrowed) : Type 0 where
  pub kept : IsKept s
  pub constraints_same : s.constraints.items ≡ constraints
  pub none_given : s.given.items ≡ []
  pub narrows : Narrows (AreMet (map view constraints)) bounds (start_of s)

-- or no values within the bounds meet them all
abbrev pub Begins : List Expr → List (Option Span) → Option Narrowed → Type 0
Begins constraints bounds None = HaveNone (AreMet (map view constraints)) bounds
Begins constraints bounds (Some s) = IsBegun constraints bounds s

-- ---- a span that is given

abbrev pub given_too : Narrowed → ℕ → Span → List Given
given_too s variable span = s.given.items ++ record { variable = variable; span = span } ∷ []

-- the same constraints and the same bounds at the start, with these spans given
pub record IsAt (old new : Narrowed) (given : List Given) : Type 0 where
  pub kept : IsKept new
  pub given_is : new.given.items ≡ given
  pub constraints : new.constraints ≡ old.constraints
  pub count : length new.bounds ≡ length old.bounds
  pub start : start_of new ≡ start_of old

-- it fits; or it isn't given, and on these of the spans with it that rests
abbrev pub Gives : Result (Option (Vec ℕ)) NoMemory → Narrowed → Narrowed → ℕ → Span → Type 0
Gives (Ok None) old new variable span = IsAt old new (given_too old variable span)
Gives (Ok (Some places)) old new variable span = IsAt old new old.given.items × AreReasons (map view old.constraints.items) (given_too old variable span) (start_of old) places.items
Gives (Err e) old new variable span = IsAt old new old.given.items

-- the last span isn't given any more
pub record IsTakenBack (old new : Narrowed) : Type 0 where
  pub last : Given
  pub given_is : old.given.items ≡ new.given.items ++ last ∷ []
  pub at : IsAt old new new.given.items

-- ---- its steps

-- the span is noted
pub record IsNotedGiven (old new : Narrowed) (variable : ℕ) (span : Span) : Type 0 where
  pub constraints : new.constraints ≡ old.constraints
  pub watch : new.watch ≡ old.watch
  pub bounds : new.bounds ≡ slice_set old.bounds variable (Some span)
  pub trail : new.trail ≡ old.trail ++ record { variable = variable; bound = bound_of old.bounds variable } ∷ []
  pub steps : new.steps.items ≡ old.steps.items ++ record { cause = cause.Given (length old.given.items); mark = length old.trail } ∷ []
  pub given_is : new.given.items ≡ given_too old variable span
  pub marks : new.marks.items ≡ old.marks.items ++ record { trail = length old.trail; steps = length old.steps.items } ∷ []
  pub firsts : new.firsts.items ≡ old.firsts.items

-- nothing changed that one sees; which variables were changed first is noted as well as it was
pub record IsSame (old new : Narrowed) : Type 0 where
  pub constraints : new.constraints ≡ old.constraints
  pub watch : new.watch ≡ old.watch
  pub bounds : new.bounds ≡ old.bounds
  pub trail : new.trail ≡ old.trail
  pub steps : new.steps.items ≡ old.steps.items
  pub given_is : new.given.items ≡ old.given.items
  pub marks : new.marks.items ≡ old.marks.items
  pub firsts : AreFirsts old.firsts.items old.trail → AreFirsts new.firsts.items new.trail

-- constraints whose variables weren't changed behind the mark aren't refused
pub record IsUnsettled (s : Narrowed) (mark : ℕ) : Type 0 where
  pub watch : IsWatch (map view s.constraints.items) (length s.bounds) s.watch
  pub variables : HaveVariablesBelow (length s.bounds) (map view s.constraints.items)
  pub upright : AreUpright s.bounds
  pub changed : AreBelow (length s.bounds) (drop mark s.trail)
  pub room : mark ≤ length s.trail
  pub quiet : QuietAreOpen (map view s.constraints.items) (drop mark s.trail) s.bounds
  pub explained : AreExplained (map view s.constraints.items) s.given.items (reverse s.steps.items) s.trail s.bounds
  pub firsts : AreFirsts s.firsts.items (take mark s.trail)

-- changes and steps were only appended
pub record IsNarrower (old new : Narrowed) : Type 0 where
  pub constraints : new.constraints ≡ old.constraints
  pub watch : new.watch ≡ old.watch
  pub given_is : new.given ≡ old.given
  pub marks : new.marks ≡ old.marks
  pub count : length new.bounds ≡ length old.bounds
  pub inside : AreInside new.bounds old.bounds
  pub extends : Extends old.trail new.trail old.bounds new.bounds
  pub steps : IsAppended old.steps.items new.steps.items
  pub firsts : AreNoLater old.firsts.items new.firsts.items

pub record IsSettledNow (s : Narrowed) : Type 0 where
  pub upright : AreUpright s.bounds
  pub unrefused : AreOpen (map view s.constraints.items) s.bounds
  pub explained : AreExplained (map view s.constraints.items) s.given.items (reverse s.steps.items) s.trail s.bounds
  pub firsts : AreFirsts s.firsts.items s.trail

-- no constraint is refused any more, or reasons why one can't hold
abbrev pub Settles : Option (Vec ℕ) → Narrowed → Narrowed → Type 0
Settles None old new = IsSettledNow new
Settles (Some places) old new = AreReasons (map view old.constraints.items) old.given.items (start_of old) places.items

-- one can go back to the last mark
abbrev pub CanGoBack : Narrowed → Type 0
CanGoBack s = (m : Mark) (older : List Mark) → reverse s.marks.items ≡ m ∷ older → IsMark m (length s.bounds) s.trail

-- what came since the last mark is taken back
pub record IsBack (old new : Narrowed) : Type 0 where
  pub mark : Mark
  pub marks : reverse old.marks.items ≡ mark ∷ reverse new.marks.items
  pub constraints : new.constraints ≡ old.constraints
  pub watch : new.watch ≡ old.watch
  pub bounds : new.bounds ≡ put_back (drop mark.trail old.trail) old.bounds
  pub trail : new.trail ≡ take mark.trail old.trail
  pub steps : new.steps.items ≡ take mark.steps old.steps.items
  pub given_is : new.given.items ≡ take (length new.marks.items) old.given.items
  pub firsts : AreForgotten mark.trail old.firsts.items new.firsts.items
