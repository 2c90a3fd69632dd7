-- The steps of a sound body can run.
use Rattle.std.proofs.Common.{◌≡◌, ◌+◌, ℕ, zero, suc, List, [], ◌∷◌, length, get_or, slice_get, Option, Some, None, All, IfSome, IsSome, refl, subst, sym, arith}
use Rattle.std.specs.List.{flat_map}
use Rattle.std.specs.Option.{IsSomeAnd}
use Rattle.std.proofs.lemmas.List.{length-append}
use Rattle.std.proofs.lemmas.List.Elements.{All-head, All-tail}
use Rattle.pst_model.specs.ConstraintTree.{ConstraintTree}
use Rattle.pst_model.specs.BodyTree.{SourceTree, Value, Answer, BodyStepTree, Declare, Assign, Call, If, Repeat, BodyRow, NoBody, MoreBody}
use Rattle.pst_model.specs.ModelTree.{ActionTree, FunctionTree, ModelTree, Atomic}
use Rattle.pst_model.specs.SoundBody.{locals_in, locals_in_row, locals_of, EachBodyStep, EachInRow, IsBodyExpression, IsCall, IsSource, IsSoundBodyStep, IsSoundBody}
use Rattle.pst_model.specs.Sound.{IsSound, IsSoundFunction, IsSoundAction, IsSoundContent}
use Rattle.pst_legal.specs.Body.{ranges_in, ranges_in_row}
use Rattle.pst_body.specs.Ready.{CanEvaluate, CanPass, CanCall, CanGet, CanRun, CanRunRow, HasRoom, HasRoomToGet, HasRoomToRun, HasRoomToRunRow, AreReady}

-- ---- as many ranges as locals

mutual
  many_in : (s : BodyStepTree) → length (ranges_in s) ≡ length (locals_in s)
  many_in (Declare local range from) = refl
  many_in (Assign local from) = refl
  many_in (Call function arguments) = refl
  many_in (If condition holds fails) =
      let first = many_row holds in
      let second = many_row fails in
      omega (arith, first, second, length-append (ranges_in_row holds) (ranges_in_row fails), length-append (locals_in_row holds) (locals_in_row fails))
  many_in (Repeat count body) = many_row body

  many_row : (r : BodyRow) → length (ranges_in_row r) ≡ length (locals_in_row r)
  many_row NoBody = refl
  many_row (MoreBody s more) =
      let first = many_in s in
      let second = many_row more in
      omega (arith, first, second, length-append (ranges_in s) (ranges_in_row more), length-append (locals_in s) (locals_in_row more))

many_of : (body : List BodyStepTree) → length (flat_map ranges_in body) ≡ length (locals_of body)
many_of [] = refl
many_of (s ∷ more) =
    let first = many_in s in
    let second = many_of more in
    omega (arith, first, second, length-append (ranges_in s) (flat_map ranges_in more), length-append (locals_in s) (flat_map locals_in more))

-- ---- what is sound can run

module _ (m : ModelTree) (action : ActionTree) (locals room : ℕ) (functions : All IsSoundFunction m.functions) where
  can_evaluate : (levels : ℕ) (c : ConstraintTree) → IsBodyExpression m action locals levels c → HasRoom room c → CanEvaluate room c
  can_evaluate levels c sound fits = record { below = sound.below; fits = fits }

  can_pass : (levels : ℕ) (arguments : List ConstraintTree) (function : FunctionTree) → IsSoundFunction function → IsCall m action locals levels arguments function → All (HasRoom room) arguments → CanPass room arguments function
  can_pass levels arguments function small sound fits = record {
    many = sound.0;
    few = let many = sound.0 in omega (arith, many, small);
    each = λ k d below. can_evaluate levels (get_or arguments k d) (sound.1 k d below) (fits k d below);
  }

  found_small : (all : List FunctionTree) (number : ℕ) → All IsSoundFunction all → IfSome (slice_get all number) IsSoundFunction
  found_small [] number small = tt
  found_small (f ∷ all) zero small = All-head IsSoundFunction f all small
  found_small (f ∷ all) (suc number) small = found_small all number (All-tail IsSoundFunction f all small)

  can_call_of : (levels : ℕ) (arguments : List ConstraintTree) (found : Option FunctionTree) → IfSome found IsSoundFunction → IsSomeAnd found (IsCall m action locals levels arguments) → All (HasRoom room) arguments → IsSomeAnd found (CanPass room arguments)
  can_call_of levels arguments None small sound fits = sound
  can_call_of levels arguments (Some function) small sound fits = can_pass levels arguments function small sound fits

  can_call : (levels function : ℕ) (arguments : List ConstraintTree) → IsSomeAnd (slice_get m.functions function) (IsCall m action locals levels arguments) → All (HasRoom room) arguments → CanCall m room function arguments
  can_call levels function arguments sound fits = can_call_of levels arguments (slice_get m.functions function) (found_small m.functions function functions) sound fits

  without_answer : (levels : ℕ) (arguments : List ConstraintTree) (found : Option FunctionTree) → IsSomeAnd found (λ f. IsCall m action locals levels arguments f × IsSome f.answer) → IsSomeAnd found (IsCall m action locals levels arguments)
  without_answer levels arguments None sound = sound
  without_answer levels arguments (Some function) sound = sound.0

  can_get : (levels : ℕ) (from : SourceTree) → IsSource m action locals levels from → HasRoomToGet room from → CanGet m room from
  can_get levels (Value expression) sound fits = can_evaluate levels expression sound fits
  can_get levels (Answer function arguments) sound fits = can_call levels function arguments (without_answer levels arguments (slice_get m.functions function) sound) fits

  can_start : (levels : ℕ) (from : Option SourceTree) → IfSome from (IsSource m action locals levels) → IfSome from (HasRoomToGet room) → IfSome from (CanGet m room)
  can_start levels None sound fits = tt
  can_start levels (Some from) sound fits = can_get levels from sound fits

  mutual
    can_run : (levels : ℕ) (s : BodyStepTree) → EachBodyStep (IsSoundBodyStep m action locals) levels s → HasRoomToRun room s → CanRun m locals room s
    can_run levels (Declare local range from) sound fits = can_start levels from sound fits
    can_run levels (Assign local from) sound fits = (sound.0, can_get levels from sound.1 fits)
    can_run levels (Call function arguments) sound fits = can_call levels function arguments sound fits
    can_run levels (If condition holds fails) sound fits = (can_evaluate levels condition sound.0 fits.0, can_run_row levels holds sound.1 fits.1, can_run_row levels fails sound.2 fits.2)
    can_run levels (Repeat count body) sound fits = (can_evaluate levels count sound.0 fits.0, can_run_row (levels + 1) body sound.1 fits.1)

    can_run_row : (levels : ℕ) (r : BodyRow) → EachInRow (IsSoundBodyStep m action locals) levels r → HasRoomToRunRow room r → CanRunRow m locals room r
    can_run_row levels NoBody sound fits = tt
    can_run_row levels (MoreBody s more) sound fits = (can_run levels s sound.0 fits.0, can_run_row levels more sound.1 fits.1)

pub ready : (m : ModelTree) (action : ActionTree) (body : List BodyStepTree) → IsSound m → IsSoundBody m action body → AreReady m (length (flat_map ranges_in body)) body
ready m action body sound own = λ room fits.
    subst (λ (n : ℕ). All (CanRun m n room) body) (sym (many_of body))
    (λ k d below. can_run m action (length (locals_of body)) room sound.functions 0 (get_or body k d) (own.steps k d below) (fits k d below))

-- ---- bodies of action types

found_sound : (m : ModelTree) (all : List ActionTree) (number : ℕ) (type : ActionTree) → All (IsSoundAction m) all → slice_get all number ≡ Some type → IsSoundAction m type
found_sound m [] number type sound is = absurd cc
found_sound m (a ∷ all) zero type sound is = let same : a ≡ type = cc in subst (IsSoundAction m) same (All-head (IsSoundAction m) a all sound)
found_sound m (a ∷ all) (suc number) type sound is = found_sound m all number type (All-tail (IsSoundAction m) a all sound) is

pub body_ready : (m : ModelTree) (number : ℕ) (type : ActionTree) (body : List BodyStepTree) → IsSound m → slice_get m.actions number ≡ Some type → type.content ≡ Atomic body → AreReady m (length (flat_map ranges_in body)) body
body_ready m number type body sound is content =
    ready m type body sound (subst (IsSoundContent m type) content (found_sound m m.actions number type sound.actions is).content)
