-- Calls of the lane.
use Rattle.std.proofs.Common.{◌≡◌, ℕ, ◌+◌, ℤ, List, [], ◌∷◌, Bool, true, ◌&&◌, cond, nat_eq, Option, Ok, Err, refl, sym, ap, subst, ◌∙◌, arith}
use Rattle.std.specs.Cmp.Lexicographic.{pointwise}
use Rattle.std.specs.Ordering.{int_eq}
use Rattle.std.proofs.lemmas.Bool.Decides.{Decides-int_eq, Decides-eqb}
use Rattle.pst_base.specs.Fault.{HasRisen}
use Rattle.pst_target.specs.declared.call.Call.{Call as Answered}
use Rattle.pst_target.specs.Calls.{with_call}
use Rattle.pst_legal.specs.Body.{State, Outcome, Strays, answered}
use Rattle.pst_body.specs.declared.ending.BodyEnd.TheVariants.{Fault, NoMemory}
use Rattle.pst_body.specs.Stores.{Store, state_of}
use Rattle.pst_body.specs.Doing.{Gave}
use Rattle.pst_body.proofs.Coming.{with_none}

same_numbers : (xs : List ℤ) → pointwise int_eq xs xs ≡ true
same_numbers [] = refl
same_numbers (x ∷ xs) = ap (λ (b : Bool). b && pointwise int_eq xs xs) ((Decides-int_eq x x).1 refl) ∙ same_numbers xs

same_call : (function : ℕ) (arguments : List ℤ) → (nat_eq function function && pointwise int_eq arguments arguments) ≡ true
same_call function arguments = ap (λ (b : Bool). b && pointwise int_eq arguments arguments) ((Decides-eqb function function).1 refl) ∙ same_numbers arguments

called : ℕ → List ℤ → ℤ → Answered
called function arguments answer = record { function = function; arguments = arguments; answer = answer }

-- the next call is answered
pub is_answered : (state : State) (function : ℕ) (arguments : List ℤ) (answer : ℤ) (left : List Answered) (go : ℤ → State → Outcome)
    → answered state function arguments ((record { function = function; arguments = arguments; answer = answer }) ∷ left) go ≡ go answer (record state { left = left })
is_answered state function arguments answer left go =
    ap (λ (b : Bool). cond b (go answer (record state { left = left })) Strays) (same_call function arguments)

pub gave_answer : (function : ℕ) (old new : Store) (answer : ℤ) (before after : Option (List Answered)) (f g : ℕ)
    → new ≡ record old { calls = old.calls + 1 } → after ≡ with_call before function old.arguments answer → g ≡ f
    → Gave (λ go state. answered state function old.arguments state.left go) old new before after f g (Ok answer)
gave_answer function old new answer before after f g is calls same =
    subst (λ (s : Store). Gave (λ go state. answered state function old.arguments state.left go) old s before after f g (Ok answer)) (sym is)
    (record {
      list = (record { function = function; arguments = old.arguments; answer = answer }) ∷ [];
      made = record { calls = calls; counted = refl; grows = omega arith; room = refl };
      faults = same;
      came = λ go more. is_answered (state_of old ((record { function = function; arguments = old.arguments; answer = answer }) ∷ more)) function old.arguments answer more go;
    })

pub gave_fault : (function : ℕ) (old : Store) (call : ℕ) (before after : Option (List Answered)) (f g : ℕ) → call ≡ old.calls + 1 → after ≡ before → HasRisen f g
    → Gave {A = ℤ} (λ go state. answered state function old.arguments state.left go) old old before after f g (Err (Fault call))
gave_fault function old call before after f g number calls risen = record {
  list = [];
  made = record { calls = calls ∙ sym (with_none before); counted = omega arith; grows = omega arith; room = refl };
  faults = risen;
  came = λ go. (record { function = function; arguments = old.arguments; asks = refl }, omega (arith, number));
}

pub gave_nothing : (function : ℕ) (old : Store) (before after : Option (List Answered)) (f g : ℕ) → after ≡ before → g ≡ f
    → Gave {A = ℤ} (λ go state. answered state function old.arguments state.left go) old old before after f g (Err NoMemory)
gave_nothing function old before after f g calls same = record {
  list = [];
  made = record { calls = calls ∙ sym (with_none before); counted = omega arith; grows = omega arith; room = refl };
  faults = same;
  came = λ go. record { function = function; arguments = old.arguments; asks = refl };
}
