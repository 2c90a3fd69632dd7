-- A loop over parts in a row.
use Rattle.std.proofs.Common.{◌≡◌, ℕ, zero, suc, ◌+◌, ◌<◌, ◌≤◌, List, [], ◌∷◌, ◌++◌, length, drop, Some, Option, None, refl, sym, ap, subst, ◌∙◌, arith}
use Rattle.pst_token.specs.declared.token.Token.{Token}
use Rattle.pst_ast.specs.Limits.{Count, is_over}
use Rattle.pst_ast.specs.declared.fault.SyntaxFault.{SyntaxFault}
use Rattle.pst_ast.specs.declared.fault.SyntaxFault.TheVariants as the_fault
use Rattle.pst_reading.specs.Parser.{Parser, Done, Outcome, Took, Refused, TooDeep, run, next, followed_by, and_then, turn, repeat_by}
use Rattle.pst_reading.specs.Gives.{Family, SettlesFrom, FailsFrom}
use Rattle.pst_reading.proofs.Becoming.{run_followed}

-- for each bound a step from what is so far
abbrev pub Steps : Type 0 → Type 0
Steps A = ℕ → ℕ → A → Option Token → Option (Parser A)

-- what the whole loop gives is what the rest of its turns gives
pub record Turning {A : Type 0} (step : A → Option Token → Option (Parser A)) (size : ℕ) (tokens : List Token) (from : ℕ) (init : A) (place : ℕ) (a : A) : Type 0 where
  pub turns : ℕ
  pub enough : length tokens < turns + place
  pub so_far : run is_over (repeat_by step size init) (drop from tokens) ≡ run is_over (repeat_by step turns a) (drop place tokens)

abbrev pub Looping : {A : Type 0} → Steps A → List Token → ℕ → ℕ → A → ℕ → A → Type 0
Looping step tokens start from init place a = (size prefixes : ℕ) → length tokens ≤ size + start → length tokens ≤ prefixes + start → Turning (step size prefixes) size tokens from init place a

module _ {A : Type 0} (step : Steps A) (tokens : List Token) (start from : ℕ) (init : A) where
  abbrev pub loop : Family A
  loop size prefixes = repeat_by (step size prefixes) size init

  pub loop_begins : start < from → Looping step tokens start from init from init
  loop_begins lt size prefixes m n = record { turns = size; enough = omega (arith, m, lt); so_far = refl }

  -- one turn
  one_turn : (place : ℕ) (a : A) (part : Parser A) (size prefixes : ℕ) → place ≤ length tokens → step size prefixes a (next (drop place tokens)) ≡ Some part → Turning (step size prefixes) size tokens from init place a → (turns : ℕ) × (length tokens < suc turns + place) × (run is_over (repeat_by (step size prefixes) size init) (drop from tokens) ≡ and_then (run is_over part (drop place tokens)) (λ b rest. run is_over (repeat_by (step size prefixes) turns b) rest))
  one_turn place a part size prefixes le is t = go t.turns t.enough t.so_far
    where
      go : (n : ℕ) → length tokens < n + place → run is_over (repeat_by (step size prefixes) size init) (drop from tokens) ≡ run is_over (repeat_by (step size prefixes) n a) (drop place tokens) → (turns : ℕ) × (length tokens < suc turns + place) × (run is_over (repeat_by (step size prefixes) size init) (drop from tokens) ≡ and_then (run is_over part (drop place tokens)) (λ b rest. run is_over (repeat_by (step size prefixes) turns b) rest))
      go zero enough e = absurd (omega (arith, enough, le))
      go (suc n) enough e = (n, enough, e ∙ ap (λ (o : Option (Parser A)). run is_over (turn o a (repeat_by (step size prefixes) n)) (drop place tokens)) is ∙ run_followed is_over part (repeat_by (step size prefixes) n) (drop place tokens))

  pub loop_turns : (place after : ℕ) (a b : A) (part : Family A) → start ≤ place → place ≤ length tokens → ((size prefixes : ℕ) → step size prefixes a (next (drop place tokens)) ≡ Some (part size prefixes)) → SettlesFrom part tokens start place (Took b (drop after tokens)) → place < after → Looping step tokens start from init place a → Looping step tokens start from init after b
  loop_turns place after a b part low le is h lt t size prefixes m n =
      let o = one_turn place a (part size prefixes) size prefixes le (is size prefixes) (t size prefixes m n) in
      record { turns = o.0; enough = omega (arith, o.1, lt); so_far = o.2 ∙ ap (λ (x : Outcome A). and_then x (λ b rest. run is_over (repeat_by (step size prefixes) o.0 b) rest)) (h size prefixes m n) }

  pub loop_fails : (place : ℕ) (a : A) (part : Family A) (e : SyntaxFault) → from ≤ place → place ≤ length tokens → ((size prefixes : ℕ) → step size prefixes a (next (drop place tokens)) ≡ Some (part size prefixes)) → FailsFrom part tokens start place e → Looping step tokens start from init place a → FailsFrom loop tokens start from e
  loop_fails place a part (the_fault.At k) low le is h t = (λ size prefixes m n. (let o = one_turn place a (part size prefixes) size prefixes le (is size prefixes) (t size prefixes m n) in o.2 ∙ ap (λ (x : Outcome A). and_then x (λ b rest. run is_over (repeat_by (step size prefixes) o.0 b) rest)) (h.0 size prefixes m n)), omega (arith, low, h.1), h.2)
  loop_fails place a part (the_fault.Deep k) low le is h t = (λ size prefixes m n. (let o = one_turn place a (part size prefixes) size prefixes le (is size prefixes) (t size prefixes m n) in o.2 ∙ ap (λ (x : Outcome A). and_then x (λ b rest. run is_over (repeat_by (step size prefixes) o.0 b) rest)) (h.0 size prefixes m n)), omega (arith, low, h.1), h.2)
  loop_fails place a part the_fault.NoMemory low le is h t = tt

  pub loop_ends : (place : ℕ) (a : A) → place ≤ length tokens → ((size prefixes : ℕ) → step size prefixes a (next (drop place tokens)) ≡ None) → Looping step tokens start from init place a → SettlesFrom loop tokens start from (Took a (drop place tokens))
  loop_ends place a le is t size prefixes m n = go (t size prefixes m n).turns (t size prefixes m n).enough (t size prefixes m n).so_far
    where
      go : (k : ℕ) → length tokens < k + place → run is_over (repeat_by (step size prefixes) size init) (drop from tokens) ≡ run is_over (repeat_by (step size prefixes) k a) (drop place tokens) → run is_over (repeat_by (step size prefixes) size init) (drop from tokens) ≡ Took a (drop place tokens)
      go zero enough e = absurd (omega (arith, enough, le))
      go (suc k) enough e = e ∙ ap (λ (o : Option (Parser A)). run is_over (turn o a (repeat_by (step size prefixes) k)) (drop place tokens)) (is size prefixes)
