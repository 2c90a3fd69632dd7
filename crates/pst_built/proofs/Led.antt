-- How choices lead on through a place and from one reader to the next.
use Rattle.std.proofs.Common.{◌≡◌, ℕ, ◌+◌, ◌-◌, ◌*◌, ◌/◌, ◌%◌, ◌<◌, List, ◌∷◌, ◌++◌, if◌then◌else◌, ap, ◌∙◌, arith, append_assoc}
use Rattle.std.proofs.Math.Nat.{add-mod-mod, mod-lt, mod-eq_of_lt, add-mod_right, div-add-mod, mul-add-mod_self_left}
use Rattle.std.proofs.lemmas.Bool.{lt-ltb}
use Rattle.pst_scen.specs.declared.scenario.Scenario.{Scenario}
use Rattle.pst_legal.specs.Reading.{Reading, Stops, Reader, then_read, option_at, read_place}
use Rattle.pst_built.specs.Reached.{IsReached}

-- each option of a place is named by some digit
pub named : (start n k : ℕ) → k < n → (d : ℕ) × (d < n) × (option_at start n d ≡ k)
named start n k l =
    let q : ℕ = start % n in
    let small : q < n = mod-lt start (omega arith) in
    let d : ℕ = (k + (n - q)) % n in
    let whole : n * (start / n) + q ≡ start = div-add-mod start n in
    let turned : start + (k + (n - q)) ≡ n * (start / n) + (k + n) = omega arith in (
      d,
      mod-lt (k + (n - q)) (omega arith),
      add-mod-mod start (k + (n - q)) n ∙ ap (λ x. x % n) turned ∙ mul-add-mod_self_left n (start / n) (k + n) ∙ add-mod_right k n ∙ mod-eq_of_lt l,
    )

pub led_place : (start n k : ℕ) (next : ℕ → Reader) (s t : Scenario) (place : ℕ) → k < n → IsReached (next k) s (place + 1) t → IsReached (read_place start n next) s place t
led_place start n k next s t place l led =
    let d = named start n k l in
    record {
      choices = d.0 ∷ led.choices;
      end = led.end;
      reads = λ more.
          ap (λ b. if b then next (option_at start n d.0) s (place + 1) (led.choices ++ more) else Stops) (lt-ltb d.0 n d.1)
          ∙ ap (λ x. next x s (place + 1) (led.choices ++ more)) d.2
          ∙ led.reads more;
    }

pub led_then : (one : ℕ → List ℕ → Reading) (two : Reader) (s t u : Scenario) (place : ℕ) → IsReached (λ s p left. one p left) s place t → ((next : ℕ) → IsReached two t next u)
    → IsReached (λ s p left. then_read (one p left) two) s place u
led_then one two s t u place led each =
    let rest = each led.end in
    record {
      choices = led.choices ++ rest.choices;
      end = rest.end;
      reads = λ more.
          ap (λ ds. then_read (one place ds) two) (append_assoc led.choices rest.choices more)
          ∙ ap (λ r. then_read r two) (led.reads (rest.choices ++ more))
          ∙ rest.reads more;
    }

-- two readers that read the same there
pub led_same : (one two : Reader) (s t : Scenario) (place : ℕ) → ((more : List ℕ) → one s place more ≡ two s place more) → IsReached two s place t → IsReached one s place t
led_same one two s t place same led = record { choices = led.choices; end = led.end; reads = λ more. same (led.choices ++ more) ∙ led.reads more }
