-- A list behind the sources goes on to a whole one.
use Rattle.std.proofs.Common.{◌≡◌, ℕ, List, [], ◌∷◌, ◌++◌, refl, ap, ◌∙◌, subst, append-nil}
use Rattle.pst_model.specs.ModelTree.{ModelTree}
use Rattle.pst_scen.specs.declared.scenario.Scenario.{Scenario}
use Rattle.pst_legal.specs.Growing.{nothing_yet}
use Rattle.pst_legal.specs.Blanks.{claim_blanks, value_blanks}
use Rattle.pst_legal.specs.Menus.{menu}
use Rattle.pst_legal.specs.Reading.{Reading, Wants, Stops, Reads, then_read, read_tree}
use Rattle.pst_legal.specs.SupplyReading.{read_supply}
use Rattle.pst_legal.specs.ValueReading.{answer_of, with_firsts, read_blanks, read_values}
use Rattle.pst_built.proofs.Goes.{Stands, After, stands, goes_then}
use Rattle.pst_built.proofs.Read.{Any, AnyWay, any_fields, any_ways}
use Rattle.pst_built.proofs.Readers.{goes_tree, goes_supply, goes_blanks}
use Rattle.pst_built.proofs.Values.{IsSameOrder}
use Rattle.pst_built.specs.SoFar.{HasRead}
use Rattle.pst_built.proofs.Went.{twice}
use Rattle.pst_built.proofs.Filled.{gives_here}
use Rattle.pst_built.proofs.Fresh.{AreFresh, fresh_tree, fresh_supply}
use Rattle.pst_read_slots.proofs.Same.{same, same_then, blanks_same}
use Rattle.pst_read_domains.specs.WholeAheadLaws.{WholeListsLieAhead}
use Rattle.pst_read_domains.proofs.Blanks.{HaveOptions, finish, finish_from, reads_on}
use Rattle.pst_read_domains.proofs.Options.{claims_options, values_options}

-- choices with which reading comes to its end
record Ended (go : List ℕ → Reading) : Type 0 where
  more : List ℕ
  scenario : Scenario
  place : ℕ
  is : go more ≡ Reads scenario place []

module _ (m : ModelTree) (seed : ℕ) (u : Scenario) (claims : HaveOptions m u.actions (claim_blanks m u.actions)) (values : HaveOptions m u.actions (value_blanks m u.actions)) where
  start_same : IsSameOrder u (with_firsts m u)
  start_same = record { level = refl; nodes = refl; acts = refl; kinds = refl; references = refl }

  -- where the claims have a place left
  from_claims : (place : ℕ) (left : List ℕ) (t : Scenario) (n : ℕ) → read_blanks m seed (claim_blanks m u.actions) (with_firsts m u) place left ≡ Wants t n → Ended (λ more. read_values m seed u place (left ++ more))
  from_claims place left t n e =
      let one = finish_from m seed u (claim_blanks m u.actions) (with_firsts m u) place left t n start_same claims e in
      let two = finish m seed u (value_blanks m u.actions) one.scenario one.place one.same values in
      record {
        more = one.more ++ (two.more ++ []);
        scenario = two.scenario;
        place = two.place;
        is = ap (λ r. then_read r (read_blanks m seed (value_blanks m u.actions))) (one.is (two.more ++ [])) ∙ two.is [];
      }

  -- where the claims are read through
  from_values : (place : ℕ) (left : List ℕ) (t : Scenario) (end : ℕ) (rest : List ℕ) → read_blanks m seed (claim_blanks m u.actions) (with_firsts m u) place left ≡ Reads t end rest → IsSameOrder u t
      → (w : Scenario) (n : ℕ) → read_blanks m seed (value_blanks m u.actions) t end rest ≡ Wants w n → Ended (λ more. read_values m seed u place (left ++ more))
  from_values place left t end rest first same w n e =
      let two = finish_from m seed u (value_blanks m u.actions) t end rest w n same values e in
      record {
        more = two.more ++ [];
        scenario = two.scenario;
        place = two.place;
        is = ap (λ r. then_read r (read_blanks m seed (value_blanks m u.actions))) (reads_on m seed (claim_blanks m u.actions) (with_firsts m u) place left t end rest (two.more ++ []) first) ∙ two.is [];
      }

  claims_same : (place : ℕ) (left : List ℕ) (t : Scenario) (end : ℕ) (rest : List ℕ) → read_blanks m seed (claim_blanks m u.actions) (with_firsts m u) place left ≡ Reads t end rest → IsSameOrder u t
  claims_same place left t end rest e =
      let s = with_firsts m u in
      let blanks = claim_blanks m u.actions in
      let on : Stands IsSameOrder s (read_blanks m seed blanks s place left) =
      stands IsSameOrder s (read_blanks m seed blanks s place left) (λ more. read_blanks m seed blanks s place (left ++ more)) (goes_blanks IsSameOrder same same_then m seed blanks s place left (blanks_same m blanks s)) in
      let come : IsSameOrder s t = subst (Stands IsSameOrder s) e on in
      same_then u s t start_same come

  by_values : (place : ℕ) (left : List ℕ) (s t : Scenario) (end : ℕ) (rest : List ℕ) → read_blanks m seed (claim_blanks m u.actions) (with_firsts m u) place left ≡ Reads t end rest
      → (r : Reading) → read_blanks m seed (value_blanks m u.actions) t end rest ≡ r → HasRead (answer_of r) s → Ended (λ more. read_values m seed u place (left ++ more))
  by_values place left s t end rest first (Wants w n) e has = from_values place left t end rest first (claims_same place left t end rest first) w n e
  by_values place left s t end rest first Stops e has = absurd has
  by_values place left s t end rest first (Reads w p []) e has = record {
    more = [];
    scenario = w;
    place = p;
    is = ap (λ l. read_values m seed u place l) (append-nil left) ∙ ap (λ r. then_read r (read_blanks m seed (value_blanks m u.actions))) first ∙ e;
  }
  by_values place left s t end rest first (Reads w p (d ∷ more)) e has = absurd has

  by_claims : (place : ℕ) (left : List ℕ) (s : Scenario) (r : Reading) → read_blanks m seed (claim_blanks m u.actions) (with_firsts m u) place left ≡ r
      → HasRead (answer_of (then_read r (read_blanks m seed (value_blanks m u.actions)))) s → Ended (λ more. read_values m seed u place (left ++ more))
  by_claims place left s (Wants t n) e has = from_claims place left t n e
  by_claims place left s Stops e has = absurd has
  by_claims place left s (Reads t end rest) e has = by_values place left s t end rest e (read_blanks m seed (value_blanks m u.actions) t end rest) refl has

  ahead : (place : ℕ) (left : List ℕ) (s : Scenario) → HasRead (answer_of (read_values m seed u place left)) s → Ended (λ more. read_values m seed u place (left ++ more))
  ahead place left s has = by_claims place left s (read_blanks m seed (claim_blanks m u.actions) (with_firsts m u) place left) refl has

-- the activity and the sources, with more choices behind
pub sources_on : (m : ModelTree) (root seed level : ℕ) (choices more : List ℕ) (u : Scenario) (place : ℕ) (left : List ℕ)
    → then_read (read_tree m seed root (nothing_yet level) 0 choices) (read_supply m seed) ≡ Reads u place left
    → then_read (read_tree m seed root (nothing_yet level) 0 (choices ++ more)) (read_supply m seed) ≡ Reads u place (left ++ more)
sources_on m root seed level choices more u place left e =
    let start = nothing_yet level in
    let go : List ℕ → Reading = λ x. then_read (read_tree m seed root start 0 (choices ++ x)) (read_supply m seed) in
    let after : After Any start (then_read (read_tree m seed root start 0 choices) (read_supply m seed)) go =
    goes_then Any (λ s t w a b. tt) start (read_tree m seed root start 0 choices) (λ x. read_tree m seed root start 0 (choices ++ x)) (read_supply m seed)
    (goes_tree Any (λ s. tt) (λ s t w a b. tt) m AnyWay (λ piece. any_ways (menu m piece)) (λ s parent look fields is. (tt, any_fields _ fields _)) seed root start 0 choices)
    (λ t q rest has. goes_supply Any (λ s. tt) (λ s t w a b. tt) m seed (λ s need source k is there. tt) rest t q) in
    (subst (λ r. After Any start r go) e after).1 more

pub whole_ahead : WholeListsLieAhead
whole_ahead m root seed level choices s sound concrete (u, place, left, e) has =
    let tree = read_tree m seed root (nothing_yet level) 0 choices in
    let v = twice tree (read_supply m seed) u place left e in
    let first = gives_here (AreFresh m) tree v.mid v.place v.left (fresh_tree m sound seed root level 0 choices concrete) v.first in
    let fresh = gives_here (AreFresh m) (read_supply m seed v.mid v.place v.left) u place left (fresh_supply m seed v.mid v.place v.left first) v.second in
    let here : HasRead (answer_of (read_values m seed u place left)) s = subst (λ r. HasRead (answer_of (then_read r (read_values m seed))) s) e has in
    let ended = ahead m seed u (claims_options m sound u fresh) (values_options m sound u fresh) place left s here in
    (ended.more, ended.scenario, ap (λ r. answer_of (then_read r (read_values m seed))) (sources_on m root seed level choices ended.more u place left e) ∙ ap answer_of ended.is)
