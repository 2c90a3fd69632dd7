-- What longer lists of choices read.
use Rattle.std.proofs.Common.{◌≡◌, ℕ, ◌+◌, ◌<◌, ◌≤◌, List, [], ◌∷◌, ◌++◌, if◌then◌else◌, ap, ◌∙◌, subst, arith}
use Rattle.std.proofs.lemmas.Bool.{le-ltb}
use Rattle.pst_model.specs.declared.action.Field.{Field}
use Rattle.pst_model.specs.ModelTree.{ModelTree}
use Rattle.pst_scen.specs.declared.scenario.Scenario.{Scenario}
use Rattle.pst_legal.specs.Growing.{Look, nothing_yet}
use Rattle.pst_legal.specs.Menus.{Menu, Way, Place, Weighted, Closed, menu}
use Rattle.pst_legal.specs.Reading.{Reading, Wants, Stops, Reads, option_at, read_place, read_tree, put_value}
use Rattle.pst_legal.specs.SupplyReading.{read_supply}
use Rattle.pst_legal.specs.Blanks.{Blank, value_blanks}
use Rattle.pst_legal.specs.ValueReading.{with_option, read_values, read_all, Options, Dead, Whole, answer_of}
use Rattle.pst_built.specs.LongerLaws.{IsAtPlace, PlacesGoOn, DeadStaysDead, WholeListsEnd, ChoicesNameOptions}
use Rattle.pst_built.proofs.Goes.{After, Goes, goes_then}
use Rattle.pst_built.proofs.Readers.{FieldSteps, BlankSteps, AllWays, goes_tree, goes_supply, goes_values}

-- with no claim on the scenarios
abbrev pub Any : Scenario → Scenario → Type 0
Any s t = Unit {0}

pub any_fields : (n : ℕ) (fields : List Field) (s : Scenario) → FieldSteps Any n fields s
any_fields n [] s = tt
any_fields n (field ∷ fields) s = λ k l. (tt, any_fields n fields (put_value s n _))

pub any_blanks : (m : ModelTree) (blanks : List Blank) (s : Scenario) → BlankSteps Any m blanks s
any_blanks m [] s = tt
any_blanks m (blank ∷ more) s = λ k l. (tt, any_blanks m more (with_option m k blank s))

abbrev pub AnyWay : Look → List Field → Type 0
AnyWay look fields = Unit {0}

pub any_ways : (x : Menu) → AllWays AnyWay x
any_ways (Way look fields below) = tt
any_ways (Place n after) = λ k. any_ways (after k)
any_ways (Weighted weights after) = λ k. any_ways (after k)
any_ways Closed = tt

module _ (m : ModelTree) (seed root : ℕ) where
  pub goes_all : (s : Scenario) (p : ℕ) (ds : List ℕ) → Goes Any s (read_all m seed root) p ds
  goes_all s p ds =
      goes_then Any (λ s t u a b. tt) s _ (λ more. _) (read_values m seed)
      (goes_then Any (λ s t u a b. tt) s (read_tree m seed root s p ds) (λ more. read_tree m seed root s p (ds ++ more)) (read_supply m seed)
      (goes_tree Any (λ s. tt) (λ s t u a b. tt) m AnyWay (λ piece. any_ways (menu m piece)) (λ s parent look fields is. (tt, any_fields _ fields _)) seed root s p ds)
      (λ t q rest has. goes_supply Any (λ s. tt) (λ s t u a b. tt) m seed (λ s need source k is there. tt) rest t q))
      (λ t q rest has. goes_values Any (λ s. tt) (λ s t u a b. tt) m seed t q rest (record { firsts = tt; claims = any_blanks m _ _; values = λ u h. any_blanks m (value_blanks m t.actions) u }))

after_dead : (s : Scenario) (r : Reading) (go : List ℕ → Reading) → After Any s r go → answer_of r ≡ Dead → (more : List ℕ) → answer_of (go more) ≡ Dead
after_dead s (Wants t n) go after is more = absurd cc
after_dead s Stops go after is more = ap answer_of (after more)
after_dead s (Reads t p []) go after is more = absurd cc
after_dead s (Reads t p (d ∷ left)) go after is more = ap answer_of (after.1 more)

after_whole : (s : Scenario) (r : Reading) (go : List ℕ → Reading) (t : Scenario) → After Any s r go → answer_of r ≡ Whole t → (y : ℕ) (ys : List ℕ) → answer_of (go (y ∷ ys)) ≡ Dead
after_whole s (Wants u n) go t after is y ys = absurd cc
after_whole s Stops go t after is y ys = absurd cc
after_whole s (Reads u p []) go t after is y ys = ap answer_of (after.1 (y ∷ ys))
after_whole s (Reads u p (d ∷ left)) go t after is y ys = absurd cc

after_options : (s : Scenario) (r : Reading) (go : List ℕ → Reading) (t : Scenario) (n : ℕ) → After Any s r go → answer_of r ≡ Options t n → (y : ℕ) (ys : List ℕ) → n ≤ y → answer_of (go (y ∷ ys)) ≡ Dead
after_options s (Wants u k) go t n after is y ys past =
    let same : k ≡ n = cc in
    let few : k ≤ y = omega (arith, same, past) in
    ap answer_of (after.1.is (y ∷ ys) ∙ ap (λ b. if b then after.1.next (option_at after.1.start k y) u (after.1.place + 1) ys else Stops) (le-ltb y k few))
after_options s Stops go t n after is y ys past = absurd cc
after_options s (Reads u p []) go t n after is y ys past = absurd cc
after_options s (Reads u p (d ∷ left)) go t n after is y ys past = absurd cc

placed : (m : ModelTree) (root seed level : ℕ) (choices : List ℕ) (s t : Scenario) (n : ℕ) (r : Reading) → After Any s r (λ more. read_all m seed root (nothing_yet level) 0 (choices ++ more)) → answer_of r ≡ Options t n → IsAtPlace m root seed level choices t n
placed m root seed level choices s t n (Wants u k) after is =
    let same : k ≡ n = cc in
    let seen : u ≡ t = cc in
    let x = after.1 in
    let some : 0 < k = x.some in
    record {
      some = subst (λ v. 0 < v) same some;
      start = x.start;
      place = x.place;
      next = x.next;
      is = λ more. ap answer_of (x.is more) ∙ ap (λ v. answer_of (read_place x.start v x.next u x.place more)) same ∙ ap (λ v. answer_of (read_place x.start n x.next v x.place more)) seen;
    }
placed m root seed level choices s t n Stops after is = absurd cc
placed m root seed level choices s t n (Reads u p []) after is = absurd cc
placed m root seed level choices s t n (Reads u p (d ∷ left)) after is = absurd cc

module _ (m : ModelTree) (root seed level : ℕ) (ds : List ℕ) where
  abbrev here : Reading
  here = read_all m seed root (nothing_yet level) 0 ds

  abbrev there : List ℕ → Reading
  there more = read_all m seed root (nothing_yet level) 0 (ds ++ more)

  goes_here : After Any (nothing_yet level) here there
  goes_here = goes_all m seed root (nothing_yet level) 0 ds

pub dead_stays : DeadStaysDead
dead_stays m root seed level ds more is = after_dead (nothing_yet level) (here m root seed level ds) (there m root seed level ds) (goes_here m root seed level ds) is more

pub whole_ends : WholeListsEnd
whole_ends m root seed level ds t y ys is = after_whole (nothing_yet level) (here m root seed level ds) (there m root seed level ds) t (goes_here m root seed level ds) is y ys

pub past_options : ChoicesNameOptions
past_options m root seed level ds t n y ys is past = after_options (nothing_yet level) (here m root seed level ds) (there m root seed level ds) t n (goes_here m root seed level ds) is y ys past

pub places_on : PlacesGoOn
places_on m root seed level ds t n is = placed m root seed level ds (nothing_yet level) t n (here m root seed level ds) (goes_here m root seed level ds) is
