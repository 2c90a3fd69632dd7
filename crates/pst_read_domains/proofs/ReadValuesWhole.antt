-- The values of compound actions are of their domains in whatever is read.
use Rattle.std.proofs.Common.{ℕ, List, [], ◌∷◌, ◌++◌, subst}
use Rattle.std.proofs.lemmas.Option.{none-some}
use Rattle.pst_expr.specs.Laws.{DomainsListValues}
use Rattle.pst_model.specs.ModelTree.{ModelTree}
use Rattle.pst_model.specs.Sound.{IsSound}
use Rattle.pst_scen.specs.declared.scenario.Scenario.{Scenario}
use Rattle.pst_legal.specs.Growing.{nothing_yet}
use Rattle.pst_legal.specs.Reading.{Reading, Wants, Stops, Reads, read_tree}
use Rattle.pst_legal.specs.SupplyReading.{Spot, Source, Initially, From, New, supplied_by, read_supply}
use Rattle.pst_legal.specs.Blanks.{Blank, Instance, OfFirst, OfAct, OfOutput, OfClaim, claim_blanks, value_blanks}
use Rattle.pst_legal.specs.ValueReading.{with_option, with_firsts, read_values, answer_of, read_all}
use Rattle.pst_built.specs.StepsOf.{BlankSteps}
use Rattle.pst_built.proofs.Goes.{Stands, Goes, stands, goes_then}
use Rattle.pst_built.proofs.Readers.{goes_tree, goes_supply, goes_values}
use Rattle.pst_built.specs.SoFar.{HasRead}
use Rattle.pst_read_domains.specs.ReadValuesLaws.{CompoundValuesAreInDomains}
use Rattle.pst_read_domains.proofs.Steps.{IsStart, Keeps, menu_starts, looks_keep}

keeps_same : (m : ModelTree) (s : Scenario) → Keeps m s s
keeps_same m s valued = valued

keeps_then : (m : ModelTree) (s t u : Scenario) → Keeps m s t → Keeps m t u → Keeps m s u
keeps_then m s t u one other valued = other (one valued)

supplied_keeps : (m : ModelTree) (s : Scenario) (need : Spot) (source : Source) → Keeps m s (supplied_by m s need source)
supplied_keeps m s need Initially valued = valued
supplied_keeps m s need (From b q) valued = valued
supplied_keeps m s need (New action instance q) valued = valued

option_keeps : (m : ModelTree) (k : ℕ) (blank : Blank) (s : Scenario) → Keeps m s (with_option m k blank s)
option_keeps m k (Instance act claim) s valued = valued
option_keeps m k (OfFirst pool field) s valued = valued
option_keeps m k (OfAct act field) s valued = valued
option_keeps m k (OfOutput act reference field) s valued = valued
option_keeps m k (OfClaim act claim field) s valued = valued

blank_steps : (m : ModelTree) (blanks : List Blank) (s : Scenario) → BlankSteps (Keeps m) m blanks s
blank_steps m [] s = tt
blank_steps m (blank ∷ more) s = λ k l. (option_keeps m k blank s, blank_steps m more (with_option m k blank s))

module _ (listed : DomainsListValues) (m : ModelTree) (sound : IsSound m) (seed root : ℕ) where
  goes_all : (s : Scenario) (p : ℕ) (ds : List ℕ) → Goes (Keeps m) s (read_all m seed root) p ds
  goes_all s p ds =
      goes_then (Keeps m) (keeps_then m) s _ (λ more. _) (read_values m seed)
      (goes_then (Keeps m) (keeps_then m) s (read_tree m seed root s p ds) (λ more. read_tree m seed root s p (ds ++ more)) (read_supply m seed)
      (goes_tree (Keeps m) (keeps_same m) (keeps_then m) m (IsStart m) (menu_starts m) (λ t parent look fields is. looks_keep listed m sound t parent look fields is) seed root s p ds)
      (λ t q rest has. goes_supply (Keeps m) (keeps_same m) (keeps_then m) m seed (λ u need source k is there. supplied_keeps m u need source) rest t q))
      (λ t q rest has. goes_values (Keeps m) (keeps_same m) (keeps_then m) m seed t q rest
      (record { firsts = λ valued. valued; claims = blank_steps m (claim_blanks m t.actions) (with_firsts m t); values = λ u h. blank_steps m (value_blanks m t.actions) u }))

stands_read : (m : ModelTree) (s t : Scenario) (r : Reading) → Stands (Keeps m) s r → HasRead (answer_of r) t → Keeps m s t
stands_read m s t (Wants u n) on has = subst (Keeps m s) has on
stands_read m s t Stops on has = absurd has
stands_read m s t (Reads u p []) on has = subst (Keeps m s) has on
stands_read m s t (Reads u p (d ∷ left)) on has = absurd has

pub compounds_valued : DomainsListValues → CompoundValuesAreInDomains
compounds_valued listed m root seed level choices s sound has =
    let start = nothing_yet level in
    stands_read m start s (read_all m seed root start 0 choices)
    (stands (Keeps m) start (read_all m seed root start 0 choices) (λ more. read_all m seed root start 0 (choices ++ more)) (goes_all listed m sound seed root start 0 choices)) has
    (λ n node action instance values i v is of at. absurd (none-some node is))
