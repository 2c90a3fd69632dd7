-- What a longer list reads goes on from what the list has read.
use Rattle.std.proofs.Common.{ℕ, ◌+◌, List, [], ◌∷◌, ◌++◌, subst}
use Rattle.pst_model.specs.declared.action.Field.{Field}
use Rattle.pst_model.specs.ModelTree.{ModelTree}
use Rattle.pst_scen.specs.declared.scenario.Scenario.{Scenario}
use Rattle.pst_legal.specs.Growing.{nothing_yet}
use Rattle.pst_legal.specs.Menus.{menu}
use Rattle.pst_legal.specs.Reading.{Reading, Wants, Stops, Reads, read_place, put_value, value_number, read_tree}
use Rattle.pst_legal.specs.SupplyReading.{read_supply}
use Rattle.pst_legal.specs.Blanks.{Blank, claim_blanks, value_blanks}
use Rattle.pst_legal.specs.ValueReading.{with_option, with_firsts, read_values, answer_of, read_all}
use Rattle.pst_built.specs.StepsOf.{FieldSteps, BlankSteps}
use Rattle.pst_built.proofs.Goes.{Stands, After, Goes, place_stands_at, goes_then as reads_then}
use Rattle.pst_built.proofs.Readers.{goes_tree, goes_supply, goes_values}
use Rattle.pst_built.proofs.Read.{AnyWay, any_ways}
use Rattle.pst_built.specs.GoesOn.{GoesOn}
use Rattle.pst_built.specs.SoFar.{HasRead}
use Rattle.pst_built.specs.OrderStaysLaws.{LongerListsGoOn}
use Rattle.pst_built.proofs.Steps.{goes_same, goes_then, goes_look, goes_put, goes_supplied, goes_option}

field_steps : (n : ℕ) (fields : List Field) (s : Scenario) → FieldSteps GoesOn n fields s
field_steps n [] s = tt
field_steps n (field ∷ fields) s = λ k l. (goes_put s n (value_number field k), field_steps n fields (put_value s n (value_number field k)))

blank_steps : (m : ModelTree) (blanks : List Blank) (s : Scenario) → BlankSteps GoesOn m blanks s
blank_steps m [] s = tt
blank_steps m (blank ∷ more) s = λ k l. (goes_option m k blank s, blank_steps m more (with_option m k blank s))

firsts_on : (m : ModelTree) (s : Scenario) → GoesOn s (with_firsts m s)
firsts_on m s = record { nodes = (goes_same s).nodes; acts = (goes_same s).acts }

goes_all : (m : ModelTree) (seed root : ℕ) (s : Scenario) (p : ℕ) (ds : List ℕ) → Goes GoesOn s (read_all m seed root) p ds
goes_all m seed root s p ds =
    reads_then GoesOn goes_then s _ (λ more. _) (read_values m seed)
    (reads_then GoesOn goes_then s (read_tree m seed root s p ds) (λ more. read_tree m seed root s p (ds ++ more)) (read_supply m seed)
    (goes_tree GoesOn goes_same goes_then m AnyWay (λ piece. any_ways (menu m piece)) (λ t parent look fields is. (goes_look m t parent look, field_steps _ fields _)) seed root s p ds)
    (λ t q rest has. goes_supply GoesOn goes_same goes_then m seed (λ u need source k is there. goes_supplied m u need source k is there) rest t q))
    (λ t q rest has. goes_values GoesOn goes_same goes_then m seed t q rest
    (record { firsts = firsts_on m t; claims = blank_steps m (claim_blanks m t.actions) (with_firsts m t); values = λ u h. blank_steps m (value_blanks m t.actions) u }))

stands_read : (s t : Scenario) (r : Reading) → Stands GoesOn s r → HasRead (answer_of r) t → GoesOn s t
stands_read s t (Wants u n) on has = subst (GoesOn s) has on
stands_read s t Stops on has = absurd has
stands_read s t (Reads u p []) on has = subst (GoesOn s) has on
stands_read s t (Reads u p (d ∷ left)) on has = absurd has

whole_read : (u t : Scenario) (p : ℕ) (more : List ℕ) → HasRead (answer_of (Reads u p more)) t → GoesOn u t
whole_read u t p [] has = subst (GoesOn u) has (goes_same u)
whole_read u t p (d ∷ more) has = absurd has

after_read : (first s t : Scenario) (r : Reading) (go : List ℕ → Reading) (more : List ℕ) → After GoesOn first r go → HasRead (answer_of r) s → HasRead (answer_of (go more)) t → GoesOn s t
after_read first s t (Wants u n) go more after is has =
    let x = after.1 in
    let stood = place_stands_at GoesOn u x.start n x.place x.next more (goes_same u) (λ k d rest l e. x.on k (x.place + 1) rest l) in
    subst (λ v. GoesOn v t) is (stands_read u t (read_place x.start n x.next u x.place more) stood (subst (λ r. HasRead (answer_of r) t) (x.is more) has))
after_read first s t Stops go more after is has = absurd is
after_read first s t (Reads u p []) go more after is has = subst (λ v. GoesOn v t) is (whole_read u t p more (subst (λ r. HasRead (answer_of r) t) (after.1 more) has))
after_read first s t (Reads u p (d ∷ left)) go more after is has = absurd is

pub longer_go_on : LongerListsGoOn
longer_go_on m root seed level choices more s t is has =
    after_read (nothing_yet level) s t (read_all m seed root (nothing_yet level) 0 choices) (λ others. read_all m seed root (nothing_yet level) 0 (choices ++ others)) more
    (goes_all m seed root (nothing_yet level) 0 choices) is has
