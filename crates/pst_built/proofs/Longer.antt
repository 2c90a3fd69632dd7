-- What a longer list reads goes on from what the list has read.
use Rattle.std.proofs.Common.{◌≡◌, ℕ, ◌+◌, List, [], ◌∷◌, ◌++◌, refl, ◌∙◌, subst}
use Rattle.pst_model.specs.declared.action.Field.{Field}
use Rattle.pst_model.specs.ModelTree.{ModelTree}
use Rattle.pst_scen.specs.declared.scenario.Scenario.{Scenario}
use Rattle.pst_legal.specs.Growing.{Look, Inner, Leaf, with_look, nothing_yet}
use Rattle.pst_legal.specs.Menus.{menu}
use Rattle.pst_legal.specs.Reading.{Reading, Wants, Stops, Reads, read_place, put_value, value_number, read_tree}
use Rattle.pst_legal.specs.SupplyReading.{read_supply}
use Rattle.pst_legal.specs.Blanks.{Blank, claim_blanks, value_blanks}
use Rattle.pst_legal.specs.ValueReading.{with_option, with_firsts, read_values, answer_of, read_all}
use Rattle.pst_built.specs.StepsOf.{FieldSteps, BlankSteps}
use Rattle.pst_built.proofs.Goes.{Stands, After, Goes, place_stands_at, goes_then, goes_then_in}
use Rattle.pst_built.proofs.Readers.{goes_tree, goes_supply, goes_values}
use Rattle.pst_built.proofs.Read.{AnyWay, any_ways}
use Rattle.pst_built.specs.SoFar.{HasRead}
use Rattle.pst_built.specs.Onward.{Onward}
use Rattle.pst_built.proofs.Onward.{onward_same, onward_then}
use Rattle.pst_built.specs.ReadOnwardLaws.{LongerListsKeepWhatIsKnown}
use Rattle.pst_built.proofs.Nodes.{onward_put, onward_look}
use Rattle.pst_built.proofs.ReadOnwardLinks.{onward_supplied, supplied_firsts}
use Rattle.pst_built.proofs.ReadOnwardValues.{onward_option, onward_firsts}

-- while no first object is read
pub record Bare (s t : Scenario) : Type 0 where
  pub onward : Onward s t
  pub firsts : t.firsts ≡ s.firsts

bare_same : (s : Scenario) → Bare s s
bare_same s = record { onward = onward_same s; firsts = refl }

bare_then : (s t u : Scenario) → Bare s t → Bare t u → Bare s u
bare_then s t u one other = record { onward = onward_then s t u one.onward other.onward; firsts = other.firsts ∙ one.firsts }

look_firsts : (m : ModelTree) (s : Scenario) (parent : _) (look : Look) → (with_look m s parent look).firsts ≡ s.firsts
look_firsts m s parent (Inner f) = refl
look_firsts m s parent (Leaf action instance) = refl

field_steps : (n : ℕ) (fields : List Field) (s : Scenario) → FieldSteps Bare n fields s
field_steps n [] s = tt
field_steps n (field ∷ fields) s = λ k l. (record { onward = onward_put s n (value_number field k); firsts = refl }, field_steps n fields (put_value s n (value_number field k)))

blank_steps : (m : ModelTree) (blanks : List Blank) (s : Scenario) → BlankSteps Onward m blanks s
blank_steps m [] s = tt
blank_steps m (blank ∷ more) s = λ k l. (onward_option m k blank s, blank_steps m more (with_option m k blank s))

goes_all : (m : ModelTree) (seed root level : ℕ) (p : ℕ) (ds : List ℕ) → Goes Onward (nothing_yet level) (read_all m seed root) p ds
goes_all m seed root level p ds =
    let s = nothing_yet level in
    goes_then_in Bare Onward bare_then onward_then (λ t u b. b.onward) s _ (λ more. _) (read_values m seed)
    (goes_then Bare bare_then s (read_tree m seed root s p ds) (λ more. read_tree m seed root s p (ds ++ more)) (read_supply m seed)
    (goes_tree Bare bare_same bare_then m AnyWay (λ piece. any_ways (menu m piece)) (λ t parent look fields is. (record { onward = onward_look m t parent look; firsts = look_firsts m t parent look }, field_steps _ fields _)) seed root s p ds)
    (λ t q rest has. goes_supply Bare bare_same bare_then m seed (λ u need source k is there. record { onward = onward_supplied m u need source k is there; firsts = supplied_firsts m u need source }) rest t q))
    (λ t q rest has. goes_values Onward onward_same onward_then m seed t q rest
    (record { firsts = onward_firsts m t has.firsts; claims = blank_steps m (claim_blanks m t.actions) (with_firsts m t); values = λ u h. blank_steps m (value_blanks m t.actions) u }))

stands_read : (s t : Scenario) (r : Reading) → Stands Onward s r → HasRead (answer_of r) t → Onward s t
stands_read s t (Wants u n) on has = subst (Onward s) has on
stands_read s t Stops on has = absurd has
stands_read s t (Reads u p []) on has = subst (Onward s) has on
stands_read s t (Reads u p (d ∷ left)) on has = absurd has

whole_read : (u t : Scenario) (p : ℕ) (more : List ℕ) → HasRead (answer_of (Reads u p more)) t → Onward u t
whole_read u t p [] has = subst (Onward u) has (onward_same u)
whole_read u t p (d ∷ more) has = absurd has

after_read : (first s t : Scenario) (r : Reading) (go : List ℕ → Reading) (more : List ℕ) → After Onward first r go → HasRead (answer_of r) s → HasRead (answer_of (go more)) t → Onward s t
after_read first s t (Wants u n) go more after is has =
    let x = after.1 in
    let stood = place_stands_at Onward u x.start n x.place x.next more (onward_same u) (λ k d rest l e. x.on k (x.place + 1) rest l) in
    subst (λ v. Onward v t) is (stands_read u t (read_place x.start n x.next u x.place more) stood (subst (λ r. HasRead (answer_of r) t) (x.is more) has))
after_read first s t Stops go more after is has = absurd is
after_read first s t (Reads u p []) go more after is has = subst (λ v. Onward v t) is (whole_read u t p more (subst (λ r. HasRead (answer_of r) t) (after.1 more) has))
after_read first s t (Reads u p (d ∷ left)) go more after is has = absurd is

pub longer_onward : LongerListsKeepWhatIsKnown
longer_onward m root seed level choices more s t is has =
    after_read (nothing_yet level) s t (read_all m seed root (nothing_yet level) 0 choices) (λ others. read_all m seed root (nothing_yet level) 0 (choices ++ others)) more
    (goes_all m seed root level 0 choices) is has
