-- Where a constraint is refused no longer list reads a legal scenario.
use Rattle.std.proofs.Common.{◌≡◌, ◌++◌, refl, sym, ◌∙◌, subst}
use Rattle.std.proofs.lemmas.Bool.{false_from_ne_true}
use Rattle.pst_model.specs.ModelTree.{ModelTree}
use Rattle.pst_scen.specs.declared.scenario.Scenario.{Scenario}
use Rattle.pst_legal.specs.Constraints.{is_refused_at}
use Rattle.pst_legal.specs.ValueReading.{Answer, Options, Dead, Whole, read}
use Rattle.pst_legal.specs.First.{NoneRefused, IsLiveAnswer}
use Rattle.pst_built.specs.LongerLaws.{DeadStaysDead}
use Rattle.pst_built.specs.SoFar.{HasRead}
use Rattle.pst_built.specs.Refused.{SomeRefused}
use Rattle.pst_built.specs.MoreKnownLaws.{RefusalsGoOn}
use Rattle.pst_built.specs.ReadOnwardLaws.{LongerListsKeepWhatIsKnown}
use Rattle.pst_read_domains.specs.ReadNodesLaws.{ReadLeavesHaveActions, HandlesHaveTheirTypes}
use Rattle.pst_read_domains.specs.RefusalsStayLaws.{LegalScenariosAreInDomains, RefusedDoesNotHold, RefusedListsAreBarren, BeginningsAreLive}

pub refused_barren : RefusalsGoOn → ReadLeavesHaveActions → HandlesHaveTheirTypes → LongerListsKeepWhatIsKnown → LegalScenariosAreInDomains → RefusedDoesNotHold → RefusedListsAreBarren
refused_barren go_on leaves handles longer domains not_hold m root seed level choices s sound has some more t legal =
    let read_t : HasRead (read m root seed level (choices ++ more)) t = subst (λ a. HasRead a t) (sym legal.reads) refl in
    let refused = go_on m s t sound (longer m root seed level choices more s t has read_t) (leaves m root seed level choices s has) (domains m root t sound legal.legal)
    (handles m root seed level (choices ++ more) t sound read_t) some in
    not_hold m t sound legal.legal.holds refused

none_refused : (m : ModelTree) (s : Scenario) → (SomeRefused m s → ⊥) → NoneRefused m s
none_refused m s none k standing has =
    false_from_ne_true (is_refused_at k standing) (λ e. none (record { constraint = k; standing = standing; has = has; refused = e }))

whole_not_dead : (t : Scenario) → Dead ≡ Whole t → ⊥
whole_not_dead t e = cc

pub are_live : DeadStaysDead → RefusedListsAreBarren → BeginningsAreLive
are_live dead barren m root seed level choices more t sound some legal =
    record { some = some; live = by (read m root seed level choices) refl }
  where
    by : (answer : Answer) → read m root seed level choices ≡ answer → IsLiveAnswer m answer
    by (Options s n) e = none_refused m s (λ refused. barren m root seed level choices s sound (subst (λ a. HasRead a s) (sym e) refl) refused more t legal)
    by Dead e = whole_not_dead t (sym (dead m root seed level choices more e) ∙ legal.reads)
    by (Whole s) e = none_refused m s (λ refused. barren m root seed level choices s sound (subst (λ a. HasRead a s) (sym e) refl) refused more t legal)
