-- What is known of whatever is read lies in its domains, and what is refused stays refused.
use Rattle.std.proofs.Common.{◌≡◌, ℕ, ℤ, List, [], ◌++◌, map, Some, refl, sym, ap, ◌∙◌, subst}
use Rattle.std.specs.Prelude.{slice_get}
use Rattle.std.specs.Option.{option_and_then}
use Rattle.std.proofs.lemmas.Option.{none-some, same_Some, option_and_then_some}
use Rattle.pst_expr.specs.Spans.{IsDomain}
use Rattle.pst_model.specs.declared.action.Reference.{Reference}
use Rattle.pst_model.specs.declared.action.Claim.{Claim}
use Rattle.pst_model.specs.declared.model.Pool.{Pool}
use Rattle.pst_model.specs.ModelTree.{ModelTree, ActionTree}
use Rattle.pst_model.specs.Served.{objects_of}
use Rattle.pst_model.specs.Sound.{IsSoundField, IsSoundAction, IsSound}
use Rattle.pst_scen.specs.declared.act.Act.{Act}
use Rattle.pst_scen.specs.declared.act.Filled.{Filled}
use Rattle.pst_scen.specs.declared.scenario.First.{First}
use Rattle.pst_scen.specs.declared.scenario.Scenario.{Scenario}
use Rattle.pst_legal.specs.Types.{type_of, object_field, action_reference}
use Rattle.pst_legal.specs.Growing.{nothing_yet}
use Rattle.pst_legal.specs.Standing.{field_span}
use Rattle.pst_legal.specs.Slots.{pool_span, first_values}
use Rattle.pst_legal.specs.Reading.{Reading, Wants, Stops, Reads, then_read, read_tree}
use Rattle.pst_legal.specs.SupplyReading.{read_supply}
use Rattle.pst_legal.specs.ValueReading.{answer_of, read_values, read}
use Rattle.pst_built.specs.Laws.{IsConcreteRoot}
use Rattle.pst_built.proofs.Parents.{get_more}
use Rattle.pst_built.proofs.SoundActs.{all_get, served_pool}
use Rattle.pst_built.proofs.Lists.{get_mapped}
use Rattle.pst_built.specs.SoFar.{HasRead}
use Rattle.pst_built.specs.Known.{Allows, InDomains}
use Rattle.pst_built.specs.MoreKnownLaws.{RefusalsGoOn}
use Rattle.pst_built.specs.ReadOnwardLaws.{LongerListsKeepWhatIsKnown}
use Rattle.pst_read_domains.specs.ReadNodesLaws.{ReadLeavesHaveActions, HandlesHaveTheirTypes}
use Rattle.pst_built.specs.ReadFitsLaws.{WholeReadingsFit}
use Rattle.pst_read_domains.specs.ReadValuesLaws.{CompoundsAreValued, CompoundValuesAreInDomains}
use Rattle.pst_read_domains.specs.ReadActsLaws.{IsOfItsType, ActsAreOfTheirTypes, LinksJoinPools}
use Rattle.pst_read_domains.proofs.Hulls.{in_hull}
use Rattle.pst_read_domains.proofs.Domains.{values_in_domains}
use Rattle.pst_read_domains.specs.WholeAheadLaws.{WholeListsLieAhead}
use Rattle.pst_read_domains.specs.Laws.{ReadValuesAreInDomains, RefusalsStayRefused}
use Rattle.pst_read_domains.proofs.Back.{LinksAreJoined, CompoundsAreAllowed, domains_before}
use Rattle.pst_read_domains.proofs.Empty.{IsUnvalued, place_unvalued}

module _ (m : ModelTree) (sound : IsSound m) where
  compounds_allowed : (s : Scenario) → CompoundsAreValued m s → CompoundsAreAllowed m s
  compounds_allowed s valued n node action instance values i v is of at =
      let x = valued n node action instance values i v is of at in
      let domain : IsDomain x.0.domain = option_and_then_some (λ (type : ActionTree). slice_get type.fields i) (type_of m action) x.0 x.1
      (λ type there has. (all_get IsSoundField type.fields i x.0 (all_get (IsSoundAction m) m.actions action type sound.actions there).fields has).domain) in
      subst (λ o. Allows (field_span o) v) (sym x.1) (in_hull x.0.domain domain v x.2)

  -- the pool of a reference is one of its objects
  served_as : (x : Act) → IsOfItsType m x → (r : ℕ) (f : Filled) (field : ℕ) → slice_get x.references r ≡ Some f
      → pool_span m f.pool field ≡ field_span (option_and_then (λ y. object_field m y.object field) (action_reference m x.action r))
  served_as x of r f field at =
      let own = of.references r f at in
      let p = served_pool m sound x.action x.instance r f.pool of.type of.is own.pool in
      let listed : slice_get (objects_of of.type) r ≡ Some own.reference.object =
      get_more (map (λ (y : Reference). y.object) of.type.references) (map (λ (y : Claim). y.object) of.type.claims) r own.reference.object
      (get_mapped (λ (y : Reference). y.object) of.type.references r own.reference own.is) in
      let same : p.0.object ≡ own.reference.object = same_Some p.0.object own.reference.object (sym p.2 ∙ listed) in
      let named : action_reference m x.action r ≡ Some own.reference = ap (option_and_then (λ (t : ActionTree). slice_get t.references r)) of.is ∙ own.is in
      ap field_span (ap (option_and_then (λ (q : Pool). object_field m q.object field)) p.1 ∙ ap (λ n. object_field m n field) same)
      ∙ sym (ap (λ o. field_span (option_and_then (λ (y : Reference). object_field m y.object field) o)) named)

  no_value : (xs : List ℤ) (i : ℕ) (v : ℤ) → xs ≡ [] → slice_get xs i ≡ Some v → ⊥
  no_value xs i v none at = none-some v (ap (λ vs. slice_get vs i) (sym none) ∙ at)

  -- where there are no values but those of compound actions
  unvalued_in_domains : (s : Scenario) → IsUnvalued s → ((a : ℕ) (x : Act) → slice_get s.actions a ≡ Some x → IsOfItsType m x) → LinksAreJoined s → CompoundsAreAllowed m s → InDomains m s
  unvalued_in_domains s none of links compounds = record {
    fields = λ a x i v is at. absurd (no_value x.fields i v (none.fields a x is) at);
    instances = λ a x c claimed is at. absurd (none-some claimed (ap (λ cs. slice_get cs c) (sym (none.claims a x is)) ∙ at));
    claims = λ a x c claimed i v is at has. absurd (none-some claimed (ap (λ cs. slice_get cs c) (sym (none.claims a x is)) ∙ at));
    outputs = λ a r f i v is at. absurd (no_value f.values i v (none.outputs a r f is) at);
    links = links;
    firsts = λ pool i v at. absurd (no_value (first_values s.firsts pool) i v (ap (λ (fs : List First). first_values fs pool) none.firsts) at);
    compounds = compounds;
    served = λ a x r f field is at. served_as x (of a x is) r f field at;
  }

joined : LinksJoinPools → (m : ModelTree) (root seed level : ℕ) (choices : List ℕ) (s : Scenario) → HasRead (read m root seed level choices) s → LinksAreJoined s
joined links m root seed level choices s has a r b q f g is to there =
    let x = links m root seed level choices s has a r b q f is to in
    ap (λ (y : Filled). y.pool) (same_Some g x.0 (sym there ∙ x.1)) ∙ x.2

module _ (acts : ActsAreOfTheirTypes) (links : LinksJoinPools) (compounds : CompoundValuesAreInDomains) (ahead : WholeListsLieAhead) (fit : WholeReadingsFit) (longer : LongerListsKeepWhatIsKnown)
    (m : ModelTree) (root seed level : ℕ) (choices : List ℕ) (s : Scenario) (sound : IsSound m) (concrete : IsConcreteRoot m root) (has : HasRead (read m root seed level choices) s) where
  own_links : LinksAreJoined s
  own_links = joined links m root seed level choices s has

  own_compounds : CompoundsAreAllowed m s
  own_compounds = compounds_allowed m sound s (compounds m root seed level choices s sound has)

  by_reading : (r : Reading) → then_read (read_tree m seed root (nothing_yet level) 0 choices) (read_supply m seed) ≡ r → HasRead (answer_of (then_read r (read_values m seed))) s → InDomains m s
  by_reading (Wants t n) e here =
      unvalued_in_domains m sound s (subst IsUnvalued here (place_unvalued m root seed level choices t n e)) (acts m root seed level choices s sound concrete has) own_links own_compounds
  by_reading Stops e here = absurd here
  by_reading (Reads u place left) e here =
      let w = ahead m root seed level choices s sound concrete (u, place, left, e) has in
      let more = w.0 in
      let t = w.1 in
      let there : HasRead (read m root seed level (choices ++ more)) t = subst (λ a. HasRead a t) (sym w.2) refl in
      let fits = fit m root seed level (choices ++ more) t sound concrete w.2 in
      let later = values_in_domains m sound t fits.values (joined links m root seed level (choices ++ more) t there) (compounds_allowed m sound t (compounds m root seed level (choices ++ more) t sound there)) in
      domains_before m s t (longer m root seed level choices more s t has there) later own_links own_compounds

pub read_in_domains : ActsAreOfTheirTypes → LinksJoinPools → CompoundValuesAreInDomains → WholeListsLieAhead → WholeReadingsFit → LongerListsKeepWhatIsKnown → ReadValuesAreInDomains
read_in_domains acts links compounds ahead fit longer m root seed level choices s sound concrete has =
    by_reading acts links compounds ahead fit longer m root seed level choices s sound concrete has (then_read (read_tree m seed root (nothing_yet level) 0 choices) (read_supply m seed)) refl has

pub stay_refused : ReadValuesAreInDomains → RefusalsGoOn → ReadLeavesHaveActions → HandlesHaveTheirTypes → LongerListsKeepWhatIsKnown → RefusalsStayRefused
stay_refused domains go_on leaves handles longer m root seed level choices more s t sound concrete has later some =
    go_on m s t sound (longer m root seed level choices more s t has later) (leaves m root seed level choices s has) (domains m root seed level (choices ++ more) t sound concrete later)
    (handles m root seed level (choices ++ more) t sound later) some
