-- What is known before lies in its domains where what is known later does.
use Rattle.std.proofs.Common.{◌≡◌, ℕ, ℤ, pos, List, Option, Some, None, refl, sym, ap, ◌∙◌, subst}
use Rattle.std.specs.Prelude.{slice_get}
use Rattle.std.specs.Option.{option_and_then}
use Rattle.std.proofs.lemmas.Option.{none-some, same_Some, option_and_then_some}
use Rattle.pst_model.specs.declared.action.Reference.{Reference}
use Rattle.pst_model.specs.ModelTree.{ModelTree}
use Rattle.pst_scen.specs.declared.tree.Node.{Node}
use Rattle.pst_scen.specs.declared.tree.Fill.TheVariants as fill
use Rattle.pst_scen.specs.declared.act.Act.{Act}
use Rattle.pst_scen.specs.declared.act.Filled.{Filled}
use Rattle.pst_scen.specs.declared.act.Claimed.{Claimed}
use Rattle.pst_scen.specs.declared.act.Link.TheVariants as link
use Rattle.pst_scen.specs.declared.scenario.Scenario.{Scenario}
use Rattle.pst_scen.specs.Scenarios.{reference_at}
use Rattle.pst_legal.specs.Types.{action_field, object_field, action_reference}
use Rattle.pst_legal.specs.Blanks.{claim_field}
use Rattle.pst_legal.specs.Standing.{field_span}
use Rattle.pst_legal.specs.Slots.{pool_span}
use Rattle.pst_built.proofs.Spots.{at_act}
use Rattle.pst_built.specs.Known.{Allows, claim_numbers, InDomains}
use Rattle.pst_built.specs.Onward.{Both, MoreFilled, Onward}

both_some : {A : Type 0} (G : A → A → Type 0) (o p : Option A) (x : A) → Both G o p → o ≡ Some x → (y : A) × (p ≡ Some y) × G x y
both_some G None p x both e = absurd (none-some x e)
both_some G (Some z) None x both e = absurd both
both_some G (Some z) (Some y) x both e = (y, refl, subst (λ w. G w y) (same_Some z x e) both)

abbrev pub LinksAreJoined : Scenario → Type 0
LinksAreJoined s = (a r b q : ℕ) (f g : Filled) → reference_at s.actions a r ≡ Some f → f.link ≡ link.Act b q → reference_at s.actions b q ≡ Some g → g.pool ≡ f.pool

abbrev pub CompoundsAreAllowed : ModelTree → Scenario → Type 0
CompoundsAreAllowed m s =
    (n : ℕ) (node : Node) (action instance : ℕ) (values : List ℤ) (i : ℕ) (v : ℤ) → slice_get s.nodes n ≡ Some node → node.fill ≡ fill.Compound action instance values → slice_get values i ≡ Some v → Allows (field_span (action_field m action i)) v

module _ (m : ModelTree) (s t : Scenario) (on : Onward s t) (later : InDomains m t) where
  field_in : (a : ℕ) (x : Act) (i : ℕ) (v : ℤ) → slice_get s.actions a ≡ Some x → slice_get x.fields i ≡ Some v → Allows (field_span (action_field m x.action i)) v
  field_in a x i v is at =
      let y = on.acts a x is in
      subst (λ n. Allows (field_span (action_field m n i)) v) y.2.action (later.fields a y.0 i v y.1 (y.2.fields i v at))

  instance_in : (a : ℕ) (x : Act) (c : ℕ) (claimed : Claimed) → slice_get s.actions a ≡ Some x → slice_get x.claims c ≡ Some claimed → Allows (claim_numbers m x.action x.instance c) (pos claimed.instance)
  instance_in a x c claimed is at =
      let y = on.acts a x is in
      let z = y.2.claims c claimed at in
      subst (λ n. Allows (claim_numbers m n x.instance c) (pos claimed.instance)) y.2.action
      (subst (λ n. Allows (claim_numbers m y.0.action n c) (pos claimed.instance)) y.2.instance
      (subst (λ n. Allows (claim_numbers m y.0.action y.0.instance c) (pos n)) z.2.instance (later.instances a y.0 c z.0 y.1 z.1)))

  claim_in : (a : ℕ) (x : Act) (c : ℕ) (claimed : Claimed) (i : ℕ) (v : ℤ) → slice_get s.actions a ≡ Some x → slice_get x.claims c ≡ Some claimed → slice_get claimed.values i ≡ Some v
      → Allows (field_span (claim_field m x.action c i)) v
  claim_in a x c claimed i v is at has =
      let y = on.acts a x is in
      let z = y.2.claims c claimed at in
      subst (λ n. Allows (field_span (claim_field m n c i)) v) y.2.action (later.claims a y.0 c z.0 i v y.1 z.1 (z.2.values i v has))

  output_in : (a r : ℕ) (f : Filled) (i : ℕ) (v : ℤ) → reference_at s.actions a r ≡ Some f → slice_get f.values i ≡ Some v → Allows (pool_span m f.pool i) v
  output_in a r f i v is at =
      option_and_then_some (λ (x : Act). slice_get x.references r) (slice_get s.actions a) f is
      (λ x there has.
      let y = on.acts a x there in
      let g = both_some MoreFilled (slice_get x.references r) (slice_get y.0.references r) f (y.2.references r) has in
      subst (λ p. Allows (pool_span m p i) v) g.2.pool (later.outputs a r g.0 i v (at_act t.actions a r y.0 g.0 y.1 g.1) (g.2.values i v at)))

  served_as : (a : ℕ) (x : Act) (r : ℕ) (f : Filled) (field : ℕ) → slice_get s.actions a ≡ Some x → slice_get x.references r ≡ Some f
      → pool_span m f.pool field ≡ field_span (option_and_then (λ y. object_field m y.object field) (action_reference m x.action r))
  served_as a x r f field is at =
      let y = on.acts a x is in
      let g = both_some MoreFilled (slice_get x.references r) (slice_get y.0.references r) f (y.2.references r) at in
      ap (λ p. pool_span m p field) (sym g.2.pool)
      ∙ later.served a y.0 r g.0 field y.1 g.1
      ∙ ap (λ n. field_span (option_and_then (λ (k : Reference). object_field m k.object field) (action_reference m n r))) y.2.action

  pub domains_before : LinksAreJoined s → CompoundsAreAllowed m s → InDomains m s
  domains_before links compounds = record {
    fields = field_in;
    instances = instance_in;
    claims = claim_in;
    outputs = output_in;
    links = links;
    firsts = λ pool i v at. later.firsts pool i v (on.firsts pool i v at);
    compounds = compounds;
    served = served_as;
  }
