-- Lists of uses that grow.
use Rattle.std.proofs.Common.{◌≡◌, ◌⊎◌, inl, inr, ⊎_elim, ◌<◌, ◌≤◌, ◌+◌, ◌++◌, ◌∷◌, [], ℕ, List, length, get_or, slice_get, Some, refl, sym, subst, ap, ◌∙◌, arith}
use Rattle.std.proofs.lemmas.Bool.{cases_lt}
use Rattle.std.proofs.lemmas.Option.{slice_get_within, slice_get-get_or, get_or_from_slice_get}
use Rattle.std.proofs.lemmas.List.{get_or_push, length_push, get_or_append_left}
use Rattle.pst_scen.specs.declared.act.Act.{Act}
use Rattle.pst_scen.specs.declared.act.Filled.{Filled}
use Rattle.pst_scen.specs.declared.act.Claimed.{Claimed}
use Rattle.pst_scen.specs.declared.act.Flow.TheVariants.{StateIn, StateOut}
use Rattle.pst_scen.specs.declared.scenario.Scenario.{Scenario}
use Rattle.pst_scen.specs.Flows.{IsAct}
use Rattle.pst_graph.specs.declared.uses.Use.{Use}
use Rattle.pst_graph.specs.Uses.{IsClaimUse, IsStateUse, IsUseOfClaims, IsUseOfReferences, IsUse, Listed, Lengthens, HasClaims, HasReferences, AreUses}
use Rattle.pst_graph.proofs.Acted.{one_act}
use Rattle.pst_nodes.proofs.Climbs.{same_some}

module _ {X : Type 0} (uses : List X) (u : X) where
  pub pushed_kept : (i : ℕ) (v : X) → slice_get uses i ≡ Some v → slice_get (uses ++ u ∷ []) i ≡ Some v
  pushed_kept i v is =
      let within = slice_get_within uses i v is in
      let many = length_push uses u in
      slice_get-get_or (uses ++ u ∷ []) i v (omega (arith, within, many)) ∙ ap Some (get_or_append_left uses (u ∷ []) v i within ∙ get_or_from_slice_get uses i v v is)

  pub pushed_last : slice_get (uses ++ u ∷ []) (length uses) ≡ Some u
  pushed_last =
      let many = length_push uses u in
      slice_get-get_or (uses ++ u ∷ []) (length uses) u (omega (arith, many)) ∙ ap Some (get_or_push uses u u (length uses) refl)

  pub pushed : (P : X → Type 0) → P u → Lengthens uses (uses ++ u ∷ []) P × Listed (uses ++ u ∷ []) P
  pushed P has = (record { kept = pushed_kept; sound = λ i v is. sound i v is (cases_lt i (length uses)) }, record { place = length uses; one = u; is = pushed_last; has = has })
    where
      sound : (i : ℕ) (v : X) → slice_get (uses ++ u ∷ []) i ≡ Some v → (i < length uses) ⊎ (length uses ≤ i) → (slice_get uses i ≡ Some v) ⊎ P v
      sound i v is (inl less) =
          let at : get_or uses i v ≡ v = sym (get_or_append_left uses (u ∷ []) v i less) ∙ get_or_from_slice_get (uses ++ u ∷ []) i v v is in
          inl (slice_get-get_or uses i v less ∙ ap Some at)
      sound i v is (inr more) =
          let within = slice_get_within (uses ++ u ∷ []) i v is in
          let many = length_push uses u in
          let same : length uses ≡ i = omega (arith, within, many, more) in
          inr (subst P (same_some u v (sym pushed_last ∙ ap (slice_get (uses ++ u ∷ [])) same ∙ is)) has)

pub lengthens_none : {X : Type 0} (uses : List X) (P : X → Type 0) → Lengthens uses uses P
lengthens_none uses P = record { kept = λ i u is. is; sound = λ i u is. inl is }

pub lengthens_as : {X : Type 0} (old new : List X) (P Q : X → Type 0) → ((u : X) → P u → Q u) → Lengthens old new P → Lengthens old new Q
lengthens_as old new P Q to one = record { kept = one.kept; sound = λ i u is. ⊎_elim (λ before. inl before) (λ p. inr (to u p)) (one.sound i u is) }

pub lengthens_then : {X : Type 0} (first middle last : List X) (P : X → Type 0) → Lengthens first middle P → Lengthens middle last P → Lengthens first last P
lengthens_then first middle last P one two = record { kept = λ i u is. two.kept i u (one.kept i u is); sound = λ i u is. ⊎_elim (λ before. one.sound i u before) (λ p. inr p) (two.sound i u is) }

pub listed_on : {X : Type 0} (old new : List X) (P Q : X → Type 0) → Lengthens old new Q → Listed old P → Listed new P
listed_on old new P Q more h = record { place = h.place; one = h.one; is = more.kept h.place h.one h.is; has = h.has }

pub last : (a b : ℕ) → a < b + 1 → (a < b) ⊎ (a ≡ b)
last a b below = go (cases_lt a b)
  where
    go : (a < b) ⊎ (b ≤ a) → (a < b) ⊎ (a ≡ b)
    go (inl less) = inl less
    go (inr more) = inr (omega (arith, more, below))

-- one claim more
module _ (first middle last_uses : List Use) (claims : List Claimed) (a i : ℕ) (claimed : Claimed) (is : slice_get claims i ≡ Some claimed) where
  pub claims_longer : Lengthens first middle (IsUseOfClaims claims a) → Lengthens middle last_uses (IsClaimUse claimed a) → Lengthens first last_uses (IsUseOfClaims claims a)
  claims_longer one two = lengthens_then first middle last_uses (IsUseOfClaims claims a) one (lengthens_as middle last_uses (IsClaimUse claimed a) (IsUseOfClaims claims a) (λ u h. record { claim = i; claimed = claimed; is = is; one = h }) two)

  pub claims_more : HasClaims middle claims a i → Lengthens middle last_uses (IsClaimUse claimed a) → Listed last_uses (IsClaimUse claimed a) → HasClaims last_uses claims a (i + 1)
  claims_more before two here k other below at = go (last k i below)
    where
      go : (k < i) ⊎ (k ≡ i) → Listed last_uses (IsClaimUse other a)
      go (inl less) = listed_on middle last_uses (IsClaimUse other a) (IsClaimUse claimed a) two (before k other less at)
      go (inr same) = subst (λ (x : Claimed). Listed last_uses (IsClaimUse x a)) (same_some claimed other (sym is ∙ ap (slice_get claims) (sym same) ∙ at)) here

-- one reference more
module _ (first middle last_uses : List Use) (references : List Filled) (a i : ℕ) (filled : Filled) (is : slice_get references i ≡ Some filled) where
  pub references_longer : Lengthens first middle (IsUseOfReferences references a) → Lengthens middle last_uses (IsStateUse filled a) → Lengthens first last_uses (IsUseOfReferences references a)
  references_longer one two = lengthens_then first middle last_uses (IsUseOfReferences references a) one (lengthens_as middle last_uses (IsStateUse filled a) (IsUseOfReferences references a) (λ u h. record { reference = i; filled = filled; is = is; one = h }) two)

  pub references_more : HasReferences middle references a i → Lengthens middle last_uses (IsStateUse filled a) → ((filled.flow ≡ StateIn) ⊎ (filled.flow ≡ StateOut) → Listed last_uses (IsStateUse filled a)) → HasReferences last_uses references a (i + 1)
  references_more before two here k other below at kind = go (last k i below)
    where
      go : (k < i) ⊎ (k ≡ i) → Listed last_uses (IsStateUse other a)
      go (inl less) = listed_on middle last_uses (IsStateUse other a) (IsStateUse filled a) two (before k other less at kind)
      go (inr same) =
          let is_other : filled ≡ other = same_some filled other (sym is ∙ ap (slice_get references) (sym same) ∙ at) in
          subst (λ (x : Filled). (x.flow ≡ StateIn) ⊎ (x.flow ≡ StateOut) → Listed last_uses (IsStateUse x a)) is_other here kind

-- one action more
pub uses_more : (s : Scenario) (first middle last_uses : List Use) (a : ℕ) (act : Act) → IsAct s a act → AreUses s first a → Lengthens first middle (IsUseOfClaims act.claims a) → HasClaims middle act.claims a (length act.claims) → Lengthens middle last_uses (IsUseOfReferences act.references a) → HasReferences last_uses act.references a (length act.references) → AreUses s last_uses (a + 1)
uses_more s first middle last_uses a act is_act before one claims two references =
    record {
      sound = λ i u is. sound u (two.sound i u is) (λ was. one.sound i u was) (λ was. before.sound i u was);
      claims = λ b claim other claimed below is_other is. claimed_by b claim other claimed is_other is (last b a below);
      references = λ b reference other filled below is_other is kind. referred_by b reference other filled is_other is kind (last b a below);
    }
  where
    own : (u : Use) → u.act ≡ a → IsAct s u.act act
    own u same = subst (λ (x : ℕ). IsAct s x act) (sym same) is_act

    sound : {A B : Type 0} (u : Use) → A ⊎ IsUseOfReferences act.references a u → (A → B ⊎ IsUseOfClaims act.claims a u) → (B → IsUse s u) → IsUse s u
    sound u (inr h) back oldest = record { act = act; is_act = own u h.one.act; of = inr (subst (λ (x : ℕ). IsUseOfReferences act.references x u) (sym h.one.act) h) }
    sound u (inl was) back oldest = ⊎_elim oldest (λ h. record { act = act; is_act = own u h.one.act; of = inl (subst (λ (x : ℕ). IsUseOfClaims act.claims x u) (sym h.one.act) h) }) (back was)

    on : (P : Use → Type 0) → Listed first P → Listed last_uses P
    on P h = listed_on middle last_uses P (IsUseOfReferences act.references a) two (listed_on first middle P (IsUseOfClaims act.claims a) one h)

    claimed_by : (b claim : ℕ) (other : Act) (claimed : Claimed) → IsAct s b other → slice_get other.claims claim ≡ Some claimed → (b < a) ⊎ (b ≡ a) → Listed last_uses (IsClaimUse claimed b)
    claimed_by b claim other claimed is_other is (inl less) = on (IsClaimUse claimed b) (before.claims b claim other claimed less is_other is)
    claimed_by b claim other claimed is_other is (inr same) =
        let one_other : other ≡ act = one_act s a other act (subst (λ (x : ℕ). IsAct s x other) same is_other) is_act in
        let at : slice_get act.claims claim ≡ Some claimed = subst (λ (x : Act). slice_get x.claims claim ≡ Some claimed) one_other is in
        subst (λ (x : ℕ). Listed last_uses (IsClaimUse claimed x)) (sym same)
        (listed_on middle last_uses (IsClaimUse claimed a) (IsUseOfReferences act.references a) two (claims claim claimed (slice_get_within act.claims claim claimed at) at))

    referred_by : (b reference : ℕ) (other : Act) (filled : Filled) → IsAct s b other → slice_get other.references reference ≡ Some filled → (filled.flow ≡ StateIn) ⊎ (filled.flow ≡ StateOut) → (b < a) ⊎ (b ≡ a) → Listed last_uses (IsStateUse filled b)
    referred_by b reference other filled is_other is kind (inl less) = on (IsStateUse filled b) (before.references b reference other filled less is_other is kind)
    referred_by b reference other filled is_other is kind (inr same) =
        let one_other : other ≡ act = one_act s a other act (subst (λ (x : ℕ). IsAct s x other) same is_other) is_act in
        let at : slice_get act.references reference ≡ Some filled = subst (λ (x : Act). slice_get x.references reference ≡ Some filled) one_other is in
        subst (λ (x : ℕ). Listed last_uses (IsStateUse filled x)) (sym same) (references reference filled (slice_get_within act.references reference filled at) at kind)
