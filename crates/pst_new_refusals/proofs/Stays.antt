-- Where nothing new is refused, nothing is.
use Rattle.std.proofs.Common.{◌≡◌, ◌⊎◌, ℕ, List, [], Bool, true, false, refl, sym, ap₂, subst, inl, inr, ⊎_elim}
use Rattle.std.proofs.lemmas.Option.{none-some}
use Rattle.pst_model.specs.ModelTree.{ModelTree}
use Rattle.pst_scen.specs.declared.act.Act.{Act}
use Rattle.pst_scen.specs.declared.tree.Node.{Node}
use Rattle.pst_scen.specs.declared.scenario.Scenario.{Scenario}
use Rattle.pst_legal.specs.First.{NoneRefused}
use Rattle.pst_refusals.specs.Inlines.{has_inlines}
use Rattle.pst_new_refusals.specs.declared.far.FarTypes.{FarTypes}
use Rattle.pst_new_refusals.specs.Far.{AreFarOf}
use Rattle.pst_new_refusals.specs.Named.{rows}
use Rattle.pst_new_refusals.specs.Since.{IsUnread, IsSince}
use Rattle.pst_new_refusals.specs.Newly.{so_far, ArePlainFree, AreInlinesFree, AreTouchedFree, IfNot, StaysFree}
use Rattle.pst_new_refusals.proofs.Kept.{kept}
use Rattle.pst_new_refusals.proofs.KeptFar.{kept_far}

-- nothing is read of nodes without actions
unread : (nodes : List Node) (actions : List Act) → actions ≡ [] → IsUnread (so_far nodes actions)
unread nodes actions none = subst (λ acts. IsUnread (so_far nodes acts)) (sym none) (record { outputs = λ a r f is. absurd (none-some f is); firsts = refl })

module _ (m : ModelTree) (far : FarTypes) (of : AreFarOf m far) (inlines : Bool) (has : inlines ≡ false → has_inlines m ≡ false) (actions : List Act) (from : ℕ) (fresh : List Act) where
  -- of nodes
  module _ (s t : Scenario) (since : IsSince s t from fresh) (none : NoneRefused m s) (free : ArePlainFree m (so_far t.nodes actions) from fresh)
      (stated : (inlines ≡ false) ⊎ AreInlinesFree m (so_far t.nodes actions) from fresh) where
    some_stated : (has_inlines m ≡ false) ⊎ AreInlinesFree m (so_far t.nodes actions) from fresh
    some_stated = ⊎_elim (λ without. inl (has without)) (λ tests. inr tests) stated

    pub near_stays : IsUnread (so_far t.nodes actions) → far.some ≡ false → NoneRefused m t
    near_stays read without = kept m s t from fresh since none actions read (of.none without) free some_stated

  far_stays : (s t : Scenario) → IsSince s t from fresh → NoneRefused m s → ArePlainFree m (so_far t.nodes t.actions) from fresh → (inlines ≡ false) ⊎ AreInlinesFree m (so_far t.nodes t.actions) from fresh
      → AreTouchedFree m (so_far t.nodes t.actions) (rows far.named.items) inlines from fresh → NoneRefused m t
  far_stays s t since none free stated over =
      kept_far m s t from fresh since none over.list (over.all since.earlier) free over.nodes
      (rows far.named.items) of.named over.behind
      (⊎_elim (λ without. inl (has without)) (λ tests. ⊎_elim (λ without. inl (has without)) (λ at. inr (tests, at)) over.stated) stated)

  pub stays : (nodes : List Node) → ArePlainFree m (so_far nodes actions) from fresh → (inlines ≡ false) ⊎ AreInlinesFree m (so_far nodes actions) from fresh
      → (far.some ≡ false) ⊎ AreTouchedFree m (so_far nodes actions) (rows far.named.items) inlines from fresh → StaysFree m far.some nodes actions from fresh
  stays nodes free stated over s t same (inr without) since none =
      near_stays s t since none (subst (λ ns. ArePlainFree m (so_far ns actions) from fresh) (sym same) free) (subst (λ ns. (inlines ≡ false) ⊎ AreInlinesFree m (so_far ns actions) from fresh) (sym same) stated) (unread t.nodes actions without.1) without.0
  stays nodes free stated (inl without) s t same (inl acts) since none =
      near_stays s t since none (subst (λ ns. ArePlainFree m (so_far ns actions) from fresh) (sym same) free) (subst (λ ns. (inlines ≡ false) ⊎ AreInlinesFree m (so_far ns actions) from fresh) (sym same) stated)
      (subst (λ xs. IsUnread (so_far t.nodes xs)) acts (record { outputs = since.new.outputs; firsts = refl })) without
  stays nodes free stated (inr over) s t same (inl acts) since none =
      far_stays s t since none (subst (λ u. ArePlainFree m u from fresh) (as_is t same acts) free) (subst (λ u. (inlines ≡ false) ⊎ AreInlinesFree m u from fresh) (as_is t same acts) stated) (subst (λ u. AreTouchedFree m u (rows far.named.items) inlines from fresh) (as_is t same acts) over)
    where
      as_is : (t : Scenario) → t.nodes ≡ nodes → t.actions ≡ actions → so_far nodes actions ≡ so_far t.nodes t.actions
      as_is t same acts = ap₂ so_far (sym same) (sym acts)

  pub stays_if : (nodes : List Node) (b : Bool) → ArePlainFree m (so_far nodes actions) from fresh → (inlines ≡ false) ⊎ AreInlinesFree m (so_far nodes actions) from fresh
      → IfNot b ((far.some ≡ false) ⊎ AreTouchedFree m (so_far nodes actions) (rows far.named.items) inlines from fresh) → IfNot b (StaysFree m far.some nodes actions from fresh)
  stays_if nodes true free stated over = tt
  stays_if nodes false free stated over = stays nodes free stated over
