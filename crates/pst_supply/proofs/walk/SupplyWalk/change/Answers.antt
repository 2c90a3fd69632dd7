use Rattle.std.proofs.Common.{List, [], ◌∷◌, refl, ap, sym, subst, ◌∙◌}
use Rattle.std.specs.Prelude.{reverse}
use Rattle.pst_scen.specs.declared.act.Act.{Act}
use Rattle.pst_supply.specs.declared.walk.Made.{Made}
use Rattle.pst_supply.specs.declared.walk.SupplyWalk.TheInside.{Inside}
use Rattle.pst_supply.specs.Walks.{IsChange}
use Rattle.pst_supply.specs.Choices.{digits_of, change_after}
use Rattle.pst_supply.specs.Made.{AllStand, ground_of, kept_with}
use Rattle.pst_supply.proofs.Stands.{last_change}
use Rattle.pst_supply.proofs.walk.SupplyWalk.change.Goals as goal

is_change : (w : Inside) (made : List Made) (acts : List Act) → AllStand (ground_of w) w.first made acts → IsChange (kept_with w made) (change_after made)
is_change w [] acts h = refl
is_change w (x ∷ older) acts h = (digits_of older, x.digit, refl, last_change (ground_of w) w.first x older acts h)

pub returns : goal.returns
returns c =
    let w = c.self.inside in
    subst (λ k. IsChange k c.change_of.result) c.self.view_is
    (subst (IsChange (kept_with w (reverse w.made.items))) (sym (c.change_of.ensures ∙ ap (λ l. change_after (reverse l)) c.deref.ensures.value))
    (is_change w (reverse w.made.items) w.acts.items c.self.invariant.stands))
