use Rattle.std.proofs.Common.{rules, ◌≡◌, List, subst, ap, ◌∙◌}
use Rattle.std.specs.HashMap.{get}
use Rattle.pst_tree.specs.declared.key.PlaceKey.{PlaceKey}
use Rattle.pst_tree.specs.Members.{place_key, same_key}
use Rattle.pst_tree.specs.declared.sites.ActionSite.{ActionSite}
use Rattle.pst_tree.specs.InheritedFound.{site_at}
use Rattle.pst_tree.proofs.sites.Sites.at.Goals as goal

pub returns : goal.returns
returns c =
    let key = place_key c.args.place in
    let at_key : c.copied.result ≡ get same_key c.self.inside.sites c.place_key.result = search rules in
    let found : c.copied.result ≡ site_at c.self.inside.found.items c.args.place = at_key ∙ (ap (λ (k : PlaceKey). get same_key c.self.inside.sites k) c.place_key.ensures ∙ c.self.invariant.sites key) in
    subst (λ (xs : List ActionSite). c.copied.result ≡ site_at xs c.args.place) c.self.view_is found
