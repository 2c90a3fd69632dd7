-- The least of some findings.
use Rattle.std.specs.Prelude.{◌≡◌, ◌⊎◌, List, [], ◌∷◌, Option, Some, None}
use Rattle.pst_ast.specs.declared.referent.Finding.{Finding}
use Rattle.pst_ast.specs.Breaches.{IsNoLater}
use Rattle.pst_name_rules.specs.Earlier.{earlier}

abbrev pub NoLater : Finding → Finding → Type 0
NoLater f g = IsNoLater f.place f.rule g.place g.rule

-- none, where there is none; else one before which there is none
abbrev pub IsLeastOf : (Finding → Type 0) → Option Finding → Type 0
IsLeastOf P None = (f : Finding) → P f → ⊥
IsLeastOf P (Some f) = P f × ((g : Finding) → P g → NoLater f g)

-- the least of what is found at the items of a list
abbrev pub least_at : {X : Type 0} → (X → Option Finding) → List X → Option Finding → Option Finding
least_at finding [] before = before
least_at finding (x ∷ more) before = least_at finding more (earlier before (finding x))

-- something of the list has that finding
abbrev pub IsIn : {X : Type 0} → (X → Option Finding) → List X → Finding → Type 0
IsIn finding [] f = ⊥
IsIn finding (x ∷ more) f = (finding x ≡ Some f) ⊎ IsIn finding more f
