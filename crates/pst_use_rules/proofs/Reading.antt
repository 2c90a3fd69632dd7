-- What the paths in a condition come to.
use Rattle.std.proofs.Common.{◌≡◌, refl, ap, ◌∙◌, ℕ, List, [], ◌∷◌, Option, Bool, true, false, true≢false, sym}
use Rattle.std.specs.Prelude.{Some, None}
use Rattle.std.specs.List.{fold}
use Rattle.pst_ast.specs.declared.scope_declaration.Declaration.{Declaration}
use Rattle.pst_ast.specs.declared.referent.Finding.{Finding}
use Rattle.pst_ast.specs.Uses.{Use, Judges, HasPlain, HasType, Uniques, Branches, Arms, Performs, Ties, Passes, Reads, Repeats, TakesItem, NamesType, NamesBase, Calls, Assigns, Traverses, Ends, Joins, Binds, Targets}
use Rattle.pst_walk_paths.specs.Shown.{is_path, by_paths}
use Rattle.pst_walk_paths.proofs.Shown.{by_all}
use Rattle.pst_name_rules.specs.Earlier.{earlier}
use Rattle.pst_name_rules.specs.Leasts.{least_at}
use Rattle.pst_use_rules.specs.Found.{read_found}
use Rattle.pst_use_rules.specs.Read.{ReadSoFar, read}

no_later : (found : Option Finding) → earlier found None ≡ found
no_later None = refl
no_later (Some f) = refl

-- another use than a path finds nothing
nothing : (ds : List Declaration) (names : List (List ℕ)) (u : Use) → is_path u ≡ false → read_found ds names u ≡ None
nothing ds names (Reads at first rest) other = absurd (true≢false other)
nothing ds names (TakesItem at component enum item) other = refl
nothing ds names (Judges at role expr) other = refl
nothing ds names (HasPlain at plain) other = refl
nothing ds names (HasType at type) other = refl
nothing ds names (Uniques items) other = refl
nothing ds names (Branches places) other = refl
nothing ds names (Arms at labels) other = refl
nothing ds names (Performs at place traversal) other = refl
nothing ds names (Ties at first others) other = refl
nothing ds names (Passes component name arguments needed) other = refl
nothing ds names (Repeats at first rest) other = refl
nothing ds names (NamesType component wanted name) other = refl
nothing ds names (NamesBase action name) other = refl
nothing ds names (Calls component name) other = refl
nothing ds names (Assigns at name) other = refl
nothing ds names (Traverses at name) other = refl
nothing ds names (Ends at handle reference) other = refl
nothing ds names (Joins labels name) other = refl
nothing ds names (Binds component pool) other = refl
nothing ds names (Targets component pool instances action reference) other = refl

others : (v : ReadSoFar) (u : Use) → is_path u ≡ false → read v u ≡ v
others v u other =
    ap (λ (f : Option Finding). record v { least = earlier v.least f }) (nothing v.ds v.names u other)
    ∙ ap (λ (f : Option Finding). record v { least = f }) (no_later v.least)

module _ (ds : List Declaration) (names : List (List ℕ)) where
  abbrev so_far : Option Finding → ReadSoFar
  so_far least = record { ds = ds; names = names; least = least }

  all_read : (us : List Use) (least : Option Finding) → (fold read (so_far least) us).least ≡ least_at (read_found ds names) us least
  all_read [] least = refl
  all_read (u ∷ us) least = all_read us (earlier least (read_found ds names u))

  pub read_all : (us : List Use) (least : Option Finding) → (fold (by_paths read) (so_far least) us).least ≡ least_at (read_found ds names) us least
  read_all us least = ap (λ (v : ReadSoFar). v.least) (by_all read others (so_far least) us) ∙ all_read us least
