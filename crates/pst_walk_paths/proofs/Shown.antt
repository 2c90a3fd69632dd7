-- A step that paths alone take.
use Rattle.std.proofs.Common.{◌≡◌, Bool, true, false, List, [], ◌∷◌, refl, sym, ap, ◌∙◌}
use Rattle.std.specs.Prelude.{if◌then◌else◌}
use Rattle.std.specs.List.{fold}
use Rattle.pst_ast.specs.Uses.{Use}
use Rattle.pst_walk_paths.specs.Shown.{is_path, by_paths}

module _ {V : Type 0} (step : V → Use → V) (others : (v : V) (u : Use) → is_path u ≡ false → step v u ≡ v) where
  chosen : (v : V) (u : Use) (b : Bool) → is_path u ≡ b → (if b then step v u else v) ≡ step v u
  chosen v u true is = refl
  chosen v u false is = sym (others v u is)

  -- where no other use changes anything, all uses are taken
  pub by_all : (v : V) (us : List Use) → fold (by_paths step) v us ≡ fold step v us
  by_all v [] = refl
  by_all v (u ∷ us) = by_all (by_paths step v u) us ∙ ap (λ (w : V). fold step w us) (chosen v u (is_path u) refl)
