-- Readings of slots that are seen through others.
use Rattle.std.proofs.Common.{◌≡◌, ℕ, zero, suc, ◌+◌, List, [], ◌∷◌, refl, sym, ap, ◌∙◌, Bool, true, false, map}
use Rattle.std.specs.Prelude.{Option, Some, None, if◌then◌else◌}
use Rattle.pst_model.specs.ConstraintTree.{SlotTree, Through, Outer}
use Rattle.pst_numbering.specs.declared.reading.KeptSlot.{KeptSlot}
use Rattle.pst_numbering.specs.Kept.{view_kept, kept_at, elements_of, outer_if, through}
use Rattle.pst_terms.specs.Fields.{counted}
use Rattle.pst_terms.specs.Terms.{Reading, ANumber, AThing, AnArray}
use Rattle.pst_terms.specs.Readings as tree
use Rattle.pst_path_readings.specs.declared.wrap.Wrap.{Wrap}
use Rattle.pst_path_readings.specs.declared.fields.FieldOf.{FieldOf}
use Rattle.pst_path_readings.specs.declared.fields.FieldOf.TheVariants as of
use Rattle.pst_path_readings.specs.Wrapped.{wrapped, slot_of, own_of}

abbrev pub kept : Wrap → FieldOf → ℕ → KeptSlot
kept w f n = record { outer = w.outer; handle = w.handle; own = own_of f n }

pub field_is : (w : Wrap) (f : FieldOf) (n : ℕ) → view_kept (kept w f n) ≡ wrapped w (slot_of f n)
field_is w of.Itself n = refl
field_is w (of.Referenced r) n = refl
field_is w (of.Claimed c) n = refl
field_is w of.Replaced n = refl

map_twice : {A B C : Type 0} (f : B → C) (g : A → B) (xs : List A) → map f (map g xs) ≡ map (λ x. f (g x)) xs
map_twice f g [] = refl
map_twice f g (x ∷ xs) = ap (λ (ys : List _). f (g x) ∷ ys) (map_twice f g xs)

pub elements_are : (w : Wrap) (f : FieldOf) (n count : ℕ) → elements_of (kept w f n) count ≡ map (wrapped w) (map (slot_of f) (counted n count))
elements_are w of.Itself n count = sym (map_twice (wrapped w) (slot_of of.Itself) (counted n count))
elements_are w (of.Referenced r) n count = sym (map_twice (wrapped w) (slot_of (of.Referenced r)) (counted n count))
elements_are w (of.Claimed c) n count = sym (map_twice (wrapped w) (slot_of (of.Claimed c)) (counted n count))
elements_are w of.Replaced n count = sym (map_twice (wrapped w) (slot_of of.Replaced) (counted n count))

-- ---- one wrapping in another

map_same : (f : SlotTree → SlotTree) (xs : List SlotTree) → ((x : SlotTree) → f x ≡ x) → map f xs ≡ xs
map_same f [] same = refl
map_same f (x ∷ xs) same = ap (λ (y : SlotTree). y ∷ map f xs) (same x) ∙ ap (λ (ys : List SlotTree). x ∷ ys) (map_same f xs same)

pub alone : (r : Reading SlotTree) → tree.map_reading (wrapped (record { outer = false; handle = None })) r ≡ r
alone (ANumber n) = refl
alone (AThing x) = refl
alone (AnArray xs) = ap AnArray (map_same (wrapped (record { outer = false; handle = None })) xs (λ x. refl))

pub behind_handle : (outer : Bool) (h : ℕ) (r : Reading SlotTree)
    → tree.map_reading (wrapped (record { outer = outer; handle = Some h })) r ≡ tree.map_reading (wrapped (record { outer = outer; handle = None })) (tree.map_reading (Through h) r)
behind_handle outer h (ANumber n) = refl
behind_handle outer h (AThing x) = refl
behind_handle outer h (AnArray xs) = ap AnArray (sym (map_twice (wrapped (record { outer = outer; handle = None })) (Through h) xs))

pub outer_is : (outer : Bool) (r : Reading SlotTree) → tree.map_reading (wrapped (record { outer = outer; handle = None })) r ≡ tree.outer_if outer r
outer_is true r = refl
outer_is false r = alone r
