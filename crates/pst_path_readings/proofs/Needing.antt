-- Names behind references and claims, by their sorts.
use Rattle.std.proofs.Common.{◌≡◌, ℕ, List, refl, sym, ap, ◌∙◌, Bool, true, false}
use Rattle.std.specs.Prelude.{Some, None, if◌then◌else◌}
use Rattle.pst_ast.specs.declared.shared.TypeName.{TypeName}
use Rattle.pst_ast.specs.declared.scope_declaration.Declaration.{Declaration}
use Rattle.pst_ast.specs.declared.scope_declaration.Sort.TheVariants as sort
use Rattle.pst_ast.specs.declared.referent.Referent.{Referent}
use Rattle.pst_ast.specs.declared.referent.Referent.TheVariants.{Declared, Initial, Previous, Number}
use Rattle.pst_model.specs.ConstraintTree.{SlotTree, Through}
use Rattle.pst_ast.specs.Sorts.{is_handle}
use Rattle.pst_ast.specs.Lookups.{type_of}
use Rattle.pst_terms.specs.Sources.{Sources, declared_in}
use Rattle.pst_terms.specs.Terms.{Reading}
use Rattle.pst_terms.specs.Readings.{map_reading, need_reading, handle_reading, behind_reading}
use Rattle.pst_type_members.specs.declared.lists.MemberSort.TheVariants as by
use Rattle.pst_path_readings.specs.declared.wrap.Wrap.{Wrap}
use Rattle.pst_path_readings.specs.Wrapped.{wrapped}
use Rattle.pst_path_readings.specs.Behind.{member_number, reference_reading, claim_reading, replaced_reading}
use Rattle.pst_path_readings.proofs.Wrapping.{behind_handle}

pub reference_is : (s : Sources) (owner r : Declaration) (of : TypeName) (output : Bool) (last : Referent) → need_reading s owner r (sort.Reference of output) last ≡ reference_reading s owner r last
reference_is s owner r of output (Declared d) = refl
reference_is s owner r of output (Initial d) = refl
reference_is s owner r of output (Previous d) = refl
reference_is s owner r of output (Number d) = refl

pub claim_is : (s : Sources) (owner r : Declaration) (of : TypeName) (last : Referent) → need_reading s owner r (sort.Claim of) last ≡ claim_reading s owner r last
claim_is s owner r of (Declared d) = refl
claim_is s owner r of (Initial d) = refl
claim_is s owner r of (Previous d) = refl
claim_is s owner r of (Number d) = refl

-- ---- behind what is declared

abbrev pub seen : Bool → Wrap
seen outer = record { outer = outer; handle = None }

chosen : (b c : Bool) (x y : Reading SlotTree) → b ≡ c → (if c then x else y) ≡ (if b then x else y)
chosen b c x y e = ap (λ (d : Bool). if d then x else y) (sym e)

pub behind_need : (outer : Bool) (s : Sources) (owner h : Declaration) (between : List Referent) (last : Referent) → is_handle h.sort ≡ false
    → map_reading (wrapped (seen outer)) (need_reading s owner h h.sort last) ≡ map_reading (wrapped (seen outer)) (behind_reading s owner (Declared h) between last)
behind_need outer s owner h between last e = ap (map_reading (wrapped (seen outer))) (chosen (is_handle h.sort) false (map_reading (Through (member_number s by.Handle owner h)) (handle_reading s (type_of (declared_in s) h) between last)) (need_reading s owner h h.sort last) e)

pub behind_handled : (outer : Bool) (n : ℕ) (s : Sources) (owner h : Declaration) (between : List Referent) (last : Referent) → is_handle h.sort ≡ true → n ≡ member_number s by.Handle owner h
    → map_reading (wrapped (record { outer = outer; handle = Some n })) (handle_reading s (type_of (declared_in s) h) between last) ≡ map_reading (wrapped (seen outer)) (behind_reading s owner (Declared h) between last)
behind_handled outer n s owner h between last e number =
    behind_handle outer n (handle_reading s (type_of (declared_in s) h) between last)
    ∙ ap (λ (k : ℕ). map_reading (wrapped (seen outer)) (map_reading (Through k) (handle_reading s (type_of (declared_in s) h) between last))) number
    ∙ ap (map_reading (wrapped (seen outer))) (chosen (is_handle h.sort) true (map_reading (Through (member_number s by.Handle owner h)) (handle_reading s (type_of (declared_in s) h) between last)) (need_reading s owner h h.sort last) e)

pub replaced_is : (s : Sources) (owner object : Declaration) (between : List Referent) (last : Referent) → behind_reading s owner (Previous object) between last ≡ replaced_reading s object last
replaced_is s owner object between (Declared d) = refl
replaced_is s owner object between (Initial d) = refl
replaced_is s owner object between (Previous d) = refl
replaced_is s owner object between (Number d) = refl
