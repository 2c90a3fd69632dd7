-- What is read from a scenario on goes on from it.
use Rattle.std.proofs.Common.{◌≡◌, ℕ, ◌+◌, ℤ, List, [], ◌∷◌, ◌++◌, Option, refl, ◌∙◌, subst}
use Rattle.pst_rng.specs.Words.{start_of}
use Rattle.pst_expr.specs.Spans.{size_of}
use Rattle.pst_model.specs.declared.action.Field.{Field}
use Rattle.pst_model.specs.ModelTree.{ModelTree}
use Rattle.pst_scen.specs.declared.scenario.Scenario.{Scenario}
use Rattle.pst_legal.specs.Growing.{Look, Inner, Leaf, with_look}
use Rattle.pst_legal.specs.Pieces.{Piece}
use Rattle.pst_legal.specs.Menus.{menu}
use Rattle.pst_legal.specs.Reading.{Reading, Wants, Stops, Reads, Reader, then_read, put_value, value_number, read_fields, read_pieces, read_piece}
use Rattle.pst_legal.specs.SupplyReading.{read_supply}
use Rattle.pst_legal.specs.Blanks.{Blank, claim_blanks, value_blanks}
use Rattle.pst_legal.specs.ValueReading.{with_option, with_firsts, read_values, answer_of}
use Rattle.pst_built.specs.StepsOf.{FieldSteps, BlankSteps}
use Rattle.pst_built.specs.SoFar.{HasRead}
use Rattle.pst_built.specs.Onward.{Onward}
use Rattle.pst_built.proofs.Goes.{Stands, stands, place_stands_at, stands_on}
use Rattle.pst_built.proofs.Readers.{goes_piece, goes_supply, goes_values}
use Rattle.pst_built.proofs.Read.{AnyWay, any_ways}
use Rattle.pst_built.proofs.Onward.{onward_same, onward_then}
use Rattle.pst_built.proofs.Nodes.{onward_put, onward_look}
use Rattle.pst_built.proofs.ReadOnwardLinks.{onward_supplied, supplied_firsts}
use Rattle.pst_built.proofs.ReadOnwardValues.{onward_option, onward_firsts}
use Rattle.pst_built.proofs.Longer.{Bare}
use Rattle.pst_field_places.specs.Places.{Pending, read_left}

-- ---- while no first object is read

bare_same : (s : Scenario) → Bare s s
bare_same s = record { onward = onward_same s; firsts = refl }

bare_then : (s t u : Scenario) → Bare s t → Bare t u → Bare s u
bare_then s t u one other = record { onward = onward_then s t u one.onward other.onward; firsts = other.firsts ∙ one.firsts }

look_firsts : (m : ModelTree) (s : Scenario) (parent : Option ℕ) (look : Look) → (with_look m s parent look).firsts ≡ s.firsts
look_firsts m s parent (Inner f) = refl
look_firsts m s parent (Leaf action instance) = refl

bare_look : (m : ModelTree) (s : Scenario) (parent : Option ℕ) (look : Look) → Bare s (with_look m s parent look)
bare_look m s parent look = record { onward = onward_look m s parent look; firsts = look_firsts m s parent look }

bare_put : (s : Scenario) (n : ℕ) (v : ℤ) → Bare s (put_value s n v)
bare_put s n v = record { onward = onward_put s n v; firsts = refl }

field_steps : (n : ℕ) (fields : List Field) (s : Scenario) → FieldSteps Bare n fields s
field_steps n [] s = tt
field_steps n (field ∷ fields) s = λ k l. (bare_put s n (value_number field k), field_steps n fields (put_value s n (value_number field k)))

blank_steps : (m : ModelTree) (blanks : List Blank) (s : Scenario) → BlankSteps Onward m blanks s
blank_steps m [] s = tt
blank_steps m (blank ∷ more) s = λ k l. (onward_option m k blank s, blank_steps m more (with_option m k blank s))

-- ---- one reader after another

-- in two relations, of which the first is the narrower
stands_then : (R Q : Scenario → Scenario → Type 0) → ((s t u : Scenario) → Q s t → Q t u → Q s u) → ((s t : Scenario) → R s t → Q s t) → (s : Scenario) (r : Reading) (g : Reader)
    → Stands R s r → ((t : Scenario) (p : ℕ) (ds : List ℕ) → R s t → Stands Q t (g t p ds)) → Stands Q s (then_read r g)
stands_then R Q both weaker s (Wants t n) g one other = weaker s t one
stands_then R Q both weaker s Stops g one other = tt
stands_then R Q both weaker s (Reads t p left) g one other = stands_on Q both s t (g t p left) (weaker s t one) (other t p left one)

module _ (m : ModelTree) (seed : ℕ) where
  stands_piece : (levels : ℕ) (piece : Piece) (parent : Option ℕ) (s : Scenario) (p : ℕ) (ds : List ℕ) → Stands Bare s (read_piece m seed levels piece parent s p ds)
  stands_piece levels piece parent s p ds =
      stands Bare s (read_piece m seed levels piece parent s p ds) (λ more. read_piece m seed levels piece parent s p (ds ++ more))
      (goes_piece Bare bare_same bare_then m AnyWay (λ x. any_ways (menu m x)) (λ t top look fields is. (bare_look m t top look, field_steps _ fields _)) seed levels piece parent s p ds)

  stands_pieces : (levels : ℕ) (pieces : List Piece) (parent : ℕ) (s : Scenario) (p : ℕ) (ds : List ℕ) → Stands Bare s (read_pieces (read_piece m seed levels) pieces parent s p ds)
  stands_pieces levels [] parent s p ds = bare_same s
  stands_pieces levels (x ∷ xs) parent s p ds =
      stands_then Bare Bare bare_then (λ t u b. b) s (read_piece m seed levels x _ s p ds) (read_pieces (read_piece m seed levels) xs parent) (stands_piece levels x _ s p ds)
      (λ t q rest has. stands_pieces levels xs parent t q rest)

  stands_left : (above : List Pending) (s : Scenario) (p : ℕ) (ds : List ℕ) → Stands Bare s (read_left m seed above s p ds)
  stands_left [] s p ds = bare_same s
  stands_left (below ∷ above) s p ds =
      stands_then Bare Bare bare_then (λ t u b. b) s (read_pieces (read_piece m seed below.levels) below.pieces below.parent s p ds) (read_left m seed above)
      (stands_pieces below.levels below.pieces below.parent s p ds) (λ t q rest has. stands_left above t q rest)

  stands_fields : (n : ℕ) (fields : List Field) (known : List ℤ) (go : List ℤ → Reader) (s : Scenario) (p : ℕ) (ds : List ℕ)
      → ((values : List ℤ) (t : Scenario) (q : ℕ) (rest : List ℕ) → Stands Bare t (go values t q rest)) → Stands Bare s (read_fields seed n fields known go s p ds)
  stands_fields n [] known go s p ds each = each known s p ds
  stands_fields n (field ∷ fields) known go s p ds each =
      place_stands_at Bare s (start_of seed p (size_of field.domain)) (size_of field.domain) p
      (λ k read. read_fields seed n fields (known ++ value_number field k ∷ []) go (put_value read n (value_number field k))) ds (bare_same s)
      (λ k d rest l e. let t = put_value s n (value_number field k) in
      stands_on Bare bare_then s t (read_fields seed n fields (known ++ value_number field k ∷ []) go t (p + 1) rest) (bare_put s n (value_number field k))
      (stands_fields n fields (known ++ value_number field k ∷ []) go t (p + 1) rest each))

  stands_supply : (s : Scenario) (p : ℕ) (ds : List ℕ) → Stands Bare s (read_supply m seed s p ds)
  stands_supply s p ds =
      stands Bare s (read_supply m seed s p ds) (λ more. read_supply m seed s p (ds ++ more))
      (goes_supply Bare bare_same bare_then m seed (λ u need source k is there. record { onward = onward_supplied m u need source k is there; firsts = supplied_firsts m u need source }) ds s p)

  stands_values : (s : Scenario) (p : ℕ) (ds : List ℕ) → s.firsts ≡ [] → Stands Onward s (read_values m seed s p ds)
  stands_values s p ds none =
      stands Onward s (read_values m seed s p ds) (λ more. read_values m seed s p (ds ++ more))
      (goes_values Onward onward_same onward_then m seed s p ds
      (record { firsts = onward_firsts m s none; claims = blank_steps m (claim_blanks m s.actions) (with_firsts m s); values = λ u h. blank_steps m (value_blanks m s.actions) u }))

  -- the fields that are left, what stands below the node, what is left above, the sources and the values
  pub stands_whole : (n levels : ℕ) (fields : List Field) (known : List ℤ) (below : List ℤ → List Piece) (above : List Pending) (s : Scenario) (p : ℕ) (ds : List ℕ) → s.firsts ≡ []
      → Stands Onward s
      (then_read (then_read (then_read (read_fields seed n fields known (λ values. read_pieces (read_piece m seed levels) (below values) n) s p ds) (read_left m seed above)) (read_supply m seed)) (read_values m seed))
  stands_whole n levels fields known below above s p ds none =
      let own = read_fields seed n fields known (λ values. read_pieces (read_piece m seed levels) (below values) n) s p ds in
      stands_then Bare Onward onward_then (λ t u b. b.onward) s (then_read (then_read own (read_left m seed above)) (read_supply m seed)) (read_values m seed)
      (stands_then Bare Bare bare_then (λ t u b. b) s (then_read own (read_left m seed above)) (read_supply m seed)
      (stands_then Bare Bare bare_then (λ t u b. b) s own (read_left m seed above)
      (stands_fields n fields known (λ values. read_pieces (read_piece m seed levels) (below values) n) s p ds (λ values t q rest. stands_pieces levels (below values) n t q rest))
      (λ t q rest has. stands_left above t q rest))
      (λ t q rest has. stands_supply t q rest))
      (λ t q rest has. stands_values t q rest (has.firsts ∙ none))

-- ---- what is read

pub stands_read : (s t : Scenario) (r : Reading) → Stands Onward s r → HasRead (answer_of r) t → Onward s t
stands_read s t (Wants u n) on has = subst (Onward s) has on
stands_read s t Stops on has = absurd has
stands_read s t (Reads u p []) on has = subst (Onward s) has on
stands_read s t (Reads u p (d ∷ left)) on has = absurd has
