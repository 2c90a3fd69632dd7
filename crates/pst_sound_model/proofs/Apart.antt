-- Slots of bodies have a meaning, and two of them are the same or have no field in common.
use Rattle.std.proofs.Common.{◌≡◌, ◌⊎◌, ◌<◌, ◌≤◌, inl, sym, ap, subst, arith, ◌∙◌}
use Rattle.std.specs.Prelude.{ℕ, ◌+◌, false, List}
use Rattle.pst_expr.specs.declared.ranges.Span.{Span}
use Rattle.pst_model.specs.Limits.{most_elements}
use Rattle.pst_model.specs.ConstraintTree.{SlotTree, Own, Object, First, ClaimId, ClaimField, Prev, IsFirst, Id, Index, Local, Through, Outer}
use Rattle.pst_model.specs.ModelTree.{ActionTree, ObjectTree}
use Rattle.pst_model.specs.SoundSlots.{IsActionSlot, IsBodySlot}
use Rattle.pst_ast.specs.declared.scope_declaration.Declaration.{Declaration}
use Rattle.pst_terms.specs.Sources.{Sources}
use Rattle.pst_elab_rules.specs.Types.{model_action, model_objects}
use Rattle.pst_sound_model.specs.Blocks.{without_field, with_field, has_field, AreRows}
use Rattle.pst_sound_model.proofs.Facts.{AreFacts}
use Rattle.pst_sound_model.proofs.ActionReadings.{OfField, OfReference, OfFirst, OfClaim, OfClaimField, IsActionRow, OfItself, OfHandle}
use Rattle.pst_sound_model.proofs.ActionRows.{own_slot}
use Rattle.pst_sound_model.proofs.RowsApart.{action_rows}
use Rattle.pst_sound_model.specs.Rows.{IsBodyRow, OfAction, OfIndex, OfLocal}
use Rattle.pst_sound_model.proofs.Paths.{Never}

to_body : (objects : List ObjectTree) (action : ActionTree) (locals levels : ℕ) (slot : SlotTree) → IsActionSlot objects action slot → IsBodySlot objects action locals levels slot
to_body objects action locals levels (Own field) h = h
to_body objects action locals levels (Object r field) h = h
to_body objects action locals levels (First r) h = h
to_body objects action locals levels (ClaimId c) h = h
to_body objects action locals levels (ClaimField c field) h = h
to_body objects action locals levels (Prev field) h = h
to_body objects action locals levels IsFirst h = h
to_body objects action locals levels Id h = h
to_body objects action locals levels (Index level) h = absurd h
to_body objects action locals levels (Local local) h = absurd h
to_body objects action locals levels (Through handle slot) h = h
to_body objects action locals levels (Outer slot) h = h

alone_rows : (f n g m : ℕ) → f ≡ 0 → n ≡ 1 → g ≡ 0 → m ≡ 1 → ((f ≡ g) × (n ≡ m)) ⊎ ((f + n ≤ g) ⊎ (g + m ≤ f))
alone_rows f n g m a b c d = inl (a ∙ sym c, b ∙ sym d)

module _ (s : Sources) (facts : AreFacts s) (domains : List (List Span)) (d : Declaration) (locals levels : ℕ) where
  abbrev IsSlot : SlotTree → Type 0
  IsSlot = IsBodySlot (model_objects s domains) (model_action s domains d) locals levels

  abbrev Own' : SlotTree → ℕ → ℕ → Type 0
  Own' = IsActionRow s Never d

  abbrev Row : SlotTree → ℕ → ℕ → Type 0
  Row = IsBodyRow Own' locals levels

  own_sound : (slot : SlotTree) (first count k : ℕ) → Own' slot first count → k < count → IsSlot (with_field slot (first + k))
  own_sound slot first count k (OfItself row) less = to_body (model_objects s domains) (model_action s domains d) locals levels (with_field slot (first + k)) (own_slot s facts domains d slot first count k row less)
  own_sound slot first count k (OfHandle h a inner here typed steady row e) less = absurd steady

  own_rows : AreRows IsSlot Own'
  own_rows = action_rows s facts Never d IsSlot own_sound

  no_index : (slot : SlotTree) (level first count : ℕ) → Own' slot first count → slot ≡ Index level → ⊥
  no_index slot level first count (OfItself (OfField x there e a b)) h = cc
  no_index slot level first count (OfItself (OfReference r t x there typed inside e a b)) h = cc
  no_index slot level first count (OfItself (OfFirst r t there typed is e a b)) h = cc
  no_index slot level first count (OfItself (OfClaim x there e a b)) h = cc
  no_index slot level first count (OfItself (OfClaimField x t y there typed inside e a b)) h = cc
  no_index slot level first count (OfHandle i a inner here typed steady row e) h = cc

  no_local : (slot : SlotTree) (local first count : ℕ) → Own' slot first count → slot ≡ Local local → ⊥
  no_local slot local first count (OfItself (OfField x there e a b)) h = cc
  no_local slot local first count (OfItself (OfReference r t x there typed inside e a b)) h = cc
  no_local slot local first count (OfItself (OfFirst r t there typed is e a b)) h = cc
  no_local slot local first count (OfItself (OfClaim x there e a b)) h = cc
  no_local slot local first count (OfItself (OfClaimField x t y there typed inside e a b)) h = cc
  no_local slot local first count (OfHandle i a inner here typed steady row e) h = cc

  bare : (slot : SlotTree) (f n : ℕ) → Row slot f n → without_field slot ≡ slot
  bare slot f n (OfAction row) = own_rows.bare slot f n row
  bare slot f n (OfIndex level less e a b) = ap without_field e ∙ sym e
  bare slot f n (OfLocal local less e a b) = ap without_field e ∙ sym e

  alone : (slot : SlotTree) (f n : ℕ) → Row slot f n → has_field slot ≡ false → (f ≡ 0) × (n ≡ 1)
  alone slot f n (OfAction row) h = own_rows.alone slot f n row h
  alone slot f n (OfIndex level less e a b) h = (a, b)
  alone slot f n (OfLocal local less e a b) h = (a, b)

  few : (slot : SlotTree) (f n : ℕ) → Row slot f n → (1 ≤ n) × (n ≤ most_elements)
  few slot f n (OfAction row) = (own_rows.least slot f n row, own_rows.most slot f n row)
  few slot f n (OfIndex level less e a b) = (omega (arith, b), omega (arith, b))
  few slot f n (OfLocal local less e a b) = (omega (arith, b), omega (arith, b))

  apart : (slot : SlotTree) (f n g m : ℕ) → Row slot f n → Row slot g m → ((f ≡ g) × (n ≡ m)) ⊎ ((f + n ≤ g) ⊎ (g + m ≤ f))
  apart slot f n g m (OfAction one) (OfAction two) = own_rows.apart slot f n g m one two
  apart slot f n g m (OfAction one) (OfIndex level less e a b) = absurd (no_index slot level f n one e)
  apart slot f n g m (OfAction one) (OfLocal local less e a b) = absurd (no_local slot local f n one e)
  apart slot f n g m (OfIndex level less e a b) (OfAction two) = absurd (no_index slot level g m two e)
  apart slot f n g m (OfIndex level less e a b) (OfIndex other more h c d) = alone_rows f n g m a b c d
  apart slot f n g m (OfIndex level less e a b) (OfLocal local more h c d) = absurd (cc)
  apart slot f n g m (OfLocal local less e a b) (OfAction two) = absurd (no_local slot local g m two e)
  apart slot f n g m (OfLocal local less e a b) (OfIndex level more h c d) = absurd (cc)
  apart slot f n g m (OfLocal local less e a b) (OfLocal other more h c d) = alone_rows f n g m a b c d

  sound : (slot : SlotTree) (f n k : ℕ) → Row slot f n → k < n → IsSlot (with_field slot (f + k))
  sound slot f n k (OfAction row) less = own_sound slot f n k row less
  sound slot f n k (OfIndex level more e a b) less = subst (λ (x : SlotTree). IsSlot (with_field x (f + k))) (sym e) more
  sound slot f n k (OfLocal local more e a b) less = subst (λ (x : SlotTree). IsSlot (with_field x (f + k))) (sym e) more

  pub body_rows : AreRows IsSlot Row
  body_rows = record {
    bare = bare;
    alone = alone;
    least = λ slot f n row. (few slot f n row).0;
    most = λ slot f n row. (few slot f n row).1;
    apart = apart;
    sound = sound;
  }
