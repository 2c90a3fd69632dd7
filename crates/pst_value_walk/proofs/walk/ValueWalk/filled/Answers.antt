use Rattle.std.proofs.Common.{◌≡◌, ℕ, ◌+◌, ◌-◌, List, [], ◌∷◌, length, map, Option, Some, None, refl, sym, ap, ◌∙◌, subst, arith}
use Rattle.std.specs.Prelude.{reverse, slice_get}
use Rattle.std.specs.Vec.{vec_len}
use Rattle.std.proofs.lemmas.Bool.{false≢true, eq-eqb}
use Rattle.std.proofs.lemmas.List.{length-reverse}
use Rattle.std.proofs.lemmas.Option.{none-some, same_Some}
use Rattle.pst_model.specs.ModelView.{view_model}
use Rattle.pst_legal.specs.ValueReading.{with_option}
use Rattle.pst_blanks.specs.declared.blank.Blank.{Blank}
use Rattle.pst_blanks.specs.Blanks.{read_blank, blank_of}
use Rattle.pst_value_walk.specs.declared.walk.ValueWalk.TheInside.{Inside}
use Rattle.pst_value_walk.specs.Walks.{IfRead, IsBlank, IsFilled, answer}
use Rattle.pst_value_walk.specs.Choices.{digits_of, cleared_at, option_of, Stands, begun, kept_at}
use Rattle.pst_value_walk.proofs.ReadSoFar.{length-digits_of, reads_so_far}
use Rattle.pst_value_walk.proofs.walk.ValueWalk.filled.Goals as goal

is_filled : (w : Inside) (made : List ℕ) → Stands (view_model w.model.now) w.seed w.place w.places.items made w.scenario → (n : ℕ) → length made ≡ n → (r : Option Blank) → IsBlank r (slice_get (map blank_of w.places.items) (n - 1)) → (n ≡ 0 → ⊥) → IsFilled (kept_at w.model.now w.seed w.place w.places.items made w.scenario) r
is_filled w [] h n long r is some = absurd (some (sym long))
is_filled w (d ∷ older) h n long None is some =
    let c = h.choices.0 in
    let at : n - 1 ≡ length older = omega arith in
    absurd (none-some c.blank (sym is ∙ ap (slice_get (map blank_of w.places.items)) at ∙ c.is))
is_filled w (d ∷ older) h n long (Some x) is some =
    let m = view_model w.model.now in
    let blanks = map blank_of w.places.items in
    let c = h.choices.0 in
    let at : n - 1 ≡ length older = omega arith in
    let old = cleared_at (slice_get blanks (length older)) w.scenario in
    let got : slice_get blanks (length older) ≡ Some (read_blank x) = ap (slice_get blanks) (sym at) ∙ is in
    let same : c.blank ≡ read_blank x = same_Some c.blank (read_blank x) (sym c.is ∙ got) in
    let linked = begun w.places.items (d ∷ older) w.scenario in
    let k = option_of m w.seed (w.place + length older) old c.blank d in
    let now : w.scenario ≡ with_option m k (read_blank x) old = c.filled ∙ ap (λ b. with_option m k b old) same in (
      digits_of older,
      d,
      refl,
      ap (λ l. slice_get l (length (digits_of older))) (sym h.blanks) ∙ ap (slice_get blanks) (length-digits_of older) ∙ got,
      reads_so_far m w.seed w.place linked blanks (d ∷ older) w.scenario h.firsts h.blanks h.choices
          (λ s. IfRead (answer (record (kept_at w.model.now w.seed w.place w.places.items (d ∷ older) w.scenario) { choices = digits_of older })) (λ t. (option : ℕ) × (s ≡ with_option m option (read_blank x) t)))
          (reads_so_far m w.seed w.place linked blanks older old h.firsts h.blanks h.choices.1 (λ t. (option : ℕ) × (w.scenario ≡ with_option m option (read_blank x) t)) (k, now)),
    )

pub returns : goal.returns
returns c =
    let w = c.self.inside in
    let made = reverse w.made.items in
    let r = c.blank_of.result in
    let n = c.len.result in
    let long : length made ≡ n = length-reverse w.made.items ∙ sym w.made.ok.0 ∙ sym c.len.ensures in
    let some : n ≡ 0 → ⊥ = λ e. false≢true (sym c.if-is_empty.false ∙ c.is_empty.ensures ∙ eq-eqb (vec_len w.made) 0 (sym c.len.ensures ∙ e)) in
    let is = subst (λ l. IsBlank r (slice_get (map blank_of l) (n - 1))) c.deref.ensures.value c.blank_of.ensures in
    subst (λ k. IsFilled k r) c.self.view_is (is_filled w made c.self.invariant n long r is some)
