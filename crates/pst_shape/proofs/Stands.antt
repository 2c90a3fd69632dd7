-- What a walk's invariant says of its answers.
use Rattle.std.proofs.Common.{◌≡◌, ℕ, ◌+◌, ◌<◌, List, [], ◌∷◌, ◌++◌, length, map, Option, refl, sym, ap, ◌∙◌, subst, arith, append_assoc, length-append}
use Rattle.std.specs.Prelude.{if◌then◌else◌}
use Rattle.std.proofs.lemmas.Bool.{lt-ltb}
use Rattle.std.proofs.lemmas.List.{append-nil}
use Rattle.pst_model.specs.declared.action.Field.{Field}
use Rattle.pst_model.specs.ModelTree.{ModelTree}
use Rattle.pst_scen.specs.declared.act.Act.{Act}
use Rattle.pst_scen.specs.declared.scenario.Scenario.{Scenario}
use Rattle.pst_expr.specs.Spans.{size_of}
use Rattle.pst_legal.specs.Growing.{Look, nothing_yet}
use Rattle.pst_legal.specs.Pieces.{Piece}
use Rattle.pst_legal.specs.Menus.{Menu, Way, Place, Weighted, Closed}
use Rattle.pst_legal.specs.Reading.{Wants, Stops, Reader, then_read, read_menu, read_fields, read_tree}
use Rattle.pst_legal.specs.ValueReading.{Answer, Options, answer_of}
use Rattle.pst_shape_steps.specs.declared.pending.At.{At}
use Rattle.pst_shape_steps.specs.declared.pending.At.TheVariants as at
use Rattle.pst_shape.specs.declared.walk.Made.{Made}
use Rattle.pst_shape_parts.specs.Trees.{Tree, scenario_of, opened, bare, IsGrown, cut_to}
use Rattle.pst_shape_steps.specs.Pending.{spot_menu, read_stack, read_on, options_of, first_size, way_at, IsReady, IsOpen, IsDigit, shown_at, valued, Grows}
use Rattle.pst_shape.specs.Walks.{HasDigit, IfRead}
use Rattle.pst_shape.specs.Choices.{digits_of, at_after, node_count, leaf_count, undone}
use Rattle.pst_shape.specs.Made.{Stands, AllStand}
use Rattle.pst_shape_parts.proofs.Placed.{cut_back}
use Rattle.pst_shape.proofs.Placed.{put_back}

module _ (m : ModelTree) (root seed : ℕ) where
  -- the last of them
  pub standing : (start : At) (made : List Made) (t : Tree) → AllStand m root seed start made t → Stands m root seed (digits_of made) (at_after start made) t
  standing start [] t h = h.0
  standing start (x ∷ older) t h = h.0

  pub sizes : (start : At) (made : List Made) (t : Tree) → AllStand m root seed start made t → (length t.nodes ≡ node_count made) × (length t.leaves ≡ leaf_count made)
  sizes start [] t h = (h.1, h.2)
  sizes start (x ∷ older) t h = (h.1, h.2)

  wanted : (x : Menu) (go : Look → List Field → (List _ → List Piece) → Reader) (after : Reader) (s : Scenario) (p : ℕ) → 0 < options_of x → answer_of (then_read (read_menu seed x go s p []) after) ≡ Options s (options_of x)
  wanted (Way look fields below) go after s p h = absurd (omega arith)
  wanted (Place n f) go after s p h = ap (λ b. answer_of (then_read (if b then Wants s n else Stops) after)) (lt-ltb 0 n h)
  wanted (Weighted ws f) go after s p h = ap (λ b. answer_of (then_read (if b then Wants s (length ws) else Stops) after)) (lt-ltb 0 (length ws) h)
  wanted Closed go after s p h = absurd (omega arith)

  wanted_value : (fields : List Field) (n : ℕ) (known : List _) (go : List _ → Reader) (after : Reader) (s : Scenario) (p : ℕ) → 0 < first_size fields → answer_of (then_read (read_fields seed n fields known go s p []) after) ≡ Options s (first_size fields)
  wanted_value [] n known go after s p h = absurd (omega arith)
  wanted_value (f ∷ fields) n known go after s p h = ap (λ b. answer_of (then_read (if b then Wants s (size_of f.domain) else Stops) after)) (lt-ltb 0 (size_of f.domain) h)

  shown : (x : At) (s : Scenario) (p : ℕ) → IsReady x → answer_of (read_on m seed x s p []) ≡ shown_at x s
  shown (at.Going stack) s p h = absurd h
  shown (at.Place spot lv parent below) s p h = wanted (spot_menu spot) (way_at m seed lv parent) (read_stack m seed below.value) s p h
  shown (at.Value f lv below) s p h = wanted_value f.fields.now f.node _ _ (read_stack m seed below.value) s p h
  shown at.Whole s p h = refl
  shown at.Dead s p h = refl

  abbrev read_of : ℕ → List ℕ → Answer
  read_of level choices = answer_of (read_tree m seed root (nothing_yet level) 0 choices)

  -- what is read
  pub stands_answer : (choices : List ℕ) (x : At) (t : Tree) (level : ℕ) → Stands m root seed choices x t → read_of level choices ≡ shown_at x (scenario_of m level t)
  stands_answer choices x t level h =
      ap (λ ds. answer_of (read_tree m seed root (nothing_yet level) 0 ds)) (sym (append-nil choices))
      ∙ ap answer_of (h.reads level []) ∙ shown x (scenario_of m level t) (length choices) h.ready

  if_shown : (x : At) (s : Scenario) (P : Scenario → Type 0) → P s → IfRead (shown_at x s) P
  if_shown (at.Going stack) s P h = tt
  if_shown (at.Place spot lv parent below) s P h = h
  if_shown (at.Value f lv below) s P h = h
  if_shown at.Whole s P h = h
  if_shown at.Dead s P h = tt

  digit_shown : (x : At) (s : Scenario) (d : ℕ) → HasDigit (shown_at x s) d → IsDigit x d
  digit_shown (at.Going stack) s d h = h
  digit_shown (at.Place spot lv parent below) s d h = h
  digit_shown (at.Value f lv below) s d h = h
  digit_shown at.Whole s d h = h
  digit_shown at.Dead s d h = h

  -- the answer to the choices that are made
  pub made_answer : (start : At) (made : List Made) (t : Tree) (level : ℕ) → AllStand m root seed start made t → read_of level (digits_of made) ≡ shown_at (at_after start made) (scenario_of m level t)
  made_answer start made t level h = stands_answer (digits_of made) (at_after start made) t level (standing start made t h)

  pub made_reads : (start : At) (made : List Made) (t : Tree) (level : ℕ) (P : Scenario → Type 0) → AllStand m root seed start made t → P (scenario_of m level t) → IfRead (read_of level (digits_of made)) P
  made_reads start made t level P h p =
      subst (λ a. IfRead a P) (sym (made_answer start made t level h)) (if_shown (at_after start made) (scenario_of m level t) P p)

  pub made_digit : (start : At) (made : List Made) (t : Tree) (d : ℕ) → AllStand m root seed start made t → HasDigit (read_of 0 (digits_of made)) d → IsDigit (at_after start made) d
  made_digit start made t d h e =
      digit_shown (at_after start made) (scenario_of m 0 t) d (subst (λ a. HasDigit a d) (made_answer start made t 0 h) e)

  -- a choice is taken back
  undo : (x : At) (v : Option ℕ) (t u : Tree) (n k : ℕ) → v ≡ valued x → IsOpen x t → Grows (valued x) t u → length t.nodes ≡ n → length t.leaves ≡ k → undone v (cut_to n k u) ≡ t
  undo (at.Going stack) v t u n k e o g en ek = ap (λ w. undone w (cut_to n k u)) e ∙ cut_back t u n k g en ek
  undo (at.Place spot lv parent below) v t u n k e o g en ek = ap (λ w. undone w (cut_to n k u)) e ∙ cut_back t u n k g en ek
  undo (at.Value f lv below) v t u n k e o g en ek = ap (λ w. undone w (cut_to n k u)) e ∙ put_back t u f.node n k g.0 o.1 g.1 en ek
  undo at.Whole v t u n k e o g en ek = ap (λ w. undone w (cut_to n k u)) e ∙ cut_back t u n k g en ek
  undo at.Dead v t u n k e o g en ek = ap (λ w. undone w (cut_to n k u)) e ∙ cut_back t u n k g en ek

  -- one choice more
  pub one_more : (start : At) (made : List Made) (t u : Tree) (x : Made) → AllStand m root seed start made t → Grows (valued (at_after start made)) t u → x.value ≡ valued (at_after start made) → IsReady x.at → IsOpen x.at u → IsGrown u → ((level : ℕ) (left : List ℕ) → read_on m seed (at_after start made) (scenario_of m level t) (length (digits_of made)) (x.digit ∷ left) ≡ read_on m seed x.at (scenario_of m level u) (length (digits_of made) + 1) left) → length u.nodes ≡ x.nodes → length u.leaves ≡ x.leaves → AllStand m root seed start (x ∷ made) u
  one_more start made t u x h g v ready opens grown reads n k =
      let old = standing start made t h in
      let ds = digits_of made in
      let count : length ds + 1 ≡ length (ds ++ x.digit ∷ []) = sym (length-append ds (x.digit ∷ [])) in
      let size = sizes start made t h in
      let now : Stands m root seed (ds ++ x.digit ∷ []) x.at u =
      record {
        reads = λ level left.
            ap (read_tree m seed root (nothing_yet level) 0) (append_assoc ds (x.digit ∷ []) left)
            ∙ old.reads level (x.digit ∷ left)
            ∙ reads level left
            ∙ ap (λ p. read_on m seed x.at (scenario_of m level u) p left) count;
        ready = ready;
        opens = opens;
        grown = grown;
      } in
      (now, n, k, subst (AllStand m root seed start made) (sym (undo (at_after start made) x.value t u (node_count made) (leaf_count made) v old.opens g size.0 size.1)) h)

  -- the leaves tell no more than they should
  pub bare_is : (level : ℕ) (t : Tree) → IsGrown t → t.leaves ≡ map bare (scenario_of m level t).actions
  bare_is level t h = sym h.are_bare ∙ same t.leaves
    where
      same : (xs : List Act) → map bare xs ≡ map bare (map (opened m) xs)
      same [] = refl
      same (x ∷ xs) = ap (λ (ys : List Act). bare x ∷ ys) (same xs)

  pub made_grown : (start : At) (made : List Made) (t : Tree) → AllStand m root seed start made t → IsGrown t
  made_grown start made t h = (standing start made t h).grown

  pub made_opens : (start : At) (made : List Made) (t : Tree) → AllStand m root seed start made t → IsOpen (at_after start made) t
  made_opens start made t h = (standing start made t h).opens

pub length-digits_of : (made : List Made) → length (digits_of made) ≡ length made
length-digits_of [] = refl
length-digits_of (x ∷ made) = length-append (digits_of made) (x.digit ∷ []) ∙ ap (λ n. n + 1) (length-digits_of made) ∙ sym (omega arith)
