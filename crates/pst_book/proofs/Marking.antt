-- Marks of blocks.
use Rattle.std.proofs.Common.{◌≡◌, ◌⊎◌, ℕ, zero, suc, ◌+◌, ◌*◌, ◌/◌, ◌<◌, ◌≤◌, List, [], ◌∷◌, ◌++◌, length, get_or, set, Bool, true, false, refl, sym, ap, ◌∙◌, subst, inl, inr, ⊎_elim, arith, length-set, get_or-set_same, get_or-set_other}
use Rattle.std.specs.Prelude.{Option, None, Some, MatchOption}
use Rattle.std.proofs.lemmas.Bool.{cases_eq}
use Rattle.std.proofs.lemmas.List.Elements.{Contains-append_left, Contains-append_cases, Contains-push_cases}
use Rattle.pst_scen.specs.declared.event.Event.{Event}
use Rattle.pst_scen.specs.declared.event.Event.TheVariants.{Start, End}
use Rattle.pst_scen.specs.Trace.{Started, Ended, starts_of}
use Rattle.pst_scen.specs.declared.rows.Rows.{Rows}
use Rattle.pst_scen.specs.Rows.{Has}
use Rattle.pst_book.proofs.Elements.{none_in, cons_cases}
use Rattle.pst_scen.specs.Plan.{Entries}
use Rattle.pst_book.specs.Books.{MayJoin, CanStart}
use Rattle.pst_book.proofs.Ties.{has_or}
use Rattle.pst_book.specs.Ready.{IsReadyGroup, AreReady, AreMarked}

module _ (p : Entries) (t : List Event) where
  pub marked_none : (P : ℕ → Type 0) (marks : List Bool) → ((a : ℕ) → P a → MayJoin p t a → ⊥) → AreMarked p t P marks marks
  marked_none P marks n = record { many = refl; kept = λ b h. h; marked = λ a q j. absurd (n a q j) }

  pub marked_then : (P Q R : ℕ → Type 0) (old now new : List Bool) → AreMarked p t P old now → AreMarked p t Q now new → ((a : ℕ) → R a → P a ⊎ Q a) → AreMarked p t R old new
  marked_then P Q R old now new m n split =
      record {
        many = n.many ∙ m.many;
        kept = λ b h. n.kept b (m.kept b h);
        marked = λ a r j. ⊎_elim (λ q. n.kept (get_or p.groups a 0 / 64) (m.marked a q j)) (λ q. n.marked a q j) (split a r);
      }

  pub marked_as : (P Q : ℕ → Type 0) (old new : List Bool) → AreMarked p t P old new → ((a : ℕ) → Q a → P a) → AreMarked p t Q old new
  marked_as P Q old new m f = record { many = m.many; kept = m.kept; marked = λ a q j. m.marked a (f a q) j }

  -- one action's block is marked
  pub marked_here : (P : ℕ → Type 0) (old : List Bool) (a : ℕ) → get_or p.groups a 0 / 64 < length old → ((b : ℕ) → P b → b ≡ a) → AreMarked p t P old (set old (get_or p.groups a 0 / 64) true)
  marked_here P old a l only =
      let place = get_or p.groups a 0 / 64 in
      record {
        many = length-set old place true;
        kept = λ b h. ⊎_elim (λ e. subst (λ v. get_or (set old place true) v false ≡ true) (sym e) (get_or-set_same old place true false l)) (λ n. get_or-set_other old place b true false n ∙ h) (cases_eq b place);
        marked = λ b q j. subst (λ v. get_or (set old place true) (get_or p.groups v 0 / 64) false ≡ true) (sym (only b q)) (get_or-set_same old place true false l);
      }

-- WHAT A SEARCH LEAVES

module _ (p : Entries) (lanes : ℕ) (t : List Event) where
  pub can_is_ready : (group : ℕ) → CanStart p lanes t group → IsReadyGroup p t group
  can_is_ready group can = record { number = can.number; join = can.join }

  -- nothing in a block that isn't marked can start
  pub unmarked_none : (marks : List Bool) (place : ℕ) → AreReady p t marks → place * 64 < length p.groups → get_or marks place false ≡ false → (group : ℕ) → group < length p.groups → place * 64 ≤ group → group < place * 64 + 64 → CanStart p lanes t group → ⊥
  unmarked_none marks place ready l e group k m n can =
      let same : group / 64 ≡ place = omega (arith, m, n) in
      let set : get_or marks place false ≡ true = subst (λ v. get_or marks v false ≡ true) same (ready.marked group k (can_is_ready group can)) in
      let both : true ≡ false = sym set ∙ e in
      absurd cc

  -- a block in which no group is ready needs no mark
  pub ready_set : (marks : List Bool) (place : ℕ) (b : Bool) → AreReady p t marks → place < length marks → (b ≡ false → (group : ℕ) → place * 64 ≤ group → group < place * 64 + 64 → group < length p.groups → IsReadyGroup p t group → ⊥) → AreReady p t (set marks place b)
  ready_set marks place true ready l none =
      record {
        many = length-set marks place true ∙ ready.many;
        marked = λ g k r. ⊎_elim (λ e. subst (λ v. get_or (set marks place true) v false ≡ true) (sym e) (get_or-set_same marks place true false l))
            (λ n. get_or-set_other marks place (g / 64) true false n ∙ ready.marked g k r) (cases_eq (g / 64) place);
      }
  ready_set marks place false ready l none =
      record {
        many = length-set marks place false ∙ ready.many;
        marked = λ g k r. ⊎_elim (λ e. absurd (none refl g (omega (arith, e)) (omega (arith, e)) k r))
            (λ n. get_or-set_other marks place (g / 64) false false n ∙ ready.marked g k r) (cases_eq (g / 64) place);
      }

-- WHAT THE COMMANDS LEAVE

-- what is ready after a block of starts was ready before it
pub ready_started : (p : Entries) (t : List Event) (u : List Event) → ((b : ℕ) → Ended (t ++ u) b → Ended t b) → ((b : ℕ) → Started t b → Started (t ++ u) b) → (group : ℕ) → IsReadyGroup p (t ++ u) group → IsReadyGroup p t group
ready_started p t u ended started group ready =
    record {
      number = ready.number;
      join = λ a l e. let j = ready.join a l e in record {
        fresh = λ s. j.fresh (started a s);
        awaited = λ b m h. ended b (j.awaited b m h);
        clear = λ b m r h. j.clear b m (started b r.0, λ x. r.1 (ended b x)) h;
      };
    }

find_number : (P : ℕ → Type 0) → ((x : ℕ) → P x ⊎ (P x → ⊥)) → (n : ℕ) → ((x : ℕ) × (x < n) × P x) ⊎ ((x : ℕ) → x < n → P x → ⊥)
find_number P d zero = inr (λ x l q. absurd (omega (arith, l)))
find_number P d (suc n) =
    ⊎_elim (λ q. inl (n, omega arith, q))
    (λ no. ⊎_elim (λ r. let l : r.0 < n = r.1 in inl (r.0, omega (arith, l), r.2))
    (λ f. inr (λ x l q. ⊎_elim (λ e. no (subst (λ v. P v) e q)) (λ ne. f x (omega (arith, l, ne)) q) (cases_eq x n))) (find_number P d n))
    (d n)

-- what is ready after an end was ready before it, or the action was in the way of a member
module _ (p : Entries) (t : List Event) (a group : ℕ) where
  abbrev after : List Event
  after = t ++ End a ∷ []

  abbrev Touched : ℕ → Type 0
  Touched x = (get_or p.groups x 0 ≡ group) × (Has p.must a x ⊎ Has p.conflict a x)

  touched_or : (x : ℕ) → Touched x ⊎ (Touched x → ⊥)
  touched_or x =
      ⊎_elim (λ e. ⊎_elim (λ h. inl (e, inl h)) (λ m. ⊎_elim (λ h. inl (e, inr h)) (λ n. inr (λ q. ⊎_elim m n q.1)) (has_or p.conflict a x)) (has_or p.must a x))
      (λ n. inr (λ q. n q.0)) (cases_eq (get_or p.groups x 0) group)

  same_end : (b : ℕ) → End a ≡ End b → a ≡ b
  same_end b e = cc

  ended_or_it : (b : ℕ) → Ended after b → Ended t b ⊎ (a ≡ b)
  ended_or_it b h = ⊎_elim (λ k. inl k) (λ e. inr (same_end b e)) (Contains-push_cases t (End a) (End b) h)

  before_end : IsReadyGroup p after group → ((x : ℕ) → x < length p.groups → Touched x → ⊥) → IsReadyGroup p t group
  before_end ready none =
      record {
        number = ready.number;
        join = λ x l e. let j = ready.join x l e in record {
          fresh = λ s. j.fresh (s.0, (s.1.0, Contains-append_left t (End a ∷ []) (Start x s.0 s.1.0) s.1.1));
          awaited = λ b m h. ⊎_elim (λ k. k) (λ k. absurd (none x l (e, inl (subst (λ v. Has p.must v x) (sym k) h)))) (ended_or_it b (j.awaited b m h));
          clear = λ b m r h. ⊎_elim (λ k. none x l (e, inr (subst (λ v. Has p.conflict v x) (sym k) h)))
              (λ n. j.clear b m ((r.0.0, (r.0.1.0, Contains-append_left t (End a ∷ []) (Start b r.0.0 r.0.1.0) r.0.1.1)), λ x. ⊎_elim r.1 n (ended_or_it b x)) h)
              (cases_eq a b);
        };
      }

pub ready_ended : (p : Entries) (t : List Event) (a : ℕ) (old now new : List Bool) → AreReady p t old
    → AreMarked p (t ++ End a ∷ []) (λ m. (m < length p.groups) × Has p.must a m) old now → AreMarked p (t ++ End a ∷ []) (λ m. (m < length p.groups) × Has p.conflict a m) now new → AreReady p (t ++ End a ∷ []) new
ready_ended p t a old now new ready first second =
    record {
      many = second.many ∙ first.many ∙ ready.many;
      marked = λ g l r. ⊎_elim
          (λ q. subst (λ v. get_or new (v / 64) false ≡ true) q.2.0
          (⊎_elim (λ h. second.kept (get_or p.groups q.0 0 / 64) (first.marked q.0 (q.1, h) (r.join q.0 q.1 q.2.0))) (λ h. second.marked q.0 (q.1, h) (r.join q.0 q.1 q.2.0)) q.2.1))
          (λ none. second.kept (g / 64) (first.kept (g / 64) (ready.marked g l (before_end p t a g r none))))
          (find_number (λ x. (get_or p.groups x 0 ≡ g) × (Has p.must a x ⊎ Has p.conflict a x)) (touched_or p t a g) (length p.groups));
    }

pub not_found : (o : Option ℕ) (A : Type 0) (P : ℕ → Type 0) → MatchOption o A P → ((x : ℕ) → o ≡ Some x → ⊥) → A
not_found None A P h n = h
not_found (Some x) A P h n = absurd (n x refl)

starts_no_end : (ms ls : List ℕ) (a : ℕ) → Ended (starts_of ms ls) a → ⊥
starts_no_end [] ls a h = none_in (End a) h
starts_no_end (m ∷ ms) [] a h = none_in (End a) h
starts_no_end (m ∷ []) (l ∷ ls) a h = ⊎_elim (λ e. cc) (λ k. none_in (End a) k) (cons_cases (Start m l false) (End a) [] h)
starts_no_end (m ∷ n ∷ ms) (l ∷ ls) a h = ⊎_elim (λ e. cc) (λ k. starts_no_end (n ∷ ms) ls a k) (cons_cases (Start m l true) (End a) (starts_of (n ∷ ms) ls) h)

pub ready_after_start : (p q : Entries) (t u : List Event) (ms us : List ℕ) (marks : List Bool) → q ≡ p → u ≡ t ++ starts_of ms us → AreReady p t marks → AreReady q u marks
ready_after_start p q t u ms us marks same e r =
    subst (λ (v : Entries). AreReady v u marks) (sym same)
    (subst (λ w. AreReady p w marks) (sym e) (record {
      many = r.many;
      marked = λ g l k. r.marked g l
          (ready_started p t (starts_of ms us) (λ b h. ⊎_elim (λ x. x) (λ x. absurd (starts_no_end ms us b x)) (Contains-append_cases t (starts_of ms us) (End b) h))
          (λ b s. (s.0, (s.1.0, Contains-append_left t (starts_of ms us) (Start b s.0 s.1.0) s.1.1))) g k);
    }))

pub marks_of : (of : Entries → Rows) (p plan : Entries) (t : List Event) (rows : Rows) (a : ℕ) (old old' new : List Bool) → plan ≡ p → rows ≡ of plan → rows.size ≡ length plan.groups → old ≡ old'
    → AreMarked p t (λ m. (m < rows.size) × Has rows a m) old new → AreMarked p t (λ m. (m < length p.groups) × Has (of p) a m) old' new
marks_of of p plan t rows a old old' new same is size e m =
    let sized : rows.size ≡ length p.groups = size ∙ ap (λ (v : Entries). length v.groups) same in
    let whole : rows ≡ of p = is ∙ ap of same in
    subst (λ xs. AreMarked p t (λ m. (m < length p.groups) × Has (of p) a m) xs new) e
    (marked_as p t (λ m. (m < rows.size) × Has rows a m) (λ m. (m < length p.groups) × Has (of p) a m) old new m
    (λ x q. let l = q.0 in (omega (arith, l, sized), subst (λ (r : Rows). Has r a x) (sym whole) q.1)))

pub ready_after_end : (p q : Entries) (t u : List Event) (a : ℕ) (old now new : List Bool) → q ≡ p → u ≡ t ++ End a ∷ [] → AreReady p t old
    → AreMarked q u (λ m. (m < length q.groups) × Has q.must a m) old now → AreMarked q u (λ m. (m < length q.groups) × Has q.conflict a m) now new → AreReady q u new
ready_after_end p q t u a old now new same e r first second =
    subst (λ w. AreReady q w new) (sym e)
    (ready_ended q t a old now new (subst (λ (v : Entries). AreReady v t old) (sym same) r) (subst (λ w. AreMarked q w (λ m. (m < length q.groups) × Has q.must a m) old now) e first)
    (subst (λ w. AreMarked q w (λ m. (m < length q.groups) × Has q.conflict a m) now new) e second))
