-- Where each reference of linked actions comes from.
use Rattle.std.proofs.Common.{◌≡◌, ◌≢◌, ◌⊎◌, ℕ, ◌+◌, List, Bool, true, false, nat_eq, if◌then◌else◌, Option, Some, None, refl, sym, ap, ◌∙◌, arith, inl, inr, ⊎_elim}
use Rattle.std.specs.Prelude.{slice_get}
use Rattle.std.specs.Option.{option_map, option_and_then}
use Rattle.std.proofs.lemmas.Bool.{eqb-true, eq-eqb, false_from_ne_true}
use Rattle.std.proofs.lemmas.Option.{none-some, same_Some, option_and_then_some}
use Rattle.pst_scen.specs.declared.act.Act.{Act}
use Rattle.pst_scen.specs.declared.act.Filled.{Filled}
use Rattle.pst_scen.specs.declared.act.Link.{Link}
use Rattle.pst_scen.specs.declared.act.Link.TheVariants as link
use Rattle.pst_scen.specs.Scenarios.{reference_at}
use Rattle.pst_legal.specs.SupplyReading.{Spot, is_stream, alter, with_link, act_with_link, put_link, linked_to}
use Rattle.pst_built.proofs.Shown.{get_numbered}

mapped : {A B : Type 0} (f : A → B) (o : Option A) (y : B) → option_map f o ≡ Some y → (x : A) × (o ≡ Some x) × (f x ≡ y)
mapped f None y e = absurd (none-some y e)
mapped f (Some x) y e = (x, refl, same_Some (f x) y e)

get_alter : {A : Type 0} (f : A → A) (n : ℕ) (xs : List A) (i : ℕ) → slice_get (alter f n xs) i ≡ option_map (λ x. if nat_eq i n then f x else x) (slice_get xs i)
get_alter f n xs i = let here : 0 + i ≡ i = omega arith in get_numbered (λ e. if nat_eq e.0 n then f e.1 else e.1) 0 xs i ∙ ap (λ k. option_map (λ x. if nat_eq k n then f x else x) (slice_get xs i)) here

-- as it was, or with the new link
pub record Came (acts : List Act) (a r : ℕ) (to : Link) (b q : ℕ) (f : Filled) : Type 0 where
  pub old : Filled
  pub at : reference_at acts b q ≡ Some old
  pub flow : f.flow ≡ old.flow
  pub link : (f.link ≡ old.link) ⊎ ((b ≡ a) × (q ≡ r) × (f.link ≡ to))

pub put_came : (acts : List Act) (a r : ℕ) (to : Link) (b q : ℕ) (f : Filled) → reference_at (put_link a r to acts) b q ≡ Some f → Came acts a r to b q f
put_came acts a r to b q f is =
    option_and_then_some (λ (y : Act). slice_get y.references q) (slice_get (put_link a r to acts) b) f is
    (λ y there has.
    let x = mapped (λ z. if nat_eq b a then act_with_link r to z else z) (slice_get acts b) y (sym (get_alter (act_with_link r to) a acts b) ∙ there) in
    by (nat_eq b a) refl x.0 x.1 (ap (λ (z : Act). slice_get z.references q) x.2 ∙ has))
  where
    at_old : (x : Act) (g : Filled) → slice_get acts b ≡ Some x → slice_get x.references q ≡ Some g → reference_at acts b q ≡ Some g
    at_old x g there has = ap (option_and_then (λ (y : Act). slice_get y.references q)) there ∙ has

    row : (c : Bool) → nat_eq q r ≡ c → (x : Act) (g : Filled) → b ≡ a → slice_get acts b ≡ Some x → slice_get x.references q ≡ Some g → (if c then with_link to g else g) ≡ f → Came acts a r to b q f
    row true e x g same there has is_f = record { old = g; at = at_old x g there has; flow = sym (ap (λ (z : Filled). z.flow) is_f); link = inr (same, eqb-true q r e, sym (ap (λ (z : Filled). z.link) is_f)) }
    row false e x g same there has is_f = record { old = g; at = at_old x g there has; flow = sym (ap (λ (z : Filled). z.flow) is_f); link = inl (sym (ap (λ (z : Filled). z.link) is_f)) }

    by : (c : Bool) → nat_eq b a ≡ c → (x : Act) → slice_get acts b ≡ Some x → slice_get (if c then act_with_link r to x else x).references q ≡ Some f → Came acts a r to b q f
    by true e x there has =
        let g = mapped (λ z. if nat_eq q r then with_link to z else z) (slice_get x.references q) f (sym (get_alter (with_link to) r x.references q) ∙ has) in
        row (nat_eq q r) refl x g.0 (eqb-true b a e) there g.1 g.2
    by false e x there has = record { old = f; at = at_old x f there has; flow = refl; link = inl refl }

pub put_at : (acts : List Act) (a r : ℕ) (to : Link) (f : Filled) → reference_at acts a r ≡ Some f → reference_at (put_link a r to acts) a r ≡ Some (with_link to f)
put_at acts a r to f is =
    option_and_then_some (λ (y : Act). slice_get y.references r) (slice_get acts a) f is
    (λ x there has.
    ap (option_and_then (λ (y : Act). slice_get y.references r)) (get_alter (act_with_link r to) a acts a ∙ ap (option_map (λ z. if nat_eq a a then act_with_link r to z else z)) there ∙ ap (λ c. Some (if c then act_with_link r to x else x)) (eq-eqb a a refl))
    ∙ get_alter (with_link to) r x.references r ∙ ap (option_map (λ z. if nat_eq r r then with_link to z else z)) has ∙ ap (λ c. Some (if c then with_link to f else f)) (eq-eqb r r refl))

pub put_off : (acts : List Act) (a r b q : ℕ) (to : Link) → b ≢ a → reference_at (put_link a r to acts) b q ≡ reference_at acts b q
put_off acts a r b q to other =
    let off : nat_eq b a ≡ false = false_from_ne_true (nat_eq b a) (λ e. other (eqb-true b a e)) in
    ap (option_and_then (λ (y : Act). slice_get y.references q))
    (get_alter (act_with_link r to) a acts b ∙ ap (λ c. option_map (λ x. if c then act_with_link r to x else x) (slice_get acts b)) off ∙ map_same (slice_get acts b))
  where
    map_same : (o : Option Act) → option_map (λ x. x) o ≡ o
    map_same None = refl
    map_same (Some x) = refl

-- as it was, or an end of the new link
pub record LinkCame (acts : List Act) (need : Spot) (b q x y : ℕ) (f : Filled) : Type 0 where
  pub old : Filled
  pub at : reference_at acts x y ≡ Some old
  pub flow : f.flow ≡ old.flow
  pub link : (f.link ≡ old.link) ⊎ (((x ≡ need.act) × (y ≡ need.reference) × (f.link ≡ link.Act b q)) ⊎ ((is_stream need.filled.flow ≡ true) × (x ≡ b) × (y ≡ q) × (f.link ≡ link.Act need.act need.reference)))

pub linked_came : (need : Spot) (b q : ℕ) (acts : List Act) (x y : ℕ) (f : Filled) → reference_at (linked_to need b q acts) x y ≡ Some f → LinkCame acts need b q x y f
linked_came need b q acts x y f is = by (is_stream need.filled.flow) refl is
  where
    from_one : (g : Filled) → reference_at (put_link need.act need.reference (link.Act b q) acts) x y ≡ Some g → LinkCame acts need b q x y g
    from_one g at = let c = put_came acts need.act need.reference (link.Act b q) x y g at in record { old = c.old; at = c.at; flow = c.flow; link = ⊎_elim (λ e. inl e) (λ e. inr (inl e)) c.link }

    by : (c : Bool) → is_stream need.filled.flow ≡ c → reference_at (if c then put_link b q (link.Act need.act need.reference) (put_link need.act need.reference (link.Act b q) acts) else put_link need.act need.reference (link.Act b q) acts) x y ≡ Some f → LinkCame acts need b q x y f
    by false e at = from_one f at
    by true e at =
        let c = put_came (put_link need.act need.reference (link.Act b q) acts) b q (link.Act need.act need.reference) x y f at in
        let d = from_one c.old c.at in
        record {
          old = d.old;
          at = d.at;
          flow = c.flow ∙ d.flow;
          link = ⊎_elim (λ same. ⊎_elim (λ h. inl (same ∙ h)) (λ h. inr (⊎_elim (λ (k : (x ≡ need.act) × (y ≡ need.reference) × (c.old.link ≡ link.Act b q)). inl (k.0, k.1, same ∙ k.2)) (λ k. inr (k.0, k.1, k.2, same ∙ k.3)) h)) d.link)
              (λ new. inr (inr (e, new.0, new.1, new.2))) c.link;
        }

-- the need's own end
pub linked_need : (need : Spot) (b q : ℕ) (acts : List Act) → b ≢ need.act → reference_at acts need.act need.reference ≡ Some need.filled → reference_at (linked_to need b q acts) need.act need.reference ≡ Some (with_link (link.Act b q) need.filled)
linked_need need b q acts other at = by (is_stream need.filled.flow)
  where
    one : reference_at (put_link need.act need.reference (link.Act b q) acts) need.act need.reference ≡ Some (with_link (link.Act b q) need.filled)
    one = put_at acts need.act need.reference (link.Act b q) need.filled at

    by : (c : Bool) → reference_at (if c then put_link b q (link.Act need.act need.reference) (put_link need.act need.reference (link.Act b q) acts) else put_link need.act need.reference (link.Act b q) acts) need.act need.reference ≡ Some (with_link (link.Act b q) need.filled)
    by true = put_off (put_link need.act need.reference (link.Act b q) acts) b q need.act need.reference (link.Act need.act need.reference) (λ e. other (sym e)) ∙ one
    by false = one
