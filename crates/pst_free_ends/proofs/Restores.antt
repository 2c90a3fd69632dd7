-- Putting references back.
use Rattle.std.proofs.Common.{◌≡◌, ℕ, suc, ◌≤◌, List, ◌∷◌, length, take, drop, Bool, true, false, ◌&&◌, nat_eq, if◌then◌else◌, Option, Some, None, refl, sym, ap, ◌∙◌, arith, length-append}
use Rattle.std.specs.Prelude.{is_some}
use Rattle.std.specs.List.{insert}
use Rattle.std.proofs.lemmas.Bool.{eq-eqb, false≢true}
use Rattle.std.proofs.lemmas.List.{take-append-drop}
use Rattle.pst_scen.specs.declared.act.Flow.{Flow}
use Rattle.pst_ties.specs.declared.tied.End.{End}
use Rattle.pst_pool_sources.specs.Offers.{takes}
use Rattle.pst_free_ends.specs.declared.taken.Removed.{Removed}
use Rattle.pst_free_ends.specs.Steps.{restored}

insert_length : (i : ℕ) (x : End) (xs : List End) → length (insert xs i x) ≡ suc (length xs)
insert_length i x xs =
    let a = length-append (take i xs) (x ∷ drop i xs) in
    let b = length-append (take i xs) (drop i xs) in
    let c = ap (λ (l : List End). length l) (take-append-drop i xs) in
    omega arith

pub hit_length : (r : Removed) (n : Flow) (xs : List End) → takes n r.flow ≡ true → length (restored (Some r) n r.pool xs) ≡ suc (length xs)
hit_length r n xs t =
    ap (λ b. length (if b && nat_eq r.pool r.pool then insert xs r.place r.end else xs)) t
    ∙ ap (λ b. length (if b then insert xs r.place r.end else xs)) (eq-eqb r.pool r.pool refl)
    ∙ insert_length r.place r.end xs

pub longer : (r : Option Removed) (n : Flow) (p : ℕ) (xs : List End) → length xs ≤ length (restored r n p xs)
longer None n p xs = omega arith
longer (Some r) n p xs = go (takes n r.flow && nat_eq r.pool p)
  where
    go : (b : Bool) → length xs ≤ length (if b then insert xs r.place r.end else xs)
    go true = let l = insert_length r.place r.end xs in omega arith
    go false = omega arith

pub either : (b : Bool) (xs : List End) → (if b then xs else xs) ≡ xs
either true xs = refl
either false xs = refl

pub none_restored : (o : Option Removed) (n : Flow) (p : ℕ) (xs : List End) → is_some o ≡ false → restored o n p xs ≡ xs
none_restored None n p xs e = refl
none_restored (Some r) n p xs e = absurd (false≢true (sym e))
