-- What choices stand for: where they read the activity and the sources, the whole list; behind the sources, one place.
use Rattle.std.specs.Prelude.{ℕ, ◌-◌, List, [], ◌∷◌, length, take, Bool, true, false, ◌&&◌, nat_eq, Option, Some, None, slice_get}
use Rattle.pst_model.specs.ModelTree.{ModelTree}
use Rattle.pst_legal.specs.Growing.{nothing_yet}
use Rattle.pst_legal.specs.Reading.{Reading, Wants, Stops, Reads, then_read, read_tree}
use Rattle.pst_legal.specs.SupplyReading.{read_supply}
use Rattle.pst_search_loop.specs.Kept.{Facts}

-- whether a list begins with another
abbrev pub begins : List ℕ → List ℕ → Bool
begins [] other = true
begins (x ∷ xs) [] = false
begins (x ∷ xs) (y ∷ ys) = nat_eq x y && begins xs ys

-- what a list reads of the activity and the sources
abbrev pub sources_of : ModelTree → ℕ → ℕ → ℕ → List ℕ → Reading
sources_of m root seed level choices = then_read (read_tree m seed root (nothing_yet level) 0 choices) (read_supply m seed)

-- Behind the sources, how many choices read the activity and the sources.
abbrev pub front_of : Reading → Option ℕ
front_of (Wants s n) = None
front_of Stops = None
front_of (Reads s place []) = None
front_of (Reads s place (digit ∷ left)) = Some place

-- the same choice
abbrev pub is_same : Option ℕ → Option ℕ → Bool
is_same None other = false
is_same (Some x) None = false
is_same (Some x) (Some y) = nat_eq x y

-- whether two lists have the same at a place
abbrev pub have_same : ℕ → List ℕ → List ℕ → Bool
have_same place xs ys = is_same (slice_get xs place) (slice_get ys place)

-- The fact for which a list's last choice stands. Up to the sources: that the other list begins with the list. Behind them: that
-- the other is of this level, begins with the choices up to the sources, and has the same choice at this place.
abbrev pub fact_by : Option ℕ → ℕ → List ℕ → ℕ → List ℕ → Bool
fact_by None level choices other_level other = begins choices other
fact_by (Some front) level choices other_level other =
    nat_eq other_level level && (begins (take front choices) other && have_same (length choices - 1) choices other)

abbrev pub place_facts : ModelTree → ℕ → ℕ → Facts
place_facts m root seed level choices other_level other = fact_by (front_of (sources_of m root seed level choices)) level choices other_level other
