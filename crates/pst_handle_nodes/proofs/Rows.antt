-- The way in a row of steps is that in its list, and how it is found.
use Rattle.std.proofs.Common.{◌≡◌, ℕ, ◌+◌, List, [], ◌∷◌, map, Bool, true, Option, Some, None, refl, sym, ap, ◌∙◌}
use Rattle.std.specs.Prelude.{reverse}
use Rattle.std.proofs.lemmas.List.{reverse-reverse}
use Rattle.std.specs.Global.{Vec}
use Rattle.pst_model.specs.declared.activity.Step.{Step}
use Rattle.pst_model.specs.declared.activity.Step.TheVariants as the_step
use Rattle.pst_model.specs.declared.activity.Join.{Join}
use Rattle.pst_model.specs.ActivityTree.{StepTree}
use Rattle.pst_model.specs.ModelView.{view_step}
use Rattle.pst_legal.specs.Statements.{first_way, way_in_step, way_in_row, way_in}
use Rattle.pst_handle_nodes.specs.Ways.{Leads}
use Rattle.pst_sound_parts.proofs.Rows.{step_row, sequence_is, parallel_is, schedule_is, joined_is}

way_row : (h k : ℕ) (xs : List StepTree) → way_in_row h k (step_row xs) ≡ way_in h k xs
way_row h k [] = refl
way_row h k (x ∷ xs) = ap (first_way k (way_in_step h x)) (way_row h (k + 1) xs)

pub way_sequence : (h : ℕ) (v : Vec Step) → way_in_step h (view_step (the_step.Sequence v)) ≡ way_in h 0 (map view_step v.items)
way_sequence h v = ap (way_in_step h) (sequence_is v) ∙ way_row h 0 (map view_step v.items)

pub way_parallel : (h : ℕ) (v : Vec Step) → way_in_step h (view_step (the_step.Parallel v)) ≡ way_in h 0 (map view_step v.items)
way_parallel h v = ap (way_in_step h) (parallel_is v) ∙ way_row h 0 (map view_step v.items)

pub way_schedule : (h : ℕ) (v : Vec Step) → way_in_step h (view_step (the_step.Schedule v)) ≡ way_in h 0 (map view_step v.items)
way_schedule h v = ap (way_in_step h) (schedule_is v) ∙ way_row h 0 (map view_step v.items)

pub way_joined : (h : ℕ) (parallel : Bool) (join : Join) (v : Vec Step) → way_in_step h (view_step (the_step.Joined parallel join v)) ≡ way_in h 0 (map view_step v.items)
way_joined h parallel join v = ap (way_in_step h) (joined_is parallel join v) ∙ way_row h 0 (map view_step v.items)

-- where nothing stood there before, a way is what was found, the other way round
pub leads_back : (o : Option (List ℕ)) (mid new : List ℕ) → Leads o true [] mid → new ≡ reverse mid → o ≡ Some new
leads_back None mid new led e = absurd led
leads_back (Some way) mid new led e = ap Some (sym (e ∙ ap reverse led ∙ reverse-reverse way))
