use Rattle.std.specs.Prelude.{get_or}
use Rattle.pst_sound_model.proofs.Whole.{content_sound, few_instances}
use Rattle.pst_sound_model.proofs.laws.models_are_sound.Goals as goal

pub returns : goal.returns
returns c = λ units names component action model root rising e.
    let own = c.names_have_own_places.ensures units rising in
    let apart = c.names_stand_apart.ensures units rising in
    let right = e.typed.names_right in
    let kept = e.typed.types_right in
    let is = e.is_model in
    let bodies = c.bodies_are_sound.ensures units names model own apart right kept is in
    let order = c.models_are_in_order.ensures units names model is in
    record {
      actions = λ k d within.
          let few = c.needs_are_few.ensures units names model right kept is k d within in
          let needs = c.needs_are_sound.ensures units names model own right kept is k d within in
          record {
            few_fields = (c.fields_are_few.ensures units names model right kept is).0 k d within;
            few_references = few.few_references;
            few_claims = few.few_claims;
            fields = (c.fields_are_sound.ensures units names model kept is).0 k d within;
            references = needs.references;
            claims = needs.claims;
            constraints = c.action_constraints_are_sound.ensures units names model own right kept is k d within;
            content = content_sound model (get_or model.actions k d) (bodies k d within) (λ activity same. (
              few.compound activity same,
              record {
                handles = c.handles_are_sound.ensures units names model own right kept is k d within activity same;
                steps = c.steps_are_sound.ensures units names model own right kept is k d within activity same;
                ties = (c.ties_are_sound.ensures units names model own right kept is k d within activity same).ties;
                apart = (c.ties_are_sound.ensures units names model own right kept is k d within activity same).apart;
              },
            ));
          };
      objects = c.objects_are_sound.ensures units names model own right kept is;
      few_instances = few_instances c.instances_are_one.ensures units names component action model root e;
      instances = order.0;
      pools = c.pools_are_sound.ensures units names model own right kept is;
      functions = c.functions_are_sound.ensures units names model kept is;
      order = order.1;
      served = c.serves_are_sound.ensures units names model own right kept is;
      whole = c.needs_are_served_whole.ensures units names component action model root own e;
    }
