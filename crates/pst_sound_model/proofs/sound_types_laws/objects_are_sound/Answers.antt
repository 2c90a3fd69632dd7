use Rattle.pst_sound_model.proofs.sound_types_laws.objects_are_sound.Goals as goal

pub returns : goal.returns
returns c = λ units names model own right kept is k d within. record {
  few_fields = (c.fields_are_few.ensures units names model right kept is).1 k d within;
  fields = (c.fields_are_sound.ensures units names model kept is).1 k d within;
  constraints = c.object_constraints_are_sound.ensures units names model own kept is k d within;
}
