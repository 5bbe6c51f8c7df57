use Rattle.leg_design.proofs.ReadDesigns.{reads_well_formed}
use Rattle.leg_design.proofs.form.design_words.Goals as goal

pub new-requires-clause-well_formed : goal.new-requires-clause-well_formed
new-requires-clause-well_formed g c = reads_well_formed c.args.profile c.args.library.now c.args.words.now c.in_ok-fields.fields c.in_ok-fields.ensures.design
