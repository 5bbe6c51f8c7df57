use Rattle.leg_grammar.specs.Def.Form.{design_in}
use Rattle.leg_design.proofs.Readings.{read_only, read_none}
use Rattle.leg_design.proofs.def_text.DefText.design_as.Goals as goal

pub returns-clause-only : goal.returns-clause-only
returns-clause-only g c =
    rw (← c.self.view_is) (read_only _ (design_in c.args.profile c.args.library.now) c.self.inside.text.now _ c.design_words.result c.self.invariant
    (rw c.new.ensures at c.design_words.ensures))

pub returns-clause-none : goal.returns-clause-none
returns-clause-none g c =
    rw (← c.self.view_is) (read_none _ (design_in c.args.profile c.args.library.now) c.self.inside.text.now _ c.design_words.result c.self.invariant
    (rw c.new.ensures at c.design_words.ensures))
