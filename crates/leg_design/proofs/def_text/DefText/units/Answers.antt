use Rattle.leg_grammar.specs.Def.Header.{units_in}
use Rattle.leg_design.proofs.Readings.{read_only, read_none}
use Rattle.leg_design.proofs.def_text.DefText.units.Goals as goal

pub returns-clause-only : goal.returns-clause-only
returns-clause-only g c =
    rw (← c.self.view_is) (read_only (λ n. n) units_in c.self.inside.text.now _ c.units_anywhere.result c.self.invariant
    (rw c.new.ensures at c.units_anywhere.ensures.said))

pub returns-clause-none : goal.returns-clause-none
returns-clause-none g c =
    rw (← c.self.view_is) (read_none (λ n. n) units_in c.self.inside.text.now _ c.units_anywhere.result c.self.invariant
    (rw c.new.ensures at c.units_anywhere.ensures.said))
