use Rattle.std.proofs.Common.{refl}
use Rattle.std.proofs.lemmas.Result.{err_from_is_err_and}
use Rattle.leg_grammar.specs.Def.Parts.{with_turned_vias}
use Rattle.leg_design.proofs.parts.Parts.add_turned_vias.Goals as goal

pub returns-in_err-vias : goal.returns-in_err-vias
unfolding with_turned_vias
returns-in_err-vias g c =
    let p = err_from_is_err_and c.from_residual.result c.from_residual.ensures.1 in
    rw (p.1, p.2, ← c.self.view_is) (λ not_memory.
    let none = rw (c.replace-vias.ensures.value, c.replace-turned.ensures.value, c.again.ensures) at (c.in_err-vias.ensures not_memory) in
    rw none refl)
