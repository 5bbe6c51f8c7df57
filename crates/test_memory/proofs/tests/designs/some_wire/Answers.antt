-- What a net of the other design has, one of this design may have.
use Rattle.std.proofs.Common.{◌≡◌, [], refl, sym, ◌∙◌}
use Rattle.std.proofs.lemmas.List.{nil_from_length}
use Rattle.test_memory.proofs.tests.designs.some_wire.Goals as goal

pub returns : goal.returns
returns g c =
    let design = c.args.design.now in
    let other = c.in_ok-other.other in
    let library : other.library ≡ design.library = sym c.library-2.ensures.is ∙ c.if-not-fits.ensures.0 refl in
    let no_vias : design.vias ≡ [] = sym c.vias.ensures.is ∙ nil_from_length c.vias.result.now c.if-vias-ne0.false in
    let none_other : other.vias ≡ [] = sym c.vias-else-vias-ne0.ensures.is ∙ nil_from_length c.vias-else-vias-ne0.result.now c.if-vias-ne0-2.false in
    rw (library, none_other ∙ sym no_vias) at c.first_wire.ensures
