use Rattle.std.proofs.Common.{ap, ◌∙◌}
use Rattle.leg_lib_records.specs.Records.{LibraryModel}
use Rattle.leg_design_records.proofs.Elements.{got_first, got_second}
use Rattle.leg_design_records.proofs.design.Design.via_numbered.Goals as goal

pub overflow_sub-number : goal.overflow_sub-number
overflow_sub-number g c = c.if-number-of_library.false

pub returns-then-number-of_library : goal.returns-then-number-of_library
returns-then-number-of_library g c =
    let of_library = c.vias-of_library.ensures.is ∙ ap (λ (l : LibraryModel). l.vias) c.library.ensures.is in
    let h = c.get.ensures.lookup in
    record {
      is = rw (← of_library, ← c.vias-of_design.ensures.is)
          (got_first c.vias-of_library.result.now c.vias-of_design.result.now c.args.number c.get.result c.if-number-of_library.true h.0 h.1);
      proper = c.vias-of_design.ensures.proper;
    }

pub returns-else-number-of_library : goal.returns-else-number-of_library
returns-else-number-of_library g c =
    let of_library = c.vias-of_library.ensures.is ∙ ap (λ (l : LibraryModel). l.vias) c.library.ensures.is in
    let h = c.get-else-number-of_library.ensures.lookup in
    record {
      is = rw (← of_library, ← c.vias-of_design.ensures.is)
          (got_second c.vias-of_library.result.now c.vias-of_design.result.now c.args.number c.get-else-number-of_library.result
          c.if-number-of_library.false h.0 h.1);
      proper = c.vias-of_design.ensures.proper;
    }
