-- After a refusal the entries have as many wires as before, so the same ones.
use Rattle.std.proofs.Common.{◌∙◌}
use Rattle.leg_design_records.proofs.EachWith.{first_wires_back}
use Rattle.leg_design_records.proofs.design_change.append_to_all.Goals as goal

pub returns-clause-unchanged : goal.returns-clause-unchanged
returns-clause-unchanged g c =
    let some = c.in-Err.ensures.some in
    c.keep_first_wires.ensures ∙ rw (c.as_slice.ensures.value, c.in_ok-counts.ensures, some.1) (first_wires_back c.args.nets.now some.0)
