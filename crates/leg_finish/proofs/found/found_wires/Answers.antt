use Rattle.std.proofs.Common.{IsTrue, arith}
use Rattle.leg_route_laws.proofs.Within.{nets_within}
use Rattle.leg_finish.proofs.found.found_wires.Goals as goal

pub lay_out-requires-clause-in_range : goal.lay_out-requires-clause-in_range
lay_out-requires-clause-in_range g c = nets_within c.args.design.now c.args.flat c.requires.comes.clean.judged.is_flat

pub is_finished-requires : goal.is_finished-requires
is_finished-requires g c =
    let same = rw c.in-Some.is at c.in_ok-lists.ensures.nets in
    let within = nets_within c.args.design.now c.args.flat c.requires.comes.clean.judged.is_flat in
    omega (arith, same, within)

pub returns : goal.returns
returns g c =
    let yes : IsTrue c.in_ok-is_finished.field-0 = c.if-not-branch.false in
    record {
      flat = c.args.flat;
      comes = c.requires.comes;
      grown = c.lay_out.new.flat;
      laid = rw c.in-Some.is at c.in_ok-lists.ensures.laid;
      within = c.in_ok-is_finished.ensures.within yes;
      no_fault = c.in_ok-is_finished.ensures.is.0 yes;
    }
