-- All pairs of metal that meets were taken.
use Rattle.std.proofs.Common.{refl}
use Rattle.std.proofs.lemmas.List.FromFn.{length-range_with_len}
use Rattle.leg_wire.specs.declared.joining.Joining.{Joining}
use Rattle.leg_wire.specs.Steps.JoinSteps.{JoinState}
use Rattle.leg_wire.proofs.SetsOfPairs.{sets_taken}
use Rattle.leg_wire.proofs.joining.sets_of_metal.Goals as goal

pub invariant_of-joining : goal.invariant_of-joining
invariant_of-joining g c = record { places = rw (c.in_ok-new.ensures, length-range_with_len 0 c.args.count) c.requires.places }

pub returns : goal.returns
returns g c =
    let state : Joining g.row.A.Denot → JoinState = λ s. record { shapes = s.shapes.now; sets = s.sets; seen = s.corners } in
    sets_taken _ state (λ between after p takes. takes) c.args.metal.now c.args.count _ c.each_pair.new.sink refl c.in_ok-new.ensures c.new-2.ensures
    c.in_ok-each_pair.ensures.pairs
