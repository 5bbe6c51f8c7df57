use Rattle.std.proofs.Common.{[], fold, map, ap, ◌∙◌}
use Rattle.leg_polygon.specs.Slab.{toggle}
use Rattle.leg_polygon.proofs.NumberFolds.{odd_rises}
use Rattle.leg_polygon.proofs.OddNumbers.{only_odd}
use Rattle.leg_polygon.proofs.sweep.next_edges.Goals as goal

pub in_one_alone-requires : goal.in_one_alone-requires
in_one_alone-requires g c = record { rising = rw (c.deref.ensures.value, c.in_ok-changes.ensures) (odd_rises c.deref_mut.result.now) }

pub returns : goal.returns
returns g c =
    let changes = c.deref.ensures.value ∙ c.in_ok-changes.ensures ∙ ap (fold toggle []) (c.deref_mut.ensures.value ∙ c.in_ok-places.ensures) in
    rw (changes, only_odd c.args.edges.now (map (λ point. point.x) c.args.between.now) c.requires.rising) at c.in_one_alone.ensures
