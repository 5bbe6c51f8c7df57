-- The lists of the kinds stand one behind the other.
use Rattle.std.proofs.Common.{◌≡◌, [], ◌++◌, map, refl}
use Rattle.leg_drc.specs.declared.shape_kind.ShapeKind.TheVariants.{MinWidth, OffGrid, OutDie}
use Rattle.leg_drc.specs.declared.pair_kind.PairKind.TheVariants.{Supply, Table, CutNear}
use Rattle.leg_drc.specs.Steps.Kinds.{shape_fault, pair_fault}
use Rattle.leg_drc.proofs.FaultLists.{all_kinds}
use Rattle.leg_drc.proofs.faults.faults_with.Goals as goal

pub returns : goal.returns
returns g c =
    let cut_off = c.in_ok-supply.supply.items in
    let narrow = c.in_ok-narrow.narrow.items in
    let off = c.in_ok-off_grid.off_grid.items in
    let out = c.in_ok-out_of_die.out_of_die.items in
    let table = c.args.table.now in
    let cuts = c.args.cuts.now in
    let found : c.push_shapes-3.new.found.items ≡ [] ++ map (λ p. pair_fault Supply p.0 p.1) cut_off ++ map (shape_fault MinWidth) narrow
    ++ map (λ p. pair_fault Table p.0 p.1) table ++ map (λ p. pair_fault CutNear p.0 p.1) cuts ++ map (shape_fault OffGrid) off ++ map (shape_fault
    OutDie) out =
    rw (
      c.in_ok-push_shapes-3.ensures,
      c.in_ok-push_shapes-2.ensures,
      c.in_ok-push_pairs-3.ensures,
      c.in_ok-push_pairs-2.ensures,
      c.in_ok-push_shapes.ensures,
      c.in_ok-push_pairs.ensures,
      c.new-found.ensures.items,
      c.deref.ensures.value,
      c.deref-2.ensures.value,
      c.deref-3.ensures.value,
      c.deref-4.ensures.value,
    ) refl in
    rw found (all_kinds c.args.design.now c.args.deck.now c.args.flat.now cut_off table cuts narrow off out c.in_ok-supply.ensures c.in_ok-narrow.ensures
    c.requires.table c.requires.cuts c.in_ok-off_grid.ensures c.in_ok-out_of_die.ensures)
