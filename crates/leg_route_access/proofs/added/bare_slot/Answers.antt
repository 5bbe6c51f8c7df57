use Rattle.std.proofs.Common.{◌↔◌, ℕ, IsTrue, Bool, subst}
use Rattle.leg_wire_spacing.specs.Access.{Admits}
use Rattle.leg_route_access.proofs.BareSlots.{node_in, node_told, along_told, above_told}
use Rattle.leg_route_access.proofs.added.bare_slot.Goals as goal

pub returns : goal.returns
returns g c flat bare =
    let grid = c.args.grid.now in
    let n = c.args.number in
    let is_grid = c.beside.ensures.proper in
    let point = node_in grid n c.requires in
    let Along : Bool → Type 0 = λ set. (net : ℕ) → Admits c.access_of-2.result net ↔ IsTrue set in
    let Above : Bool → Type 0 = λ set. (net : ℕ) → Admits c.access_of-3.result net ↔ IsTrue set in
    record {
      node = node_told grid is_grid n flat bare c.access_of.result c.holds_node.result point.0 point.1 c.holds_node.ensures c.access_of.ensures;
      along = along_told grid is_grid n flat bare c.access_of-2.result c.next_along.result c.next_along.ensures.is
          (subst Along c.is_some.ensures c.access_of-2.ensures);
      above = above_told grid is_grid n flat bare c.access_of-3.result c.beside.result c.beside.ensures.is
          (subst Above c.is_some-2.ensures c.access_of-3.ensures);
    }
