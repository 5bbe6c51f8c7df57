-- Wires change nothing about where components stand.
use Rattle.std.proofs.Common.{ℕ, List}
use Rattle.leg_design_records.specs.declared.fault.Fault.{Fault}
use Rattle.leg_design_records.specs.declared.records.Wire.{Wire}
use Rattle.leg_design_records.specs.Records.{DesignModel}
use Rattle.leg_design_records.specs.Movable.{IsMovable}
use Rattle.leg_geom.specs.Plane.{RectModel}
use Rattle.leg_rules.specs.Placement.Box.{HasBox}
use Rattle.leg_rules.specs.Placement.Violations.{IsPlacementViolation}
use Rattle.leg_rules.specs.Placement.Violations.IsPlacementViolation.{unplaced, outside, off_site, overlap, blocked}
use Rattle.leg_route_laws.specs.FinishedDesign.{finished}

module _ (design : DesignModel) (lists : List (List Wire)) where
  abbrev done : DesignModel
  done = finished design lists

  stands_then : (c : ℕ) (box : RectModel) → HasBox design c box → HasBox done c box
  stands_then c box h = record { component = h.component; there = h.there; placed = h.placed }

  stands_before : (c : ℕ) (box : RectModel) → HasBox done c box → HasBox design c box
  stands_before c box h = record { component = h.component; there = h.there; placed = h.placed }

  movable_then : (c : ℕ) → IsMovable design c → IsMovable done c
  movable_then c h = record {
    component = h.component;
    there = h.there;
    status = h.status;
    master = h.master;
    is_master = h.is_master;
    number = h.number;
    site = h.site;
  }

  movable_before : (c : ℕ) → IsMovable done c → IsMovable design c
  movable_before c h = record {
    component = h.component;
    there = h.there;
    status = h.status;
    master = h.master;
    is_master = h.is_master;
    number = h.number;
    site = h.site;
  }

  pub placement_then : (fault : Fault) → IsPlacementViolation design fault → IsPlacementViolation done fault
  placement_then fault (unplaced h) = unplaced (record { component = h.component; there = h.there; unplaced = h.unplaced })
  placement_then fault (outside {c = c} h) =
      outside (record { box = h.box; stands = stands_then c h.box h.stands; square = h.square; inside = h.inside; outside = h.outside })
  placement_then fault (off_site h) = off_site (record {
    component = h.component;
    there = h.there;
    place = h.place;
    placed = h.placed;
    master = h.master;
    is_master = h.is_master;
    number = h.number;
    site = h.site;
    none = h.none;
  })
  placement_then fault (overlap {a = a} {b = b} h) = overlap (record {
    in_order = h.in_order;
    box_a = h.box_a;
    box_b = h.box_b;
    stands_a = stands_then a h.box_a h.stands_a;
    stands_b = stands_then b h.box_b h.stands_b;
    shared = h.shared;
  })
  placement_then fault (blocked {c = c} h) = blocked (record {
    movable = movable_then c h.movable;
    box = h.box;
    stands = stands_then c h.box h.stands;
    rect = h.rect;
    blocks = h.blocks;
    shared = h.shared;
  })

  pub placement_before : (fault : Fault) → IsPlacementViolation done fault → IsPlacementViolation design fault
  placement_before fault (unplaced h) = unplaced (record { component = h.component; there = h.there; unplaced = h.unplaced })
  placement_before fault (outside {c = c} h) =
      outside (record { box = h.box; stands = stands_before c h.box h.stands; square = h.square; inside = h.inside; outside = h.outside })
  placement_before fault (off_site h) = off_site (record {
    component = h.component;
    there = h.there;
    place = h.place;
    placed = h.placed;
    master = h.master;
    is_master = h.is_master;
    number = h.number;
    site = h.site;
    none = h.none;
  })
  placement_before fault (overlap {a = a} {b = b} h) = overlap (record {
    in_order = h.in_order;
    box_a = h.box_a;
    box_b = h.box_b;
    stands_a = stands_before a h.box_a h.stands_a;
    stands_b = stands_before b h.box_b h.stands_b;
    shared = h.shared;
  })
  placement_before fault (blocked {c = c} h) = blocked (record {
    movable = movable_before c h.movable;
    box = h.box;
    stands = stands_before c h.box h.stands;
    rect = h.rect;
    blocks = h.blocks;
    shared = h.shared;
  })
