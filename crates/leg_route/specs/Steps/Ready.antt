-- What is kept in addition to a flat that grows, so that nets can be searched in it.
use Rattle.std.specs.Prelude.{◌≡◌, ◌<◌, ◌≤◌, ℕ, true, List, [], length, get_or, Option, Some, IfSome}
use Rattle.leg_design_records.specs.Records.{DesignModel}
use Rattle.leg_rules.specs.declared.shape.Shape.{Shape}
use Rattle.leg_rules.specs.Metal.Flat.{FlatModel}
use Rattle.leg_wire.specs.NetShapes.{AreNumbersOf}
use Rattle.leg_wire.specs.Joins.{JoinsModel, AreJoinsOf, HasOnePieceMore}
use Rattle.leg_route_search.specs.declared.mark.Mark.{Mark}
use Rattle.leg_route_access.specs.declared.slot_access.SlotAccess.{SlotAccess}
use Rattle.leg_route_grid.specs.Steps.Grid.{GridModel, slot_total}
use Rattle.leg_route_access.specs.Steps.AccessTable.{IsAccessTable}
use Rattle.leg_route.specs.Steps.JoinedPart.{PartModel, IsJoinedPart, AreGivenTo}

-- for each of the first `nets` nets the numbers of its shapes
pub record AreNumbersByNet (nets : ℕ) (flat : FlatModel) (lists : List (List ℕ)) : Type 0 where
  pub one_each : length lists ≡ nets
  pub each : (net : ℕ) → net < nets → AreNumbersOf flat.shapes net (get_or lists net [])

-- this is known of all slots for each flat of these shapes
abbrev pub HasSlotsOf : GridModel → List Shape → List SlotAccess → Type 0
HasSlotsOf grid shapes slots = (flat : FlatModel) → flat.shapes ≡ shapes → IsAccessTable grid flat slots

-- the grid is that of the design, each slot has what is open in the flat, each net of NETS has the numbers of its shapes,
-- there is a mark for each slot, and what is kept of the joined part of a net, and of which of its pieces are joined, is right; the pieces that
-- were given are in that part
pub record IsReadyGround (design : DesignModel) (grid : GridModel) (flat : FlatModel) (slots : List SlotAccess) (lists : List (List ℕ))
    (marks : List Mark) (part : PartModel) (joins : Option JoinsModel) : Type 0 where
  pub of_design : grid.design ≡ design
  pub told : HasSlotsOf grid flat.shapes slots
  pub within : length design.nets ≤ length flat.pieces
  pub numbers : AreNumbersByNet (length design.nets) flat lists
  pub count : length marks ≡ slot_total grid
  pub part_is : IsJoinedPart grid flat part
  pub joins_are : IfSome joins (AreJoinsOf flat)
  pub given_are : IfSome joins (λ kept. AreGivenTo part kept)

-- what was kept is of this net, and has the piece of these shapes more
pub record IsWithWire (joins : Option JoinsModel) (net : ℕ) (shapes : List Shape) (after : JoinsModel) : Type 0 where
  pub before : JoinsModel
  pub is : joins ≡ Some before
  pub of_net : before.net ≡ net
  pub is_whole : before.is_whole ≡ true
  pub more : HasOnePieceMore before shapes after
