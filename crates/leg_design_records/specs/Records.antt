-- What a DEF text denotes, as records.
use Rattle.std.specs.Prelude.{ℕ, ℤ, List, [], ◌∷◌, ◌++◌, ◌+◌, length, map, Option, None, Some}
use Rattle.leg_geom.specs.Plane.{RectModel}
use Rattle.leg_geom.specs.declared.place.Place.{Place}
use Rattle.leg_lib_records.specs.declared.records.Shape.{Shape}
use Rattle.leg_lib_records.specs.Records.{LibraryModel, ViaModel}
use Rattle.leg_design_records.specs.declared.records.Status.{Status}
use Rattle.leg_design_records.specs.declared.records.Axis.{Axis}
use Rattle.leg_design_records.specs.declared.records.Row.{Row}
use Rattle.leg_design_records.specs.declared.records.Component.{Component}
use Rattle.leg_design_records.specs.declared.records.Terminal.{Terminal}
use Rattle.leg_design_records.specs.declared.records.Wire.{Wire}
use Rattle.leg_design_records.specs.declared.records.Blockage.{Blockage}
use Rattle.leg_design_records.specs.declared.records.Blockage.TheVariants.{LayerRects, Placement}

-- tracks at start + k * step for k from 0 below the count, on these layers or on all
pub record TrackModel : Type 0 where
  pub axis : Axis
  pub start : ℤ
  pub count : ℤ
  pub step : ℤ
  pub layers : List ℕ

-- a port of a design pin; its shapes are those of the pin at the point 0 0 in orientation N
pub record PortModel : Type 0 where
  pub shapes : List Shape
  pub status : Status
  pub place : Option Place

-- a design pin; its net, direction and use are kept as they are written
pub record PinModel : Type 0 where
  pub name : List ℕ
  pub net_name : Option (List ℕ)
  pub direction : Option (List ℕ)
  pub usage : Option (List ℕ)
  pub ports : List PortModel

-- an entry of BLOCKAGES: the rectangles of a layer, or, where no layer is named, those that keep movable components out
pub record BlockageModel : Type 0 where
  pub layer : Option ℕ
  pub rects : List RectModel

abbrev pub blockage_said : {A : Type 0} → Blockage A → BlockageModel
blockage_said (LayerRects layer rects) = record { layer = Some layer; rects = rects }
blockage_said (Placement rects) = record { layer = None; rects = rects }

-- an entry of NETS or SPECIALNETS
pub record NetModel : Type 0 where
  pub name : List ℕ
  pub usage : Option (List ℕ)
  pub terminals : List Terminal
  pub wires : List Wire

-- a design under its library, in file order
pub record DesignModel : Type 0 where
  pub library : LibraryModel
  pub name : List ℕ
  pub divider : Option (List ℕ)
  pub bus : Option (List ℕ)
  pub die : RectModel
  pub rows : List Row
  pub tracks : List TrackModel
  pub vias : List ViaModel
  pub components : List Component
  pub pins : List PinModel
  pub blockages : List BlockageModel
  pub nets : List NetModel
  pub special : List NetModel

abbrev pub design_via_names : List ViaModel → List (List ℕ)
design_via_names vias = map (λ v. v.name) vias

abbrev pub component_names : List Component → List (List ℕ)
component_names components = map (λ c. c.name) components

abbrev pub pin_names : List PinModel → List (List ℕ)
pin_names pins = map (λ p. p.name) pins

abbrev pub net_names : List NetModel → List (List ℕ)
net_names nets = map (λ n. n.name) nets

-- the rectangles of a blockage that keeps movable components out
abbrev pub rects_without_layer : Option ℕ → List RectModel → List RectModel
rects_without_layer None rects = rects
rects_without_layer (Some layer) rects = []

-- the rectangles of all placement blockages, in file order
abbrev pub placement_rects : List BlockageModel → List RectModel
placement_rects [] = []
placement_rects (blockage ∷ blockages) = rects_without_layer blockage.layer blockage.rects ++ placement_rects blockages

-- how many rectangles the entries have
abbrev pub rect_count : List BlockageModel → ℕ
rect_count [] = 0
rect_count (blockage ∷ blockages) = length blockage.rects + rect_count blockages

-- how many terminals the entries list, each counted once in an entry
abbrev pub terminal_count : List NetModel → ℕ
terminal_count [] = 0
terminal_count (net ∷ nets) = length net.terminals + terminal_count nets

abbrev pub wire_count : List NetModel → ℕ
wire_count [] = 0
wire_count (net ∷ nets) = length net.wires + wire_count nets
