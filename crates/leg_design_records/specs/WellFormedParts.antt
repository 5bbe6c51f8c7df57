-- What holds of the parts of a design that a DEF denotes under a library (lefdef's own rules, after LEF/DEF 5.8, "DEF Syntax").
use Rattle.std.specs.Prelude.{◌≡◌, ℕ, pos, ◌<◌, ◌≤◌, ◌≤ℤ◌, ◌+ℤ◌, ◌-ℤ◌, ◌*ℤ◌, false, List, length, All, Option, None, Some, slice_get, codes, IsTrue}
use Rattle.leg_lex.specs.Words.{is_name, is_word, is_keyword}
use Rattle.leg_lex.specs.Number.{IsNumber}
use Rattle.leg_lex.specs.NameLookup.{place_of, AreApart}
use Rattle.leg_geom.specs.Plane.{PointModel, RectModel}
use Rattle.leg_geom.specs.declared.place.Place.{Place}
use Rattle.leg_lib_records.specs.declared.records.Site.{Site}
use Rattle.leg_lib_records.specs.declared.records.Shape.{Shape}
use Rattle.leg_lib_records.specs.Measure.{IsProper}
use Rattle.leg_lib_records.specs.GoodVia.{is_good_via}
use Rattle.leg_lib_records.specs.Records.{LibraryModel, ViaModel, via_names}
use Rattle.leg_design_records.specs.declared.limits.TheConstants.{ENTRY_LIMIT, PART_LIMIT}
use Rattle.leg_design_records.specs.declared.records.Status.{Status}
use Rattle.leg_design_records.specs.declared.records.Status.TheVariants.{Unplaced, Placed, Fixed, Cover}
use Rattle.leg_design_records.specs.declared.records.Row.{Row}
use Rattle.leg_design_records.specs.declared.records.Component.{Component}
use Rattle.leg_design_records.specs.Layers.{has_metal}
use Rattle.leg_design_records.specs.Rows.{is_upright}
use Rattle.leg_design_records.specs.Records.{TrackModel, PortModel, PinModel, BlockageModel, component_names, design_via_names, pin_names, rect_count}

-- both coordinates are numbers that a DEF may have
pub record IsPosition (p : PointModel) : Type 0 where
  pub x : IsNumber p.x
  pub y : IsNumber p.y

-- a rectangle that has area, of such numbers
pub record IsArea (r : RectModel) : Type 0 where
  pub x1 : IsNumber r.x1
  pub y1 : IsNumber r.y1
  pub x2 : IsNumber r.x2
  pub y2 : IsNumber r.y2
  pub proper : IsProper r

-- there is a place exactly where there is a status other than unplaced
abbrev pub IsPlaced : Status → Option Place → Type 0
IsPlaced Unplaced None = Unit {0}
IsPlaced Unplaced (Some place) = ⊥
IsPlaced Placed None = ⊥
IsPlaced Placed (Some place) = IsPosition place.at
IsPlaced Fixed None = ⊥
IsPlaced Fixed (Some place) = IsPosition place.at
IsPlaced Cover None = ⊥
IsPlaced Cover (Some place) = IsPosition place.at

-- A component of a macro of the library. It isn't named PIN, by which nets mark the pins of the design.
pub record IsComponent (library : LibraryModel) (component : Component) : Type 0 where
  pub name : IsTrue (is_name component.name)
  pub no_pin : is_keyword (codes "PIN") component.name ≡ false
  pub master : component.master < length library.masters
  pub placed : IsPlaced component.status component.place

-- no two components have one name, and there are no more than there may be
pub record AreComponents (library : LibraryModel) (components : List Component) : Type 0 where
  pub each : All (IsComponent library) components
  pub apart : AreApart (component_names components)
  pub few : length components ≤ ENTRY_LIMIT

-- a row of sites of the library; its right end too is a number that a DEF may have
pub record IsRow (library : LibraryModel) (row : Row) : Type 0 where
  pub name : IsTrue (is_name row.name)
  pub site : Site
  pub there : slice_get library.sites row.site ≡ Some site
  pub at : IsPosition row.at
  pub upright : IsTrue (is_upright row.orient)
  pub some : pos 1 ≤ℤ row.count
  pub count : IsNumber row.count
  pub end : IsNumber (row.at.x +ℤ row.count *ℤ site.size.width)

-- tracks, of which the last too lies at a number that a DEF may have
pub record IsTrack (library : LibraryModel) (track : TrackModel) : Type 0 where
  pub start : IsNumber track.start
  pub some : pos 1 ≤ℤ track.count
  pub count : IsNumber track.count
  pub apart : pos 1 ≤ℤ track.step
  pub step : IsNumber track.step
  pub end : IsNumber (track.start +ℤ (track.count -ℤ pos 1) *ℤ track.step)
  pub layers : All (λ layer. layer < length library.layers) track.layers

-- a rectangle on a layer with metal
pub record IsMetalShape (library : LibraryModel) (shape : Shape) : Type 0 where
  pub metal : IsTrue (has_metal library shape.layer)
  pub rect : IsArea shape.rect

-- a via of the design is no default via, and is marked good if and only if it is
pub record IsDesignVia (library : LibraryModel) (via : ViaModel) : Type 0 where
  pub name : IsTrue (is_name via.name)
  pub new : place_of via.name (via_names library) ≡ None
  pub default_via : via.default_via ≡ false
  pub good : via.good ≡ is_good_via library via.name via.shapes
  pub shapes : All (IsMetalShape library) via.shapes

-- no two vias of the design have one name
pub record AreVias (library : LibraryModel) (vias : List ViaModel) : Type 0 where
  pub each : All (IsDesignVia library) vias
  pub apart : AreApart (design_via_names vias)

-- a word that is kept is a name or a quoted word
abbrev pub IsKept : Option (List ℕ) → Type 0
IsKept None = Unit {0}
IsKept (Some word) = IsTrue (is_word word)

-- a name that is kept is one
abbrev pub IsNameIfAny : Option (List ℕ) → Type 0
IsNameIfAny None = Unit {0}
IsNameIfAny (Some name) = IsTrue (is_name name)

-- a port: its rectangles, and its place
pub record IsPort (library : LibraryModel) (port : PortModel) : Type 0 where
  pub shapes : All (IsMetalShape library) port.shapes
  pub placed : IsPlaced port.status port.place

-- a pin: its name, the words that are kept, and its ports
pub record IsPin (library : LibraryModel) (pin : PinModel) : Type 0 where
  pub name : IsTrue (is_name pin.name)
  pub net_name : IsNameIfAny pin.net_name
  pub direction : IsKept pin.direction
  pub usage : IsKept pin.usage
  pub ports : All (IsPort library) pin.ports

-- no two pins have one name, and there are no more than there may be
pub record ArePins (library : LibraryModel) (pins : List PinModel) : Type 0 where
  pub each : All (IsPin library) pins
  pub apart : AreApart (pin_names pins)
  pub few : length pins ≤ ENTRY_LIMIT

-- the layer of a blockage, where one is named, carries metal
abbrev pub IsLayerOfBlockage : LibraryModel → Option ℕ → Type 0
IsLayerOfBlockage library None = Unit {0}
IsLayerOfBlockage library (Some layer) = IsTrue (has_metal library layer)

-- a blockage: it has one rectangle at least, and each has area; nothing is said of where they lie
pub record IsBlockage (library : LibraryModel) (blockage : BlockageModel) : Type 0 where
  pub layer : IsLayerOfBlockage library blockage.layer
  pub some : 1 ≤ length blockage.rects
  pub rects : All IsArea blockage.rects

-- there are no more blockages, and they have no more rectangles, than there may be
pub record AreBlockages (library : LibraryModel) (blockages : List BlockageModel) : Type 0 where
  pub each : All (IsBlockage library) blockages
  pub few : length blockages ≤ ENTRY_LIMIT
  pub few_rects : rect_count blockages ≤ PART_LIMIT
