-- Proper libraries: rectangles and sizes have area, and the size of a macro is within the limit of numbers. Each that the
-- program has is one, by the types of its parts (lefdef's own rule; LEF/DEF 5.8, "Macro" and "Via").
use Rattle.std.specs.Prelude.{List, All}
use Rattle.leg_lib_records.specs.declared.records.Shape.{Shape}
use Rattle.leg_lib_records.specs.Measure.{IsProper, IsExtent}
use Rattle.leg_lib_records.specs.Records.{MasterModel, LibraryModel}

-- each shape has area
abbrev pub AreProperShapes : List Shape → Type 0
AreProperShapes shapes = All (λ shape. IsProper shape.rect) shapes

-- a macro of such shapes, whose size has area too and is within the limit of numbers
pub record IsProperMaster (master : MasterModel) : Type 0 where
  pub size : IsExtent master.size
  pub pins : All (λ pin. AreProperShapes pin.shapes) master.pins
  pub obstructions : AreProperShapes master.obstructions

-- A library is proper.
pub record IsProperLibrary (library : LibraryModel) : Type 0 where
  pub vias : All (λ via. AreProperShapes via.shapes) library.vias
  pub masters : All IsProperMaster library.masters
