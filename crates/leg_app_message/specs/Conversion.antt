-- Lengths of a LEF that are converted to the DEF's units, and behind which words they stand.
use Rattle.std.specs.Prelude.{◌≡◌, ◌≢◌, ℕ, ℤ, Bool, false, ◌||◌, if◌then◌else◌, List, ◌∷◌, ◌++◌, ◌⊎◌, All, Contains, IsTrue, Ok, codes}
use Rattle.leg_lex.specs.Word.{Word}
use Rattle.leg_lex.specs.Words.{is_keyword}
use Rattle.leg_lex.specs.Number.{micron_of}
use Rattle.leg_geom.specs.Plane.{PointModel, RectModel}
use Rattle.leg_lib_records.specs.declared.raw.RawKind.{RawKind}
use Rattle.leg_lib_records.specs.declared.raw.RawKind.TheVariants.{Routing, Cut, Other}
use Rattle.leg_lib_records.specs.declared.raw.RawLayer.{RawLayer}
use Rattle.leg_lib_records.specs.declared.raw.RawSite.{RawSite}
use Rattle.leg_lib_records.specs.declared.raw.RawShape.{RawShape}
use Rattle.leg_lib_records.specs.declared.scale_fault.ScaleKind.{ScaleKind}
use Rattle.leg_lib_records.specs.declared.scale_fault.ScaleKind.TheVariants.{NotOnUnit, TooLarge, OddWidth, Memory}
use Rattle.leg_lib_records.specs.Measure.{ExtentModel}
use Rattle.leg_lib_records.specs.Records.{RawViaModel, RawPinModel, RawMasterModel, RawLibraryModel}

-- behind this word a layer has a length that may have such a fault: only a width may be odd
abbrev pub begins_of_layer : ScaleKind → List ℕ → Bool
begins_of_layer NotOnUnit word = is_keyword (codes "WIDTH") word || is_keyword (codes "SPACING") word || is_keyword (codes "SPACINGTABLE") word
begins_of_layer TooLarge word = is_keyword (codes "WIDTH") word || is_keyword (codes "SPACING") word || is_keyword (codes "SPACINGTABLE") word
begins_of_layer OddWidth word = is_keyword (codes "WIDTH") word
begins_of_layer Memory word = false

-- behind this word a form that begins with the first one has a length that is converted
abbrev pub begins_lengths : ScaleKind → List ℕ → List ℕ → Bool
begins_lengths kind form word =
    if is_keyword (codes "LAYER") form then begins_of_layer kind word
    else (if is_keyword (codes "SITE") form then is_keyword (codes "SIZE") word
    else (if is_keyword (codes "VIA") form then is_keyword (codes "RECT") word
    else is_keyword (codes "SIZE") word || is_keyword (codes "ORIGIN") word || is_keyword (codes "RECT") word))

-- the word stands behind such a word in the same statement: no `;` comes between
pub record IsBehind (begins : List ℕ → Bool) (words : List Word) (word : Word) : Type 0 where
  pub before : List Word
  pub keyword : Word
  pub between : List Word
  pub after : List Word
  pub are : words ≡ before ++ keyword ∷ between ++ word ∷ after
  pub begins_it : IsTrue (begins keyword.text)
  pub goes_on : All (λ (w : Word). w.text ≢ codes ";") between

-- the number is a side of the rectangle
abbrev pub IsOfRect : RectModel → ℤ → Type 0
IsOfRect rect m = (m ≡ rect.x1) ⊎ ((m ≡ rect.y1) ⊎ ((m ≡ rect.x2) ⊎ (m ≡ rect.y2)))

-- the number is a side of one of the rectangles
pub record IsSide (shapes : List RawShape) (m : ℤ) : Type 0 where
  pub shape : RawShape
  pub there : Contains shapes shape
  pub is : IsOfRect shape.rect m

abbrev pub IsOfSize : ExtentModel → ℤ → Type 0
IsOfSize size m = (m ≡ size.width) ⊎ (m ≡ size.height)

abbrev pub IsOfPoint : PointModel → ℤ → Type 0
IsOfPoint point m = (m ≡ point.x) ⊎ (m ≡ point.y)

-- the number is the width of such a layer
abbrev pub IsWidth : RawKind → ℤ → Type 0
IsWidth (Routing direction width) m = m ≡ width
IsWidth Cut m = ⊥
IsWidth Other m = ⊥

-- the number is a length of the layer that may have such a fault: its width, or its spacing
abbrev pub IsOfLayer : ScaleKind → RawLayer → ℤ → Type 0
IsOfLayer NotOnUnit layer m = IsWidth layer.kind m ⊎ (m ≡ layer.spacing)
IsOfLayer TooLarge layer m = IsWidth layer.kind m ⊎ (m ≡ layer.spacing)
IsOfLayer OddWidth layer m = IsWidth layer.kind m
IsOfLayer Memory layer m = ⊥

-- the number is a side of a rectangle of one of the pins
pub record IsOfPins (pins : List RawPinModel) (m : ℤ) : Type 0 where
  pub pin : RawPinModel
  pub there : Contains pins pin
  pub is : IsSide pin.shapes m

-- the number is a length of the macro: of its size or its origin, or a side of a rectangle of a pin or an obstruction
abbrev pub IsLengthOfMacro : RawMasterModel → ℤ → Type 0
IsLengthOfMacro master m =
    (IsOfSize master.size m ⊎ IsOfPoint master.origin m) ⊎ (IsOfPins master.pins m ⊎ IsSide master.obstructions m)

-- the macro has this name, and the number is a length of it
pub record IsOfMacro (name : List ℕ) (master : RawMasterModel) (m : ℤ) : Type 0 where
  pub named : master.name ≡ name
  pub is : IsLengthOfMacro master m

-- The library has a layer, a site, a via or a macro of this name, as the word of its form says, and the number is a length of it that is
-- converted and may have such a fault.
pub data HasLength (library : RawLibraryModel) (kind : ScaleKind) (form name : List ℕ) (m : ℤ) : Type 0 where
  in_layer : {layer : RawLayer} → IsTrue (is_keyword (codes "LAYER") form) → Contains library.layers layer → layer.name ≡ name
      → IsOfLayer kind layer m → HasLength library kind form name m
  in_site : {site : RawSite} → IsTrue (is_keyword (codes "SITE") form) → Contains library.sites site → site.name ≡ name
      → IsOfSize site.size m → HasLength library kind form name m
  in_via : {via : RawViaModel} → IsTrue (is_keyword (codes "VIA") form) → Contains library.vias via → via.name ≡ name
      → IsSide via.shapes m → HasLength library kind form name m
  in_macro : {master : RawMasterModel} → IsTrue (is_keyword (codes "MACRO") form) → Contains library.masters master → IsOfMacro name master m
      → HasLength library kind form name m

-- the word denotes such a length, in millionths of a micron
abbrev pub IsOfLibrary : RawLibraryModel → ScaleKind → List ℕ → List ℕ → List ℕ → Type 0
IsOfLibrary library kind form name word = (m : ℤ) × (micron_of word ≡ Ok m) × HasLength library kind form name m
