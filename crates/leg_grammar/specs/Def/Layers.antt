-- Layers that are named, and rectangles on them (that a rectangle on a layer without metal is dropped is lefdef's own rule).
use Rattle.std.specs.Prelude.{ℕ, fold, if◌then◌else◌, List, [], ◌∷◌, ◌++◌, Option, Some}
use Rattle.leg_lex.specs.Words.{Words, ◌>>=◌, name_at}
use Rattle.leg_lex.specs.NameLookup.{place_of}
use Rattle.leg_geom.specs.Plane.{RectModel}
use Rattle.leg_lib_records.specs.declared.records.Shape.{Shape}
use Rattle.leg_lib_records.specs.Records.{LibraryModel, layer_names}
use Rattle.leg_design_records.specs.Layers.{has_metal}

-- a layer of the library, by its number
unfoldable pub layer_named_at : LibraryModel → Words → Option (ℕ × Words)
layer_named_at library words = do
  name ← name_at words
  number ← place_of name.0 (layer_names library)
  Some (number, name.1)

-- one more rectangle, on a layer with metal; on another layer it is dropped
abbrev pub with_rect : LibraryModel → ℕ → RectModel → List Shape → List Shape
with_rect library number rect shapes =
    if has_metal library number then shapes ++ record { layer = number; rect = rect } ∷ [] else shapes

-- rectangles on the same layer, one after the other
abbrev pub with_rects : LibraryModel → ℕ → List RectModel → List Shape → List Shape
with_rects library number rects shapes = fold (λ before rect. with_rect library number rect before) shapes rects
