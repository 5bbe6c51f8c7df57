-- Rules in database units: each length is replaced by what denotes it exactly, and a rule that isn't stated by the width
-- or the spacing of the layer (lefdef's own rules).
use Rattle.std.specs.Prelude.{◌≡◌, ℕ, ℤ, pos, List, [], ◌∷◌, Option, None, Some}
use Rattle.leg_lib_records.specs.declared.records.LayerKind.{LayerKind}
use Rattle.leg_lib_records.specs.declared.records.LayerKind.TheVariants.{Routing, Cut, Other}
use Rattle.leg_lib_records.specs.declared.records.Layer.{Layer}
use Rattle.leg_lib_records.specs.Records.{LibraryModel}
use Rattle.leg_lib_records.specs.Scale.{IsLengthAt, OneForOne}
use Rattle.leg_drc_rules.specs.declared.raw.RawLineEnd.{RawLineEnd}
use Rattle.leg_drc_rules.specs.declared.records.LineEnd.{LineEnd}
use Rattle.leg_drc_rules.specs.Records.{RowModel, TableModel, RawLayerRulesModel, RawDeckModel, LayerRulesModel, DeckModel, no_rules}

-- the length that is stated, or else this one
abbrev pub IsLengthOr : ℕ → ℤ → Option ℤ → ℤ → Type 0
IsLengthOr n other None u = u ≡ other
IsLengthOr n other (Some m) u = IsLengthAt n m u

pub record IsRowAt (n : ℕ) (raw row : RowModel) : Type 0 where
  pub width : IsLengthAt n raw.width row.width
  pub values : OneForOne (IsLengthAt n) raw.values row.values

pub record IsTableAt (n : ℕ) (raw table : TableModel) : Type 0 where
  pub runs : OneForOne (IsLengthAt n) raw.runs table.runs
  pub rows : OneForOne (IsRowAt n) raw.rows table.rows

-- a table, where one is stated
abbrev pub IsAnyTableAt : ℕ → Option TableModel → Option TableModel → Type 0
IsAnyTableAt n None None = Unit {0}
IsAnyTableAt n None (Some table) = ⊥
IsAnyTableAt n (Some raw) None = ⊥
IsAnyTableAt n (Some raw) (Some table) = IsTableAt n raw table

pub record IsLineEndAt (n : ℕ) (raw : RawLineEnd) (line_end : LineEnd) : Type 0 where
  pub spacing : IsLengthAt n raw.spacing line_end.spacing
  pub width : IsLengthAt n raw.width line_end.width
  pub within : IsLengthAt n raw.within line_end.within

-- the width of a routing layer's wires; nothing is narrower than 0
abbrev pub width_of : LayerKind → ℤ
width_of (Routing direction width) = width
width_of Cut = pos 0
width_of Other = pos 0

-- the rules of a layer of the library, from those that are stated
pub record AreRulesAt (n : ℕ) (layer : Layer) (raw : RawLayerRulesModel) (rules : LayerRulesModel) : Type 0 where
  pub area : rules.area ≡ raw.area
  pub width : IsLengthOr n (width_of layer.kind) raw.width rules.width
  pub net_spacing : IsLengthOr n layer.spacing raw.net_spacing rules.net_spacing
  pub table : IsAnyTableAt n raw.table rules.table
  pub line_ends : OneForOne (IsLineEndAt n) raw.line_ends rules.line_ends

-- those of a layer of which no section was read, too
abbrev pub AreAnyRulesAt : ℕ → Layer → Option RawLayerRulesModel → LayerRulesModel → Type 0
AreAnyRulesAt n layer None rules = AreRulesAt n layer no_rules rules
AreAnyRulesAt n layer (Some raw) rules = AreRulesAt n layer raw rules

-- what is found, if a list goes so far
abbrev pub flat : {X : Type 0} → Option (Option X) → Option X
flat None = None
flat (Some found) = found

-- layer for layer, in order; a layer of which no section was read states nothing
abbrev pub AreLayersAt : ℕ → List Layer → List (Option RawLayerRulesModel) → List LayerRulesModel → Type 0
AreLayersAt n [] raws rules = rules ≡ []
AreLayersAt n (layer ∷ layers) raws [] = ⊥
AreLayersAt n (layer ∷ layers) [] (rules ∷ others) = AreAnyRulesAt n layer None rules × AreLayersAt n layers [] others
AreLayersAt n (layer ∷ layers) (raw ∷ raws) (rules ∷ others) =
    AreAnyRulesAt n layer raw rules × AreLayersAt n layers raws others

-- the rules at the units of the library
pub record IsDeckAt (library : LibraryModel) (raw : RawDeckModel) (deck : DeckModel) : Type 0 where
  pub grid : deck.grid ≡ raw.grid
  pub layers : AreLayersAt library.units library.layers raw.layers deck.layers
