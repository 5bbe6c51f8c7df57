-- Clauses of SPECIALNETS that give rectangles, polygons and vias beside paths (LEF/DEF 5.8, "Special Wiring Statement"). They are read
-- in the wide profile alone.
use Rattle.std.specs.Prelude.{Bool, if◌then◌else◌, List, [], Option, None, Some, codes}
use Rattle.leg_lex.specs.Words.{Words, ◌>>=◌, is_at}
use Rattle.leg_grammar.specs.declared.profile.Profile.{Profile}
use Rattle.leg_grammar.specs.declared.profile.Profile.TheVariants.{Narrow, Wide}
use Rattle.leg_design_records.specs.declared.records.Wire.{Wire}
use Rattle.leg_grammar.specs.Def.NetScope.{NetScopeModel}
use Rattle.leg_grammar.specs.Mask.{at_mask, mask_at}
use Rattle.leg_grammar.specs.Def.SpecialRect.{special_rect_at}
use Rattle.leg_grammar.specs.Def.SpecialPolygon.{special_polygon_at}
use Rattle.leg_grammar.specs.Def.SpecialVia.{special_vias_at}

-- the wires of RECT, of POLYGON and of VIA; a mask that is dropped has none
unfoldable pub special_shape_at : NetScopeModel → Words → Option (List Wire × Words)
special_shape_at scope clause =
    if is_at (codes "RECT") clause then special_rect_at scope clause
    else (if is_at (codes "POLYGON") clause then special_polygon_at scope clause
    else (if is_at (codes "VIA") clause then special_vias_at scope clause
    else (if at_mask scope.profile clause then (mask_at clause >>= λ mask. Some ([], mask.1)) else None)))

-- the wires of such a clause
unfoldable pub shape_at : Profile → NetScopeModel → Bool → Words → Option (List Wire × Words)
shape_at Narrow scope special clause = None
shape_at (Wide masks soft) scope special clause = if special then special_shape_at scope clause else None
