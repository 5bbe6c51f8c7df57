-- Rectangles, polygons and vias of special nets: each takes a word at least.
use Rattle.std.proofs.Common.{◌≡◌, ℕ, ◌<◌, Bool, List, [], ◌∷◌, ◌++◌, length, None, Some, codes, false, refl, arith}
use Rattle.leg_lex.specs.Words.{Words, is_at}
use Rattle.leg_lex.specs.Until.{over}
use Rattle.leg_lex.proofs.Until.{Below, Shortens, below_none, below_some, below_bind, below_ask, below_if, below_more, until_below}
use Rattle.leg_lex.proofs.Shorter.{keyword_below}
use Rattle.leg_lib_records.specs.Measure.{rect_between}
use Rattle.leg_design_records.specs.declared.records.Wire.{Wire}
use Rattle.leg_design_records.specs.declared.records.Wire.TheVariants.{ViaAt}
use Rattle.leg_grammar.specs.declared.profile.Profile.{Profile}
use Rattle.leg_grammar.specs.declared.profile.Profile.TheVariants.{Narrow, Wide}
use Rattle.leg_grammar.specs.Def.Guard.{when}
use Rattle.leg_grammar.specs.Def.NetScope.{NetScopeModel, via_numbered}
use Rattle.leg_grammar.specs.Def.Placement.{spot_at, rect_at}
use Rattle.leg_grammar.specs.Mask.{at_mask}
use Rattle.leg_grammar.specs.Def.SpecialRect.{rect_wires, special_rect_at}
use Rattle.leg_grammar.specs.Def.SpecialPolygon.{with_slab, special_polygon_at}
use Rattle.leg_grammar.specs.Def.SpecialVia.{good_via_at, via_spot, at_no_spot, special_vias_at}
use Rattle.leg_grammar.specs.Def.SpecialShape.{special_shape_at, shape_at}
use Rattle.leg_design_common.proofs.Spots.{spot_below}
use Rattle.leg_design_common.proofs.Polygons.{polygon_below}
use Rattle.leg_design_wires.proofs.PathItems.{no_mark, mask_below, via_below}
use Rattle.leg_design_wires.proofs.Wirings.{routing_below}

-- a word that isn't a parenthesis begins no point
pub no_spot : (words : Words) → is_at (codes "(") words ≡ false → spot_at words ≡ None
unfolding spot_at
no_spot words other = rw (no_mark words other) refl

rect_below : (words : Words) → Below (length words) (rect_at words)
unfolding rect_at
rect_below words =
    below_bind (omega arith) (spot_below words) (λ p less.
    below_bind (omega arith) (spot_below p.1) (λ q last.
    below_ask (rect_between p.0 q.0) (λ rect.
    below_some rect q.1 last)))

special_rect_below : (scope : NetScopeModel) (clause : Words) → Below (length clause) (special_rect_at scope clause)
unfolding special_rect_at
special_rect_below scope clause =
    below_bind (omega arith) (keyword_below (codes "RECT") clause) (λ start less.
    below_bind (omega arith) (routing_below scope.library start.1) (λ layer fewer.
    below_bind (omega arith) (rect_below layer.1) (λ rect last.
    below_ask (rect_wires layer.0 rect.0) (λ wires.
    below_some wires rect.1 last))))

special_polygon_below : (scope : NetScopeModel) (clause : Words) → Below (length clause) (special_polygon_at scope clause)
unfolding special_polygon_at
special_polygon_below scope clause =
    below_bind (omega arith) (keyword_below (codes "POLYGON") clause) (λ start less.
    below_bind (omega arith) (routing_below scope.library start.1) (λ layer fewer.
    below_bind (omega arith) (polygon_below layer.1) (λ slabs last.
    below_ask (over (with_slab layer.0) [] slabs.0) (λ wires.
    below_some wires slabs.1 last))))

good_via_below : (scope : NetScopeModel) (words : Words) → Below (length words) (good_via_at scope words)
unfolding good_via_at
good_via_below scope words =
    below_bind (omega arith) (via_below scope words) (λ number less.
    below_ask (via_numbered scope number.0) (λ via.
    below_ask (when via.good) (λ good.
    below_some number.0 number.1 less)))

pub via_spot_shortens : (via : ℕ) → Shortens (via_spot via)
unfolding via_spot
via_spot_shortens via wires words =
    below_bind (omega arith) (spot_below words) (λ spot less. below_some (wires ++ ViaAt via spot.0 ∷ []) spot.1 less)

pub via_spot_shorter : (via : ℕ) (wires next : List Wire) (words rest : Words) → via_spot via wires words ≡ Some (next, rest) → length rest < length words
via_spot_shorter via wires next words rest said = (via_spot_shortens via wires words).left next rest said

special_vias_below : (scope : NetScopeModel) (clause : Words) → Below (length clause) (special_vias_at scope clause)
unfolding special_vias_at
special_vias_below scope clause =
    below_bind (omega arith) (keyword_below (codes "VIA") clause) (λ start less.
    below_bind (omega arith) (good_via_below scope start.1) (λ via fewer.
    below_bind (omega arith) (via_spot_shortens via.0 [] via.1) (λ first shorter.
    below_more (omega arith) (until_below at_no_spot (via_spot via.0) (via_spot_shortens via.0) first.0 first.1))))

special_shape_below : (scope : NetScopeModel) (clause : Words) → Below (length clause) (special_shape_at scope clause)
unfolding special_shape_at
special_shape_below scope clause =
    below_if (is_at (codes "RECT") clause) (special_rect_below scope clause)
    (below_if (is_at (codes "POLYGON") clause) (special_polygon_below scope clause)
    (below_if (is_at (codes "VIA") clause) (special_vias_below scope clause)
    (below_if (at_mask scope.profile clause)
    (below_bind (omega arith) (mask_below clause) (λ mask less. below_some [] mask.1 less))
    (below_none (length clause)))))

pub shape_below : (profile : Profile) (scope : NetScopeModel) (special : Bool) (clause : Words) → Below (length clause) (shape_at profile scope special clause)
unfolding shape_at
shape_below Narrow scope special clause = below_none (length clause)
shape_below (Wide masks soft) scope special clause = below_if special (special_shape_below scope clause) (below_none (length clause))
