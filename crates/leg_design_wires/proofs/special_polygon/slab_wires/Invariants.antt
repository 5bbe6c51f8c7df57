use Rattle.std.proofs.Common.{◌≡◌, [], drop}
use Rattle.leg_lex.specs.Until.{over}
use Rattle.leg_grammar.specs.Def.SpecialPolygon.{with_slab}
use Rattle.leg_design_wires.proofs.special_polygon.slab_wires.Given as goal

abbrev pub invariant-loop-slab : goal.invariant-loop-slab
invariant-loop-slab g l =
    over (with_slab l.fn.layer) l.wires.items (drop l.slab-index l.slabs) ≡ over (with_slab l.fn.layer) [] l.slabs
