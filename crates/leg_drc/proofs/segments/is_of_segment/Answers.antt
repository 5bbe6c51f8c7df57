-- A shape is a segment where the wire that it is of is one.
use Rattle.std.proofs.Common.{sym, ◌∙◌}
use Rattle.std.proofs.lemmas.Bool.{false≢true}
use Rattle.std.proofs.lemmas.Option.{none-some}
use Rattle.leg_drc.specs.Wires.{IsOfWireOf}
use Rattle.leg_drc.proofs.WiresOfNets.{wire_within, segment_told}
use Rattle.leg_drc.proofs.segments.is_of_segment.Goals as goal

pub wire_in-requires : goal.wire_in-requires
wire_in-requires g c =
    let of : IsOfWireOf c.args.flat.now c.in-Some.net c.in-Some.wire c.args.shape.now = (c.wire_of.ensures c.in-Some.net c.in-Some.wire).0 c.in-Some.is in
    wire_within c.args.design.now c.args.flat.now c.args.shape.now c.in-Some.net c.in-Some.wire c.requires of

pub returns-in-Some : goal.returns-in-Some
returns-in-Some g c =
    let of : IsOfWireOf c.args.flat.now c.in-Some.net c.in-Some.wire c.args.shape.now = (c.wire_of.ensures c.in-Some.net c.in-Some.wire).0 c.in-Some.is in
    segment_told c.args.design.now c.args.flat.now c.args.shape.now c.in-Some.net c.in-Some.wire of _ c.wire_in.ensures c.is_segment.result c.is_segment.ensures

pub returns-in-None : goal.returns-in-None
returns-in-None g c = (
  λ test. absurd (false≢true test),
  λ segment. absurd (none-some (segment.net, segment.number) (sym c.in-None.is ∙ (c.wire_of.ensures segment.net segment.number).1 segment.of_wire)),
)
