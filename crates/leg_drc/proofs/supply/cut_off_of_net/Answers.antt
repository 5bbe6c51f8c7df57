-- The pieces are told by their marks and groups.
use Rattle.std.proofs.lemmas.Result.{IfOk-weaker}
use Rattle.leg_drc.specs.Steps.CutOff.{ArePiecesCutOff, AreApart}
use Rattle.leg_drc.proofs.CutOffPieces.{pieces_cut_off}
use Rattle.leg_drc.proofs.supply.cut_off_of_net.Goals as goal

pub pieces_apart-requires-clause-few : goal.pieces_apart-requires-clause-few
pieces_apart-requires-clause-few g c = rw c.deref.ensures.value c.in_ok-marks.ensures.few

pub returns : goal.returns
returns g c =
    let flat = c.args.flat.now in
    let net = c.args.net in
    let marks = c.in_ok-marks.marks.items in
    let groups = c.in_ok-groups.groups.items in
    IfOk-weaker c.pieces_apart.result (λ pieces. AreApart marks groups pieces.items) (λ pieces. ArePiecesCutOff flat net pieces.items)
    (λ pieces are. pieces_cut_off flat net marks groups c.in_ok-marks.ensures.marks c.in_ok-groups.ensures pieces.items are)
    (rw (c.deref.ensures.value, c.deref-2.ensures.value) at c.pieces_apart.ensures)
