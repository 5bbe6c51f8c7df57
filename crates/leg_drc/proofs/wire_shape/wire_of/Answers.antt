-- A shape of a net is of the wire that its piece is.
use Rattle.std.proofs.Common.{◌≡◌, ◌<◌, None, length, slice_get, option_map, refl, sym, ◌∙◌, arith}
use Rattle.std.proofs.lemmas.Option.{none-some, same_Some, slice_get_within}
use Rattle.leg_lemmas.proofs.Places.{got_is}
use Rattle.leg_drc.proofs.WireShapes.{no_wire, this_wire, same_piece}
use Rattle.leg_drc.proofs.wire_shape.wire_of.Goals as goal

pub returns-in_err-net : goal.returns-in_err-net
returns-in_err-net g c =
    no_wire c.args.flat.now c.args.shape.now _ c.from_residual.ensures (λ n w of. none-some n ((c.in_err-net.ensures n).1 of.owner))

pub returns-in_err-piece : goal.returns-in_err-piece
returns-in_err-piece g c =
    no_wire c.args.flat.now c.args.shape.now _ c.from_residual-in_err-piece.ensures (λ n w of. none-some of.piece (sym c.in_err-piece.was ∙ of.numbered))

pub returns-then-net-net_count : goal.returns-then-net-net_count
returns-then-net-net_count g c =
    let flat = c.args.flat.now in
    no_wire flat c.args.shape.now None refl
    (λ n w of.
    let net : n ≡ c.in_ok-net.net = same_Some n c.in_ok-net.net (sym ((c.net_of.ensures n).1 of.owner) ∙ c.in_ok-net.was) in
    let within : n < length flat.pieces = slice_get_within flat.pieces n of.pieces of.has_net in
    omega (arith, net, within, c.net_count.ensures.is))

pub returns-in_err-wire : goal.returns-in_err-wire
returns-in_err-wire g c =
    let flat = c.args.flat.now in
    let pieces = c.pieces.result.now in
    let got : option_map (λ piece. piece.now) c.get.result ≡ slice_get pieces c.in_ok-piece.piece =
    got_is pieces c.in_ok-piece.piece c.get.result c.get.ensures.lookup.0 c.get.ensures.lookup.1 in
    no_wire flat c.args.shape.now _ c.from_residual-in_err-wire.ensures
    (λ n w of.
    let net : n ≡ c.in_ok-net.net = same_Some n c.in_ok-net.net (sym ((c.net_of.ensures n).1 of.owner) ∙ c.in_ok-net.was) in
    none-some w ((c.in_err-wire.ensures w).1 (got ∙ same_piece flat c.args.shape.now n w c.in_ok-net.net c.in_ok-piece.piece pieces of net
    c.in_ok-piece.was c.pieces.ensures.is)))

pub returns : goal.returns
returns g c =
    let pieces = c.pieces.result.now in
    let got : option_map (λ piece. piece.now) c.get.result ≡ slice_get pieces c.in_ok-piece.piece =
    got_is pieces c.in_ok-piece.piece c.get.result c.get.ensures.lookup.0 c.get.ensures.lookup.1 in
    this_wire c.args.flat.now c.args.shape.now c.in_ok-net.net c.in_ok-wire.wire (record {
      pieces = pieces;
      piece = c.in_ok-piece.piece;
      owner = (c.net_of.ensures c.in_ok-net.net).0 c.in_ok-net.was;
      numbered = c.in_ok-piece.was;
      has_net = c.pieces.ensures.is;
      has_piece = sym got ∙ (c.wire_number.ensures c.in_ok-wire.wire).0 c.in_ok-wire.was;
    })
