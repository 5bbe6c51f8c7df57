use Rattle.std.proofs.Common.{drop, slice_index, sym, arith}
use Rattle.leg_lex.proofs.Cuts.{read_only, unclosed_has_none}
use Rattle.leg_lex.proofs.WordsAt.{read_on, plain_on, white_on, next_inside, range_piece, piece_there, stuck_at, inside, lines_below, nothing_left}
use Rattle.leg_lex.proofs.words.word_places.Goals as goal
use Rattle.leg_lex.proofs.PieceKinds.{plain_here}

pub returns-in_default-clause-unclosed : goal.returns-in_default-clause-unclosed
returns-in_default-clause-unclosed g c =
    λ _. unclosed_has_none c.args.text.now c.pieces.line (stuck_at c.args.text.now c.pieces.at c.pieces.line _ c.pieces-test.true c.pieces.invariant.read
    c.in_default.ensures.quote c.in_default.ensures.ends)

pub pieces-preserved-then-is_white : goal.pieces-preserved-then-is_white
pieces-preserved-then-is_white g c = record {
  read = rw c.line_feeds_of-line.ensures.is (white_on c.args.text.now c.pieces.at c.pieces.line c.pieces.places.items c.pieces-test.true
      (sym c.if-is_white.ensures) c.pieces.invariant.read);
  within = c.pieces.invariant.within;
  inside = next_inside c.args.text.now c.pieces.at c.pieces-test.true;
  lines = omega (arith, c.line_feeds_of-line.ensures.one, c.pieces.invariant.lines);
}

pub pieces-preserved-then-begins_plain : goal.pieces-preserved-then-begins_plain
pieces-preserved-then-begins_plain g c =
    let text = c.args.text.now in
    let plain = plain_here (slice_index text c.pieces.at) (sym c.if-begins_plain.ensures) in record {
      read = plain_on text c.pieces.at c.pieces.line c.plain_len.result c.pieces.places.items _ c.pieces.invariant.read c.pieces-test.true
          plain c.plain_len.ensures.some c.plain_len.ensures.piece c.in_ok-push_plain.ensures.pushed;
      within = c.in_ok-push_plain.ensures.pushed.within c.pieces.invariant.within;
      inside = inside text c.pieces.at c.plain_len.result c.pieces.invariant.inside c.plain_len.ensures.within;
      lines = omega (arith, c.pieces.invariant.lines);
    }

pub line_feeds-requires : goal.line_feeds-requires
line_feeds-requires g c =
    range_piece c.args.text.now c.pieces.at c.in-Some.len (piece_there c.args.text.now c.pieces.at c.in-Some.len c.in-Some.ensures.ends)

pub pieces-preserved : goal.pieces-preserved
pieces-preserved g c =
    let is_piece = piece_there c.args.text.now c.pieces.at c.in-Some.len c.in-Some.ensures.ends in record {
      read = rw c.line_feeds.ensures (read_on c.args.text.now c.pieces.at c.pieces.line c.in-Some.len c.pieces.places.items _ c.pieces.invariant.read is_piece
          c.in_ok-push_words.ensures.pushed);
      within = c.in_ok-push_words.ensures.pushed.within c.pieces.invariant.within;
      inside = inside c.args.text.now c.pieces.at c.in-Some.len c.pieces.invariant.inside c.in-Some.ensures.within;
      lines = rw c.line_feeds.ensures (lines_below c.args.text.now c.pieces.at c.in-Some.len c.pieces.line c.pieces.invariant.lines);
    }

pub returns-clause-only : goal.returns-clause-only
returns-clause-only g c =
    read_only c.args.text.now (drop c.pieces.at c.args.text.now) c.pieces.line _ c.pieces.invariant.read
    (nothing_left c.args.text.now c.pieces.at c.pieces-test.false)
