use Rattle.std.proofs.Common.{rules, ◌<◌, length, sym}
use Rattle.leg_lex.specs.WordPlaces.{bytes_at}
use Rattle.leg_lex.proofs.Marks.{cut_there, not_cut}
use Rattle.leg_lex.proofs.cursor.place_of_mark.Goals as goal

pub returns-then-eq : goal.returns-then-eq
returns-then-eq c =
    let there : c.loop-i.i < length c.args.words.now = search rules in (
      there,
      cut_there (bytes_at c.args.text.now) c.args.mark c.loop-i.i (record { start = 0; end = 0; line = 0 }) c.args.words.now there
          (rw (← c.bytes_at.ensures, ← c.as_slice.ensures) (sym c.if-eq.ensures)) c.loop-i.invariant,
    )

pub returns : goal.returns
returns c = not_cut (bytes_at c.args.text.now) c.args.mark c.loop-i.i c.args.words.now c.loop-i-test.false c.loop-i.invariant
