use Rattle.leg_output.specs.Words.{text_of, words_in_lines}
use Rattle.leg_print_words.proofs.Lines.{printable_lines, lines_are_text, lines_have_only}
use Rattle.leg_print_words.proofs.laws.lines_have_their_words.Goals as goal

pub returns-clause-there : goal.returns-clause-there
returns-clause-there c = λ lines all. lines_are_text (text_of lines) (words_in_lines lines) (printable_lines lines all)

pub returns-clause-only : goal.returns-clause-only
returns-clause-only c = λ lines all.
    lines_have_only (text_of lines) (words_in_lines lines) (c.one_cut.ensures (text_of lines)) (printable_lines lines all)
