use Rattle.std.proofs.Common.{codes, refl}
use Rattle.leg_print_laws.proofs.FreeWords.{free_literal}
use Rattle.leg_print_laws.proofs.HeaderLines.{word_line}
use Rattle.leg_print_laws.proofs.laws.naming_lines_are_read.Goals as goal

pub returns-clause-divider : goal.returns-clause-divider
returns-clause-divider c = λ word is one. word_line (codes "DIVIDERCHAR") word refl (free_literal (codes "DIVIDERCHAR") refl refl refl) is one

pub returns-clause-bus : goal.returns-clause-bus
returns-clause-bus c = λ word is one. word_line (codes "BUSBITCHARS") word refl (free_literal (codes "BUSBITCHARS") refl refl refl) is one
