use Rattle.std.proofs.Common.{sym}
use Rattle.leg_lex.proofs.Denotations.{says_one}
use Rattle.leg_grammar.specs.Def.Form.{design_in}
use Rattle.leg_design.proofs.laws.text_says_one_design.Goals as goal

pub returns : goal.returns
returns c = λ profile library same text a b equal first second. says_one (design_in profile library) text a b first (rw (sym equal) at second)
