-- A section, each entry of which keeps what is said.
use Rattle.std.proofs.Common.{ℕ, suc, List, length, Option, Some}
use Rattle.leg_lex.specs.Words.{Words, end_at}
use Rattle.leg_lex.specs.Statements.{at_end}
use Rattle.leg_grammar.specs.Def.Section.{section_start, section_at}
use Rattle.leg_profile_laws.proofs.Keeps.{Keeps, keeps_itself, keeps_bind, steps_keep}

pub section_keeps : {S : Type 0} (keyword : List ℕ) (entry other : S → Words → Option (S × Words))
    → ((made : S) (words : Words) → Keeps (entry made words) (other made words)) → (made : S) (words : Words)
    → Keeps (section_at keyword entry made words) (section_at keyword other made words)
unfolding section_at
section_keeps keyword entry other each made words =
    keeps_bind (keeps_itself (section_start keyword words)) (λ start.
    keeps_bind (steps_keep at_end entry other each (suc (length start.1)) made start.1) (λ entries.
    keeps_bind (keeps_itself (end_at keyword entries.1)) (λ end.
    keeps_itself (Some (entries.0, end.1)))))
