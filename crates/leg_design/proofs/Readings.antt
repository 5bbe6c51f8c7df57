-- What a text says, from what a reader of its words answers.
use Rattle.std.proofs.Common.{◌≡◌, ℕ, List, Option, Result, Ok, Err, IfOk, IfErr}
use Rattle.leg_lex.specs.Word.{Word, texts}
use Rattle.leg_lex.specs.Words.{Words, Means}
use Rattle.leg_lex.specs.declared.read_fault.ReadFault.{ReadFault}
use Rattle.leg_lex.specs.declared.read_fault.FaultKind.TheVariants.{Memory}
use Rattle.leg_lex.specs.Denotes.{Denotes, HasWords}
use Rattle.leg_lex.proofs.Denotations.{says_only, says_none}

module _ {X Said : Type 0} (view : X → Said) (reading : Words → Option Said) (text : List ℕ) (words : List Word) where
  -- what was read is all that the text says
  pub read_only : (r : Result X ReadFault) → HasWords text words → Means view r (reading (texts words))
      → IfOk r (λ read. (said : Said) → Denotes reading text said → said ≡ view read)
  read_only (Ok read) has means = λ said says. says_only reading text words (view read) said has means says
  read_only (Err fault) has means = tt

  -- where it was refused for another cause than memory, the text says nothing
  pub read_none : (r : Result X ReadFault) → HasWords text words → Means view r (reading (texts words))
      → IfErr r (λ fault. (fault.kind ≡ Memory → ⊥) → (said : Said) → Denotes reading text said → ⊥)
  read_none (Ok read) has means = tt
  read_none (Err fault) has means = λ not_memory. says_none reading text words has (means not_memory)
