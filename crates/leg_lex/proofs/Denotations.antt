-- What a text says, once its words are known.
use Rattle.std.proofs.Common.{◌≡◌, ℕ, List, Option, None, Some, Result, Ok, Err, sym, ◌∙◌, ap, OnOk, IfErr}
use Rattle.leg_lex.specs.Word.{Word, texts}
use Rattle.leg_lex.specs.Words.{Words, Means}
use Rattle.leg_lex.specs.Tokens.{words_from, AreTokens}
use Rattle.leg_lex.proofs.Cuts.{cut_same}
use Rattle.leg_lex.specs.declared.read_fault.ReadFault.{ReadFault}
use Rattle.leg_lex.specs.declared.read_fault.FaultKind.TheVariants.{Memory}
use Rattle.leg_lex.specs.Denotes.{Denotes, HasWords, HasNoWords}

-- a text has one list of words at most
pub one_tokens : (text : List ℕ) (a b : List Word) → AreTokens text a → AreTokens text b → a ≡ b
one_tokens text a b p q = p.2 ∙ ap (words_from 1) (cut_same text p.0 q.0 p.1 q.1) ∙ sym q.2

module _ {Said : Type 0} (reading : Words → Option Said) (text : List ℕ) where
  -- a text without words says nothing
  pub says_nothing : HasNoWords text → (said : Said) → Denotes reading text said → ⊥
  says_nothing none said says = none says.words says.fits says.tokens

  -- a text says what its words are read as
  pub says_what_is_read : (words : List Word) → HasWords text words → (said : Said) → Denotes reading text said → reading (texts words) ≡ Some said
  says_what_is_read words has said says = ap (λ w. reading (texts w)) (sym (has.only says.words says.tokens)) ∙ says.reads

  pub says_only : (words : List Word) (read said : Said) → HasWords text words → reading (texts words) ≡ Some read → Denotes reading text said → said ≡ read
  says_only words read said has is says = let e = says_what_is_read words has said says in cc

  pub says_none : (words : List Word) → HasWords text words → reading (texts words) ≡ None → (said : Said) → Denotes reading text said → ⊥
  says_none words has is said says = let e = says_what_is_read words has said says in cc

  -- what a reader of the words answers, said of the text
  pub means_only : (words : List Word) (r : Result (Unit {0}) ReadFault) (made : Said) → HasWords text words → Means (λ _. made) r (reading (texts words))
      → OnOk r ((said : Said) → Denotes reading text said → said ≡ made)
  means_only words (Ok x) made has means = λ said says. says_only words made said has means says
  means_only words (Err fault) made has means = tt

  pub means_none : (words : List Word) (r : Result (Unit {0}) ReadFault) (made : Said) → HasWords text words → Means (λ _. made) r (reading (texts words))
      → IfErr r (λ fault. (fault.kind ≡ Memory → ⊥) → (said : Said) → Denotes reading text said → ⊥)
  means_none words (Ok x) made has means = tt
  means_none words (Err fault) made has means = λ not_memory. says_none words has (means not_memory)

  -- a text says one thing at most
  pub says_one : (a b : Said) → Denotes reading text a → Denotes reading text b → a ≡ b
  says_one a b p q =
      let same : p.words ≡ q.words = one_tokens text p.words q.words p.tokens q.tokens in
      let e : reading (texts q.words) ≡ Some a = ap (λ w. reading (texts w)) (sym same) ∙ p.reads in
      let f : reading (texts q.words) ≡ Some b = q.reads in
      cc
