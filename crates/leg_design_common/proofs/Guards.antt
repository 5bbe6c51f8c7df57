-- Where no word is left.
use Rattle.std.proofs.Common.{◌≡◌, true, false, [], ◌∷◌, refl}
use Rattle.leg_lex.specs.Words.{Words}
use Rattle.leg_grammar.specs.Def.Guard.{is_over}

pub over_is : (words : Words) → words ≡ [] → is_over words ≡ true
over_is words none = rw none refl

pub not_over_is : (words : Words) → (words ≡ [] → ⊥) → is_over words ≡ false
not_over_is [] some = absurd (some refl)
not_over_is (word ∷ words) some = refl
