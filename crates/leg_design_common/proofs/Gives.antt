-- What holds of all that a form may say: where places are found, and what each of many forms keeps.
use Rattle.std.proofs.Common.{◌≡◌, ℕ, Bool, true, false, List, [], ◌∷◌, All, Option, refl}
use Rattle.std.proofs.lemmas.List.Elements.{All-head, All-tail}
use Rattle.leg_lex.specs.Words.{Words, is_name, is_word, next_at, name_at, word_at}
use Rattle.leg_lex.specs.Until.{over}
use Rattle.leg_lex.specs.Statements.{at_end}
pub use Rattle.leg_lex.proofs.Gives.{Gives, gives_none, gives_some, gives_bind, gives_skip, gives_itself, gives_choice, gives_if, gives_less}
use Rattle.leg_lex.proofs.GivesAll.{until_gives}
use Rattle.leg_grammar.specs.Def.Guard.{when, unless}
use Rattle.leg_grammar.specs.Def.Section.{section_at}

pub when_gives : (test : Bool) → Gives (λ _. test ≡ true) (when test)
when_gives true = gives_some tt refl
when_gives false = gives_none

pub unless_gives : (test : Bool) → Gives (λ _. test ≡ false) (unless test)
unless_gives true = gives_none
unless_gives false = gives_some tt refl

-- What each element of a kind keeps, all elements keep.
pub each_gives : {S X : Type 0} (P : S → Type 0) (Q : X → Type 0) (step : S → X → Option S) → ((made : S) (x : X) → P made → Q x → Gives P (step made x))
    → (made : S) (xs : List X) → P made → All Q xs → Gives P (over step made xs)
unfolding over
each_gives P Q step keeps made [] holds each = gives_some made holds
each_gives P Q step keeps made (x ∷ xs) holds each =
    gives_bind (keeps made x holds (All-head Q x xs each)) (λ next held.
    each_gives P Q step keeps next xs held (All-tail Q x xs each))

-- What each entry keeps, a section keeps.
pub section_gives : {S : Type 0} (P : S → Type 0) (keyword : List ℕ) (entry : S → Words → Option (S × Words))
    → ((made : S) (words : Words) → P made → Gives (λ said. P said.0) (entry made words)) → (made : S) (words : Words) → P made
    → Gives (λ said. P said.0) (section_at keyword entry made words)
unfolding section_at
section_gives P keyword entry keeps made words holds =
    gives_skip _ (λ start.
    gives_bind (until_gives P at_end entry keeps made start.1 holds) (λ entries held.
    gives_skip _ (λ end.
    gives_some _ held)))

pub name_gives : (words : Words) → Gives (λ said. is_name said.0 ≡ true) (name_at words)
unfolding name_at
name_gives words =
    gives_skip (next_at words) (λ next.
    gives_choice (is_name next.0) (λ named. gives_some _ named) (λ none. gives_none))

pub word_gives : (words : Words) → Gives (λ said. is_word said.0 ≡ true) (word_at words)
unfolding word_at
word_gives words =
    gives_skip (next_at words) (λ next.
    gives_choice (is_word next.0) (λ word. gives_some _ word) (λ none. gives_none))
