-- What each form, each element or a place that is found keeps, all of them keep.
use Rattle.std.proofs.Common.{ℕ, ◌<◌, Bool, List, length, map, Option}
use Rattle.std.proofs.lemmas.List.{length-map}
use Rattle.leg_lex.specs.Words.{Words}
use Rattle.leg_lex.specs.Until.{until, over}
use Rattle.leg_lex.specs.NameLookup.{place_of}
use Rattle.leg_lex.proofs.Gives.{Gives, gives_less}
use Rattle.leg_lex.proofs.Until.{until_keeps}
use Rattle.leg_lex.proofs.EachElement.{over_keeps}
use Rattle.leg_lex.proofs.NameLookup.{place_stands}

-- A place that is found is one of the names'.
pub place_gives_within : (name : List ℕ) (names : List (List ℕ)) → Gives (λ i. i < length names) (place_of name names)
place_gives_within name names = record { given = λ i is. (place_stands name names i is).within }

-- the same where the names are those of some elements
pub named_gives_within : {X : Type 0} (name_of : X → List ℕ) (name : List ℕ) (xs : List X) → Gives (λ i. i < length xs) (place_of name (map name_of xs))
named_gives_within name_of name xs = gives_less (place_gives_within name (map name_of xs)) (λ i less. rw (length-map xs name_of) at less)

-- What each form keeps, all forms keep.
pub until_gives : {S : Type 0} (P : S → Type 0) (stop : Words → Bool) (form : S → Words → Option (S × Words))
    → ((made : S) (words : Words) → P made → Gives (λ said. P said.0) (form made words)) → (made : S) (words : Words) → P made
    → Gives (λ said. P said.0) (until stop form made words)
until_gives P stop form keeps made words holds = record {
  given = λ y is. until_keeps stop form P (λ before at next rest held said. (keeps before at held).given (next, rest) said) made words y.0 y.1 holds is;
}

-- What each element keeps, all elements keep.
pub over_gives : {S X : Type 0} (P : S → Type 0) (step : S → X → Option S) → ((made : S) (x : X) → P made → Gives P (step made x))
    → (made : S) (xs : List X) → P made → Gives P (over step made xs)
over_gives P step keeps made xs holds = record {
  given = λ y is. over_keeps step P (λ before x next held said. (keeps before x held).given next said) made xs y holds is;
}
