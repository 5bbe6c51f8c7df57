-- The rules that LEF texts state, taken one after the other.
use Rattle.std.specs.Prelude.{◌≡◌, ℕ, List, [], ◌∷◌}
use Rattle.leg_lex.specs.Denotes.{Denotes}
use Rattle.leg_lib_records.specs.Records.{LibraryModel}
use Rattle.leg_drc_rules.specs.Records.{RawDeckModel}
use Rattle.leg_drc_rules.specs.Deck.{no_deck, deck_in}

-- these texts add to what was read before until it is this
abbrev pub ExtendRules : LibraryModel → RawDeckModel → List (List ℕ) → RawDeckModel → Type 0
ExtendRules library before [] deck = before ≡ deck
ExtendRules library before (lef ∷ lefs) deck =
    (next : RawDeckModel) × Denotes (deck_in library before) lef next × ExtendRules library next lefs deck

-- the texts state these rules for the layers of the library, in millionths of a micron
abbrev pub StateRules : LibraryModel → List (List ℕ) → RawDeckModel → Type 0
StateRules library lefs deck = ExtendRules library (no_deck library) lefs deck
