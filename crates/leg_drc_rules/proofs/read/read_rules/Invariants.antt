use Rattle.std.proofs.Common.{map, take, drop}
use Rattle.leg_drc_rules.specs.Records.{RawDeckModel}
use Rattle.leg_drc_rules.specs.Deck.{no_deck}
use Rattle.leg_drc_rules.specs.Texts.{ExtendRules, StateRules}
use Rattle.leg_drc_rules.proofs.read.read_rules.Given as goal

abbrev pub invariant-lefs : goal.invariant-lefs
invariant-lefs g l = record {
  so_far : ExtendRules l.library (no_deck l.library) (take l.number (map (λ t. t.now) l.lefs)) l.deck;
  rest : (said : RawDeckModel) → StateRules l.library (map (λ t. t.now) l.lefs) said
      → ExtendRules l.library l.deck (drop l.number (map (λ t. t.now) l.lefs)) said;
}
