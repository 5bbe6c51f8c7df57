use Rattle.std.proofs.Common.{length, map, drop, All, ◌+◌, ◌-◌, ◌≤◌}
use Rattle.leg_lex.specs.WordPlaces.{word_at, IsPlaceIn}
use Rattle.leg_lex.proofs.Cuts.{HasRead}
use Rattle.leg_lex.proofs.words.word_places.Given as goal

abbrev pub invariant-pieces : goal.invariant-pieces
invariant-pieces g l = record {
  read : HasRead l.text (drop l.at l.text) l.line (map (word_at l.text) l.places.items);
  within : All (IsPlaceIn l.text) l.places.items;
  inside : l.at ≤ length l.text;
  lines : l.line ≤ l.at + 1;
}

abbrev pub decreases-pieces : goal.decreases-pieces
decreases-pieces g l = length l.text - l.at
