use Rattle.std.proofs.Common.{map, take, drop}
use Rattle.leg_grammar.specs.Lef.Form.{LefParts, no_lef_parts}
use Rattle.leg_grammar.specs.Lef.Library.{Extend}
use Rattle.leg_lib.proofs.read.all_lefs.Given as goal

abbrev pub invariant-lefs : goal.invariant-lefs
invariant-lefs g l = record {
  so_far : Extend (no_lef_parts l.fn.profile) (take l.number (map (λ t. t.now) l.lefs)) l.parts;
  rest : (said : LefParts) → Extend (no_lef_parts l.fn.profile) (map (λ t. t.now) l.lefs) said → Extend l.parts (drop l.number (map (λ t. t.now) l.lefs)) said;
}
