use Rattle.std.proofs.Common.{◌≡◌, ◌+◌, ◌<◌, suc, true, false, length, is_some, sym, ◌∙◌, arith}
use Rattle.std.proofs.lemmas.Grind.{common_steps}
use Rattle.leg_grammar.specs.Def.NetScope.{number_of_via}
use Rattle.leg_grammar.specs.Def.TurnedVia.{numbered_name}
use Rattle.leg_design_floorplan.proofs.NewNames.{name_found, name_taken, no_names}
use Rattle.leg_design_floorplan.proofs.new_name.new_name.Goals as goal

pub returns-then-is_none : goal.returns-then-is_none
returns-then-is_none g c =
    let library = c.args.library.now in
    let vias = c.args.vias.now in
    let less : c.numbers.number < suc (length library.vias + length vias) = grind (arith, common_steps) in
    let free : is_some (number_of_via library vias (numbered_name c.args.name.now c.numbers.number)) ≡ false = grind (arith, common_steps) in
    sym c.numbers.invariant.0 ∙ name_found library vias c.args.name.now (suc (length library.vias + length vias)) c.numbers.number less free
    ∙ grind (arith, common_steps)

pub numbers-preserved : goal.numbers-preserved
numbers-preserved g c =
    let library = c.args.library.now in
    let vias = c.args.vias.now in
    let less : c.numbers.number < suc (length library.vias + length vias) = grind (arith, common_steps) in
    let taken : is_some (number_of_via library vias (numbered_name c.args.name.now c.numbers.number)) ≡ true = grind (arith, common_steps) in (
      sym (name_taken library vias c.args.name.now (suc (length library.vias + length vias)) c.numbers.number less taken) ∙ c.numbers.invariant.0,
      omega (arith, less),
    )

pub returns : goal.returns
returns g c = λ not_memory.
    let library = c.args.library.now in
    let vias = c.args.vias.now in
    let count = suc (length library.vias + length vias) in
    let last : c.numbers.number ≡ count = grind (arith, common_steps, c.numbers.invariant.1) in
    sym c.numbers.invariant.0 ∙ rw last (no_names library vias c.args.name.now count)
