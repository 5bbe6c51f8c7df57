use Rattle.std.proofs.Common.{◌≡◌, ◌<◌, length, Some, sym, ◌∙◌, arith}
use Rattle.std.proofs.lemmas.Grind.{common_steps}
use Rattle.leg_lex.specs.NameLookup.{place_of}
use Rattle.leg_lex.proofs.NameLookup.{place_stands}
use Rattle.leg_design_nets.proofs.NamedNumbers.{under_found}
use Rattle.leg_design_nets.proofs.by_name.ByName.numbers_under.Goals as goal

pub index-requires : goal.index-requires
index-requires g c =
    let found : place_of c.args.name.now c.self.inside.names ≡ Some c.in-Some.place = sym c.place_of.ensures ∙ c.in-Some.is in
    let within = (place_stands c.args.name.now c.self.inside.names c.in-Some.place found).within in
    let long = c.self.invariant in
    grind (arith, common_steps, within, long)

pub returns-in-Some : goal.returns-in-Some
returns-in-Some g c =
    let found : place_of c.args.name.now c.self.inside.names ≡ Some c.in-Some.place = sym c.place_of.ensures ∙ c.in-Some.is in
    let within = (place_stands c.args.name.now c.self.inside.names c.in-Some.place found).within in
    let less : c.in-Some.place < length c.self.inside.lists.items = let long = c.self.invariant in grind (arith, common_steps, within, long) in
    rw (← c.self.view_is) (c.as_slice.ensures
    ∙ under_found c.self.inside.names c.self.inside.lists.items c.args.name.now c.in-Some.place c.index.result.now found less c.index.ensures)
