-- A place among the names of things is a thing's.
use Rattle.std.proofs.Common.{length, map, ap, ◌∙◌}
use Rattle.leg_lex.specs.NameLookup.{place_of}
use Rattle.leg_lex.proofs.NameLookup.{place_in_list, fits_up_to}
use Rattle.leg_lex.proofs.named_list.NamedList.place_of.Goals as goal

pub returns-clause-within : goal.returns-clause-within
returns-clause-within g c =
    let names = c.self.invariant.0 ∙ ap (map g.T.Named.name_of) c.self.view_is in
    place_in_list g.T.Named.name_of c.args.name.now c.args.self.now c.place_of.result (c.place_of.ensures ∙ ap (place_of c.args.name.now) names)

pub returns-clause-few : goal.returns-clause-few
returns-clause-few g c =
    let names = c.self.invariant.0 ∙ ap (map g.T.Named.name_of) c.self.view_is in
    let within = place_in_list g.T.Named.name_of c.args.name.now c.args.self.now c.place_of.result (c.place_of.ensures ∙ ap (place_of c.args.name.now) names) in
    fits_up_to g.T.Named.fits g.T.Named.fewer_fit (length c.args.self.now) (rw (← c.self.view_is) c.self.invariant.1) c.place_of.result within
