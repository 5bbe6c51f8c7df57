use Rattle.std.proofs.Common.{◌≡◌, ◌++◌, ◌∷◌, [], length, None, sym, subst, arith}
use Rattle.std.proofs.lemmas.Grind.{common_steps}
use Rattle.leg_lex.specs.NameLookup.{place_of, AreApart}
use Rattle.leg_lex.proofs.NameLookup.{index_push, apart_push}
use Rattle.leg_lex.proofs.name.Names.push.Goals as goal

pub invariant_of-self-2 : goal.invariant_of-self-2
invariant_of-self-2 g c =
    let names = c.self.inside.names.items in
    let last : c.len.result ≡ length names = grind (arith, common_steps) in
    let more : c.push.new.self.items ≡ names ++ c.args.name.now ∷ [] = grind (arith, common_steps) in
    let new : place_of c.args.name.now names ≡ None = rw c.self.view_is c.requires in (
      λ name. index_push c.args.name c.self.inside.index c.insert.new.self names c.push.new.self.items c.len.result new c.self.invariant.0
          c.in_ok-insert.ensures.updates last more name,
      subst AreApart (sym more) (apart_push c.args.name.now names new c.self.invariant.1),
    )
