use Rattle.std.proofs.Common.{◌≡◌, ℕ, List, Option, Some, length, get_or, nat_lt, option_map, Bor, sym, ◌∙◌}
use Rattle.std.specs.Option.{is_some, IfSome}
use Rattle.leg_lex.specs.NameLookup.{place_of}
use Rattle.leg_design_records.specs.Records.{DesignModel, NetModel, net_names}
use Rattle.leg_rules.specs.Metal.Nets.{special_named}
use Rattle.leg_lemmas.proofs.Places.{got_is}
use Rattle.leg_flat.proofs.net_index.NetIndex.special_named.Goals as goal

named : (design inside : DesignModel) (names : List (List ℕ)) (name : List ℕ) (k : ℕ) (special : List NetModel)
    (got : Option (Bor NetModel)) → inside ≡ design → names ≡ net_names inside.special → place_of name names ≡ Some k
    → special ≡ inside.special → is_some got ≡ nat_lt k (length special) → IfSome got (λ x. x.now ≡ get_or special k x.now)
    → option_map (λ x. x.now) got ≡ special_named design name
named design inside names name k special got same all place entries there item =
    let first : place_of name (net_names design.special) ≡ Some k = rw (← same, ← all) place in
    rw (first, ← same, ← entries) (got_is special k got there item)

pub returns : goal.returns
returns g c =
    named c.args.self.now c.self.inside.design.now c.self.inside.special c.args.name.now c.in_ok-k.k c.special.result.now c.get.result
    c.self.view_is c.self.invariant.1 (sym c.place_of.ensures ∙ c.in_ok-k.was) c.special.ensures.is c.get.ensures.lookup.0 c.get.ensures.lookup.1
