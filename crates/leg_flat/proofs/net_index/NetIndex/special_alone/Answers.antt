use Rattle.std.proofs.Common.{◌≡◌, ℕ, Bool, true, false, List, Option, Some, None, refl, sym, ap, ◌∙◌}
use Rattle.std.specs.Prelude.{is_some}
use Rattle.std.specs.List.{slice_get}
use Rattle.std.proofs.lemmas.Option.{slice_get_read, slice_get_past}
use Rattle.leg_lex.specs.NameLookup.{place_of}
use Rattle.leg_design_records.specs.Records.{DesignModel, NetModel, net_names}
use Rattle.leg_rules.specs.Metal.Nets.{special_alone}
use Rattle.leg_flat.proofs.net_index.NetIndex.special_alone.Goals as goal

past : (design : DesignModel) (k : ℕ) (special : List NetModel) → special ≡ design.special → slice_get special k ≡ None → None ≡ special_alone design k
past design k special all none =
    let at : slice_get design.special k ≡ None = rw (← all) none in
    rw at refl

has_both : (design : DesignModel) (k : ℕ) (special : List NetModel) (net : NetModel) → special ≡ design.special → slice_get special k ≡ Some net
    → is_some (place_of net.name (net_names design.nets)) ≡ true → None ≡ special_alone design k
has_both design k special net all there has =
    let at : slice_get design.special k ≡ Some net = rw (← all) there in
    rw (at, has) refl

is_alone : (design : DesignModel) (k : ℕ) (special : List NetModel) (net : NetModel) → special ≡ design.special → slice_get special k ≡ Some net
    → is_some (place_of net.name (net_names design.nets)) ≡ false → Some net ≡ special_alone design k
is_alone design k special net all there has =
    let at : slice_get design.special k ≡ Some net = rw (← all) there in
    rw (at, has) refl

looked_up : (design inside : DesignModel) (names : List (List ℕ)) (name : List ℕ) (net : NetModel) (found : Option ℕ) (b some : Bool) → inside ≡ design
    → names ≡ net_names inside.nets → name ≡ net.name → found ≡ place_of name names → b ≡ is_some found → b ≡ some
    → is_some (place_of net.name (net_names design.nets)) ≡ some
looked_up design inside names name net found b some same all named is test was =
    let place : place_of net.name (net_names design.nets) ≡ found = rw (← same, ← all, ← named) (sym is) in
    rw place (sym test ∙ was)

pub returns-in_err-net : goal.returns-in_err-net
returns-in_err-net g c =
    let all = c.special.ensures.is ∙ ap (λ (d : DesignModel). d.special) c.self.view_is in
    rw c.from_residual.ensures (past c.args.self.now c.args.k c.special.result.now all
    (slice_get_past c.special.result.now c.args.k c.in_err-net.ensures.lookup.3))

pub returns-then-is_some : goal.returns-then-is_some
returns-then-is_some g c =
    let net : NetModel = c.in_ok-net.net.now in
    let all = c.special.ensures.is ∙ ap (λ (d : DesignModel). d.special) c.self.view_is in
    let there : slice_get c.special.result.now c.args.k ≡ Some net =
    slice_get_read c.special.result.now _ c.args.k net refl c.in_ok-net.ensures.lookup.3.0 c.in_ok-net.ensures.lookup.1 in
    has_both c.args.self.now c.args.k c.special.result.now net all there
    (looked_up c.args.self.now c.self.inside.design.now c.self.inside.nets c.bytes.result.now net c.place_of.result c.is_some.result true c.self.view_is
    c.self.invariant.0 (c.bytes.ensures ∙ ap (λ (n : NetModel). n.name) c.net.view_is) c.place_of.ensures c.is_some.ensures c.if-is_some.true)

pub returns : goal.returns
returns g c =
    let net : NetModel = c.in_ok-net.net.now in
    let all = c.special.ensures.is ∙ ap (λ (d : DesignModel). d.special) c.self.view_is in
    let there : slice_get c.special.result.now c.args.k ≡ Some net =
    slice_get_read c.special.result.now _ c.args.k net refl c.in_ok-net.ensures.lookup.3.0 c.in_ok-net.ensures.lookup.1 in
    is_alone c.args.self.now c.args.k c.special.result.now net all there
    (looked_up c.args.self.now c.self.inside.design.now c.self.inside.nets c.bytes.result.now net c.place_of.result c.is_some.result false c.self.view_is
    c.self.invariant.0 (c.bytes.ensures ∙ ap (λ (n : NetModel). n.name) c.net.view_is) c.place_of.ensures c.is_some.ensures c.if-is_some.false)
