use Rattle.std.proofs.Common.{◌≡◌, ℕ, ◌-◌, List, Option, Some, None, length, refl, ap, ◌∙◌}
use Rattle.std.specs.List.{slice_get}
use Rattle.std.proofs.lemmas.Option.{slice_get_read, slice_get_past}
use Rattle.leg_design_records.specs.Records.{DesignModel, NetModel}
use Rattle.leg_rules.specs.Metal.Nets.{special_named, special_alone, special_entry}
use Rattle.leg_flat.proofs.net_index.NetIndex.special_entry.Goals as goal

of_both : (design : DesignModel) (n : ℕ) (nets : List NetModel) (net : NetModel) (name : List ℕ) (entry : Option NetModel) → nets ≡ design.nets
    → slice_get nets n ≡ Some net → name ≡ net.name → entry ≡ special_named design name → entry ≡ special_entry design n
of_both design n nets net name entry all there named is =
    let at : slice_get design.nets n ≡ Some net = rw (← all) there in
    rw at (is ∙ ap (special_named design) named)

alone : (design : DesignModel) (n : ℕ) (nets : List NetModel) (entry : Option NetModel) → nets ≡ design.nets → slice_get nets n ≡ None
    → entry ≡ special_alone design (n - length nets) → entry ≡ special_entry design n
alone design n nets entry all none is =
    let past : slice_get design.nets n ≡ None = rw (← all) none in
    rw past (is ∙ ap (λ l. special_alone design (n - length l)) all)

pub overflow_sub-n : goal.overflow_sub-n
overflow_sub-n g c = c.in-None.ensures.lookup.3

pub returns-in-Some : goal.returns-in-Some
returns-in-Some g c =
    let net : NetModel = c.in-Some.net.now in
    let design : DesignModel = c.args.self.now in
    let all = c.nets-nets.ensures.is ∙ ap (λ (d : DesignModel). d.nets) c.self.view_is in
    let there : slice_get c.nets-nets.result.now c.args.n ≡ Some net =
    slice_get_read c.nets-nets.result.now _ c.args.n net refl c.in-Some.ensures.lookup.3.0 c.in-Some.ensures.lookup.1 in
    of_both design c.args.n c.nets-nets.result.now net c.bytes.result.now _ all there
    (c.bytes.ensures ∙ ap (λ (n : NetModel). n.name) c.net.view_is) c.special_named.ensures

pub returns-in-None : goal.returns-in-None
returns-in-None g c =
    let design : DesignModel = c.args.self.now in
    let all = c.nets-nets.ensures.is ∙ ap (λ (d : DesignModel). d.nets) c.self.view_is in
    alone design c.args.n c.nets-nets.result.now _ all (slice_get_past c.nets-nets.result.now c.args.n c.in-None.ensures.lookup.3) c.special_alone.ensures
