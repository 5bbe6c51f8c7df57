-- Wires of walks over the grid, one walk after another, and the entries of nets that get them.
use Rattle.std.proofs.Common.{◌≡◌, ℕ, zero, suc, List, [], ◌∷◌, ◌++◌, All, length, drop, Some, slice_get, sym, subst, arith, append_assoc}
use Rattle.std.proofs.Math.Seq.{drop-append_seam}
use Rattle.std.proofs.lemmas.List.{append-nil}
use Rattle.std.proofs.lemmas.List.Elements.{All-head, All-tail}
use Rattle.std.proofs.lemmas.Option.{none-some, same_Some}
use Rattle.leg_design_records.specs.declared.records.Wire.{Wire}
use Rattle.leg_design_records.specs.MoreWires.{each_with, with_more_wires}
use Rattle.leg_design_records.specs.Records.{NetModel, DesignModel}
use Rattle.leg_rules.specs.declared.node.Node.{Node}
use Rattle.leg_rules.specs.Route.GridWalk.{IsGridWalk}
use Rattle.leg_rules.specs.Route.Spelling.{AreWiresOf}
use Rattle.leg_rules.specs.Finish.Wires.{AreWiresOfWalks, AddsWalks}
use Rattle.leg_rules.specs.Finish.Wires.AreWiresOfWalks.{none, walk}
use Rattle.leg_route_laws.specs.FinishedDesign.{finished}

pub none_of_walks : {design : DesignModel} → AreWiresOfWalks design []
none_of_walks = none

-- the wires of one walk
pub one_walk : (design : DesignModel) (nodes : List Node) (wires : List Wire) → IsGridWalk design nodes → AreWiresOf design nodes wires
    → AreWiresOfWalks design wires
one_walk design nodes wires is_walk spelled = subst (AreWiresOfWalks design) (append-nil wires) (walk is_walk spelled none)

-- those of more walks after those of some
pub walks_append : {design : DesignModel} {first then : List Wire} → AreWiresOfWalks design first → AreWiresOfWalks design then
    → AreWiresOfWalks design (first ++ then)
walks_append none others = others
walks_append {design} {first} {then} (walk {nodes} {wires} {more} is_walk spelled rest) others =
    subst (AreWiresOfWalks design) (sym (append_assoc wires more then)) (walk is_walk spelled (walks_append rest others))

-- each entry gets the wires of its list, which are those of walks
each_gets : (design : DesignModel) (nets : List NetModel) (lists : List (List Wire)) → length lists ≡ length nets → All (AreWiresOfWalks design) lists
    → (n : ℕ) (net with : NetModel) → slice_get nets n ≡ Some net → slice_get (with_more_wires nets lists) n ≡ Some with
    → AreWiresOfWalks design (drop (length net.wires) with.wires)
unfolding each_with
each_gets design [] lists long all n net with there then = absurd (none-some net there)
each_gets design (own ∷ nets) [] long all n net with there then = absurd (omega (arith, long))
each_gets design (own ∷ nets) (wires ∷ lists) long all zero net with there then =
    let is : net ≡ own = same_Some net own (sym there) in
    let is_with : with ≡ record own { wires = own.wires ++ wires } = same_Some with (record own { wires = own.wires ++ wires }) (sym then) in
    rw is (rw is_with (rw (drop-append_seam own.wires wires) (All-head (AreWiresOfWalks design) wires lists all)))
each_gets design (own ∷ nets) (wires ∷ lists) long all (suc n) net with there then =
    each_gets design nets lists (omega (arith, long)) (All-tail (AreWiresOfWalks design) wires lists all) n net with there then

pub adds_walks : (design : DesignModel) (lists : List (List Wire)) → length lists ≡ length design.nets → All (AreWiresOfWalks design) lists
    → AddsWalks design (finished design lists)
adds_walks design lists long all = each_gets design design.nets lists long all
