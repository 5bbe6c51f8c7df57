-- The turn of a net, walk after walk.
use Rattle.std.proofs.Common.{◌≡◌, ◌+◌, ◌-◌, ◌*◌, ◌<◌, ℕ, suc, List, [], ◌∷◌, ◌++◌, length, take, drop, get_or, All, sym, ap, ◌∙◌, subst, arith, false}
use Rattle.std.proofs.Math.Seq.{drop-cons}
use Rattle.std.proofs.lemmas.List.{take_more, take-append-drop}
use Rattle.std.proofs.lemmas.List.Elements.{All-nil, All-cons, All-append}
use Rattle.leg_design_records.specs.declared.limits.TheConstants.{PART_LIMIT}
use Rattle.leg_design_records.specs.WellFormedNets.{IsWire}
use Rattle.leg_design_records.specs.declared.records.Wire.{Wire}
use Rattle.leg_design_records.specs.Records.{DesignModel}
use Rattle.leg_flat.specs.Limits.{IsWithinLimits}
use Rattle.leg_rules.specs.Metal.Flat.{FlatModel}
use Rattle.leg_rules.specs.Joins.Touch.{piece_count}
use Rattle.leg_rules.specs.Route.MoreWires.{HasMoreWires}
use Rattle.leg_rules.specs.Joins.Violations.{IsOpenNet}
use Rattle.leg_route.specs.Steps.NextWires.{AreNextWires}
use Rattle.leg_route.specs.Steps.NetRun.{NetRun}
use Rattle.leg_route.specs.Steps.NetRun.NetRun.{walked}
use Rattle.leg_route.proofs.MoreWires.{few_pieces, more_pieces, wires_some}

-- a flat that gets the wires which a search handed on, where the search changed neither the design nor the flat
pub gets_wires : (d1 d2 : DesignModel) (net : ℕ) (f1 f2 f3 : FlatModel) (more given : List Wire) → d2 ≡ d1 → f2 ≡ f1 → given ≡ more
    → HasMoreWires d2 net given f2 f3 → HasMoreWires d1 net more f1 f3
gets_wires d1 d2 net f1 f2 f3 more given same_design same_flat is_more grows =
    let g1 = subst (λ d. HasMoreWires d net given f2 f3) same_design grows in
    let g2 = subst (λ ws. HasMoreWires d1 net ws f2 f3) is_more g1 in
    subst (λ f. HasMoreWires d1 net more f f3) same_flat g2

pub turn_more : (design d1 : DesignModel) (net : ℕ) (first f1 f2 : FlatModel) (wires more then : List Wire) → d1 ≡ design
    → NetRun design net first wires f1 → IsOpenNet d1 f1 net → AreNextWires d1 f1 net more → HasMoreWires d1 net more f1 f2 → then ≡ wires ++ more
    → NetRun design net first then f2
turn_more design d1 net first f1 f2 wires more then same run is_open next grows is =
    let opens = subst (λ d. IsOpenNet d f1 net) same is_open in
    let answer = subst (λ d. AreNextWires d f1 net more) same next in
    let gets = subst (λ d. HasMoreWires d net more f1 f2) same grows in
    subst (λ ws. NetRun design net first ws f2) (sym is) (walked wires more run opens answer.walk answer.are gets)

pub turn_less : (design : DesignModel) (net : ℕ) (f1 f2 : FlatModel) (more : List Wire) → AreNextWires design f1 net more
    → HasMoreWires design net more f1 f2 → IsWithinLimits f2 → 3 * PART_LIMIT - piece_count f2 net < 3 * PART_LIMIT - piece_count f1 net
turn_less design net f1 f2 more next grows within =
    let count = more_pieces design net more f1 f2 grows in
    let some = wires_some design next.nodes more next.are in
    let few = few_pieces f2 net within in
    omega (arith, count, some, few)

pub take_next : (wires : List Wire) (i : ℕ) (wire : Wire) → i < length wires → wire ≡ get_or wires i wire → take (i + 1) wires ≡ take i wires ++ wire ∷ []
take_next wires i wire less is = take_more wires i wire less ∙ ap (λ w. take i wires ++ w ∷ []) (sym is)

-- one of the wires, with those before and those behind it
pub split_at : (wires : List Wire) (i : ℕ) (wire : Wire) → i < length wires → wire ≡ get_or wires i wire → wires ≡ take i wires ++ wire ∷ drop (suc i) wires
split_at wires i wire less is =
    sym (take-append-drop i wires) ∙ ap (λ ws. take i wires ++ ws) (drop-cons wires i wire less ∙ ap (λ w. w ∷ drop (suc i) wires) (sym is))

abbrev CanHave : DesignModel → Wire → Type 0
CanHave design wire = IsWire design.library design.vias false wire

-- all wires so far are such as NETS can have
pub spelled_more : (design d1 : DesignModel) (net : ℕ) (f1 : FlatModel) (wires more then : List Wire) → d1 ≡ design → AreNextWires d1 f1 net more
    → then ≡ wires ++ more → All (CanHave design) wires → All (CanHave design) then
spelled_more design d1 net f1 wires more then same next is all =
    subst (All (CanHave design)) (sym is) (All-append (CanHave design) wires more all (subst (λ d. All (CanHave d) more) same next.spelled))

pub all_last : {X : Type 0} (P : X → Type 0) (xs next : List X) (x : X) → next ≡ xs ++ x ∷ [] → All P xs → P x → All P next
all_last P xs next x is all last = subst (All P) (sym is) (All-append P xs (x ∷ []) all (All-cons P x [] last (All-nil P)))
