-- A terminal that no net lists.
use Rattle.std.proofs.Common.{◌≡◌, Bool, true, false, List, [], ◌∷◌, Contains, None, refl}
use Rattle.std.proofs.lemmas.List.Elements.{Contains-push, Contains-append_left, Contains-append_right}
use Rattle.leg_design_records.specs.declared.records.Terminal.{Terminal}
use Rattle.leg_design_records.specs.Terminals.{is_among}
use Rattle.leg_design_records.specs.Records.{DesignModel, NetModel}
use Rattle.leg_design_records.proofs.SameTerminal.{among_contains}
use Rattle.leg_rules.specs.Metal.Owner.{listing_place, net_of, lone_owner, owner_of, piece_of}
use Rattle.leg_flat.specs.Sources.{IsLone}

nowhere_listed : (terminal : Terminal) (nets : List NetModel) → ((net : NetModel) → Contains nets net → ¬ Contains net.terminals terminal)
    → listing_place terminal nets ≡ None
nowhere_listed terminal [] none = refl
nowhere_listed terminal (net ∷ nets) none =
    by (nowhere_listed terminal nets (λ one has. none one (Contains-append_right (net ∷ []) nets one has))) (is_among terminal net.terminals) refl
  where
    by : listing_place terminal nets ≡ None → (b : Bool) → is_among terminal net.terminals ≡ b → listing_place terminal (net ∷ nets) ≡ None
    by rest true among = absurd (none net (Contains-append_left (net ∷ []) nets net (Contains-push [] net)) (among_contains terminal net.terminals among))
    by rest false other = rw (other, rest) refl

no_net : (design : DesignModel) (terminal : Terminal) → IsLone design terminal → net_of design terminal ≡ None
unfolding net_of
no_net design terminal lone =
    let regular = nowhere_listed terminal design.nets (λ net has. lone.unlisted net (Contains-append_left design.nets design.special net has)) in
    let special = nowhere_listed terminal design.special (λ net has. lone.unlisted net (Contains-append_right design.nets design.special net has)) in
    rw (regular, special) refl

pub lone_owned : (design : DesignModel) (terminal : Terminal) → IsLone design terminal → owner_of design terminal ≡ lone_owner design terminal
unfolding owner_of
lone_owned design terminal lone = rw (no_net design terminal lone) refl

pub lone_piece : (design : DesignModel) (terminal : Terminal) → IsLone design terminal → piece_of design terminal ≡ None
unfolding piece_of
lone_piece design terminal lone = rw (no_net design terminal lone) refl
