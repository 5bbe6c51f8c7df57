-- What the metal of a terminal belongs to.
use Rattle.std.proofs.Common.{◌≡◌, ℕ, List, Option, None, Some, slice_get, refl, subst}
use Rattle.leg_lex.specs.Words.{◌>>=◌}
use Rattle.leg_lib_records.specs.Records as library
use Rattle.leg_design_records.specs.declared.records.Component.{Component}
use Rattle.leg_design_records.specs.declared.records.Terminal.{Terminal}
use Rattle.leg_design_records.specs.declared.records.Terminal.TheVariants.{Comp}
use Rattle.leg_design_records.specs.Records.{DesignModel}
use Rattle.leg_rules.specs.declared.owner.Owner.{Owner}
use Rattle.leg_rules.specs.declared.owner.Owner.TheVariants.{Net}
use Rattle.leg_rules.specs.Metal.Owner.{owner_by_use, lone_owner, owner_of, piece_of}
use Rattle.leg_design_records.specs.Names.{master_pin}
use Rattle.leg_flat.specs.Steps.Places.{NetsModel, IsPlaceOf, AreNetsOf, place_in}
use Rattle.leg_rules.specs.Metal.Metal.{of_terminal}
use Rattle.leg_flat.specs.Steps.AddedMetal.{master_of}

-- a terminal that is this piece of this net
pub placed_belongs : (design : DesignModel) (nets : NetsModel) (component : Option ℕ) (terminal : Terminal) (net piece : ℕ) → AreNetsOf design nets
    → place_in nets.placed terminal ≡ Some (net, piece)
    → record { owner = Net net; component = component; piece = Some piece } ≡ of_terminal design component terminal
unfolding owner_of
placed_belongs design nets component terminal net piece are is =
    let at : IsPlaceOf design terminal (Some (net, piece)) = subst (IsPlaceOf design terminal) is (are.place terminal) in
    rw (at.0, at.1) refl

-- a terminal in no net
pub lone_belongs : (design : DesignModel) (nets : NetsModel) (component : Option ℕ) (terminal : Terminal) (lone : Owner) → AreNetsOf design nets
    → place_in nets.placed terminal ≡ None → lone ≡ lone_owner design terminal
    → record { owner = lone; component = component; piece = None } ≡ of_terminal design component terminal
unfolding owner_of piece_of
lone_belongs design nets component terminal lone are is whose =
    let at : IsPlaceOf design terminal None = subst (IsPlaceOf design terminal) is (are.place terminal) in
    rw (at, whose) refl

by_master : (component : Option Component) (masters : List library.MasterModel) (master : library.MasterModel) (k : ℕ)
    → (component >>= λ c. slice_get masters c.master) ≡ Some master
    → (component >>= λ c. slice_get masters c.master >>= λ m. slice_get m.pins k) ≡ slice_get master.pins k
by_master None masters master k is = cc
by_master (Some c) masters master k is = rw is refl

-- the pin of a component is that of its macro
pub component_pin_owner : (design : DesignModel) (c k : ℕ) (master : library.MasterModel) (pin : library.MasterPinModel) (lone : Owner)
    → master_of design c ≡ Some master → slice_get master.pins k ≡ Some pin → lone ≡ owner_by_use (Comp c k) (Some pin) → lone ≡ lone_owner design (Comp c k)
component_pin_owner design c k master pin lone is at whose =
    let of : master_pin design c k ≡ slice_get master.pins k = by_master (slice_get design.components c) design.library.masters master k is in
    rw (of, at) whose
