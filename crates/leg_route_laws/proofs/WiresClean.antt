-- A flat stays without shorts and without shapes too near where clean wires of one net are added.
use Rattle.std.proofs.Common.{◌≡◌, ℕ, ◌+◌, List, [], ◌∷◌, ◌++◌, length, ◌⊎◌, inl, inr, None, Some, slice_get, Contains, All, refl, sym, ap, subst, ◌∙◌}
use Rattle.std.proofs.lemmas.Option.{none-some}
use Rattle.std.proofs.lemmas.List.Elements.{All-contains, All-cons, All-nil}
use Rattle.leg_lemmas.proofs.Places.{contains_at, comes_from}
use Rattle.leg_design_records.specs.declared.records.Wire.{Wire}
use Rattle.leg_design_records.specs.Records.{DesignModel}
use Rattle.leg_rules.specs.declared.owner.Owner.TheVariants.{Net}
use Rattle.leg_rules.specs.declared.shape.Shape.{Shape}
use Rattle.leg_rules.specs.Metal.Metal.{OnLayer, Belonging, Metal, wire_outlines}
use Rattle.leg_rules.specs.Metal.Flat.{FlatModel, IsShapeOf}
use Rattle.leg_rules.specs.Metal.MoreWires.{wire_metal, HasOneMoreWire}
use Rattle.leg_rules.specs.Spacing.Clean.{IsClean}
use Rattle.leg_route_laws.specs.Growth.{Grows, of_net, wires_added, IsMetalAdded}
use Rattle.leg_route_laws.specs.CleanWire.{HasNoSpacingFault, IsCleanWire}
use Rattle.leg_route_laws.proofs.StillClean.{AllAreClear, clear_from_no_fault, no_fault_from_clear, clear_more}
use Rattle.leg_route_laws.proofs.Growth.{same_number, has_grown, added_of_net, added_of_other}

module _ (design : DesignModel) (net : ℕ) (wires : List Wire) (old : FlatModel) (clean : All (IsCleanWire design old net) wires) where
  abbrev IsNew : Shape → Type 0
  IsNew shape = (shape.owner ≡ Net net) × IsClean design.library old net shape.layer shape.rect

  -- metal of an added wire is of the net, and is clean
  of_wire : (wire : Wire) (k : ℕ) (metal : Metal) (shape : Shape) → IsCleanWire design old net wire
      → Contains (wire_metal design net k wire) metal → IsShapeOf metal shape → IsNew shape
  of_wire wire k metal shape is_clean there is =
      let from = comes_from (λ (m : OnLayer). record { metal = m; belongs = belongs k }) (wire_outlines design wire) metal there in
      let outline : from.0 ≡ metal.metal = ap (λ (m : Metal). m.metal) from.2 in
      let owner : Net net ≡ metal.belongs.owner = ap (λ (m : Metal). m.belongs.owner) from.2 in
      let here : Contains (wire_outlines design wire) metal.metal = subst (Contains (wire_outlines design wire)) outline from.1 in
      (is.owner ∙ sym owner, subst (λ layer. IsClean design.library old net layer shape.rect) (sym is.layer) (is_clean metal.metal shape.rect here is.points))
    where
      belongs : ℕ → Belonging
      belongs k = record { owner = Net net; component = None; piece = Some k }

  is_new : (metal : Metal) (shape : Shape) → IsMetalAdded design (of_net net wires) old metal → IsShapeOf metal shape → IsNew shape
  is_new metal shape it is = by (same_number net it.net) where
    by : (net ≡ it.net) ⊎ (¬ (net ≡ it.net)) → IsNew shape
    by (inl same) =
        let there : slice_get wires it.j ≡ Some it.wire =
        ap (λ ws. slice_get ws it.j) (sym (added_of_net net wires)) ∙ ap (λ n. slice_get (wires_added n (of_net net wires)) it.j) same ∙ it.there in
        let is_clean = All-contains (IsCleanWire design old net) wires it.wire clean (contains_at wires it.j it.wire there) in
        of_wire it.wire (length it.terminals + (it.wires + it.j)) metal shape is_clean
        (subst (λ n. Contains (wire_metal design n (length it.terminals + (it.wires + it.j)) it.wire) metal) (sym same) it.of_wire) is
    by (inr other) =
        absurd (none-some it.wire (sym (ap (λ ws. slice_get ws it.j) (added_of_other it.net net wires other)) ∙ it.there))

  pub clean_wires_stay : (new : FlatModel) → HasNoSpacingFault design.library old → Grows design (of_net net wires) old new
      → HasNoSpacingFault design.library new
  clean_wires_stay new none grows =
      let grown = has_grown design (of_net net wires) old new grows in
      let clear : AllAreClear design.library (old.shapes ++ grown.more) =
      clear_more design.library old net grown.more (clear_from_no_fault design.library old none)
      (λ shape there. let of = grown.each shape there in is_new of.0 shape of.1 of.2) in
      no_fault_from_clear design.library new (subst (AllAreClear design.library) (sym grown.shapes) clear)

pub clean_wire_stays : (design : DesignModel) (net : ℕ) (wire : Wire) (old new : FlatModel)
    → HasNoSpacingFault design.library old → IsCleanWire design old net wire → HasOneMoreWire design net wire old new → HasNoSpacingFault design.library new
clean_wire_stays design net wire old new none clean step =
    clean_wires_stay design net (wire ∷ []) old
    (All-cons (IsCleanWire design old net) wire [] clean (All-nil (IsCleanWire design old net))) new none (new, step, refl)
