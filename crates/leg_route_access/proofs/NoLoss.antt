-- A shape that takes away nothing of what is kept of a slot.
use Rattle.std.proofs.Common.{◌≡◌, ◌≢◌, ℕ, inl, inr, ℤ, [], ◌∷◌, Bool, true, false, IsTrue, Contains, List, Some, slice_get, refl, sym, ap, subst, ◌∙◌}
use Rattle.std.proofs.lemmas.Bool.{false≢true}
use Rattle.std.proofs.lemmas.Option.{same_Some}
use Rattle.leg_lemmas.proofs.Places.{the_only}
use Rattle.leg_geom.specs.Plane.{PointModel, RectModel}
use Rattle.leg_lib_records.specs.Records.{LibraryModel}
use Rattle.leg_design_records.specs.declared.records.Wire.{Wire}
use Rattle.leg_design_records.specs.declared.records.Wire.TheVariants.{Segment, Patch}
use Rattle.leg_design_records.specs.Records.{DesignModel}
use Rattle.leg_rules.specs.declared.owner.Owner.{Owner}
use Rattle.leg_rules.specs.declared.owner.Owner.TheVariants.{Net}
use Rattle.leg_rules.specs.declared.shape.Shape.{Shape}
use Rattle.leg_rules.specs.Metal.Outline.Outline.{Line, Shifted}
use Rattle.leg_rules.specs.Metal.Metal.{OnLayer}
use Rattle.leg_rules.specs.Metal.Flat.{FlatModel}
use Rattle.leg_wire_spacing.specs.declared.access.Access.{Access}
use Rattle.leg_wire_spacing.specs.declared.access.Access.TheVariants.{Free, Only, Blocked}
use Rattle.leg_wire_spacing.specs.Access.{Admits, alone}
use Rattle.leg_rules.specs.Spacing.Clean.{IsClean}
use Rattle.leg_rules.specs.declared.node.Node.{Node}
use Rattle.leg_route_access.specs.declared.slot_access.SlotAccess.{SlotAccess}
use Rattle.leg_rules.specs.Route.StepWires.{half, NodeAdds, StepAdds, square}
use Rattle.leg_rules.specs.Route.OpenMetal.{IsOpenWire, IsOpenNode}
use Rattle.leg_route_grid.specs.Steps.Grid.{GridModel, IsDesignGrid, IsNumberOf}
use Rattle.leg_route_grid.specs.Steps.NodeNumbers.{IsOneOf}
use Rattle.leg_route_access.specs.Steps.AccessTable.{IsSlotAccess, IsOpenAlong}
use Rattle.leg_route_access.specs.Steps.AccessUpdates.{LosesNothing, AreSettled, AreAccessAfter}
use Rattle.leg_route_access.proofs.OpenSteps.{other_layer}
use Rattle.leg_route_access.proofs.GrownSlots.{IsFarFrom, tells_far}

-- a net that is admitted where a shape takes away none owns the shape
owns : (access : Access) (owner : Owner) (net : ℕ) → LosesNothing access owner → Admits access net → owner ≡ Net net
owns Free owner net settled admits = absurd settled
owns (Only own) owner net settled admits = settled ∙ ap Net (sym admits)
owns Blocked owner net settled admits = absurd admits

module _ (library : LibraryModel) (shape : Shape) (net : ℕ) where
  own_is_clean : (layer : ℕ) (rect : RectModel) → shape.owner ≡ Net net → IsClean library (alone shape) net layer rect
  own_is_clean layer rect own = record { far = λ s there closer. closer.comparable.owners (owner_of s there) } where
    owner_of : (s : Shape) → Contains (shape ∷ []) s → Net net ≡ s.owner
    owner_of s there = sym own ∙ ap (λ (s : Shape). s.owner) (the_only shape s there)

  elsewhere_is_clean : (layer : ℕ) (rect : RectModel) → layer ≢ shape.layer → IsClean library (alone shape) net layer rect
  elsewhere_is_clean layer rect other = record { far = λ s there closer. other (closer.comparable.layer ∙ layer_of s there) } where
    layer_of : (s : Shape) → Contains (shape ∷ []) s → s.layer ≡ shape.layer
    layer_of s there = sym (ap (λ (s : Shape). s.layer) (the_only shape s there))

module _ (design : DesignModel) (shape : Shape) (net : ℕ) where
  own_wire : (wire : Wire) → shape.owner ≡ Net net → IsOpenWire design (alone shape) net wire
  own_wire wire own metal rect there points = own_is_clean design.library shape net metal.layer rect own

  patch_elsewhere : (on : ℕ) (at : PointModel) (rect : RectModel) → on ≢ shape.layer → IsOpenWire design (alone shape) net (Patch on at rect)
  patch_elsewhere on at area other metal rect there points =
      let the : OnLayer = record { layer = on; outline = Shifted at area } in
      elsewhere_is_clean design.library shape net metal.layer rect (λ same. other (ap (λ (m : OnLayer). m.layer) (the_only the metal there) ∙ same))

  segment_elsewhere : (on : ℕ) (low high : PointModel) (width before behind : ℤ) → on ≢ shape.layer
      → IsOpenWire design (alone shape) net (Segment on low high width before behind)
  segment_elsewhere on low high width before behind other metal rect there points =
      let the : OnLayer = record { layer = on; outline = Line low high width before behind } in
      elsewhere_is_clean design.library shape net metal.layer rect (λ same. other (ap (λ (m : OnLayer). m.layer) (the_only the metal there) ∙ same))

  node_elsewhere : (node : Node) (wire : Wire) → node.layer ≢ shape.layer → NodeAdds design node wire → IsOpenWire design (alone shape) net wire
  node_elsewhere node wire other adds =
      let P : Wire → Type 0 = λ wire. IsOpenWire design (alone shape) net wire in
      subst P (sym adds.is) (patch_elsewhere node.layer node.at (square (half adds.width)) other)

  pub step_elsewhere : (a b : Node) (wire : Wire) → a.layer ≡ b.layer → a.layer ≢ shape.layer → StepAdds design a b wire
      → IsOpenWire design (alone shape) net wire
  step_elsewhere a b wire same other (inl along) =
      let P : Wire → Type 0 = λ wire. IsOpenWire design (alone shape) net wire in
      subst P (sym along.line.is) (segment_elsewhere a.layer a.at b.at along.line.width _ _ other)
  step_elsewhere a b wire same other (inr through) = absurd (other_layer design through.via a b through.over same)

module _ (grid : GridModel) (n : ℕ) (shape : Shape) (slot : SlotAccess) (on_layer : Bool) (flat : FlatModel) (net : ℕ)
    (settled : AreSettled slot shape.owner on_layer)
    (on : (node : Node) → IsNumberOf grid n node → node.layer ≡ shape.layer → IsTrue on_layer) (tells : IsSlotAccess grid flat n slot) where
  -- what lies on the slot's layer, on the shape's layer or not
  node_wire : (one : IsOneOf (IsNumberOf grid) (IsOpenNode grid.design flat net) n) (set : Bool) → on_layer ≡ set
      → IsOpenWire grid.design (alone shape) net one.holds.wire
  node_wire one true is = own_wire grid.design shape net one.holds.wire (owns slot.node shape.owner net (settled.node is) ((tells.node net).1 one))
  node_wire one false is =
      node_elsewhere grid.design shape net one.node one.holds.wire (λ same. false≢true (sym is ∙ on one.node one.is same)) one.holds.adds

  along_wire : (is_open : IsOpenAlong grid flat net n) (a b : Node) (wire : Wire) → IsNumberOf grid n a → a.layer ≡ b.layer → StepAdds grid.design a b wire
      → (set : Bool) → on_layer ≡ set → IsOpenWire grid.design (alone shape) net wire
  along_wire is_open a b wire a_is same adds true is =
      own_wire grid.design shape net wire (owns slot.along shape.owner net (settled.along is) ((tells.along net).1 is_open))
  along_wire is_open a b wire a_is same adds false is =
      step_elsewhere grid.design shape net a b wire same (λ here. false≢true (sym is ∙ on a a_is here)) adds

  far_where_settled : IsFarFrom grid shape n flat net
  far_where_settled = record {
    node = λ one. record {
      node = one.node;
      is = one.is;
      holds = record { is_node = one.holds.is_node; wire = one.holds.wire; adds = one.holds.adds; clean = node_wire one on_layer refl };
    };
    along = elim [
      | inl east ↦ inl (record {
        a = east.a;
        b = east.b;
        a_is = east.a_is;
        beside = east.beside;
        is_open = record {
          wire = east.is_open.wire;
          adds = east.is_open.adds;
          clean = along_wire (inl east) east.a east.b east.is_open.wire east.a_is (sym east.beside.layer) east.is_open.adds on_layer refl;
        };
      })
      | inr north ↦ inr (record {
        a = north.a;
        b = north.b;
        a_is = north.a_is;
        beside = north.beside;
        is_open = record {
          wire = north.is_open.wire;
          adds = north.is_open.adds;
          clean = along_wire (inr north) north.a north.b north.is_open.wire north.a_is (sym north.beside.layer) north.is_open.adds on_layer refl;
        };
      })
    ];
    above = λ step. record {
      a = step.a;
      b = step.b;
      a_is = step.a_is;
      beside = step.beside;
      is_open = record {
        wire = step.is_open.wire;
        adds = step.is_open.adds;
        clean = own_wire grid.design shape net step.is_open.wire (owns slot.above shape.owner net settled.above ((tells.above net).1 step));
      };
    };
  }

-- the slot stays told as it is
pub settled_here : (grid : GridModel) → IsDesignGrid grid → (shape : Shape) (number : ℕ) (before : List SlotAccess) (kept : SlotAccess) (on_layer : Bool)
    → slice_get before number ≡ Some kept
    → AreSettled kept shape.owner on_layer → ((node : Node) → IsNumberOf grid number node → node.layer ≡ shape.layer → IsTrue on_layer)
    → AreAccessAfter grid shape (λ n. n ≡ number) before before
settled_here grid is_grid shape number before kept on_layer there settled on = record {
  count = refl;
  told = λ n is. record {
    told = λ flat grown slot has old_at told new at_new.
        let same : slot ≡ new = same_Some slot new (sym old_at ∙ at_new) in
        let at_number : slice_get before number ≡ Some slot = rw is at old_at in
        let first : kept ≡ slot = same_Some kept slot (sym there ∙ at_number) in
        let S : SlotAccess → Type 0 = λ s. AreSettled s shape.owner on_layer in
        let N : ℕ → Type 0 = λ m. (node : Node) → IsNumberOf grid m node → node.layer ≡ shape.layer → IsTrue on_layer in
        let T : SlotAccess → Type 0 = λ s. IsSlotAccess grid grown n s in
        subst T same (tells_far grid is_grid n shape flat grown has slot
        (λ net. far_where_settled grid n shape slot on_layer flat net (subst S first settled) (subst N (sym is) on) told) told);
  };
  others = λ n other. refl;
}
