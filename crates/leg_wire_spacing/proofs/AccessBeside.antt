-- Which nets may have metal beside one shape.
use Rattle.std.proofs.Common.{◌≡◌, ◌≢◌, ◌⊎◌, ◌↔◌, ℕ, zero, suc, ◌<◌, [], ◌∷◌, Contains, get_or, inl, inr, refl, sym, ap, subst, ◌∙◌, arith}
use Rattle.std.proofs.lemmas.Bool.{cases_eq}
use Rattle.std.proofs.lemmas.Option.{none-some}
use Rattle.leg_geom.specs.Plane.{RectModel, SharePoint}
use Rattle.leg_lib_records.specs.Records.{LibraryModel}
use Rattle.leg_rules.specs.declared.owner.Owner.TheVariants.{Net}
use Rattle.leg_rules.specs.declared.shape.Shape.{Shape}
use Rattle.leg_rules.specs.Spacing.RequiredSpacing.{greatest_spacing_on}
use Rattle.leg_rules.specs.Spacing.Violations.{AreNearer}
use Rattle.leg_rules.specs.Spacing.Closer.{AreCloserThan}
use Rattle.leg_rules.specs.Spacing.Clean.{net_metal, IsClean}
use Rattle.leg_wire_spacing.specs.Access.{alone}

only_itself : (a b : Shape) → Contains (a ∷ []) b → a ≡ b
only_itself a b has = by has.0 has.1 has.2 where
  by : (k : ℕ) → k < 1 → get_or (a ∷ []) k b ≡ b → a ≡ b
  by zero below is = is
  by (suc k) below is = absurd (omega (arith, below))

module _ (library : LibraryModel) (shape : Shape) (layer : ℕ) (rect : RectModel) where
  -- the shape lies on the layer, and so near that metal of another owner is not clean
  pub record IsNear : Type 0 where
    pub layer_is : layer ≡ shape.layer
    pub close : SharePoint rect shape.rect ⊎ AreNearer (greatest_spacing_on library layer) rect shape.rect

  clean_where_far : (net : ℕ) → ¬ AreCloserThan (greatest_spacing_on library layer) (net_metal net layer rect) shape
      → IsClean library (alone shape) net layer rect
  clean_where_far net far = record {
    far = λ s has. subst (λ (s : Shape). ¬ AreCloserThan (greatest_spacing_on library layer) (net_metal net layer rect) s) (only_itself shape s has) far;
  }

  -- where it is, no metal of another owner
  pub not_clean_near : IsNear → (net : ℕ) → Net net ≢ shape.owner → ¬ IsClean library (alone shape) net layer rect
  not_clean_near near net other clean =
      clean.far shape (0, omega arith, refl) (record {
        comparable = record {
          layer = near.layer_is;
          owners = other;
          apart = λ one. none-some one.component one.of_a;
          metal = λ obstruction. absurd obstruction;
        };
        close = near.close;
      })

  -- the net's own shape is no obstacle to it
  pub clean_own : (net : ℕ) → Net net ≡ shape.owner → IsClean library (alone shape) net layer rect
  clean_own net own = clean_where_far net (λ closer. closer.comparable.owners own)

  -- and is one to each other net
  pub clean_only : IsNear → (owner : ℕ) → shape.owner ≡ Net owner → (net : ℕ) → (net ≡ owner) ↔ IsClean library (alone shape) net layer rect
  clean_only near owner is net = (
    λ same. clean_own net (ap Net same ∙ sym is),
    λ clean. elim (cases_eq net owner) [
      | inl same ↦ same
      | inr other ↦ absurd (not_clean_near near net (λ (own : Net net ≡ shape.owner). other (let both : Net net ≡ Net owner = own ∙ is in cc)) clean)
    ],
  )
