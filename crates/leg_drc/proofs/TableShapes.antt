-- Which shapes are nearer than a table asks for, by what is asked of two shapes.
use Rattle.std.proofs.Common.{◌≡◌, Some, inl, inr}
use Rattle.leg_lib_records.specs.Records.{LibraryModel}
use Rattle.leg_rules.specs.declared.shape.Shape.{Shape}
use Rattle.leg_rules.specs.Spacing.RequiredSpacing.{required_spacing}
use Rattle.leg_rules.specs.Spacing.Closer.{AreCloserThan}
use Rattle.leg_drc_rules.specs.Records.{TableModel, DeckModel}
use Rattle.leg_drc.specs.Table.{table_spacing, layer_table, AreNearerThanTable}

module _ (library : LibraryModel) (deck : DeckModel) (a b : Shape) (table : TableModel) (has : layer_table deck a.layer ≡ Some table) where
  -- shapes closer than the table asks for, and not than the spacing
  pub nearer_from_closer : AreCloserThan (table_spacing table a.rect b.rect) a b → ¬ AreCloserThan (required_spacing library a b) a b
      → AreNearerThanTable library deck a b
  nearer_from_closer closer far = record {
    table = table;
    comparable = closer.comparable;
    apart = λ shared. far (record { comparable = closer.comparable; close = inl shared });
    other = λ near. far (record { comparable = closer.comparable; close = inr near.near });
    has_table = has;
    near = elim closer.close [
      | inl shared ↦ absurd (far (record { comparable = closer.comparable; close = inl shared }))
      | inr near ↦ near
    ];
  }

  module _ (h : AreNearerThanTable library deck a b) where
    pub far_from_nearer : ¬ AreCloserThan (required_spacing library a b) a b
    far_from_nearer closer =
        elim closer.close [
          | inl shared ↦ h.apart shared
          | inr near ↦ h.other (record { comparable = h.comparable; apart = h.apart; near = near })
        ]
