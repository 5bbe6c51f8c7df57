-- Tracks that are for no layer of a direction.
use Rattle.std.proofs.Common.{◌≡◌, ℕ, ◌+◌, ◌<◌, ◌≤◌, ◌⊎◌, inl, inr, ℤ, Some, List, length, get_or, slice_get, refl, sym, ◌∙◌, arith}
use Rattle.std.proofs.lemmas.Option.{slice_get_read, slice_get_within, same_Some}
use Rattle.leg_lib_records.specs.declared.records.Direction.{Direction}
use Rattle.leg_lib_records.specs.declared.records.LayerKind.TheVariants.{Routing}
use Rattle.leg_lib_records.specs.declared.records.Layer.{Layer}
use Rattle.leg_lib_records.specs.Records.{LibraryModel}
use Rattle.leg_design_records.specs.Records.{TrackModel}
use Rattle.leg_rules.specs.Route.Tracks.{Runs, AreFor}
use Rattle.leg_route_grid.specs.Steps.Lines.{Serve}

-- the layer of this number
pub layer_read : (layers : List Layer) (i : ℕ) (layer : Layer) → i < length layers → layer ≡ get_or layers i layer → slice_get layers i ≡ Some layer
layer_read layers i layer within is = slice_get_read layers (length layers) i layer refl within is

module _ (library : LibraryModel) (direction : Direction) where
  -- a layer of another kind
  pub runs_not : (i : ℕ) (layer : Layer) → slice_get library.layers i ≡ Some layer → ¬ ((width : ℤ) × (layer.kind ≡ Routing direction width))
      → (width : ℤ) → ¬ Runs library i direction width
  runs_not i layer there other width runs =
      let same : layer ≡ runs.layer = same_Some layer runs.layer (sym there ∙ runs.there) in
      other (width, rw same runs.routes)

  pub serves : (track : TrackModel) (i : ℕ) (layer : Layer) → slice_get library.layers i ≡ Some layer → (width : ℤ) × (layer.kind ≡ Routing direction width)
      → AreFor track i → Serve library track direction
  serves track i layer there kind are_for =
      record { number = i; width = kind.0; runs = record { layer = layer; there = there; routes = kind.1 }; are_for = are_for }

  -- the tracks are for none of the first layers that wires of the direction run on
  abbrev pub NoneBelow : TrackModel → ℕ → Type 0
  NoneBelow track i = (k : ℕ) (width : ℤ) → k < i → Runs library k direction width → ¬ AreFor track k

  pub none_more : (track : TrackModel) (i : ℕ) → NoneBelow track i → ((width : ℤ) → Runs library i direction width → ¬ AreFor track i) → NoneBelow track (i + 1)
  none_more track i none other k width below runs = by (order k i) runs where
    order : (k i : ℕ) → (k < i) ⊎ ((k ≡ i) ⊎ (i < k))
    order k i = grind arith

    by : (k < i) ⊎ ((k ≡ i) ⊎ (i < k)) → Runs library k direction width → ¬ AreFor track k
    by (inl less) runs = none k width less runs
    by (inr (inl same)) runs = rw same (λ are_for. other width (rw same at runs) are_for)
    by (inr (inr more)) runs = absurd (omega (arith, below, more))

  pub serves_none : (track : TrackModel) (i : ℕ) → length library.layers ≤ i → NoneBelow track i → ¬ Serve library track direction
  serves_none track i all none serve =
      none serve.number serve.width (omega (arith, all, slice_get_within library.layers serve.number serve.runs.layer serve.runs.there)) serve.runs
      serve.are_for
