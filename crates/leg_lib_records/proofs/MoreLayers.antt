-- Good vias when layers are added: what shapes join doesn't depend on the layers behind theirs.
use Rattle.std.proofs.Common.{◌≡◌, ℕ, ◌+◌, ◌-◌, ◌<◌, ◌≤◌, Bool, List, [], ◌∷◌, ◌++◌, length, length-append, length-drop, drop, get_or, slice_get, refl, sym, ◌∙◌, arith}
use Rattle.std.specs.List.{All, list_any, slice_range}
use Rattle.std.proofs.lemmas.List.{map-append, length-map, drop-append-le, take-append-le, get_or_append_left}
use Rattle.std.proofs.lemmas.List.Elements.{All-head, All-tail, All-map}
use Rattle.std.proofs.lemmas.Option.{slice_get-get_or}
use Rattle.leg_lib_records.specs.declared.joins.LayerUse.{LayerUse}
use Rattle.leg_lib_records.specs.declared.joins.LayerUse.TheVariants.{Neither}
use Rattle.leg_lib_records.specs.declared.joins.ViaPart.{ViaPart}
use Rattle.leg_lib_records.specs.declared.raw.RawLayer.{RawLayer}
use Rattle.leg_lib_records.specs.declared.raw.RawShape.{RawShape}
use Rattle.leg_lib_records.specs.GoodVia.{raw_use, raw_uses, raw_parts, holds_origin, is_raw_good_via}
use Rattle.leg_lib_records.specs.Joins.{join, join_layers}
use Rattle.leg_lib_records.specs.References.{AreRawShapesOn}

-- two tests that agree on each element find an element in the same lists
any_alike : {X : Type 0} (p q : X → Bool) (xs : List X) → All (λ x. p x ≡ q x) xs → list_any p xs ≡ list_any q xs
any_alike p q [] same = refl
any_alike p q (x ∷ xs) same = rw (All-head (λ y. p y ≡ q y) x xs same, any_alike p q xs (All-tail (λ y. p y ≡ q y) x xs same)) refl

front_get : {X : Type 0} (d : X) (xs more : List X) (k : ℕ) → k < length xs → slice_get (xs ++ more) k ≡ slice_get xs k
front_get d xs more k less =
    let longer : k < length (xs ++ more) = omega (arith, length-append xs more) in
    slice_get-get_or (xs ++ more) k d longer ∙ rw (get_or_append_left xs more d k less) (sym (slice_get-get_or xs k d less))

front_range : {X : Type 0} (xs more : List X) (low high : ℕ) → low < length xs → high < length xs
    → slice_range (xs ++ more) (low + 1) high ≡ slice_range xs (low + 1) high
front_range xs more low high below within =
    let cut : drop (low + 1) (xs ++ more) ≡ drop (low + 1) xs ++ more = drop-append-le (low + 1) xs more (omega arith) in
    let few : high - (low + 1) ≤ length (drop (low + 1) xs) = omega (arith, length-drop (low + 1) xs) in
    rw (cut, take-append-le (high - (low + 1)) (drop (low + 1) xs) more few) refl

module _ (layers more : List LayerUse) (parts : List ViaPart) where
  join_more : (low cut high : ℕ) → low < length layers → cut < length layers → high < length layers
      → join (layers ++ more) low cut high parts ≡ join layers low cut high parts
  join_more low cut high a b c =
      rw (
        front_get Neither layers more low a,
        front_get Neither layers more cut b,
        front_get Neither layers more high c,
        front_range layers more low high a c,
      ) refl

  -- what parts on these layers join is the same with more layers
  join_layers_more : All (λ part. part.layer < length layers) parts → join_layers (layers ++ more) parts ≡ join_layers layers parts
  join_layers_more on =
      any_alike (λ a. list_any (λ b. list_any (λ c. join (layers ++ more) a.layer b.layer c.layer parts) parts) parts)
      (λ a. list_any (λ b. list_any (λ c. join layers a.layer b.layer c.layer parts) parts) parts) parts
      (λ i d less.
      let a = get_or parts i d in
      any_alike (λ b. list_any (λ c. join (layers ++ more) a.layer b.layer c.layer parts) parts)
      (λ b. list_any (λ c. join layers a.layer b.layer c.layer parts) parts) parts
      (λ j e within.
      let b = get_or parts j e in
      any_alike (λ c. join (layers ++ more) a.layer b.layer c.layer parts) (λ c. join layers a.layer b.layer c.layer parts) parts
      (λ k f inside. join_more a.layer b.layer (get_or parts k f).layer (on i d less) (on j e within) (on k f inside))))

parts_on : (layers : ℕ) (shapes : List RawShape) → AreRawShapesOn layers shapes → All (λ part. part.layer < layers) (raw_parts shapes)
parts_on layers shapes on = All-map (λ part. part.layer < layers) (λ shape. record { layer = shape.layer; holds_origin = holds_origin shape.rect }) shapes on

-- A via that is good stays so with more layers, and so does one that isn't.
pub good_with_more : (layers more : List RawLayer) (name : List ℕ) (shapes : List RawShape) → AreRawShapesOn (length layers) shapes
    → is_raw_good_via (layers ++ more) name shapes ≡ is_raw_good_via layers name shapes
unfolding is_raw_good_via
good_with_more layers more name shapes on =
    let long : length (raw_uses layers) ≡ length layers = length-map layers (λ layer. raw_use layer.kind) in
    let uses : raw_uses (layers ++ more) ≡ raw_uses layers ++ raw_uses more = map-append (λ layer. raw_use layer.kind) layers more in
    let there : All (λ part. part.layer < length (raw_uses layers)) (raw_parts shapes) = rw long (parts_on (length layers) shapes on) in
    rw (uses, join_layers_more (raw_uses layers) (raw_uses more) (raw_parts shapes) there) refl
