-- How many slots there are, by division, and the routing layers one after another.
use Rattle.std.proofs.Common.{◌≡◌, ℕ, ◌+◌, ◌*◌, ◌/◌, ◌<◌, ◌≤◌, ◌↔◌, List, ◌∷◌, ◌++◌, length, drop, get_or, refl, sym, ◌∙◌, ap, append_assoc, add-one}
use Rattle.std.proofs.Math.Nat.{le-div_iff_mul-le}
use Rattle.std.proofs.Math.Seq.{drop-cons}
use Rattle.std.proofs.lemmas.List.{append-nil, drop_all}
use Rattle.leg_lib_records.specs.declared.records.Layer.{Layer}
use Rattle.leg_route_grid.specs.declared.layers.RoutingLayer.{RoutingLayer}
use Rattle.leg_route_grid.specs.Steps.LayerList.{routing_layer_at, routing_from}

pub slots_within : (layers rows columns limit : ℕ) → 0 < rows → 0 < columns → (layers ≤ limit / columns / rows) ↔ (layers * rows * columns ≤ limit)
slots_within layers rows columns limit some_rows some_columns = (
  λ less. (le-div_iff_mul-le some_columns).0 ((le-div_iff_mul-le some_rows).0 less),
  λ less. (le-div_iff_mul-le some_rows).1 ((le-div_iff_mul-le some_columns).1 less),
)

pub one_layer_more : (layers : List Layer) (n : ℕ) (layer : Layer) (found more total : List RoutingLayer) → n < length layers → layer ≡ get_or layers n layer
    → found ++ routing_from n (drop n layers) ≡ total → more ≡ found ++ routing_layer_at n layer.kind
    → more ++ routing_from (n + 1) (drop (n + 1) layers) ≡ total
unfolding routing_from
one_layer_more layers n layer found more total within is so_far more_is =
    let front : drop n layers ≡ layer ∷ drop (n + 1) layers = rw (drop-cons layers n layer, ← is, add-one) refl in
    let parted : routing_from n (layer ∷ drop (n + 1) layers) ≡ routing_layer_at n layer.kind ++ routing_from (n + 1) (drop (n + 1) layers) = rw add-one refl in
    rw more_is (append_assoc found (routing_layer_at n layer.kind) (routing_from (n + 1) (drop (n + 1) layers)) ∙ ap (λ l. found ++ l) (sym parted)
    ∙ ap (λ l. found ++ routing_from n l) (sym front) ∙ so_far)

pub all_layers : (layers : List Layer) (n : ℕ) (found total : List RoutingLayer) → length layers ≤ n → found ++ routing_from n (drop n layers) ≡ total
    → found ≡ total
unfolding routing_from
all_layers layers n found total all so_far = sym (append-nil found) ∙ (rw (drop_all n layers all) at so_far)
