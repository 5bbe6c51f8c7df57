-- The numbers of the items on each layer, in keys and in nodes.
use Rattle.std.proofs.Common.{◌≡◌, ◌≢◌, ℕ, zero, suc, ◌+◌, ◌<◌, true, false, cond, List, [], ◌∷◌, ◌++◌, length, get_or, set, map, replicate, All, Contains, inl, inr, refl, sym, ap, ◌∙◌, arith}
use Rattle.std.specs.List.{filter, range_with_len}
use Rattle.std.proofs.lemmas.Bool.{cases_eq, eq-eqb, ne_eqb}
use Rattle.std.proofs.lemmas.List.{append-nil, length-map, length-set, length-replicate, length_push, get_or-map, get_or-set_same, get_or-set_other, get_or_push, get_or_append_left, map-append}
use Rattle.std.proofs.lemmas.List.Elements.{filter-append}
use Rattle.leg_lemmas.proofs.Contents.{All-from_contains, Contains-from_filter}
use Rattle.leg_lemmas.proofs.Ranges.{range_more}
use Rattle.leg_geom.specs.Plane.{RectModel}
use Rattle.leg_sweep.specs.declared.node.Node.{Node}
use Rattle.leg_sweep.specs.Steps.Layers.{is_on, numbers_on, AreKeysByLayer, AreNodesByLayer}
use Rattle.leg_sweep.specs.Steps.Nodes.{AreNodesOf}
use Rattle.leg_sweep.proofs.FewPairs.{number_below}

-- no layer has keys
no_keys_at : (count k : ℕ) → get_or (replicate {A = List (ℕ × ℕ)} count []) k [] ≡ []
no_keys_at zero k = refl
no_keys_at (suc count) zero = refl
no_keys_at (suc count) (suc k) = no_keys_at count k

pub keys_none : (layer_of : List ℕ) (layers : ℕ) → AreKeysByLayer layer_of layers 0 (replicate layers [])
keys_none layer_of layers = record {
  many = length-replicate layers [];
  each = λ layer below. rw (no_keys_at layers layer) refl;
}

-- the numbers on a layer, with the next one
on_more : (layer_of : List ℕ) (layer bound : ℕ) → numbers_on layer_of layer (bound + 1) ≡ numbers_on layer_of layer bound ++ cond (is_on layer_of layer bound)
    (bound ∷ []) []
on_more layer_of layer bound =
    ap (λ ns. filter (is_on layer_of layer) ns) (range_more 0 bound bound (omega arith))
    ∙ filter-append (is_on layer_of layer) (range_with_len 0 bound) (bound ∷ [])

on_this : (layer_of : List ℕ) (layer bound : ℕ) → get_or layer_of bound 0 ≡ layer
    → numbers_on layer_of layer (bound + 1) ≡ numbers_on layer_of layer bound ++ bound ∷ []
on_this layer_of layer bound is =
    let on : is_on layer_of layer bound ≡ true = eq-eqb _ _ is in
    on_more layer_of layer bound ∙ ap (λ b. numbers_on layer_of layer bound ++ cond b (bound ∷ []) []) on

on_other : (layer_of : List ℕ) (layer bound : ℕ) → get_or layer_of bound 0 ≢ layer → numbers_on layer_of layer (bound + 1) ≡ numbers_on layer_of layer bound
on_other layer_of layer bound differs =
    let off : is_on layer_of layer bound ≡ false = ne_eqb _ _ differs in
    on_more layer_of layer bound ∙ ap (λ b. numbers_on layer_of layer bound ++ cond b (bound ∷ []) []) off ∙ append-nil (numbers_on layer_of layer bound)

-- the keys after one more
pub keys_more : (layer_of : List ℕ) (layers bound here key : ℕ) (keys : List (List (ℕ × ℕ))) → AreKeysByLayer layer_of layers bound keys
    → get_or layer_of bound 0 ≡ here → here < layers
    → AreKeysByLayer layer_of layers (bound + 1) (set keys here (get_or keys here [] ++ (key, bound) ∷ []))
keys_more layer_of layers bound here key keys are is below =
    let grown : List (ℕ × ℕ) = get_or keys here [] ++ (key, bound) ∷ [] in
    record {
      many = length-set keys here grown ∙ are.many;
      each = λ layer within. elim (cases_eq layer here) [
        | inl same ↦
            rw (
              same,
              get_or-set_same keys here grown [] (omega (arith, are.many, below)),
              map-append (λ (k : ℕ × ℕ). k.1) (get_or keys here []) ((key, bound) ∷ []),
              are.each here below,
            )
            (sym (on_this layer_of here bound is))
        | inr other ↦ rw (get_or-set_other keys here layer grown [] other, on_other layer_of layer bound (λ e. other (sym e ∙ is))) (are.each layer within)
      ];
    }

-- a number on a layer is below the bound
pub on_below : (layer_of : List ℕ) (layer bound x : ℕ) → Contains (numbers_on layer_of layer bound) x → x < bound
on_below layer_of layer bound x c = number_below bound x (Contains-from_filter (is_on layer_of layer) (range_with_len 0 bound) x c).0

-- The layers so far have nodes, and the layers to come have keys.
pub record NodesSoFar (rects : List RectModel) (layer_of : List ℕ) (layers : ℕ) (done : List (List Node)) (left : List (List (ℕ × ℕ))) : Type 0 where
  pub count : length done + length left ≡ layers
  pub nodes : (layer : ℕ) → layer < length done → AreNodesOf rects (numbers_on layer_of layer (length rects)) (get_or done layer [])
  pub keys : (k : ℕ) → k < length left → map (λ (key : ℕ × ℕ). key.1) (get_or left k []) ≡ numbers_on layer_of (length done + k) (length rects)

module _ (rects : List RectModel) (layer_of : List ℕ) (layers : ℕ) where
  pub nodes_none : (keys : List (List (ℕ × ℕ))) → AreKeysByLayer layer_of layers (length rects) keys → NodesSoFar rects layer_of layers [] keys
  nodes_none keys are = record {
    count = omega (arith, are.many);
    nodes = λ layer below. absurd (omega (arith, below));
    keys = λ k below. let place : length {A = List Node} [] + k ≡ k = omega arith in rw place (are.each k (omega (arith, below, are.many)));
  }

  -- the keys of the next layer are those of rectangles
  pub next_below : (done : List (List Node)) (next : List (ℕ × ℕ)) (left : List (List (ℕ × ℕ))) → NodesSoFar rects layer_of layers done (next ∷ left)
      → All (λ (key : ℕ × ℕ). key.1 < length rects) next
  next_below done next left so_far k d below =
      let on = so_far.keys 0 (omega arith) in
      let numbers : All (λ (x : ℕ). x < length rects) (map (λ (key : ℕ × ℕ). key.1) next) =
      rw on (All-from_contains (λ (x : ℕ). x < length rects) (numbers_on layer_of (length done + 0) (length rects))
      (on_below layer_of (length done + 0) (length rects))) in
      let count = length-map next (λ (key : ℕ × ℕ). key.1) in
      rw (← get_or-map (λ (key : ℕ × ℕ). key.1) next k d d.1 below) (numbers k d.1 (omega (arith, count, below)))

  pub nodes_more : (done : List (List Node)) (next : List (ℕ × ℕ)) (left : List (List (ℕ × ℕ))) (nodes : List Node)
      → NodesSoFar rects layer_of layers done (next ∷ left)
      → AreNodesOf rects (map (λ (key : ℕ × ℕ). key.1) next) nodes → NodesSoFar rects layer_of layers (done ++ nodes ∷ []) left
  nodes_more done next left nodes so_far are =
      let longer = length_push done nodes in
      let here : length done + 0 ≡ length done = omega arith in
      record {
        count = omega (arith, longer, so_far.count);
        nodes = λ layer below. elim (cases_eq layer (length done)) [
          | inl same ↦ rw (same, get_or_push done nodes [] (length done) refl) (rw (so_far.keys 0 (omega arith), here) at are)
          | inr other ↦
              let earlier : layer < length done = omega (arith, longer, below, other) in
              rw (get_or_append_left done (nodes ∷ []) [] layer earlier) (so_far.nodes layer earlier)
        ];
        keys = λ k below.
            let place : length (done ++ nodes ∷ []) + k ≡ length done + suc k = omega (arith, longer) in
            rw place (so_far.keys (suc k) (omega (arith, below)));
      }

  pub nodes_all : (done : List (List Node)) (left : List (List (ℕ × ℕ))) → length left ≡ 0 → NodesSoFar rects layer_of layers done left
      → AreNodesByLayer rects layer_of layers done
  nodes_all done left none so_far =
      record { many = omega (arith, none, so_far.count); each = λ layer below. so_far.nodes layer (omega (arith, none, so_far.count, below)) }
