-- One terminal after the other goes to the pieces of a net.
use Rattle.std.proofs.Common.{◌≡◌, ◌≢◌, ℕ, ◌+◌, ◌<◌, Bool, true, false, cond, not, List, [], ◌∷◌, ◌++◌, length, length-append, map, take, get_or, filter, AllPairs, Option, None, Some, is_none, is_some, refl, sym, ap, ◌∙◌, append_assoc, arith}
use Rattle.std.proofs.lemmas.Bool.{false_from_ne_true, false≢true, true≢false}
use Rattle.std.proofs.lemmas.List.{map-append, append-nil, length-map, length-take, get_or-take, get_or_default}
use Rattle.std.proofs.lemmas.List.Elements.{filter_more}
use Rattle.std.proofs.lemmas.List.Folds.{list_any_none}
use Rattle.leg_design_records.specs.declared.records.Terminal.{Terminal}
use Rattle.leg_design_records.specs.Terminals.{is_same_terminal, is_among}
use Rattle.leg_design_records.proofs.SameTerminal.{same_is}
use Rattle.leg_rules.specs.declared.piece.Piece.{Piece}
use Rattle.leg_rules.specs.declared.piece.Piece.TheVariants.{Term}
use Rattle.leg_rules.specs.Metal.Owner.{place_among}
use Rattle.leg_flat.specs.Steps.Places.{place_in}
use Rattle.leg_flat.specs.Steps.PlacesBelow.{new_among, ArePiecesAdded}
use Rattle.leg_flat.proofs.PlacesAmong.{none_is, no_place, one_more, or_none}

-- a place that is asked for
pub asked : (o p : Option (ℕ × ℕ)) (b : Bool) → is_some o ≡ not b → o ≡ p → is_none p ≡ b
asked None p true e same = rw (← same) refl
asked None p false e same = absurd (false≢true e)
asked (Some place) p true e same = absurd (true≢false e)
asked (Some place) p false e same = rw (← same) refl

-- a terminal that isn't among others isn't among those of them that pass
pub among_filter : (q : Terminal) (p : Terminal → Bool) (ts : List Terminal) → is_among q ts ≡ false → is_among q (filter p ts) ≡ false
among_filter q p [] none = refl
among_filter q p (t ∷ ts) none = by (among_filter q p ts) (is_same_terminal q t) refl (p t) refl where
  by : (is_among q ts ≡ false → is_among q (filter p ts) ≡ false) → (same : Bool) → is_same_terminal q t ≡ same → (passes : Bool) → p t ≡ passes
      → is_among q (filter p (t ∷ ts)) ≡ false
  by rest true same passes is = absurd (let among : is_among q (t ∷ ts) ≡ true = rw same refl in true≢false (sym among ∙ none))
  by rest false other true is = rw (is, other) (rest (rw other at none))
  by rest false other false is = rw is (rest (rw other at none))

-- a terminal isn't among those before it, where none is there twice
pub not_before : (ts : List Terminal) (i : ℕ) (t : Terminal) → AllPairs (λ a b. a ≢ b) ts → i < length ts → t ≡ get_or ts i t → is_among t (take i ts) ≡ false
not_before ts i t once less there =
    list_any_none (is_same_terminal t) (take i ts) (λ j d within.
    let before : j < i = omega (arith, length-take i ts) in
    false_from_ne_true (is_same_terminal t (get_or (take i ts) j d)) (λ same.
    let it : t ≡ get_or ts j d = same_is t (get_or (take i ts) j d) same ∙ get_or-take i ts j d before in
    once j i d before less (sym it ∙ there ∙ get_or_default ts i t d less)))

module _ (net : ℕ) (ts : List Terminal) (i : ℕ) (t : Terminal) (before after : List (Terminal × (ℕ × ℕ))) (pieces more : List Piece)
    (once : AllPairs (λ a b. a ≢ b) ts) (less : i < length ts) (there : t ≡ get_or ts i t)
    (added : ArePiecesAdded net (take i ts) before pieces after more) where
  nowhere : place_among t (new_among before (take i ts)) ≡ None
  nowhere = no_place t (new_among before (take i ts)) (among_filter t (λ t. is_none (place_in before t)) (take i ts) (not_before ts i t once less there))

  -- until now nothing else is known of the terminal than before
  known : place_in after t ≡ place_in before t
  known = added.places t ∙ rw nowhere (or_none (place_in before t))

  taken : (b : Bool) → is_none (place_in before t) ≡ b → new_among before (take (i + 1) ts) ≡ new_among before (take i ts) ++ cond b (t ∷ []) []
  taken b is =
      filter_more (λ t. is_none (place_in before t)) ts i t less ∙ rw (← there, is) refl

  -- a terminal that is in a net
  pub added_skipped : is_none (place_in after t) ≡ false → ArePiecesAdded net (take (i + 1) ts) before pieces after more
  added_skipped some =
      let same : new_among before (take (i + 1) ts) ≡ new_among before (take i ts) =
      taken false (ap is_none (sym known) ∙ some) ∙ append-nil (new_among before (take i ts)) in
      record {
        grown = rw same added.grown;
        places = λ q. rw same (added.places q);
      }

  -- a terminal that isn't
  pub added_more : (last : List (Terminal × (ℕ × ℕ))) (longer : List Piece) → is_none (place_in after t) ≡ true → longer ≡ more ++ Term t ∷ []
      → ((q : Terminal) → place_in last q ≡ cond (is_same_terminal t q) (Some (net, length more)) (place_in after q))
      → ArePiecesAdded net (take (i + 1) ts) before pieces last longer
  added_more last longer none pushed updates =
      let longest : new_among before (take (i + 1) ts) ≡ new_among before (take i ts) ++ t ∷ [] = taken true (ap is_none (sym known) ∙ none) in
      let count : length more ≡ length pieces + length (new_among before (take i ts)) =
      ap length added.grown ∙ length-append pieces (map Term (new_among before (take i ts)))
      ∙ ap (λ n. length pieces + n) (length-map (new_among before (take i ts)) Term) in
      record {
        grown =
            pushed
            ∙ rw (added.grown, longest, map-append Term (new_among before (take i ts)) (t ∷ []))
            (append_assoc pieces (map Term (new_among before (take i ts))) (Term t ∷ []));
        places = λ q.
            updates q
            ∙ rw (count, added.places q, longest) (sym (one_more (place_in before q) net (length pieces) (new_among before (take i ts)) t q (λ same.
            sym (added.places q) ∙ rw (← same) (none_is (place_in after t) none))));
      }
