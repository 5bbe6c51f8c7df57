-- The way from a number up to its root, on which each number gets its parent's parent.
use Rattle.std.proofs.Common.{◌≡◌, ◌≢◌, ℕ, ◌<◌, ◌≤◌, List, length, get_or, set, Some, slice_get, sym, ap, ◌∙◌, arith}
use Rattle.std.proofs.lemmas.List.{length-set}
use Rattle.std.proofs.lemmas.Option.{slice_get-get_or}
use Rattle.leg_wire.specs.Steps.NumberSets.{AreParents, roots_of}
use Rattle.leg_wire.proofs.SetRoots.{length-roots_of, rooted, forest_halved, root_by_grand, roots_halved}

-- The place on the way is in the number's set, and no root has changed.
pub record IsOnWay (start : List ℕ) (number : ℕ) (parents : List ℕ) (place parent : ℕ) : Type 0 where
  pub forest : AreParents parents
  pub same : roots_of parents ≡ roots_of start
  pub within : place < length parents
  pub is : parent ≡ get_or parents place 0
  pub root : get_or (roots_of parents) place 0 ≡ get_or (roots_of start) number 0

module _ (start : List ℕ) (number : ℕ) (parents : List ℕ) (place parent : ℕ) (way : IsOnWay start number parents place parent) where
  pub parent_within : parent < length parents
  parent_within =
      let low : get_or parents place 0 ≤ place = way.forest place way.within in
      omega (arith, low, way.is, way.within)

  -- the end of the way
  pub way_end : parent ≡ place → number < length start → slice_get (roots_of start) number ≡ Some place
  way_end top number_in =
      let many : length (roots_of start) ≡ length start = length-roots_of start in
      let own : get_or (roots_of parents) place 0 ≡ place = (rooted parents place way.within).own (sym way.is ∙ top) in
      slice_get-get_or (roots_of start) number 0 (omega (arith, many, number_in)) ∙ ap Some (sym way.root ∙ own)

  module _ (above : ℕ) (above_is : above ≡ get_or parents parent 0) (further : parent ≢ place) where
    pub way_falls : above < place
    way_falls =
        let low : get_or parents place 0 ≤ place = way.forest place way.within in
        let low_above : get_or parents parent 0 ≤ parent = way.forest parent parent_within in
        omega (arith, low, low_above, way.is, above_is, further)

    grand_is : above ≡ get_or parents (get_or parents place 0) 0
    grand_is = above_is ∙ ap (λ n. get_or parents n 0) way.is

    -- one step
    pub way_more : (next : ℕ) → next ≡ get_or (set parents place above) above 0 → IsOnWay start number (set parents place above) above next
    way_more next next_is =
        let halved : roots_of (set parents place above) ≡ roots_of parents = rw grand_is (roots_halved parents way.forest place way.within) in
        let falls = way_falls in
        let many : length (set parents place above) ≡ length parents = length-set parents place above in
        let grand_falls : get_or parents (get_or parents place 0) 0 < place = omega (arith, grand_is, falls) in
        let up : get_or (roots_of parents) place 0 ≡ get_or (roots_of parents) above 0 =
        root_by_grand parents way.forest place way.within grand_falls ∙ ap (λ n. get_or (roots_of parents) n 0) (sym grand_is) in
        record {
          forest = rw grand_is (forest_halved parents way.forest place way.within);
          same = halved ∙ way.same;
          within = omega (arith, many, falls, way.within);
          is = next_is;
          root = rw halved (sym up ∙ way.root);
        }
