-- The numbers of the shapes of a net, and those of each net in lists.
use Rattle.std.proofs.Common.{◌≡◌, ℕ, ◌+◌, ◌<◌, ◌≤◌, List, [], ◌∷◌, ◌++◌, length, get_or, set, take, drop, AllPairs, Contains, Some, slice_get, inl, inr, sym, ap, ◌∙◌, arith}
use Rattle.std.specs.List.Sorted.{IsStrictlyIncreasing}
use Rattle.std.proofs.lemmas.Bool.{cases_eq, cases_lt}
use Rattle.std.proofs.lemmas.List.{length-set, get_or-set_same, get_or-set_other, drop_all, take_all, append-nil}
use Rattle.std.proofs.lemmas.List.Elements.{Contains-append_left, Contains-push, Contains-push_cases, Contains-get_or}
use Rattle.std.proofs.lemmas.List.Quantifiers.{all_pairs_push}
use Rattle.std.proofs.lemmas.Map.Keys.{sorted_from_strictly_increasing}
use Rattle.std.proofs.lemmas.Map.Views.{length-le_from_below}
use Rattle.std.proofs.lemmas.Option.{same_Some, slice_get_within}
use Rattle.leg_sweep.proofs.Lists.{All-from_contains}
use Rattle.leg_rules.specs.declared.owner.Owner.TheVariants.{Net}
use Rattle.leg_rules.specs.declared.shape.Shape.{Shape}
use Rattle.leg_wire.specs.NetShapes.{IsOfNet, AreNumbersOf}

pub same_net : (m n : ℕ) → Net m ≡ Net n → m ≡ n
same_net m n same = cc

module _ (shapes : List Shape) where
  -- the numbers of the net's shapes among the first ones
  pub record AreBelow (net end : ℕ) (numbers : List ℕ) : Type 0 where
    pub increasing : AllPairs (λ j k. j < k) numbers
    pub each : (k : ℕ) → Contains numbers k → (k < end) × IsOfNet shapes net k
    pub all : (k : ℕ) → k < end → IsOfNet shapes net k → Contains numbers k

  module _ (net i : ℕ) (numbers : List ℕ) (done : AreBelow net i numbers) where
    -- one more shape, which is the net's
    pub below_more : IsOfNet shapes net i → AreBelow net (i + 1) (numbers ++ i ∷ [])
    below_more is = record {
      increasing =
          all_pairs_push (λ j k. j < k) numbers i done.increasing (λ k d within. (done.each (get_or numbers k d) (Contains-get_or numbers k d within)).0);
      each = λ k has. elim (Contains-push_cases numbers i k has) [
        | inl before ↦ let old = done.each k before in (omega (arith, old.0), old.1)
        | inr here ↦ rw (← here) (omega arith, is)
      ];
      all = λ k below of_net. elim (cases_lt k i) [
        | inl before ↦ Contains-append_left numbers (i ∷ []) k (done.all k before of_net)
        | inr late ↦
            let here : k ≡ i = omega (arith, late, below) in
            rw here (Contains-push numbers i)
      ];
    }

    -- one more, which is not
    pub below_skip : (IsOfNet shapes net i → ⊥) → AreBelow net (i + 1) numbers
    below_skip other = record {
      increasing = done.increasing;
      each = λ k has. let old = done.each k has in (omega (arith, old.0), old.1);
      all = λ k below of_net. elim (cases_lt k i) [
        | inl before ↦ done.all k before of_net
        | inr late ↦
            let here : k ≡ i = omega (arith, late, below) in
            absurd (other (rw here at of_net))
      ];
    }

  -- all shapes were looked at
  pub below_all : (net end : ℕ) (numbers : List ℕ) → end ≡ length shapes → AreBelow net end numbers → AreNumbersOf shapes net numbers
  below_all net end numbers all done = record {
    increasing = done.increasing;
    each = λ k has. (done.each k has).1;
    all = λ k of_net. done.all k (let within = slice_get_within shapes k of_net.shape of_net.at in omega (arith, all, within)) of_net;
  }

  -- there are no more numbers than shapes
  pub few_numbers : (net : ℕ) (numbers : List ℕ) → AreNumbersOf shapes net numbers → length numbers ≤ length shapes
  few_numbers net numbers are =
      let rising : IsStrictlyIncreasing numbers = λ k within. are.increasing k (k + 1) 0 (omega arith) within in
      length-le_from_below (length shapes) numbers (sorted_from_strictly_increasing numbers rising)
      (All-from_contains (λ k. k < length shapes) numbers (λ k has. let is = are.each k has in slice_get_within shapes k is.shape is.at))

  -- the shape of this number is of the net that owns it, and of no other one
  module _ (i : ℕ) (shape : Shape) (at : slice_get shapes i ≡ Some shape) where
    pub of_owner : (net : ℕ) → shape.owner ≡ Net net → IsOfNet shapes net i
    of_owner net owner = record { shape = shape; at = at; owner = owner }

    pub owner_of : (net : ℕ) → IsOfNet shapes net i → shape.owner ≡ Net net
    owner_of net is = ap (λ (s : Shape). s.owner) (same_Some shape is.shape (sym at ∙ is.at)) ∙ is.owner

    -- the lists of the nets, with this shape's number in that of its net
    pub lists_more : (nets : ℕ) (lists : List (List ℕ)) → length lists ≡ nets → ((net : ℕ) → net < nets → AreBelow net i (get_or lists net []))
        → (owner : ℕ) → shape.owner ≡ Net owner → owner < nets
        → (net : ℕ) → net < nets → AreBelow net (i + 1) (get_or (set lists owner (get_or lists owner [] ++ i ∷ [])) net [])
    lists_more nets lists long done owner is low net below =
        let longer = get_or lists owner [] ++ i ∷ [] in
        elim (cases_eq net owner) [
          | inl same ↦
              let here : get_or (set lists owner longer) owner [] ≡ longer = get_or-set_same lists owner longer [] (omega (arith, long, low)) in
              rw (same, here) (below_more owner i (get_or lists owner []) (done owner low) (of_owner owner is))
          | inr other ↦
              let there : get_or (set lists owner longer) net [] ≡ get_or lists net [] = get_or-set_other lists owner net longer [] other in
              rw there (below_skip net i (get_or lists net []) (done net below) (λ of_net. other (same_net net owner (sym (owner_of net of_net) ∙ is))))
        ]

    -- with its number in none of them
    pub lists_skip : (nets : ℕ) (lists : List (List ℕ)) → ((net : ℕ) → net < nets → AreBelow net i (get_or lists net []))
        → ((net : ℕ) → shape.owner ≡ Net net → net < nets → ⊥)
        → (net : ℕ) → net < nets → AreBelow net (i + 1) (get_or lists net [])
    lists_skip nets lists done none net below =
        below_skip net i (get_or lists net []) (done net below) (λ of_net. none net (owner_of net of_net) below)

-- all lists are written back
pub lists_written : (lists : List (List ℕ)) (place : ℕ) (list : List ℕ) (after : List (List ℕ)) (n : ℕ) → after ≡ set lists place list → n ≡ length lists
    → take n (after ++ drop (length after) lists) ≡ set lists place list
lists_written lists place list after n put whole =
    let size : length (set lists place list) ≡ length lists = length-set lists place list in
    rw (put, drop_all (length (set lists place list)) lists (omega (arith, size)), append-nil (set lists place list))
    (take_all n (set lists place list) (omega (arith, whole, size)))
