-- Whether a net is open is told by the first pieces of its groups; the list of open nets, net by net.
use Rattle.std.proofs.Common.{◌≡◌, ◌≢◌, ◌+◌, ◌<◌, ◌≤◌, ℕ, suc, List, [], ◌∷◌, ◌++◌, All, Any, length, get_or, Some, slice_get, ◌⊎◌, inl, inr, refl, sym, subst, arith}
use Rattle.std.proofs.lemmas.Bool.{cases_lt, cases_eq}
use Rattle.std.proofs.lemmas.Grind.{common_steps}
use Rattle.std.proofs.lemmas.List.{get_or_default}
use Rattle.std.proofs.lemmas.List.Elements.{All-nil, All-push, All-weaker, All-get_or}
use Rattle.std.proofs.lemmas.List.Quantifiers.{all_pairs_push, Any-push}
use Rattle.std.proofs.lemmas.Option.{slice_get_read, slice_get-get_or}
use Rattle.leg_design_records.specs.Records.{DesignModel}
use Rattle.leg_rules.specs.Metal.Flat.{FlatModel}
use Rattle.leg_wire.specs.NetShapes.{AreNumbersOf}
use Rattle.leg_rules.specs.Joins.Violations.{IsOpenNet}
use Rattle.leg_wire.specs.PieceMarks.{AreFirsts}
use Rattle.leg_rules.specs.Joins.Touch.{piece_count, AreJoined}
use Rattle.leg_finish.specs.declared.groups.OpenNet.{OpenNet}
use Rattle.leg_finish.specs.Steps.OpenNets.{IsOpenWith, AreOpenNets, AreOpenNetsBelow, AreListsFrom}

abbrev pub JoinedBothWays : Type 0
JoinedBothWays = (flat : FlatModel) (net a b : ℕ) → AreJoined flat net a b → AreJoined flat net b a

abbrev pub IsOther : ℕ → Type 0
IsOther first = first ≢ 0

module _ (both : JoinedBothWays) (design : DesignModel) (flat : FlatModel) (net : ℕ) (firsts : List ℕ)
    (are : AreFirsts (AreJoined flat net) (piece_count flat net) firsts) where
  pub open_by_firsts : net < length design.nets → Any IsOther firsts → IsOpenNet design flat net
  open_by_firsts entry any =
      let k = any.0 in
      let first = any.1 in
      let there : slice_get firsts k ≡ Some first = slice_get_read firsts (length firsts) k first refl any.2 (sym any.3) in
      let low : k < piece_count flat net = rw (← are.count) any.2 in
      let least = (are.each k first there).least 0 (omega (arith, low)) in (
        k,
        record {
          net = entry;
          piece = low;
          open_piece = λ joined. any.4 (let zero : first ≤ 0 = least (both flat net 0 k joined) in omega (arith, zero));
        },
      )

  pub firsts_by_open : IsOpenNet design flat net → Any IsOther firsts
  firsts_by_open is_open = by (cases_eq first 0) where
    k : ℕ
    k = is_open.0

    first : ℕ
    first = get_or firsts is_open.0 0

    low : is_open.0 < length firsts
    low = rw are.count is_open.1.piece

    there : slice_get firsts is_open.0 ≡ Some (get_or firsts is_open.0 0)
    there = slice_get-get_or firsts is_open.0 0 low

    by : (get_or firsts is_open.0 0 ≡ 0) ⊎ (get_or firsts is_open.0 0 ≢ 0) → Any IsOther firsts
    by (inl zero) =
        absurd (is_open.1.open_piece (both flat net is_open.0 0 (subst (λ f. AreJoined flat net is_open.0 f) zero (are.each is_open.0 first there).joined)))
    by (inr other) = (is_open.0, first, low, get_or_default firsts is_open.0 first 0 low, other)

-- a list of open nets as it grows
module _ {A : Type 0} (limit : ℕ) (design : DesignModel) (flat : FlatModel) (nets : List (OpenNet A)) (are : AreOpenNetsBelow limit design flat nets) where
  abbrev IsBelow : ℕ → OpenNet A → Type 0
  IsBelow n net = net.net < n

  abbrev Has : ℕ → OpenNet A → Type 0
  Has n net = net.net ≡ n

  wider : All (IsBelow (limit + 1)) nets
  wider = All-weaker (IsBelow limit) (IsBelow (limit + 1)) (λ net low. omega (arith, low)) nets are.below

  pub open_skip : ¬ IsOpenNet design flat limit → AreOpenNetsBelow (limit + 1) design flat nets
  open_skip closed = record { increasing = are.increasing; below = wider; each = are.each; all = all } where
    all : (n : ℕ) → n < limit + 1 → IsOpenNet design flat n → Any (Has n) nets
    all n less is_open = by (cases_lt n limit) where
      by : (n < limit) ⊎ (limit ≤ n) → Any (Has n) nets
      by (inl low) = are.all n low is_open
      by (inr past) = let same : n ≡ limit = omega (arith, less, past) in absurd (closed (subst (IsOpenNet design flat) same is_open))

  any_before : (n : ℕ) (one : OpenNet A) → Any (Has n) nets → Any (Has n) (nets ++ one ∷ [])
  any_before n one any = let low = any.2 in let is = any.3 in (any.0, any.1, grind (arith, common_steps), grind (arith, common_steps), any.4)

  pub open_more : (one : OpenNet A) → one.net ≡ limit → IsOpenWith design flat one → AreOpenNetsBelow (limit + 1) design flat (nets ++ one ∷ [])
  open_more one is with = record {
    increasing =
        all_pairs_push (λ (a b : OpenNet A). a.net < b.net) nets one are.increasing (λ k d low. rw is (All-get_or (IsBelow limit) nets k d low are.below));
    below = All-push (IsBelow (limit + 1)) nets one wider (omega (arith, is));
    each = All-push (IsOpenWith design flat) nets one are.each with;
    all = all;
  }
    where
      all : (n : ℕ) → n < limit + 1 → IsOpenNet design flat n → Any (Has n) (nets ++ one ∷ [])
      all n less is_open = by (cases_lt n limit) where
        by : (n < limit) ⊎ (limit ≤ n) → Any (Has n) (nets ++ one ∷ [])
        by (inl low) = any_before n one (are.all n low is_open)
        by (inr past) = Any-push (Has n) nets one (omega (arith, less, past, is))

pub none_open : {A : Type 0} (design : DesignModel) (flat : FlatModel) → AreOpenNetsBelow {A = A} 0 design flat []
none_open {A} design flat = record {
  increasing = λ i j d less within. absurd (omega (arith, within));
  below = All-nil (λ (net : OpenNet A). net.net < 0);
  each = All-nil (IsOpenWith design flat);
  all = λ n less is_open. absurd (omega (arith, less));
}

pub all_open : {A : Type 0} (design : DesignModel) (flat : FlatModel) (limit : ℕ) (nets : List (OpenNet A)) → limit ≡ length design.nets
    → AreOpenNetsBelow limit design flat nets → AreOpenNets design flat nets
all_open design flat limit nets is are = record {
  increasing = are.increasing;
  each = are.each;
  all = λ n is_open. are.all n (rw is is_open.1.net) is_open;
}

-- the lists of the shapes' numbers, as they are taken one after another
pub lists_first : (flat : FlatModel) (count : ℕ) (lists : List (List ℕ)) → length lists ≡ count
    → ((net : ℕ) → net < count → AreNumbersOf flat.shapes net (get_or lists net [])) → AreListsFrom flat 0 count lists
lists_first flat count lists long each =
    record {
      count_is = omega (arith, long);
      each = λ k low. let same : k ≡ 0 + k = omega arith in
          subst (λ n. AreNumbersOf flat.shapes n (get_or lists k [])) same (each k (omega (arith, low, long)));
    }

pub list_here : (flat : FlatModel) (net count : ℕ) (own : List ℕ) (lists : List (List ℕ)) → AreListsFrom flat net count (own ∷ lists)
    → AreNumbersOf flat.shapes net own
list_here flat net count own lists are = let none : net + 0 ≡ net = omega arith in subst (λ n. AreNumbersOf flat.shapes n own) none (are.each 0 (omega arith))

pub lists_next : (flat : FlatModel) (net count : ℕ) (own : List ℕ) (lists : List (List ℕ)) → AreListsFrom flat net count (own ∷ lists)
    → AreListsFrom flat (net + 1) count lists
lists_next flat net count own lists are = record {
  count_is = let long = are.count_is in omega (arith, long);
  each = λ k low. let same : net + suc k ≡ (net + 1) + k = omega arith in
      subst (λ n. AreNumbersOf flat.shapes n (get_or lists k [])) same (are.each (suc k) (omega (arith, low)));
}
