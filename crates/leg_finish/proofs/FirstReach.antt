-- The first piece that cannot be reached, net by net.
use Rattle.std.proofs.Common.{◌≡◌, ℕ, ◌<◌, List, length, get_or, inl, inr, sym, subst, ap, ◌∙◌, arith}
use Rattle.std.specs.List.{AllWithin}
use Rattle.std.proofs.lemmas.Bool.{cases_order}
use Rattle.std.proofs.lemmas.List.{get_or_default}
use Rattle.leg_design_records.specs.Records.{DesignModel}
use Rattle.leg_rules.specs.Metal.Flat.{FlatModel}
use Rattle.leg_finish.specs.declared.groups.OpenNet.{OpenNet}
use Rattle.leg_rules.specs.Finish.Reach.{IsUnreachable, IsFirstOfNet, IsEarlierPiece, IsFirstUnreachable, AreReachable}
use Rattle.leg_finish.specs.Steps.OpenNets.{AreOpenNets}

-- each piece of the net can be reached
abbrev pub IsReached : {A : Type 0} → DesignModel → FlatModel → OpenNet A → Type 0
IsReached design flat net = (piece : ℕ) → ¬ IsUnreachable design flat net.net piece

module _ {A : Type 0} (design : DesignModel) (flat : FlatModel) (nets : List (OpenNet A)) (are : AreOpenNets design flat nets) where
  -- a piece that cannot be reached is one of an open net
  of_reached : (j : ℕ) (x : OpenNet A) (net piece : ℕ) → get_or nets j x ≡ x → x.net ≡ net → IsReached design flat (get_or nets j x)
      → ¬ IsUnreachable design flat net piece
  of_reached j x net piece is same reached unreachable =
      subst (λ (o : OpenNet A). IsReached design flat o) is reached piece (subst (λ n. IsUnreachable design flat n piece) (sym same) unreachable)

  -- all nets were gone through
  pub all_reached : AllWithin (IsReached design flat) nets 0 (length nets) → AreReachable design flat
  all_reached reached net piece unreachable =
      let o = are.all net unreachable.is_open in of_reached o.0 o.1 net piece o.3 o.4 (reached o.0 o.1 (omega arith) o.2) unreachable

  module _ (i : ℕ) (net : OpenNet A) (within : i < length nets) (read : net ≡ get_or nets i net) where
    -- a net of a lesser number stands before this one
    before : (j : ℕ) (x : OpenNet A) → j < length nets → get_or nets j x ≡ x → x.net < net.net → j < i
    before j x below is less =
        let here : get_or nets i x ≡ net = get_or_default nets i x net within ∙ sym read in
        let its : (get_or nets i x).net ≡ net.net = ap (λ (o : OpenNet A). o.net) here in
        let other : (get_or nets j x).net ≡ x.net = ap (λ (o : OpenNet A). o.net) is in
        elim (cases_order j i) [
          | inl same ↦ let at : (get_or nets j x).net ≡ (get_or nets i x).net = ap (λ (k : ℕ). (get_or nets k x).net) same in
              absurd (omega (arith, at, its, other, less))
          | inr (inl earlier) ↦ earlier
          | inr (inr later) ↦ let rise : (get_or nets i x).net < (get_or nets j x).net = are.increasing i j x later below in
              absurd (omega (arith, rise, its, other, less))
        ]

    -- no piece of an earlier net, and no earlier one of this net
    pub first_of_all : (piece : ℕ) → AllWithin (IsReached design flat) nets 0 i → IsFirstOfNet design flat net.net piece
        → IsFirstUnreachable design flat net.net piece
    first_of_all piece reached found = record { unreachable = found.unreachable; first = none } where
      none : (other k : ℕ) → IsEarlierPiece other k net.net piece → ¬ IsUnreachable design flat other k
      none other k (inl less) unreachable =
          let o = are.all other unreachable.is_open in
          let same : o.1.net ≡ other = o.4 in
          of_reached o.0 o.1 other k o.3 same (reached o.0 o.1 (omega arith) (before o.0 o.1 o.2 o.3 (omega (arith, less, same)))) unreachable
      none other k (inr (same, less)) unreachable = found.first k less (subst (λ n. IsUnreachable design flat n k) same unreachable)
