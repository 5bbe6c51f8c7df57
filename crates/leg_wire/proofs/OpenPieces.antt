-- The pieces that aren't joined, listed net by net.
use Rattle.std.proofs.Common.{◌≡◌, ℕ, ◌+◌, ◌<◌, ◌≤◌, Bool, true, false, List, [], ◌∷◌, ◌++◌, length, map, get_or, Some, slice_get, ◌⊎◌, inl, inr, refl, sym, ap, ◌∙◌, arith}
use Rattle.std.specs.List.{range_with_len}
use Rattle.std.proofs.lemmas.Bool.{false≢true, cases_lt, cases_Bool}
use Rattle.std.proofs.lemmas.List.{append_assoc, append-nil}
use Rattle.std.proofs.lemmas.List.Elements.{All-nil, All-push, All-append, All-weaker, Contains-append_left, Contains-append_right, Contains-push}
use Rattle.std.proofs.lemmas.List.FromFn.{length-map-range_with_len}
use Rattle.std.proofs.lemmas.List.Quantifiers.{all_pairs_push}
use Rattle.std.proofs.lemmas.Option.{slice_get_within, slice_get-get_or, none-some}
use Rattle.leg_lemmas.proofs.Places.{get_first, get_last, last_or_before}
use Rattle.leg_sweep.proofs.Lists.{AllPairs-nil, AllPairs-append_by}
use Rattle.leg_design_records.specs.Records.{DesignModel}
use Rattle.leg_design_records.specs.declared.fault.Fault.{Fault}
use Rattle.leg_design_records.specs.declared.fault.Fault.TheVariants.{OpenNet}
use Rattle.leg_design_records.specs.Violation.{numbers_of, ComesBefore, IsListOf}
use Rattle.leg_rules.specs.Metal.Nets.{pieces_of}
use Rattle.leg_rules.specs.Metal.Flat.{FlatModel, IsFlatOf}
use Rattle.leg_wire.specs.PieceMarks.{AreMarks}
use Rattle.leg_rules.specs.Joins.Touch.{piece_count, AreJoined}
use Rattle.leg_rules.specs.Joins.Violations.{IsOpen, IsOpenViolation}
use Rattle.leg_rules.specs.Joins.Violations.IsOpenViolation.{open_net}
use Rattle.leg_wire.specs.Steps.OpenViolations.{NamesOnlyUnmarked}
use Rattle.leg_wire.specs.Steps.OpenViolations.NamesOnlyUnmarked.{unmarked}
use Rattle.leg_wire.specs.Steps.AddedFaults.{AreAdded}

module _ (net : ℕ) where
  tells_earlier : (marks : List Bool) (last : Bool) (v : Fault) → NamesOnlyUnmarked net marks v → NamesOnlyUnmarked net (marks ++ last ∷ []) v
  tells_earlier marks last v (unmarked {k = k} at) = unmarked (get_first marks (last ∷ []) k false at)

  tells_cases : (marks : List Bool) (last : Bool) (v : Fault) → NamesOnlyUnmarked net (marks ++ last ∷ []) v
      → NamesOnlyUnmarked net marks v ⊎ ((v ≡ OpenNet net (length marks)) × (last ≡ false))
  tells_cases marks last v (unmarked {k = k} at) =
      elim (last_or_before marks last k false at) [
        | inl earlier ↦ inl (unmarked earlier)
        | inr here ↦ inr (rw here.0 refl, sym here.1)
      ]

  -- the pieces without a mark come before the next piece
  tells_before : (marks : List Bool) (v : Fault) → NamesOnlyUnmarked net marks v → ComesBefore v (OpenNet net (length marks))
  tells_before marks v (unmarked {k = k} at) =
      let within : k < length marks = slice_get_within marks k false at in
      record { kind = omega arith; first = λ _. omega arith; second = λ _ _. within }

  nothing_unmarked : (v : Fault) → NamesOnlyUnmarked net [] v → ⊥
  nothing_unmarked v (unmarked at) = none-some false at

  -- no mark was looked at
  pub added_none : (before : List Fault) → AreAdded (NamesOnlyUnmarked net []) before before
  added_none before = record {
    more = [];
    is = sym (append-nil before);
    list = record { increasing = AllPairs-nil ComesBefore; each = All-nil (NamesOnlyUnmarked net []); all = λ v tells. absurd (nothing_unmarked v tells) };
  }

  module _ (marks : List Bool) (before after : List Fault) (done : AreAdded (NamesOnlyUnmarked net marks) before after) where
    -- one more piece that is marked
    pub added_skip : AreAdded (NamesOnlyUnmarked net (marks ++ true ∷ [])) before after
    added_skip = record {
      more = done.more;
      is = done.is;
      list = record {
        increasing = done.list.increasing;
        each = All-weaker (NamesOnlyUnmarked net marks) (NamesOnlyUnmarked net (marks ++ true ∷ [])) (tells_earlier marks true) done.more done.list.each;
        all = λ v tells. elim (tells_cases marks true v tells) [
          | inl earlier ↦ done.list.all v earlier
          | inr here ↦ absurd (false≢true (sym here.1))
        ];
      };
    }

    -- one more that isn't
    pub added_more : AreAdded (NamesOnlyUnmarked net (marks ++ false ∷ [])) before (after ++ OpenNet net (length marks) ∷ [])
    added_more = record {
      more = done.more ++ OpenNet net (length marks) ∷ [];
      is = ap (λ faults. faults ++ OpenNet net (length marks) ∷ []) done.is ∙ append_assoc before done.more (OpenNet net (length marks) ∷ []);
      list = record {
        increasing =
            all_pairs_push ComesBefore done.more (OpenNet net (length marks)) done.list.increasing
            (All-weaker (NamesOnlyUnmarked net marks) (λ v. ComesBefore v (OpenNet net (length marks))) (tells_before marks) done.more done.list.each);
        each =
            All-push (NamesOnlyUnmarked net (marks ++ false ∷ [])) done.more (OpenNet net (length marks))
            (All-weaker (NamesOnlyUnmarked net marks) (NamesOnlyUnmarked net (marks ++ false ∷ [])) (tells_earlier marks false) done.more done.list.each)
            (unmarked (get_last marks false));
        all = λ v tells. elim (tells_cases marks false v tells) [
          | inl earlier ↦ Contains-append_left done.more (OpenNet net (length marks) ∷ []) v (done.list.all v earlier)
          | inr here ↦ rw here.0 (Contains-push done.more (OpenNet net (length marks)))
        ];
      };
    }

-- a violation holds, and tells one of the first nets
pub record HoldsBelow (design : DesignModel) (flat : FlatModel) (end : ℕ) (v : Fault) : Type 0 where
  pub holds : IsOpenViolation design flat v
  pub below : (numbers_of v).0 < end

module _ (design : DesignModel) (flat : FlatModel) where
  -- the flat has a list of pieces for each entry
  pub nets_within : IsFlatOf design flat → length design.nets ≤ length flat.pieces
  nets_within is =
      let entries = length design.nets + length design.special in
      let many : length (map (pieces_of design) (range_with_len 0 entries)) ≡ entries = length-map-range_with_len (pieces_of design) 0 entries in
      rw is.pieces (omega (arith, many))

  below_nets : (v : Fault) → IsOpenViolation design flat v → (numbers_of v).0 < length design.nets
  below_nets v (open_net h) = h.net

  -- all nets were looked at
  pub open_end : (end : ℕ) (found : List Fault) → end ≡ length design.nets → IsListOf (HoldsBelow design flat end) found
      → IsListOf (IsOpenViolation design flat) found
  open_end end found last done = record {
    increasing = done.increasing;
    each = All-weaker (HoldsBelow design flat end) (IsOpenViolation design flat) (λ v held. held.holds) found done.each;
    all = λ v holds. done.all v (record { holds = holds; below = omega (arith, last, below_nets v holds) });
  }

  module _ (net : ℕ) (marks : List Bool) (entry : net < length design.nets) (marked : AreMarks (AreJoined flat net 0) (piece_count flat net) marks) where
    -- a piece without a mark isn't joined
    open_from_mark : (k : ℕ) → slice_get marks k ≡ Some false → IsOpen design flat net k
    open_from_mark k at =
        let within : k < length marks = slice_get_within marks k false at in
        record { net = entry; piece = rw marked.count at within; open_piece = λ joined. false≢true ((marked.each k false at).1 joined) }

    -- and one that isn't joined has none
    mark_from_open : (k : ℕ) → IsOpen design flat net k → slice_get marks k ≡ Some false
    mark_from_open k holds =
        let within : k < length marks = rw marked.count holds.piece in
        let at : slice_get marks k ≡ Some (get_or marks k false) = slice_get-get_or marks k false within in
        elim (cases_Bool (get_or marks k false)) [
          | inl yes_mark ↦ absurd (holds.open_piece ((marked.each k (get_or marks k false) at).0 yes_mark))
          | inr no_mark ↦ at ∙ ap Some no_mark
        ]

    below_from_unmarked : (v : Fault) → NamesOnlyUnmarked net marks v → HoldsBelow design flat (net + 1) v
    below_from_unmarked v (unmarked {k = k} at) = record { holds = open_net (open_from_mark k at); below = omega arith }

    -- a piece that isn't joined is of an earlier net, or has no mark
    below_cases : (v : Fault) → HoldsBelow design flat (net + 1) v → HoldsBelow design flat net v ⊎ NamesOnlyUnmarked net marks v
    below_cases v held = by v held.holds held.below where
      by : (v : Fault) → IsOpenViolation design flat v → (numbers_of v).0 < net + 1 → HoldsBelow design flat net v ⊎ NamesOnlyUnmarked net marks v
      by v (open_net {n = n} {k = k} h) below =
          elim (cases_lt n net) [
            | inl earlier ↦ inl (record { holds = open_net h; below = earlier })
            | inr late ↦
                let here : n ≡ net = omega (arith, below, late) in
                inr (rw here (unmarked (mark_from_open k (rw here at h))))
          ]

    -- the pieces of a net stand behind those of the nets before
    below_comes_before : (v w : Fault) → HoldsBelow design flat net v → NamesOnlyUnmarked net marks w → ComesBefore v w
    below_comes_before v w held tells = by v w held.holds held.below tells where
      by : (v w : Fault) → IsOpenViolation design flat v → (numbers_of v).0 < net → NamesOnlyUnmarked net marks w → ComesBefore v w
      by v w (open_net h) below (unmarked at) =
          record { kind = omega arith; first = λ _. omega (arith, below); second = λ _ same. absurd (omega (arith, below, same)) }

    -- the pieces of one more net
    pub open_more : (before after : List Fault) → IsListOf (HoldsBelow design flat net) before → AreAdded (NamesOnlyUnmarked net marks) before after
        → IsListOf (HoldsBelow design flat (net + 1)) after
    open_more before after done added = rw added.is (record {
      increasing =
          AllPairs-append_by ComesBefore (HoldsBelow design flat net) (NamesOnlyUnmarked net marks) below_comes_before before added.more
          done.each added.list.each done.increasing added.list.increasing;
      each =
          All-append (HoldsBelow design flat (net + 1)) before added.more
          (All-weaker (HoldsBelow design flat net) (HoldsBelow design flat (net + 1))
          (λ v held. record { holds = held.holds; below = omega (arith, held.below) }) before done.each)
          (All-weaker (NamesOnlyUnmarked net marks) (HoldsBelow design flat (net + 1)) below_from_unmarked added.more added.list.each);
      all = λ v held. elim (below_cases v held) [
        | inl earlier ↦ Contains-append_left before added.more v (done.all v earlier)
        | inr here ↦ Contains-append_right before added.more v (added.list.all v here)
      ];
    })
