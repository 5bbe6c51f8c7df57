-- The first mark that is set, and the marks that stand in another group.
use Rattle.std.proofs.Common.{◌≡◌, ℕ, ◌<◌, Bool, true, false, List, [], length, None, Some, slice_get, get_or, inl, inr, refl, sym, ap, ◌∙◌, arith}
use Rattle.std.specs.List.{position, position_or_len}
use Rattle.std.specs.Prelude.{nat_lt}
use Rattle.std.proofs.lemmas.Bool.{cases_lt, false≢true}
use Rattle.std.proofs.lemmas.List.Elements.{All-nil, All-weaker}
use Rattle.std.proofs.lemmas.Bool.Decides.{nat_tests}
use Rattle.std.proofs.lemmas.List.Quantifiers.{position-Some}
use Rattle.std.proofs.lemmas.List.Sums.{fails_before_first}
use Rattle.std.proofs.lemmas.Option.{slice_get_within, slice_get-get_or, get_or_from_slice_get, none-some}
use Rattle.leg_lemmas.proofs.RisingLists.{AllPairs-nil}
use Rattle.leg_drc.specs.Steps.CutOff.{IsFirstMark, IsApart, AreApart}
use Rattle.leg_drc.proofs.NumbersBelow.{IsBelow, AreBelow}

-- a mark as it is
abbrev as_it_is : Bool → Bool
as_it_is marked = marked

pub first_mark : (marks : List Bool) (first : ℕ) → position (λ marked. marked) marks ≡ Some first → IsFirstMark marks first
first_mark marks first is =
    let found = position-Some as_it_is marks first false is in
    record {
      set = slice_get-get_or marks first false found.0 ∙ ap Some found.1;
      least = λ k set. elim (cases_lt k first) [
        | inl before ↦ absurd (false≢true (sym (found.2 k before) ∙ get_or_from_slice_get marks k true false set))
        | inr late ↦ late
      ];
    }

-- no mark is set
no_mark : (marks : List Bool) → position (λ marked. marked) marks ≡ None → (k : ℕ) → slice_get marks k ≡ Some true → ⊥
no_mark marks none k set =
    let first = position_or_len as_it_is marks in
    elim (cases_lt first (length marks)) [
      | inl within ↦
          let test : nat_lt first (length marks) ≡ true = grind (arith, nat_tests) in
          let found : position (λ marked. marked) marks ≡ Some first = rw test refl in
          none-some first (sym none ∙ found)
      | inr past ↦
          let within : k < length marks = slice_get_within marks k true set in
          let unset : get_or marks k false ≡ false = fails_before_first as_it_is marks k false (omega (arith, within, past)) in
          false≢true (sym unset ∙ get_or_from_slice_get marks k true false set)
    ]

pub none_apart : (marks : List Bool) (groups : List ℕ) → position (λ marked. marked) marks ≡ None → AreApart marks groups []
none_apart marks groups none = record {
  increasing = AllPairs-nil (λ j k. j < k);
  each = All-nil (IsApart marks groups);
  all = λ k is. absurd (no_mark marks none k is.set);
}

-- all marks were looked at
pub apart_all : (marks : List Bool) (groups : List ℕ) (end : ℕ) (numbers : List ℕ) → end ≡ length marks → AreBelow (IsApart marks groups) end numbers
    → AreApart marks groups numbers
apart_all marks groups end numbers all done = record {
  increasing = done.increasing;
  each = All-weaker (IsBelow (IsApart marks groups) end) (IsApart marks groups) (λ k is. is.holds) numbers done.each;
  all = λ k is. done.all k (let within = slice_get_within marks k true is.set in omega (arith, all, within)) is;
}
