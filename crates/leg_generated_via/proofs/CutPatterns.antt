-- Look-ups in patterns: the row of a number, and the digit at a place, of which each stands several times.
use Rattle.std.proofs.Common.{◌≡◌, ℕ, ◌+◌, ◌-◌, ◌<◌, ◌≤◌, true, false, List, [], length, map, get_or, drop, Option, None, Some, nat_lt, refl, Bor}
use Rattle.std.proofs.lemmas.List.{drop_more, drop_all}
use Rattle.leg_lex.specs.Until.{over}
use Rattle.leg_lex.proofs.EachElement.{at_front}
use Rattle.leg_grammar.specs.declared.cut_pattern.DigitRun.{DigitRun}
use Rattle.leg_grammar.specs.Def.CutPattern.{PatternRows, digits_of_row, digit_at}

pub row_found : (rows : List PatternRows) (i left : ℕ) (x : PatternRows) → i < length rows → x ≡ get_or rows i x → nat_lt left x.count ≡ true
    → digits_of_row (drop i rows) left ≡ x.digits
unfolding digits_of_row
row_found rows i left x less is here = rw (at_front rows i x less is, here) refl

pub row_passed : (rows : List PatternRows) (i left : ℕ) (x : PatternRows) → i < length rows → x ≡ get_or rows i x → nat_lt left x.count ≡ false
    → digits_of_row (drop i rows) left ≡ digits_of_row (drop (i + 1) rows) (left - x.count)
unfolding digits_of_row
row_passed rows i left x less is behind = rw (at_front rows i x less is, behind) refl

pub row_behind : (rows : List PatternRows) (i left : ℕ) → length rows ≤ i → digits_of_row (drop i rows) left ≡ []
unfolding digits_of_row
row_behind rows i left past = rw (drop_all i rows past) refl

pub digit_found : (runs : List DigitRun) (i left : ℕ) (d : DigitRun) → i < length runs → nat_lt left (get_or runs i d).times ≡ true
    → digit_at (drop i runs) left ≡ (get_or runs i d).digit
unfolding digit_at
digit_found runs i left d less here = rw (drop_more runs i d less, here) refl

pub digit_passed : (runs : List DigitRun) (i left : ℕ) (d : DigitRun) → i < length runs → nat_lt left (get_or runs i d).times ≡ false
    → digit_at (drop i runs) left ≡ digit_at (drop (i + 1) runs) (left - (get_or runs i d).times)
unfolding digit_at
digit_passed runs i left d less behind = rw (drop_more runs i d less, behind) refl

pub digit_behind : (runs : List DigitRun) (i left : ℕ) → length runs ≤ i → digit_at (drop i runs) left ≡ 0
unfolding digit_at
digit_behind runs i left past = rw (drop_all i runs past) refl

module _ {S : Type 0} (step : S → ℕ → Option S) where
  -- One more byte is taken.
  pub byte_goes_on : (made next : S) (bytes : List ℕ) (i : ℕ) → i < length bytes → step made (get_or bytes i 0) ≡ Some next
      → over step made (drop i bytes) ≡ over step next (drop (i + 1) bytes)
  unfolding over
  byte_goes_on made next bytes i less said = rw (drop_more bytes i 0 less, said) refl

  -- A byte isn't taken.
  pub byte_fails : (made : S) (bytes : List ℕ) (i : ℕ) → i < length bytes → step made (get_or bytes i 0) ≡ None → over step made (drop i bytes) ≡ None
  unfolding over
  byte_fails made bytes i less said = rw (drop_more bytes i 0 less, said) refl

module _ {S : Type 0} (step : S → List ℕ → Option S) where
  -- One more part is taken.
  pub part_goes_on : (made next : S) (parts : List (Bor (List ℕ))) (i : ℕ) (d : Bor (List ℕ)) → i < length parts → step made (get_or parts i d).now ≡ Some next
      → over step made (map (λ part. part.now) (drop i parts)) ≡ over step next (map (λ part. part.now) (drop (i + 1) parts))
  unfolding over
  part_goes_on made next parts i d less said = rw (drop_more parts i d less, said) refl

  -- A part isn't taken.
  pub part_fails : (made : S) (parts : List (Bor (List ℕ))) (i : ℕ) (d : Bor (List ℕ)) → i < length parts → step made (get_or parts i d).now ≡ None
      → over step made (map (λ part. part.now) (drop i parts)) ≡ None
  unfolding over
  part_fails made parts i d less said = rw (drop_more parts i d less, said) refl

  -- No part is left.
  pub parts_end : (made : S) (parts : List (Bor (List ℕ))) (i : ℕ) → length parts ≤ i → over step made (map (λ part. part.now) (drop i parts)) ≡ Some made
  unfolding over
  parts_end made parts i past = rw (drop_all i parts past) refl
