-- What stands before the first point and after it, by the place that a search of it found.
use Rattle.std.proofs.Common.{◌≡◌, ℕ, ◌+◌, ◌-◌, ◌<◌, Bool, true, false, List, [], length, take, drop, Some, None, refl, sym, ap, ◌∙◌, arith}
use Rattle.std.specs.List.{position_or_len, before_first, after_first}
use Rattle.std.proofs.lemmas.List.{take_rest, take_all, drop_all}
use Rattle.std.proofs.lemmas.List.Sums.{position_or_len_is}
use Rattle.memchr.specs.Find.{IsFirstByte, is_byte}
use Rattle.leg_lex.specs.Number.{is_point}

not_true : (b : Bool) → ¬ (b ≡ true) → b ≡ false
not_true true h = absurd (h refl)
not_true false h = refl

first_point : (text : List ℕ) (place : ℕ) → IsFirstByte (is_byte 46) text (Some place) → position_or_len is_point text ≡ place
first_point text place found =
    let below : place < length text = found.0.high in
    position_or_len_is is_point text place 0 (omega arith)
    (λ k h. not_true _ (found.0.before k (omega arith) h))
    (λ _. found.1)

no_point : (text : List ℕ) → IsFirstByte (is_byte 46) text None → position_or_len is_point text ≡ length text
no_point text nowhere =
    position_or_len_is is_point text (length text) 0 (omega arith)
    (λ k h. not_true _ (nowhere k (omega arith) h))
    (λ h. absurd (omega arith))

pub before_point : (text : List ℕ) (place : ℕ) → IsFirstByte (is_byte 46) text (Some place) → take place text ≡ before_first is_point text
before_point text place found = ap (λ k. take k text) (sym (first_point text place found))

pub after_point : (text : List ℕ) (place : ℕ) → IsFirstByte (is_byte 46) text (Some place)
    → take (length text - (place + 1)) (drop (place + 1) text) ≡ after_first is_point text
after_point text place found = take_rest text (place + 1) ∙ ap (λ k. drop (k + 1) text) (sym (first_point text place found))

pub before_no_point : (text : List ℕ) → IsFirstByte (is_byte 46) text None → text ≡ before_first is_point text
before_no_point text nowhere = let e = no_point text nowhere in rw e (sym (take_all (length text) text (omega arith)))

pub after_no_point : (text : List ℕ) → IsFirstByte (is_byte 46) text None → [] ≡ after_first is_point text
after_no_point text nowhere = let e = no_point text nowhere in rw e (sym (drop_all (length text + 1) text (omega arith)))

pub ruleset points = (before_point, after_point, before_no_point, after_no_point)
