-- Numbers in decimals, as words.
use Rattle.std.proofs.Common.{◌≡◌, ℕ, suc, ◌-◌, ◌^◌, ◌<◌, ◌≤◌, Bool, true, false, not, ◌&&◌, ◌==◌, List, [], ◌∷◌, length, get_or, ℤ, pos, negsuc, decimal, Ok, refl, arith}
use Rattle.std.specs.Fmt.{signed_decimal}
use Rattle.std.specs.Int.{IsInRange}
use Rattle.std.specs.List.{list_any}
use Rattle.std.specs.Str.{all_ascii_digits}
use Rattle.std.specs.Str.Parse.{digits_value}
use Rattle.std.proofs.lemmas.Fmt.{decimal_is_IsNumeral, digits_decimal, decimal_nonempty}
use Rattle.std.proofs.lemmas.Str.Parse.{numerals_by_value, tells_all_ascii_digits, tells_by_index}
use Rattle.std.proofs.lemmas.Bool.Decides.{nat_tests}
use Rattle.std.proofs.lemmas.Bool.{le-leb}
use Rattle.leg_lex.specs.declared.limits.TheConstants.{NUMBER_LIMIT}
use Rattle.leg_lex.specs.Cut.{kind_of, is_white}
use Rattle.leg_lex.specs.Words.{is_name, is_plain_kind, is_mark, is_mark_byte}
use Rattle.leg_lex.specs.Number.{IsNumber, whole_of}
use Rattle.leg_output.specs.Words.{stays_one, is_printable}

-- What is known of the word of a number.
pub record IsNumberWord (z : ℤ) (word : List ℕ) : Type 0 where
  pub name : is_name word ≡ true
  pub printable : is_printable word ≡ true
  pub back : whole_of word ≡ Ok z

-- What is known of one digit or more.
record AreDigits (n : ℕ) (digits : List ℕ) : Type 0 where
  pub some : 0 < length digits
  pub all : all_ascii_digits digits ≡ true
  pub each : (i : ℕ) → i < length digits → IsInRange 48 57 (get_or digits i 0)
  pub value : digits_value 10 digits ≡ n

decimal_digits : (n : ℕ) → n < 2 ^ 64 → AreDigits n (decimal n)
decimal_digits n small = record {
  some = decimal_nonempty n small;
  all = digits_decimal (numerals_by_value _ tells_all_ascii_digits) n small;
  each = digits_decimal (numerals_by_value _ tells_by_index) n small;
  value = (decimal_is_IsNumeral n small).1;
}

-- a digit is neither white space, nor a mark, nor a sign
digit_not_white : (d : ℕ) → IsInRange 48 57 d → is_white d ≡ false
digit_not_white d is = grind (arith, nat_tests)

digit_plain : (d : ℕ) → IsInRange 48 57 d → is_plain_kind (kind_of d) ≡ true
digit_plain d is =
    let quote : (d == 34) ≡ false = grind (arith, nat_tests) in
    let comment : (d == 35) ≡ false = grind (arith, nat_tests) in
    rw (digit_not_white d is, comment, quote) refl

digit_no_mark : (d : ℕ) → IsInRange 48 57 d → is_mark_byte d ≡ false
digit_no_mark d is = grind (arith, nat_tests)

no_mark : (d : ℕ) (digits : List ℕ) → IsInRange 48 57 d → is_mark (d ∷ digits) ≡ false
no_mark d [] is = digit_no_mark d is
no_mark d (next ∷ digits) is = refl

none_white : (digits : List ℕ) → ((i : ℕ) → i < length digits → IsInRange 48 57 (get_or digits i 0)) → list_any is_white digits ≡ false
none_white [] each = refl
none_white (d ∷ digits) each =
    rw (digit_not_white d (each 0 (omega arith)), none_white digits (λ i h. each (suc i) (omega arith))) refl

digit_stays : (some : Bool) (last : ℕ) → IsInRange 48 57 last → not (some && last == 59) ≡ true
digit_stays some last is = grind (arith, nat_tests)

some_there : (d : ℕ) (digits : List ℕ) → (length (d ∷ digits) == 0) ≡ false
some_there d digits = grind (arith, nat_tests)

-- digits alone, and digits behind a minus sign (45)
positive_word : (n : ℕ) (digits : List ℕ) → n ≤ NUMBER_LIMIT → AreDigits n digits → IsNumberWord (pos n) digits
positive_word n [] le are = absurd (omega (arith, are.some))
positive_word n (d ∷ digits) le are =
    let first : IsInRange 48 57 d = are.each 0 (omega arith) in
    let none : list_any is_white digits ≡ false = none_white digits (λ i h. are.each (suc i) (omega arith)) in
    let stays : stays_one (d ∷ digits) ≡ true = digit_stays _ _ (are.each (length (d ∷ digits) - 1) (omega arith)) in
    let plus : (d == 43) ≡ false = grind (arith, nat_tests) in
    let minus : (d == 45) ≡ false = grind (arith, nat_tests) in record {
      name = rw (digit_plain d first, none, no_mark d digits first) refl;
      printable = rw (digit_plain d first, none, stays) refl;
      back = rw (plus, minus, are.all, some_there d digits, are.value, le-leb n NUMBER_LIMIT le) refl;
    }

negative_word : (n : ℕ) (digits : List ℕ) → suc n ≤ NUMBER_LIMIT → AreDigits (suc n) digits → IsNumberWord (negsuc n) (45 ∷ digits)
negative_word n [] le are = absurd (omega (arith, are.some))
negative_word n (d ∷ digits) le are =
    let none : list_any is_white (d ∷ digits) ≡ false = none_white (d ∷ digits) are.each in
    let e : length (45 ∷ d ∷ digits) - 1 ≡ suc (length (d ∷ digits) - 1) = omega arith in
    let last : IsInRange 48 57 (get_or (45 ∷ d ∷ digits) (length (45 ∷ d ∷ digits) - 1) 0) = rw e (are.each (length (d ∷ digits) - 1) (omega arith)) in
    let stays : stays_one (45 ∷ d ∷ digits) ≡ true = digit_stays _ _ last in record {
      name = rw none refl;
      printable = rw (none, stays) refl;
      back = rw (are.all, some_there d digits, are.value, le-leb (suc n) NUMBER_LIMIT le) refl;
    }

pub number_word : (z : ℤ) → IsNumber z → IsNumberWord z (signed_decimal z)
number_word (pos n) is = positive_word n (decimal n) is (decimal_digits n (omega arith))
number_word (negsuc n) is = negative_word n (decimal (suc n)) is (decimal_digits (suc n) (omega arith))
