-- What a word denotes as a number: the whole numbers of DEF, and the lengths of LEF in millionths of a
-- micron (LEF/DEF 5.8, "UNITS"; that nothing is rounded, and the limits, are lefdef's own rules).
use Rattle.std.specs.Prelude.{◌≡◌, ℕ, ◌+◌, ◌≤◌, Bool, false, not, ◌&&◌, ◌||◌, ◌==◌, nat_le, if◌then◌else◌, List, [], ◌∷◌, ◌++◌, length, take, drop, ℤ, pos, neg_ℤ, ◌*ℤ◌, Result, Ok, Err, codes, unsigned_abs}
use Rattle.std.specs.List.{before_first, after_first, list_all}
use Rattle.std.specs.Str.{all_ascii_digits}
use Rattle.std.specs.Str.Parse.{digits_value}
use Rattle.leg_lex.specs.declared.limits.TheConstants.{NUMBER_LIMIT, MILLIONTHS_LIMIT}
use Rattle.leg_lex.specs.declared.fault.NumFault.{NumFault}
use Rattle.leg_lex.specs.declared.fault.NumFault.TheVariants.{BadNumber, TooLarge, NotOnUnit}

-- a whole number that a DEF may have
abbrev pub IsNumber : ℤ → Type 0
IsNumber z = unsigned_abs z ≤ NUMBER_LIMIT

-- the word without a `+` (43) or `-` (45) as its first byte
abbrev pub without_sign : List ℕ → List ℕ
without_sign [] = []
without_sign (b ∷ bytes) = if b == 43 || b == 45 then bytes else b ∷ bytes

abbrev pub is_negative : List ℕ → Bool
is_negative [] = false
is_negative (b ∷ bytes) = b == 45

abbrev pub signed : Bool → ℕ → ℤ
signed negative n = if negative then neg_ℤ (pos n) else pos n

-- a number of the form, where it lies within the limit
abbrev pub within : ℕ → Bool → ℕ → Result ℤ NumFault
within limit negative n = if nat_le n limit then Ok (signed negative n) else Err TooLarge

-- a whole number is an optional sign and one or more digits
abbrev pub is_whole : List ℕ → Bool
is_whole word = all_ascii_digits (without_sign word) && not (length (without_sign word) == 0)

abbrev pub whole_of : List ℕ → Result ℤ NumFault
whole_of word =
    if is_whole word then within NUMBER_LIMIT (is_negative word) (digits_value 10 (without_sign word))
    else Err BadNumber

abbrev pub is_point : ℕ → Bool
is_point b = b == 46

-- the digits before the point of a length, and those after it
abbrev pub microns_part : List ℕ → List ℕ
microns_part word = before_first is_point (without_sign word)

abbrev pub decimals : List ℕ → List ℕ
decimals word = after_first is_point (without_sign word)

-- Before and after the point of a length are digits, with one digit at least. What comes
-- after the sixth decimal is zeros, so that millionths of a micron denote it exactly.
abbrev pub are_length : List ℕ → List ℕ → Bool
are_length before after =
    all_ascii_digits before && all_ascii_digits after && not (length before + length after == 0)
    && list_all (λ b. b == 48) (drop 6 after)

-- a length is an optional sign, digits, an optional point and digits
abbrev pub is_length : List ℕ → Bool
is_length word = are_length (microns_part word) (decimals word)

-- the millionths that are denoted by the digits before the point with six after it, where zeros follow
abbrev pub millionths_of : List ℕ → List ℕ → ℕ
millionths_of before after = digits_value 10 (before ++ take 6 (after ++ codes "000000"))

abbrev pub millionths_in : List ℕ → ℕ
millionths_in word = millionths_of (microns_part word) (decimals word)

abbrev pub micron_of : List ℕ → Result ℤ NumFault
micron_of word =
    if is_length word then within MILLIONTHS_LIMIT (is_negative word) (millionths_in word)
    else Err BadNumber

-- m millionths of a micron are u units, at n units a micron
abbrev pub IsUnits : ℤ → ℕ → ℤ → Type 0
IsUnits m n u = u *ℤ pos 1000000 ≡ m *ℤ pos n

-- what m millionths are at n units a micron: never rounded, and refused beyond the limit
abbrev pub AreUnits : ℤ → ℕ → Result ℤ NumFault → Type 0
AreUnits m n (Ok u) = IsUnits m n u × IsNumber u
AreUnits m n (Err NotOnUnit) = (u : ℤ) → ¬ IsUnits m n u
AreUnits m n (Err TooLarge) = (u : ℤ) × IsUnits m n u × ¬ IsNumber u
AreUnits m n (Err BadNumber) = ⊥
