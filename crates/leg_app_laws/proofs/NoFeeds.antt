-- Texts without a line feed: names and decimals have none.
use Rattle.std.proofs.Common.{◌≡◌, ℕ, zero, suc, ◌+◌, ◌/◌, ◌%◌, ◌==◌, nat_lt, if◌then◌else◌, Bool, true, false, List, [], ◌∷◌, ◌++◌, ℤ, pos, negsuc, refl, sym, decimal, arith}
use Rattle.std.specs.Fmt.{digit_glyph, digits_onto, digits, signed_decimal}
use Rattle.std.specs.List.{list_any}
use Rattle.std.proofs.lemmas.Bool.{false≢true}
use Rattle.std.proofs.lemmas.Bool.Decides.{nat_tests}
use Rattle.std.proofs.lemmas.List.Folds.{list_any-append}
use Rattle.leg_lex.specs.Cut.{kind_of, is_white, is_line_feed}
use Rattle.leg_lex.specs.Words.{is_name, is_plain_kind}
use Rattle.leg_lex.proofs.PieceKinds.{white_feeds}

-- no byte of the text is a line feed
abbrev pub HasNoFeed : List ℕ → Type 0
HasNoFeed text = list_any is_line_feed text ≡ false

pub feed_append : (front back : List ℕ) → HasNoFeed front → HasNoFeed back → HasNoFeed (front ++ back)
feed_append front back first next = rw (list_any-append is_line_feed front back, first, next) refl

-- A name has none, since it has no white space.
plain_feed : (b : ℕ) → is_plain_kind (kind_of b) ≡ true → is_line_feed b ≡ false
plain_feed b plain = by (is_white b) refl where
  by : (white : Bool) → is_white b ≡ white → is_line_feed b ≡ false
  by false is = white_feeds b is
  by true is = absurd (false≢true (rw is at plain))

black_feeds : (bytes : List ℕ) → list_any is_white bytes ≡ false → HasNoFeed bytes
black_feeds [] none = refl
black_feeds (b ∷ bytes) none = by (black_feeds bytes) (is_white b) (list_any is_white bytes) refl refl where
  by : (list_any is_white bytes ≡ false → HasNoFeed bytes) → (first others : Bool) → is_white b ≡ first → list_any is_white bytes ≡ others
      → HasNoFeed (b ∷ bytes)
  by later false false here there = rw (white_feeds b here, later there) refl
  by later false true here there = absurd (false≢true (sym (rw (here, there) at none)))
  by later true others here there = absurd (false≢true (sym (rw here at none)))

pub name_feed : (name : List ℕ) → is_name name ≡ true → HasNoFeed name
name_feed [] is = refl
name_feed (b ∷ bytes) is = by (is_plain_kind (kind_of b)) (list_any is_white bytes) refl refl where
  by : (plain white : Bool) → is_plain_kind (kind_of b) ≡ plain → list_any is_white bytes ≡ white → HasNoFeed (b ∷ bytes)
  by true false here there = rw (plain_feed b here, black_feeds bytes there) refl
  by true true here there = absurd (false≢true (rw (here, there) at is))
  by false white here there = absurd (false≢true (rw here at is))

-- Nor have decimals.
glyph_feed : (d : ℕ) → is_line_feed (digit_glyph false d) ≡ false
glyph_feed d = by (nat_lt d 10) where
  by : (below : Bool) → is_line_feed (if below then 48 + d else 87 + d) ≡ false
  by true = grind (arith, nat_tests)
  by false = grind (arith, nat_tests)

digits_feed : (k n : ℕ) (after : List ℕ) → HasNoFeed after → HasNoFeed (digits_onto k 10 false n after)
digits_feed zero n after none = none
digits_feed (suc k) n after none = by (n / 10 == 0) (digits_feed k (n / 10) (digit_glyph false (n % 10) ∷ after) more) where
  more : HasNoFeed (digit_glyph false (n % 10) ∷ after)
  more = rw (glyph_feed (n % 10), none) refl

  by : (last : Bool) → HasNoFeed (digits_onto k 10 false (n / 10) (digit_glyph false (n % 10) ∷ after))
      → HasNoFeed (if last then digit_glyph false (n % 10) ∷ after else digits_onto k 10 false (n / 10) (digit_glyph false (n % 10) ∷ after))
  by true later = more
  by false later = later

pub decimal_feed : (n : ℕ) → HasNoFeed (decimal n)
unfolding digits
decimal_feed n = digits_feed 64 n [] refl

pub number_feed : (z : ℤ) → HasNoFeed (signed_decimal z)
number_feed (pos n) = decimal_feed n
number_feed (negsuc n) = decimal_feed (suc n)
