-- The kinds of pieces by their first bytes: white space, quoted words and plain ones.
use Rattle.std.proofs.Common.{◌≡◌, ℕ, Bool, true, false, not, ◌&&◌, ◌==◌, if◌then◌else◌, List, [], ◌∷◌, length, MatchBool, refl, arith}
use Rattle.std.proofs.lemmas.Bool.{eqb-true}
use Rattle.std.proofs.lemmas.Bool.Decides.{nat_tests}
use Rattle.std.proofs.lemmas.List.{nil_from_length}
use Rattle.leg_lex.specs.Cut.{Kind, White, Comment, Quoted, Plain, kind_of, Closes, is_white, is_line_feed}
use Rattle.leg_lex.specs.Words.{is_plain_kind, closes}

-- a byte that is no white space is no line feed
pub white_feeds : (b : ℕ) → is_white b ≡ false → is_line_feed b ≡ false
white_feeds b h = grind (arith, nat_tests)

pub plain_here : (b : ℕ) → is_plain_kind (kind_of b) ≡ true → kind_of b ≡ Plain
plain_here b test = by (kind_of b) test where
  by : (kind : Kind) → is_plain_kind kind ≡ true → kind ≡ Plain
  by White test = cc
  by Comment test = cc
  by Quoted test = cc
  by Plain test = refl

-- a quoted word begins with a quote, and nothing else does
pub quoted_byte : (b : ℕ) → kind_of b ≡ Quoted → b ≡ 34
quoted_byte b h = grind (arith, nat_tests)

pub quoted_here : (b : ℕ) → b ≡ 34 → kind_of b ≡ Quoted
quoted_here b e = rw e refl

-- the test of a quoted word's end decides it
pub closes_surely : (before : ℕ) (bytes : List ℕ) → closes before bytes ≡ true → Closes before bytes
closes_surely before [] test = cc
closes_surely before (b ∷ bytes) test = by (b == 34 && not (before == 92)) bytes (closes_surely b bytes) test where
  by : (end : Bool) (bytes : List ℕ) → (closes b bytes ≡ true → Closes b bytes) → (if end then length bytes == 0 else closes b bytes) ≡ true
      → MatchBool end (bytes ≡ []) (Closes b bytes)
  by true bytes later test = nil_from_length bytes (eqb-true _ _ test)
  by false bytes later test = later test
