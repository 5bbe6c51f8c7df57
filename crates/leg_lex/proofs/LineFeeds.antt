-- Where a piece has no line feed.
use Rattle.std.proofs.Common.{◌≡◌, ◌≢◌, ℕ, ◌≤◌, false, List, [], ◌∷◌, length, get_or, count_by, refl, sym, ap, subst, arith}
use Rattle.std.proofs.lemmas.Bool.{ne_eqb}
use Rattle.leg_lex.specs.Cut.{Kind, White, Comment, Quoted, Plain, kind_of, Ends, IsPiece, is_white, is_line_feed}
use Rattle.leg_lex.proofs.Runs.{runs_count}
use Rattle.leg_lex.proofs.PieceKinds.{quoted_byte, white_feeds}

count_after : (b : ℕ) (bytes : List ℕ) → is_line_feed b ≡ false → count_by is_line_feed bytes ≡ 0 → 0 ≡ count_by is_line_feed (b ∷ bytes)
count_after b bytes h g = rw h (sym g)

plain_feeds : (kind : Kind) (b : ℕ) → kind_of b ≡ kind → kind ≢ White → is_line_feed b ≡ false
plain_feeds kind b is_kind other = ne_eqb b 10 (λ e. other (sym (subst (λ x. kind_of x ≡ kind) e is_kind)))

ends_feeds : (kind : Kind) (b : ℕ) (bytes after : List ℕ) → kind_of b ≡ kind → Ends kind b bytes after → (b ∷ bytes) ≢ 10 ∷ [] → b ≢ 34
    → 0 ≡ count_by is_line_feed (b ∷ bytes)
ends_feeds White b bytes after is_kind ends other quote =
    count_after b bytes (ne_eqb b 10 (λ e. other cc)) (rw ends refl)
ends_feeds Comment b bytes after is_kind ends other quote =
    count_after b bytes (plain_feeds Comment b is_kind (λ e. cc)) (runs_count is_line_feed is_line_feed bytes after (λ _ h. h) ends)
ends_feeds Quoted b bytes after is_kind ends other quote = absurd (quote (quoted_byte b is_kind))
ends_feeds Plain b bytes after is_kind ends other quote =
    count_after b bytes (plain_feeds Plain b is_kind (λ e. cc)) (runs_count is_white is_line_feed bytes after white_feeds ends)

pub line_feeds_none : (piece : List ℕ) → ((after : List ℕ) × IsPiece piece after) → 2 ≤ length piece → get_or piece 0 0 ≢ 34 → 0 ≡ count_by is_line_feed piece
line_feeds_none [] is_piece long quote = refl
line_feeds_none (b ∷ bytes) (after, is_piece) long quote =
    ends_feeds (kind_of b) b bytes after refl is_piece (λ e. absurd (omega (arith, ap length e))) quote

pub plain_feeds_none : (b : ℕ) (bytes after : List ℕ) → kind_of b ≡ Plain → IsPiece (b ∷ bytes) after → count_by is_line_feed (b ∷ bytes) ≡ 0
plain_feeds_none b bytes after is is_piece =
    sym (count_after b bytes (plain_feeds Plain b is (λ e. cc)) (runs_count is_white is_line_feed bytes after white_feeds (rw is at is_piece)))
