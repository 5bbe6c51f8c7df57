-- Comment lines at the end of a text: they have no words, and leave those before them as they are.
use Rattle.std.proofs.Common.{◌≡◌, ℕ, ◌≤◌, Bool, true, false, List, [], ◌∷◌, ◌++◌, length, Option, refl, sym, ap, ◌∙◌}
use Rattle.std.proofs.lemmas.Bool.{false≢true}
use Rattle.std.proofs.lemmas.List.{append_assoc, append-nil}
use Rattle.leg_lex.specs.declared.limits.TheConstants.{TEXT_LIMIT}
use Rattle.leg_lex.specs.Word.{texts}
use Rattle.leg_lex.specs.Cut.{Kind, White, Comment, Quoted, Plain, kind_of, is_white, is_line_feed, RunsTo, Ends, IsPiece, CutTo, Cut}
use Rattle.leg_lex.specs.Tokens.{words_from}
use Rattle.leg_lex.specs.Words.{Words}
use Rattle.leg_lex.specs.Denotes.{Denotes}
use Rattle.leg_print_words.proofs.LeadingBlanks.{cut_append, said_append}
use Rattle.leg_print_words.proofs.Lines.{Lines, lines_are_cut}
use Rattle.leg_app_laws.proofs.NoFeeds.{HasNoFeed}

-- A comment goes on to the end of its line.
runs_to_feed : (bytes rest : List ℕ) → HasNoFeed bytes → RunsTo is_line_feed bytes (10 ∷ rest)
runs_to_feed [] rest none = refl
runs_to_feed (b ∷ bytes) rest none = by (runs_to_feed bytes rest) (is_line_feed b) refl where
  by : (HasNoFeed bytes → RunsTo is_line_feed bytes (10 ∷ rest)) → (feed : Bool) → is_line_feed b ≡ feed → RunsTo is_line_feed (b ∷ bytes) (10 ∷ rest)
  by later false is = (is, later (rw is at none))
  by later true is = absurd (false≢true (sym (rw is at none)))

-- a line that begins with `#` (35) has no words
pub comment_line : (bytes : List ℕ) → HasNoFeed bytes → Lines (35 ∷ (bytes ++ 10 ∷ [])) []
comment_line bytes none = record {
  pieces = (35 ∷ bytes) ∷ (10 ∷ []) ∷ [];
  cut = λ rest. (10 ∷ rest, ap (λ t. 35 ∷ t) (append_assoc bytes (10 ∷ []) rest), runs_to_feed bytes rest none, (rest, refl, refl, refl));
  said = λ n. refl;
}

-- The text ends with a line feed.
pub record EndsLine (text : List ℕ) : Type 0 where
  pub front : List ℕ
  pub is : text ≡ front ++ 10 ∷ []

some_left : (front : List ℕ) (x : ℕ) (xs : List ℕ) → front ++ x ∷ xs ≡ [] → ⊥
some_left [] x xs is = cc
some_left (b ∷ front) x xs is = cc

rest_ends : (front piece : List ℕ) (x : ℕ) (xs : List ℕ) → piece ++ x ∷ xs ≡ front ++ 10 ∷ [] → EndsLine (x ∷ xs)
rest_ends front [] x xs is = record { front = front; is = is }
rest_ends [] (p ∷ piece) x xs is = absurd (some_left piece x xs (let e : piece ++ x ∷ xs ≡ [] = cc in e))
rest_ends (f ∷ front) (p ∷ piece) x xs is = rest_ends front piece x xs (let e : piece ++ x ∷ xs ≡ front ++ 10 ∷ [] = cc in e)

-- a run that a line feed stops doesn't reach the end of such a text
no_run : (stop : ℕ → Bool) (run front : List ℕ) → stop 10 ≡ true → RunsTo stop run [] → run ≡ front ++ 10 ∷ [] → ⊥
no_run stop [] front stops runs is = some_left front 10 [] (sym is)
no_run stop (b ∷ run) [] stops runs is = (let e : b ≡ 10 = cc in false≢true (sym (rw e at runs.0) ∙ stops))
no_run stop (b ∷ run) (f ∷ front) stops runs is = no_run stop run front stops runs.1 (let e : run ≡ front ++ 10 ∷ [] = cc in e)

-- so a piece at its end ends there whatever comes after it
ends_there : (kind : Kind) (b : ℕ) (bytes front more : List ℕ) → kind_of b ≡ kind → b ∷ bytes ≡ front ++ 10 ∷ [] → Ends kind b bytes [] → Ends kind b bytes more
ends_there White b bytes front more is_kind is ends = ends
ends_there Quoted b bytes front more is_kind is ends = ends
ends_there Comment b bytes [] more is_kind is ends = (let e : b ≡ 10 = cc in absurd (let no : White ≡ Comment = rw e at is_kind in cc))
ends_there Plain b bytes [] more is_kind is ends = (let e : b ≡ 10 = cc in absurd (let no : White ≡ Plain = rw e at is_kind in cc))
ends_there Comment b bytes (f ∷ front) more is_kind is ends = absurd (no_run is_line_feed bytes front refl ends (let e : bytes ≡ front ++ 10 ∷ [] = cc in e))
ends_there Plain b bytes (f ∷ front) more is_kind is ends = absurd (no_run is_white bytes front refl ends (let e : bytes ≡ front ++ 10 ∷ [] = cc in e))

last_piece : (piece front more : List ℕ) → piece ≡ front ++ 10 ∷ [] → IsPiece piece [] → IsPiece piece more
last_piece [] front more is is_piece = absurd is_piece
last_piece (b ∷ bytes) front more is is_piece = ends_there (kind_of b) b bytes front more refl is is_piece

-- and a piece before others ends where it did
runs_there : (stop : ℕ → Bool) (run : List ℕ) (x : ℕ) (xs more : List ℕ) → RunsTo stop run (x ∷ xs) → RunsTo stop run (x ∷ (xs ++ more))
runs_there stop [] x xs more runs = runs
runs_there stop (b ∷ run) x xs more runs = (runs.0, runs_there stop run x xs more runs.1)

ends_before : (kind : Kind) (b : ℕ) (bytes : List ℕ) (x : ℕ) (xs more : List ℕ) → Ends kind b bytes (x ∷ xs) → Ends kind b bytes (x ∷ (xs ++ more))
ends_before White b bytes x xs more ends = ends
ends_before Comment b bytes x xs more ends = runs_there is_line_feed bytes x xs more ends
ends_before Quoted b bytes x xs more ends = ends
ends_before Plain b bytes x xs more ends = runs_there is_white bytes x xs more ends

first_piece : (piece : List ℕ) (x : ℕ) (xs more : List ℕ) → IsPiece piece (x ∷ xs) → IsPiece piece (x ∷ (xs ++ more))
first_piece [] x xs more is_piece = absurd is_piece
first_piece (b ∷ bytes) x xs more is_piece = ends_before (kind_of b) b bytes x xs more is_piece

no_piece : (piece after : List ℕ) → [] ≡ piece ++ after → IsPiece piece after → ⊥
no_piece [] after is is_piece = is_piece
no_piece (b ∷ bytes) after is is_piece = cc

cut_of_nothing : (pieces : List (List ℕ)) (more : List ℕ) → Cut pieces [] → CutTo more pieces more
cut_of_nothing [] more cut = refl
cut_of_nothing (piece ∷ pieces) more (after, here, is_piece, cut) = absurd (no_piece piece after here is_piece)

-- A text that ends with a line feed is cut as it was, whatever comes after it.
pub cut_before : (pieces : List (List ℕ)) (text more : List ℕ) → EndsLine text → Cut pieces text → CutTo more pieces (text ++ more)
cut_before [] text more ends cut = absurd (some_left ends.front 10 [] (sym ends.is ∙ cut))
cut_before (piece ∷ pieces) text more ends ([], here, is_piece, cut) =
    let whole : text ≡ piece = here ∙ append-nil piece in
    (more, ap (λ t. t ++ more) whole, last_piece piece ends.front more (sym whole ∙ ends.is) is_piece, cut_of_nothing pieces more cut)
cut_before (piece ∷ pieces) text more ends (x ∷ xs, here, is_piece, cut) = (
  x ∷ (xs ++ more),
  ap (λ t. t ++ more) here ∙ append_assoc piece (x ∷ xs) more,
  first_piece piece x xs more is_piece,
  cut_before pieces (x ∷ xs) more (rest_ends ends.front piece x xs (sym here ∙ ends.is)) cut,
)

-- So with lines without words after it, it says what it said.
pub says_before : {Said : Type 0} (reading : Words → Option Said) (text more : List ℕ) (said : Said) → EndsLine text → Lines more []
    → length (text ++ more) ≤ TEXT_LIMIT
    → Denotes reading text said → Denotes reading (text ++ more) said
says_before reading text more said ends lines fits says =
    let (pieces, cut, is) = says.tokens in
    let all = pieces ++ lines.pieces in
    let same : texts (words_from 1 all) ≡ texts (words_from 1 pieces) = said_append 1 pieces lines.pieces [] lines.said ∙ append-nil _ in record {
      fits = fits;
      words = words_from 1 all;
      tokens = (all, cut_append pieces lines.pieces (text ++ more) more [] (cut_before pieces text more ends cut) (lines_are_cut more lines), refl);
      reads = ap reading (same ∙ ap texts (sym is)) ∙ says.reads;
    }
