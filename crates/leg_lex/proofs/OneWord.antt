-- Which words are plain, and which are quoted.
use Rattle.std.proofs.Common.{◌≡◌, ◌≢◌, ◌↔◌, ℕ, ◌≤◌, IsTrue, Bool, true, false, not, ◌&&◌, ◌==◌, if◌then◌else◌, List, [], ◌∷◌, Option, Some, None, IfSome, length, take, drop, get_or, MatchBool, MatchOption, refl, sym, ap, ◌∙◌, subst, arith}
use Rattle.std.specs.List.{list_any}
use Rattle.std.specs.Option.{option_eq}
use Rattle.std.proofs.lemmas.Bool.{eqb-true, eq-eqb, both_ways}
use Rattle.std.proofs.lemmas.Bool.Decides.{nat_tests}
use Rattle.std.proofs.lemmas.List.{append-nil, length-take, take-append-drop, take_all, drop_all}
use Rattle.leg_lex.specs.Cut.{Quoted, Plain, kind_of, Closes, Ends, RunsTo, IsPiece, is_white}
use Rattle.leg_lex.specs.Words.{is_plain_kind, is_plain, closes, is_closed}
use Rattle.leg_lex.proofs.Cuts.{piece_same}
use Rattle.leg_lex.proofs.PieceKinds.{quoted_byte, quoted_here, closes_surely, plain_here}

-- the test of a quoted word's end decides it
pub closes_always : (before : ℕ) (bytes : List ℕ) → Closes before bytes → closes before bytes ≡ true
closes_always before [] ends = absurd ends
closes_always before (b ∷ bytes) ends = by (b == 34 && not (before == 92)) bytes (closes_always b bytes) ends where
  by : (end : Bool) (bytes : List ℕ) → (Closes b bytes → closes b bytes ≡ true) → MatchBool end (bytes ≡ []) (Closes b bytes)
      → (if end then length bytes == 0 else closes b bytes) ≡ true
  by true bytes later ends = rw ends refl
  by false bytes later ends = later ends

-- A quoted word is one piece of a text, and the whole of these bytes.
is_quoted_piece : (word : List ℕ) → get_or word 0 0 ≡ 34 → IsPiece word [] → is_closed word ≡ true
is_quoted_piece [] quote is = absurd is
is_quoted_piece (b ∷ bytes) quote is =
    let ends : Closes b bytes = subst (λ kind. Ends kind b bytes []) (quoted_here b quote) is in
    rw (quote, closes_always 34 bytes (rw quote at ends)) refl

not_quoted_piece : (word : List ℕ) → ¬ IsPiece word [] → is_closed word ≡ false
not_quoted_piece [] none = refl
not_quoted_piece (b ∷ bytes) none = by (is_closed (b ∷ bytes)) refl where
  by : (test : Bool) → is_closed (b ∷ bytes) ≡ test → is_closed (b ∷ bytes) ≡ false
  by true is =
      let quote : b ≡ 34 = grind (arith, nat_tests) in
      let closed : closes b bytes ≡ true = grind (arith, nat_tests) in
      absurd (none (subst (λ kind. Ends kind b bytes []) (sym (quoted_here b quote)) (closes_surely b bytes closed)))
  by false is = is

-- The piece that these bytes begin with is all of them, or they are no quoted word.
pub piece_is_all : (word : List ℕ) (n : ℕ) → get_or word 0 0 ≡ 34 → IsPiece (take n word) (drop n word) → n ≡ length word → is_closed word ≡ true
piece_is_all word n quote is all =
    is_quoted_piece word quote (rw (all, take_all (length word) word (omega arith), drop_all (length word) word (omega arith)) at is)

pub piece_is_less : (word : List ℕ) (n : ℕ) → IsPiece (take n word) (drop n word) → n ≤ length word → n ≢ length word → is_closed word ≡ false
piece_is_less word n is within other = not_quoted_piece word (λ whole.
    let same : take n word ≡ word = piece_same (take n word) word (drop n word) [] is whole (take-append-drop n word ∙ sym (append-nil word)) in
    other (omega (arith, length-take n word, ap length same)))

pub no_piece : (word : List ℕ) → ((n : ℕ) → ¬ IsPiece (take n word) (drop n word)) → is_closed word ≡ false
no_piece word none = not_quoted_piece word (λ whole.
    none (length word) (rw (take_all (length word) word (omega arith), drop_all (length word) word (omega arith)) whole))

-- The test of a quoted word, by the piece that these bytes begin with.
pub closed_by_piece : (word : List ℕ) (piece : Option ℕ) → get_or word 0 0 ≡ 34
    → MatchOption piece ((n : ℕ) → ¬ IsPiece (take n word) (drop n word)) (λ n. IsPiece (take n word) (drop n word)) → IfSome piece (λ n. n ≤ length word)
    → option_eq (λ (a b : ℕ). a == b) piece (Some (length word)) ≡ is_closed word
closed_by_piece word None quote none within = sym (no_piece word none)
closed_by_piece word (Some n) quote is within = by (n == length word) refl where
  by : (all : Bool) → (n == length word) ≡ all → (n == length word) ≡ is_closed word
  by true all = all ∙ sym (piece_is_all word n quote is (eqb-true _ _ all))
  by false less = less ∙ sym (piece_is_less word n is within (λ all. both_ways (n == length word) less (eq-eqb _ _ all)))

-- By the pieces of texts: a plain word is a plain piece, and a quoted word is a quoted one.
runs_to_end : (bytes : List ℕ) → list_any is_white bytes ≡ false → RunsTo is_white bytes []
runs_to_end [] none = tt
runs_to_end (b ∷ bytes) none = by (runs_to_end bytes) (is_white b) refl where
  by : (list_any is_white bytes ≡ false → RunsTo is_white bytes []) → (white : Bool) → is_white b ≡ white → RunsTo is_white (b ∷ bytes) []
  by later true is = absurd (let e : ⊥ = cc (rw is at none) in e)
  by later false is = (is, later (rw is at none))

pub no_white : (run after : List ℕ) → RunsTo is_white run after → list_any is_white run ≡ false
no_white [] after runs = refl
no_white (b ∷ run) after runs = rw (runs.0, no_white run after runs.1) refl

pub plain_is_piece : (b : ℕ) (bytes : List ℕ) → IsTrue (is_plain (b ∷ bytes)) ↔ ((kind_of b ≡ Plain) × IsPiece (b ∷ bytes) [])
plain_is_piece b bytes = (there, back) where
  there : IsTrue (is_plain (b ∷ bytes)) → (kind_of b ≡ Plain) × IsPiece (b ∷ bytes) []
  there plain = by (is_plain_kind (kind_of b)) refl (list_any is_white bytes) refl where
    by : (kind : Bool) → is_plain_kind (kind_of b) ≡ kind → (white : Bool) → list_any is_white bytes ≡ white → (kind_of b ≡ Plain) × IsPiece (b ∷ bytes) []
    by true is false none =
        let kind = plain_here b is in
        (kind, subst (λ k. Ends k b bytes []) (sym kind) (runs_to_end bytes none))
    by true is true some = absurd (let e : ⊥ = cc (rw (is, some) at plain) in e)
    by false is white some = absurd (let e : ⊥ = cc (rw is at plain) in e)

  back : (kind_of b ≡ Plain) × IsPiece (b ∷ bytes) [] → IsTrue (is_plain (b ∷ bytes))
  back (is, piece) = rw (is, no_white bytes [] (subst (λ k. Ends k b bytes []) is piece)) refl

pub closed_is_piece : (b : ℕ) (bytes : List ℕ) → IsTrue (is_closed (b ∷ bytes)) ↔ ((kind_of b ≡ Quoted) × IsPiece (b ∷ bytes) [])
closed_is_piece b bytes = (there, back) where
  there : IsTrue (is_closed (b ∷ bytes)) → (kind_of b ≡ Quoted) × IsPiece (b ∷ bytes) []
  there closed =
      let quote : b ≡ 34 = grind (arith, nat_tests) in
      let ends : closes b bytes ≡ true = grind (arith, nat_tests) in
      let kind = quoted_here b quote in
      (kind, subst (λ k. Ends k b bytes []) (sym kind) (closes_surely b bytes ends))

  back : (kind_of b ≡ Quoted) × IsPiece (b ∷ bytes) [] → IsTrue (is_closed (b ∷ bytes))
  back (is, piece) = is_quoted_piece (b ∷ bytes) (quoted_byte b is) piece
