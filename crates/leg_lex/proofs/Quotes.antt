-- Where a quoted word ends.
use Rattle.std.proofs.Common.{◌≡◌, ◌≢◌, ℕ, zero, suc, ◌+◌, ◌-◌, ◌<◌, ◌≤◌, Bool, true, false, not, ◌&&◌, ◌==◌, List, [], ◌∷◌, ◌++◌, Some, None, length, take, drop, get_or, MatchBool, refl, sym, ap, ◌∙◌, subst, ⊎_elim, add-one, arith, length-drop}
use Rattle.std.proofs.lemmas.Bool.{eqb-true, eq-eqb, cases_lt, cases_eq}
use Rattle.std.proofs.lemmas.Bool.Decides.{nat_tests}
use Rattle.std.proofs.lemmas.List.{get_or-drop, take_rest}
use Rattle.memchr.specs.Find.{IsFirstByte, is_byte}
use Rattle.leg_lex.specs.Cut.{Closes, Ends, IsPiece}
use Rattle.leg_lex.proofs.PieceKinds.{quoted_here}

-- a quote at this place of the bytes, where the byte before it is a backslash
abbrev pub EscapedAt : ℕ → List ℕ → ℕ → Type 0
EscapedAt before bytes k = get_or bytes k 0 ≡ 34 → get_or (before ∷ bytes) k 0 ≡ 92

escaped_test : (before b : ℕ) → (b ≡ 34 → before ≡ 92) → (b == 34 && not (before == 92)) ≡ false
escaped_test before b h = grind (arith, nat_tests)

closing_test : (before b : ℕ) → b ≡ 34 → before ≢ 92 → (b == 34 && not (before == 92)) ≡ true
closing_test before b h g = grind (arith, nat_tests)

pub closes_by_place : (before : ℕ) (bytes : List ℕ) (n : ℕ) → n < length bytes → ((k : ℕ) → k < n → EscapedAt before bytes k) → get_or bytes n 0 ≡ 34
    → get_or (before ∷ bytes) n 0 ≢ 92 → Closes before (take (suc n) bytes)
closes_by_place before [] n within escaped quote free = absurd (omega arith)
closes_by_place before (b ∷ bytes) zero within escaped quote free = rw (closing_test before b quote free) refl
closes_by_place before (b ∷ bytes) (suc n) within escaped quote free =
    rw (escaped_test before b (escaped 0 (omega arith))) (closes_by_place b bytes n (omega arith) (λ k h. escaped (suc k) (omega arith)) quote free)

pub never_closes : (before : ℕ) (bytes : List ℕ) → ((k : ℕ) → k < length bytes → EscapedAt before bytes k) → (n : ℕ) → ¬ Closes before (take n bytes)
never_closes before [] escaped zero closes = closes
never_closes before [] escaped (suc n) closes = closes
never_closes before (b ∷ bytes) escaped zero closes = closes
never_closes before (b ∷ bytes) escaped (suc n) closes =
    never_closes b bytes (λ k h. escaped (suc k) (omega arith)) n (rw (escaped_test before b (escaped 0 (omega arith))) at closes)

closes_both : (t : Bool) (Closed : List ℕ → Type 0) (p q : List ℕ) → MatchBool t (p ≡ []) (Closed p) → MatchBool t (q ≡ []) (Closed q)
    → (Closed p → Closed q → p ≡ q) → p ≡ q
closes_both true Closed p q one other later = cc
closes_both false Closed p q one other later = later one other

-- a quoted word is told by what it and the bytes after it are together
pub closes_same : (before : ℕ) (p q a b : List ℕ) → Closes before p → Closes before q → p ++ a ≡ q ++ b → p ≡ q
closes_same before [] q a b one other same = absurd one
closes_same before (x ∷ p) [] a b one other same = absurd other
closes_same before (x ∷ p) (y ∷ q) a b one other same =
    let e : y ≡ x = cc in
    let there : MatchBool (x == 34 && not (before == 92)) (q ≡ []) (Closes x q) = rw (← e) other in
    let tails : p ≡ q = closes_both (x == 34 && not (before == 92)) (Closes x) p q one there (λ g h. closes_same x p q a b g h cc) in cc

-- By places in the whole word.

-- each quote below this place, but for the opening one, stands after a backslash
abbrev pub EscapedBelow : ℕ → List ℕ → Type 0
EscapedBelow n text = (k : ℕ) → suc k < n → get_or text (suc k) 0 ≡ 34 → get_or text k 0 ≡ 92

-- the next quote from one place on
record NextQuote (text : List ℕ) (from skipped : ℕ) : Type 0 where
  within : from + skipped < length text
  quote : get_or text (from + skipped) 0 ≡ 34
  before : (k : ℕ) → from ≤ k → k < from + skipped → get_or text k 0 ≢ 34

next_quote : (text : List ℕ) (from skipped : ℕ) → IsFirstByte (is_byte 34) (take (length text - from) (drop from text)) (Some skipped)
    → NextQuote text from skipped
next_quote text from skipped found =
    let there = rw take_rest at found in record {
      within = omega (arith, length-drop from text, there.0.high);
      quote = sym (get_or-drop from text skipped 0) ∙ eqb-true _ _ there.1;
      before = λ k a b e.
          let place : from + (k - from) ≡ k = omega arith in
          there.0.before (k - from) (omega arith) (omega arith) (eq-eqb _ _ (get_or-drop from text (k - from) 0 ∙ ap (λ x. get_or text x 0) place ∙ e));
    }

escaped_to : (text : List ℕ) (from skipped : ℕ) → EscapedBelow from text → NextQuote text from skipped → EscapedBelow (from + skipped) text
escaped_to text from skipped escaped next k h e =
    ⊎_elim (λ low. escaped k low e) (λ high. absurd (next.before (suc k) high h e)) (cases_lt (suc k) from)

pub escaped_more : (text : List ℕ) (from skipped : ℕ) → EscapedBelow from text
    → IsFirstByte (is_byte 34) (take (length text - from) (drop from text)) (Some skipped) → get_or text (from + skipped - 1) 0 ≡ 92
    → EscapedBelow (from + skipped + 1) text
escaped_more text from skipped escaped found backslash k h e =
    ⊎_elim
    (λ here. let place : from + skipped - 1 ≡ k = omega arith in subst (λ x. get_or text x 0 ≡ 92) place backslash)
    (λ other. escaped_to text from skipped escaped (next_quote text from skipped found) k (omega arith) e)
    (cases_eq (suc k) (from + skipped))

closes_here : (text : List ℕ) (n : ℕ) → get_or text 0 0 ≡ 34 → suc n < length text → EscapedBelow (suc n) text → get_or text (suc n) 0 ≡ 34
    → get_or text n 0 ≢ 92 → IsPiece (take (suc (suc n)) text) (drop (suc (suc n)) text)
closes_here [] n opening within escaped quote free = cc
closes_here (b ∷ bytes) n opening within escaped quote free =
    subst (λ kind. Ends kind b (take (suc n) bytes) (drop (suc n) bytes)) (sym (quoted_here b opening))
    (closes_by_place b bytes n (omega arith) (λ k h. escaped k (omega arith)) quote free)

pub quoted_ends : (text : List ℕ) (from skipped : ℕ) → get_or text 0 0 ≡ 34 → 1 ≤ from → EscapedBelow from text
    → IsFirstByte (is_byte 34) (take (length text - from) (drop from text)) (Some skipped) → get_or text (from + skipped - 1) 0 ≢ 92
    → IsPiece (take (from + skipped + 1) text) (drop (from + skipped + 1) text)
quoted_ends text from skipped opening low escaped found free =
    let n = from + skipped - 1 in
    let place : from + skipped ≡ suc n = omega arith in
    let next = next_quote text from skipped found in
    let within : suc n < length text = omega (arith, next.within) in
    let below : EscapedBelow (suc n) text = rw (← place) (escaped_to text from skipped escaped next) in
    rw (add-one (from + skipped), place) (closes_here text n opening within below (rw (← place) next.quote) free)

never_here : (text : List ℕ) (n : ℕ) → get_or text 0 0 ≡ 34 → EscapedBelow (length text) text → ¬ IsPiece (take n text) (drop n text)
never_here [] n opening escaped is_piece = cc
never_here (b ∷ bytes) zero opening escaped is_piece = is_piece
never_here (b ∷ bytes) (suc n) opening escaped is_piece =
    never_closes b bytes (λ k h. escaped k (omega arith)) n (subst (λ kind. Ends kind b (take n bytes) (drop n bytes)) (quoted_here b opening) is_piece)

no_quote : (text : List ℕ) (from k : ℕ) → IsFirstByte (is_byte 34) (take (length text - from) (drop from text)) None → from ≤ suc k → suc k < length text
    → get_or text (suc k) 0 ≢ 34
no_quote text from k none high within e =
    let absent = rw take_rest at none in
    let at = suc k - from in
    let place : from + at ≡ suc k = omega arith in
    let here : get_or (drop from text) at 0 ≡ 34 = get_or-drop from text at 0 ∙ ap (λ x. get_or text x 0) place ∙ e in
    absent at (omega arith) (omega (arith, length-drop from text)) (eq-eqb _ _ here)

escaped_all : (text : List ℕ) (from : ℕ) → EscapedBelow from text → IsFirstByte (is_byte 34) (take (length text - from) (drop from text)) None
    → EscapedBelow (length text) text
escaped_all text from escaped none k h e = ⊎_elim (λ low. escaped k low e) (λ high. absurd (no_quote text from k none high h e)) (cases_lt (suc k) from)

pub never_ends : (text : List ℕ) (from : ℕ) → get_or text 0 0 ≡ 34 → EscapedBelow from text
    → IsFirstByte (is_byte 34) (take (length text - from) (drop from text)) None → (n : ℕ) → ¬ IsPiece (take n text) (drop n text)
never_ends text from opening escaped none n = never_here text n opening (escaped_all text from escaped none)
