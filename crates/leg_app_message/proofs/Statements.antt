-- Words of a statement behind the word that begins its lengths.
use Rattle.std.proofs.Common.{◌≡◌, ◌≢◌, ◌∙◌, ℕ, ◌+◌, ◌<◌, Bool, true, false, not, ◌&&◌, ◌||◌, List, [], ◌∷◌, ◌++◌, length, take, drop, get_or, All, IsTrue, codes, refl, sym, ap, subst}
use Rattle.std.proofs.lemmas.Bool.{false≢true}
use Rattle.std.specs.Str.{bytes_eq}
use Rattle.std.proofs.lemmas.List.{append_assoc, take_more, drop_more, take-append-drop}
use Rattle.std.proofs.lemmas.List.Elements.{All-nil, All-push}
use Rattle.leg_lex.specs.Word.{Word}
use Rattle.leg_app_message.specs.Conversion.{IsBehind}

-- the words end in a statement, behind such a word of it
pub record Opens (begins : List ℕ → Bool) (words : List Word) : Type 0 where
  pub before : List Word
  pub keyword : Word
  pub between : List Word
  pub are : words ≡ before ++ keyword ∷ between
  pub begins_it : IsTrue (begins keyword.text)
  pub goes_on : All (λ (w : Word). w.text ≢ codes ";") between

module _ (begins : List ℕ → Bool) (words : List Word) (word : Word) where
  opens_here : begins word.text ≡ true → Opens begins (words ++ word ∷ [])
  opens_here is = record { before = words; keyword = word; between = []; are = refl; begins_it = is; goes_on = All-nil (λ (w : Word). w.text ≢ codes ";") }

  opens_on : Opens begins words → word.text ≢ codes ";" → Opens begins (words ++ word ∷ [])
  opens_on o other = record {
    before = o.before;
    keyword = o.keyword;
    between = o.between ++ word ∷ [];
    are = ap (λ ws. ws ++ word ∷ []) o.are ∙ append_assoc o.before (o.keyword ∷ o.between) (word ∷ []);
    begins_it = o.begins_it;
    goes_on = All-push (λ (w : Word). w.text ≢ codes ";") o.between word o.goes_on other;
  }

  by_cases : (is_open is_end begin : Bool) → (is_open ≡ true → Opens begins words) → (is_end ≡ false → word.text ≢ codes ";")
      → begins word.text ≡ begin → (not is_end && (is_open || begin)) ≡ true → Opens begins (words ++ word ∷ [])
  by_cases true true begin before other is goes = absurd (false≢true goes)
  by_cases true false begin before other is goes = opens_on (before refl) (other refl)
  by_cases false true begin before other is goes = absurd (false≢true goes)
  by_cases false false begin before other is goes = opens_here (is ∙ goes)

  -- a word more, which is no `;`, behind such a word, or one itself
  opens_more : (is_open : Bool) → (is_open ≡ true → Opens begins words)
      → (not (bytes_eq word.text (codes ";")) && (is_open || begins word.text)) ≡ true → Opens begins (words ++ word ∷ [])
  opens_more is_open before goes =
      by_cases is_open (bytes_eq word.text (codes ";")) (begins word.text) before
      (λ is same. false≢true (sym is ∙ ap (λ t. bytes_eq t (codes ";")) same)) refl goes

  -- the word comes next
  behind : (after : List Word) → Opens begins words → IsBehind begins (words ++ word ∷ after) word
  behind after o = record {
    before = o.before;
    keyword = o.keyword;
    between = o.between;
    after = after;
    are = ap (λ ws. ws ++ word ∷ after) o.are;
    begins_it = o.begins_it;
    goes_on = o.goes_on;
  }

-- what `opens_more` says of the words up to one of a list, and of that one
pub opens_next : (begins : List ℕ → Bool) (words : List Word) (k : ℕ) (word : Word) (is_open : Bool) → word ≡ get_or words k word
    → k < length words → (is_open ≡ true → Opens begins (take k words))
    → (not (bytes_eq word.text (codes ";")) && (is_open || begins word.text)) ≡ true → Opens begins (take (k + 1) words)
opens_next begins words k word is_open is in_range before goes =
    let more = take_more words k word in_range ∙ ap (λ w. take k words ++ w ∷ []) (sym is) in
    subst (Opens begins) (sym more) (opens_more begins (take k words) word is_open before goes)

pub stands_behind : (begins : List ℕ → Bool) (words : List Word) (k : ℕ) (word : Word) → word ≡ get_or words k word → k < length words
    → Opens begins (take k words) → IsBehind begins words word
stands_behind begins words k word is in_range o =
    let rest = drop_more words k word in_range ∙ ap (λ w. w ∷ drop (k + 1) words) (sym is) in
    let whole = ap (λ ws. take k words ++ ws) (sym rest) ∙ take-append-drop k words in
    subst (λ ws. IsBehind begins ws word) whole (behind begins (take k words) word (drop (k + 1) words) o)
