-- The words of a form, found one word after the other.
use Rattle.std.proofs.Common.{◌≡◌, ℕ, ◌+◌, ◌<◌, ◌≤◌, true, false, List, [], ◌∷◌, ◌++◌, length, take, drop, get_or, refl, sym, ap, ◌∙◌, arith}
use Rattle.std.proofs.lemmas.List.{drop_more, drop_all, take_more, take_all, append_assoc, append-nil}
use Rattle.leg_lex.specs.Word.{Word}
use Rattle.leg_app_message.specs.Form.{begins_form, ends_form, from_form, up_to_end, BeginsWith}

no_word : Word
no_word = record { text = []; line = 0 }

pub from_here : (name : List ℕ) (words : List Word) (i : ℕ) → begins_form name (drop i words) ≡ true → i < length words
    → from_form name (drop i words) ≡ drop i words
from_here name words i is in_range =
    let e = drop_more words i no_word in_range in
    rw (e, rw e at is) refl

pub from_later : (name : List ℕ) (words : List Word) (i : ℕ) → begins_form name (drop i words) ≡ false → i < length words
    → from_form name (drop (i + 1) words) ≡ from_form name (drop i words)
from_later name words i is in_range =
    let e = drop_more words i no_word in_range in
    rw (e, rw e at is) refl

pub from_nowhere : (name : List ℕ) (words : List Word) (i : ℕ) → length words ≤ i → from_form name (drop i words) ≡ []
from_nowhere name words i past = rw (drop_all i words past) refl

pub end_here : (name : List ℕ) (words : List Word) (i : ℕ) → ends_form name (drop i words) ≡ true → i < length words
    → take i words ++ up_to_end name (drop i words) ≡ take i words
end_here name words i is in_range =
    let e = drop_more words i no_word in_range in
    rw (e, rw e at is) (append-nil (take i words))

pub end_later : (name : List ℕ) (words : List Word) (i : ℕ) → ends_form name (drop i words) ≡ false → i < length words
    → take (i + 1) words ++ up_to_end name (drop (i + 1) words) ≡ take i words ++ up_to_end name (drop i words)
end_later name words i is in_range =
    let e = drop_more words i no_word in_range in
    rw (e, rw e at is, take_more words i no_word in_range) (append_assoc (take i words) (get_or words i no_word ∷ []) (up_to_end name (drop (i + 1) words)))

pub end_nowhere : (name : List ℕ) (words : List Word) (i : ℕ) → length words ≤ i → take i words ++ up_to_end name (drop i words) ≡ words
end_nowhere name words i past = rw (drop_all i words past, take_all i words past) (append-nil words)

-- a form begins with the first of its words
pub begins_with : (name : List ℕ) (words rest : List Word) (form d : Word) → rest ≡ from_form name words → 1 ≤ length rest → get_or rest 0 d ≡ form
    → BeginsWith name words form.text
begins_with name words [] form d is some first = absurd (omega (arith, some))
begins_with name words (word ∷ rest) form d is some first =
    (word.line, rest, sym is ∙ ap (λ w. w ∷ rest) (ap (λ w. record { text = w; line = word.line }) (ap (λ w. w.text) first)))
