-- Texts that parts were added to, one after the other.
use Rattle.std.proofs.Common.{◌≡◌, ℕ, ℤ, ◌+◌, ◌<◌, List, [], ◌∷◌, ◌++◌, length, take, get_or, codes, refl, ap, sym, ◌∙◌}
use Rattle.std.specs.List.{flat_map}
use Rattle.std.proofs.lemmas.List.{append_assoc, take_more, flat_map_more}
use Rattle.std.proofs.lemmas.Grind.{flat_map-append}
use Rattle.leg_lex.specs.Words.{Words}
use Rattle.leg_output.specs.Words.{spaced, line}
use Rattle.leg_print_words.proofs.WordRuns.{push_more, line_pushed}
use Rattle.leg_output.specs.Text.Clauses.{clause_words}

-- two parts are one
pub two_parts : (start one all a b : List ℕ) → one ≡ start ++ a → all ≡ one ++ b → all ≡ start ++ (a ++ b)
two_parts start one all a b first second = second ∙ ap (λ t. t ++ b) first ∙ append_assoc start a b

pub three_parts : (start one two all a b c : List ℕ) → one ≡ start ++ a → two ≡ one ++ b → all ≡ two ++ c → all ≡ start ++ (a ++ b ++ c)
three_parts start one two all a b c first second third =
    two_parts start two all (a ++ b) c (two_parts start one two a b first second) third

-- the same of runs of words
pub three_runs : (start one two all : List ℕ) (u v w : Words) → one ≡ start ++ spaced u → two ≡ one ++ spaced v → all ≡ two ++ spaced w
    → all ≡ start ++ spaced (u ++ v ++ w)
three_runs start one two all u v w first second third =
    push_more start two all (u ++ v) w (push_more start one two u v first second) third

-- a run of words behind what a line begins with
pub start_pushed : (start head all word : List ℕ) (u v : Words) → head ≡ start ++ (word ++ spaced u) → all ≡ head ++ spaced v
    → all ≡ start ++ (word ++ spaced (u ++ v))
start_pushed start head all word u v first second =
    push_more (start ++ word) head all u v (first ∙ sym (append_assoc start word (spaced u))) second ∙ append_assoc start word (spaced (u ++ v))

-- and the end of a statement
pub entry_pushed : (start head front all word : List ℕ) (u v : Words) → head ≡ start ++ (word ++ spaced u) → front ≡ head ++ spaced v
    → all ≡ front ++ codes " ;\n" → all ≡ start ++ line (word ∷ (u ++ v ++ codes ";" ∷ []))
entry_pushed start head front all word u v first more end =
    line_pushed start (start ++ word) head front all word u v refl (first ∙ sym (append_assoc start word (spaced u))) more end

-- what is written of a number is written of what it equals
pub same_run : (start all : List ℕ) (words : ℤ → Words) (y z : ℤ) → y ≡ z → all ≡ start ++ spaced (words y) → all ≡ start ++ spaced (words z)
same_run start all words y z same is = is ∙ ap (λ n. start ++ spaced (words n)) same

-- one more entry of a list
pub one_more : {X : Type 0} (entry : X → List ℕ) (xs : List X) (i : ℕ) (x : X) (start front all : List ℕ)
    → i < length xs → x ≡ get_or xs i x → front ≡ start ++ flat_map entry (take i xs) → all ≡ front ++ entry x
    → all ≡ start ++ flat_map entry (take (i + 1) xs)
one_more entry xs i x start front all some is before next =
    next ∙ ap (λ t. t ++ entry x) before ∙ flat_map_more entry start (take i xs) x
    ∙ ap (λ y. start ++ flat_map entry (take i xs ++ y ∷ [])) is
    ∙ ap (λ l. start ++ flat_map entry l) (sym (take_more xs i x some))

-- the same of words that each element has, whatever is read behind the end
pub next_run : {X : Type 0} (words : X → Words) (xs : List X) (i : ℕ) (d : X) (start front all : List ℕ)
    → i < length xs → front ≡ start ++ spaced (flat_map words (take i xs)) → all ≡ front ++ spaced (words (get_or xs i d))
    → all ≡ start ++ spaced (flat_map words (take (i + 1) xs))
next_run words xs i d start front all some before next =
    push_more start front all (flat_map words (take i xs)) (words (get_or xs i d)) before next
    ∙ ap (λ run. start ++ spaced run) (flat_map_more words [] (take i xs) (get_or xs i d)
    ∙ ap (λ l. flat_map words l) (sym (take_more xs i d some)))

-- clauses behind clauses are one list of clauses
pub clauses_pushed : (start one all : List ℕ) (a b : List Words) → one ≡ start ++ spaced (clause_words a) → all ≡ one ++ spaced (clause_words b)
    → all ≡ start ++ spaced (clause_words (a ++ b))
clauses_pushed start one all a b first second =
    push_more start one all (clause_words a) (clause_words b) first second
    ∙ ap (λ words. start ++ spaced words) (sym (flat_map-append (λ clause. codes "+" ∷ clause) a b))
