-- Texts that words were added to, run by run.
use Rattle.std.proofs.Common.{◌≡◌, ℕ, List, [], ◌∷◌, ◌++◌, codes, sym, ap, ◌∙◌}
use Rattle.std.proofs.lemmas.Grind.{flat_map-append}
use Rattle.std.proofs.lemmas.List.{append_assoc}
use Rattle.leg_lex.specs.Words.{Words}
use Rattle.leg_output.specs.Words.{spaced, line}

-- two runs of words are one
pub spaced_append : (v w : Words) → spaced (v ++ w) ≡ spaced v ++ spaced w
spaced_append v w = flat_map-append (λ word. 32 ∷ word) v w

pub push_more : (start front all : List ℕ) (v w : Words) → front ≡ start ++ spaced v → all ≡ front ++ spaced w → all ≡ start ++ spaced (v ++ w)
push_more start front all v w first next =
    next ∙ ap (λ t. t ++ spaced w) first ∙ append_assoc start (spaced v) (spaced w) ∙ ap (λ t. start ++ t) (sym (spaced_append v w))

shuffle : (start word words end : List ℕ) → start ++ word ++ words ++ end ≡ start ++ (word ++ words ++ end)
shuffle start word words end =
    ap (λ t. t ++ end) (append_assoc start word words) ∙ append_assoc start (word ++ words) end

-- the end of a statement is a semicolon behind a blank, and a line feed
ended : (words : Words) (text : List ℕ) → text ++ spaced words ++ codes " ;\n" ≡ text ++ spaced (words ++ codes ";" ∷ []) ++ codes "\n"
ended words text =
    append_assoc text (spaced words) (codes " ;\n")
    ∙ ap (λ t. text ++ t) (sym (append_assoc (spaced words) (codes " ;") (codes "\n")) ∙ ap (λ t. t ++ codes "\n") (sym (spaced_append words (codes ";" ∷ []))))
    ∙ sym (append_assoc text (spaced (words ++ codes ";" ∷ [])) (codes "\n"))

-- a first word, words behind it, and the end of a statement are a line
pub statement_pushed : (start first front all : List ℕ) (word : List ℕ) (v : Words) → first ≡ start ++ word → front ≡ first ++ spaced v
    → all ≡ front ++ codes " ;\n" → all ≡ start ++ line (word ∷ (v ++ codes ";" ∷ []))
statement_pushed start first front all word v one words end =
    end ∙ ap (λ t. t ++ codes " ;\n") words ∙ ended v first ∙ ap (λ t. t ++ spaced (v ++ codes ";" ∷ []) ++ codes "\n") one
    ∙ shuffle start word (spaced (v ++ codes ";" ∷ [])) (codes "\n")

-- the same with two runs of words
pub line_pushed : (start first front back all : List ℕ) (word : List ℕ) (v w : Words) → first ≡ start ++ word → front ≡ first ++ spaced v
    → back ≡ front ++ spaced w → all ≡ back ++ codes " ;\n"
    → all ≡ start ++ line (word ∷ (v ++ w ++ codes ";" ∷ []))
line_pushed start first front back all word v w one words more end =
    statement_pushed start first back all word (v ++ w) one (push_more first front back v w words more) end
