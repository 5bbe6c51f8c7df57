-- A stream is cut in one way, and has one answer at most.
use Rattle.std.proofs.Common.{◌≡◌, ◌≢◌, ℕ, ◌≤◌, List, [], ◌∷◌, ◌++◌, length, take, drop, inl, inr, refl, sym, ap, ◌∙◌, subst, arith, length-append}
use Rattle.std.proofs.lemmas.List.{take_at, drop_at}
use Rattle.leg_app_input.specs.declared.command.Command.{Command}
use Rattle.leg_app_input.specs.declared.command.Command.TheVariants.{Check, Route, Flow, Finish}
use Rattle.leg_app_input.specs.Stream.{end_library, StandsBehind, IsSplit}
use Rattle.leg_app.specs.declared.status.Status.{Status}
use Rattle.leg_app.specs.declared.status.Status.TheVariants.{Refused, Memory}
use Rattle.leg_grammar.specs.declared.profile.Profile.{Profile}
use Rattle.leg_grammar.specs.declared.profile.Profile.TheVariants.{Narrow}
use Rattle.leg_app.specs.Answer.{IsAnswer, IsStreamAnswer}

-- END LIBRARY stands in the stream behind what is before it in the front
ends_in_stream : (stream front back : List ℕ) (split : IsSplit stream front back) → StandsBehind split.text stream
ends_in_stream stream front back split = (back, split.whole ∙ ap (λ f. f ++ back) split.ends)

-- the front is of one length
one_length : (stream front back before behind : List ℕ) → IsSplit stream front back → IsSplit stream before behind → length front ≡ length before
one_length stream front back before behind p q =
    let up : length p.text ≤ length q.text = p.first q.text (ends_in_stream stream before behind q) in
    let down : length q.text ≤ length p.text = q.first p.text (ends_in_stream stream front back p) in
    let long = ap length p.ends ∙ length-append p.text end_library in
    let other = ap length q.ends ∙ length-append q.text end_library in
    omega (arith, up, down, long, other)

pub one_split : (stream front back before behind : List ℕ) → IsSplit stream front back → IsSplit stream before behind → (front ≡ before) × (back ≡ behind)
one_split stream front back before behind p q =
    let long = one_length stream front back before behind p q in (
      sym (ap (take (length front)) p.whole ∙ take_at front back (length front) refl) ∙ ap (take (length front)) q.whole
          ∙ take_at before behind (length front) (sym long),
      sym (ap (drop (length front)) p.whole ∙ drop_at front back (length front) refl) ∙ ap (drop (length front)) q.whole
          ∙ drop_at before behind (length front) (sym long),
    )

-- a command that does not route has one answer at most
abbrev pub HasOneAnswer : Type 0
HasOneAnswer = (command : Command) (profile : Profile) (lefs : List (List ℕ)) (def : List ℕ) (status other : Status) (text words : List ℕ)
    → IsAnswer command profile lefs def status text → IsAnswer command profile lefs def other words
    → command ≢ Route → command ≢ Flow → command ≢ Finish → status ≢ Refused → status ≢ Memory → other ≢ Memory → (status ≡ other) × (text ≡ words)

pub one_stream_answer : HasOneAnswer → (stream : List ℕ) (status other : Status) (text words : List ℕ)
    → IsStreamAnswer stream status text → IsStreamAnswer stream other words
    → status ≢ Refused → status ≢ Memory → other ≢ Memory → (status ≡ other) × (text ≡ words)
one_stream_answer one stream status other text words (inr none) q known full left = absurd (known none.refused)
one_stream_answer one stream status other text words (inl p) (inr none) known full left =
    absurd (none.none (p.split.text, ends_in_stream stream p.lef p.def p.split))
one_stream_answer one stream status other text words (inl p) (inl q) known full left =
    let same = one_split stream p.lef p.def q.lef q.def p.split q.split in
    let at_lef : IsAnswer Check Narrow (q.lef ∷ []) p.def status text = subst (λ lef. IsAnswer Check Narrow (lef ∷ []) p.def status text) same.0 p.answer in
    let at_def : IsAnswer Check Narrow (q.lef ∷ []) q.def status text = subst (λ def. IsAnswer Check Narrow (q.lef ∷ []) def status text) same.1 at_lef in
    one Check Narrow (q.lef ∷ []) q.def status other text words at_def q.answer (λ is. cc) (λ is. cc) (λ is. cc) known full left
