-- A stream that is cut beyond its limit is answered as the whole of it.
use Rattle.std.proofs.Common.{◌≡◌, ◌≤◌, ◌<◌, ℕ, ◌+◌, ◌-◌, ◌*◌, List, [], ◌∷◌, ◌++◌, length, take, drop, ◌⊎◌, inl, inr, refl, sym, ap, ◌∙◌, subst, append_assoc, arith, length-append, take-append-drop}
use Rattle.std.proofs.lemmas.Bool.{cases_eq, cases_lt}
use Rattle.std.proofs.lemmas.List.{take_all, length-take-le}
use Rattle.std.proofs.Math.Seq.{take-append-add}
use Rattle.leg_lex.specs.declared.limits.TheConstants.{TEXT_LIMIT}
use Rattle.leg_lex.specs.declared.read_fault.Need.TheVariants.{OfKind}
use Rattle.leg_lex.specs.declared.read_fault.FaultKind.TheVariants as kinds
use Rattle.leg_app_input.specs.declared.command.Command.TheVariants.{Check}
use Rattle.leg_app.specs.declared.status.Status.{Status}
use Rattle.leg_app.specs.declared.status.Status.TheVariants.{Success, Violations, Refused, Unsolved, Memory}
use Rattle.leg_grammar.specs.declared.profile.Profile.{Profile}
use Rattle.leg_grammar.specs.declared.profile.Profile.TheVariants.{Narrow}
use Rattle.leg_grammar.specs.Texts.{DenoteNothing}
use Rattle.leg_app_input.specs.Stream.{end_library}
use Rattle.leg_output.specs.Commands.Check.{no_library_text}
use Rattle.leg_app.specs.Answer.{IsAnswer, IsStreamAnswer, AnswersParts, ReportsNoLibrary}

-- a text begins with a needle, or it doesn't
begins : (needle text : List ℕ) → ((after : List ℕ) × (text ≡ needle ++ after)) ⊎ ((after : List ℕ) → text ≡ needle ++ after → ⊥)
begins [] text = inl (text, refl)
begins (n ∷ ns) [] = inr (λ after e. cc)
begins (n ∷ ns) (t ∷ ts) =
    elim (cases_eq t n) [
      | inr differ ↦ inr (λ after e. differ (let same : t ≡ n = cc in same))
      | inl same ↦ elim (begins ns ts) [
        | inl found ↦ inl (found.0, (let rest = found.1 in cc))
        | inr none ↦ inr (λ after e. none after (let rest : ts ≡ ns ++ after = cc in rest))
      ]
    ]

module _ (needle : List ℕ) where
  -- where the needle stands first
  record First (text : List ℕ) : Type 0 where
    before : List ℕ
    after : List ℕ
    is : text ≡ before ++ needle ++ after
    first : (earlier later : List ℕ) → text ≡ earlier ++ needle ++ later → length before ≤ length earlier

  none_here : (before after : List ℕ) → ((after : List ℕ) → [] ≡ needle ++ after → ⊥) → [] ≡ before ++ needle ++ after → ⊥
  none_here [] after none e = none after e
  none_here (x ∷ xs) after none e = cc

  no_earlier : (t : ℕ) (ts before : List ℕ) → ((after : List ℕ) → t ∷ ts ≡ needle ++ after → ⊥)
      → ((earlier later : List ℕ) → ts ≡ earlier ++ needle ++ later → length before ≤ length earlier)
      → (earlier later : List ℕ) → t ∷ ts ≡ earlier ++ needle ++ later → length (t ∷ before) ≤ length earlier
  no_earlier t ts before none first [] later e = absurd (none later e)
  no_earlier t ts before none first (x ∷ xs) later e = omega (arith, first xs later (let rest : ts ≡ xs ++ needle ++ later = cc in rest))

  no_later : (t : ℕ) (ts : List ℕ) → ((after : List ℕ) → t ∷ ts ≡ needle ++ after → ⊥) → ((before after : List ℕ) → ts ≡ before ++ needle ++ after → ⊥)
      → (before after : List ℕ) → t ∷ ts ≡ before ++ needle ++ after → ⊥
  no_later t ts none nowhere [] after e = none after e
  no_later t ts none nowhere (x ∷ xs) after e = nowhere xs after (let rest : ts ≡ xs ++ needle ++ after = cc in rest)

  -- a needle stands somewhere first, or nowhere
  first_or_none : (text : List ℕ) → First text ⊎ ((before after : List ℕ) → text ≡ before ++ needle ++ after → ⊥)
  first_or_none [] =
      elim (begins needle []) [
        | inl found ↦ inl (record { before = []; after = found.0; is = found.1; first = λ earlier later e. omega arith })
        | inr none ↦ inr (λ before after e. none_here before after none e)
      ]
  first_or_none (t ∷ ts) =
      elim (begins needle (t ∷ ts)) [
        | inl found ↦ inl (record { before = []; after = found.0; is = found.1; first = λ earlier later e. omega arith })
        | inr none ↦ elim (first_or_none ts) [
          | inl later ↦
              inl (record {
                before = t ∷ later.before;
                after = later.after;
                is = ap (λ l. t ∷ l) later.is;
                first = no_earlier t ts later.before none later.first;
              })
          | inr nowhere ↦ inr (no_later t ts none nowhere)
        ]
      ]

  -- and what ends within the limit stands in the cut text
  stands_cut : (limit : ℕ) (text before after : List ℕ) → length before + length needle ≤ limit → text ≡ before ++ needle ++ after
      → take limit text ≡ before ++ needle ++ take (limit - (length before + length needle)) after
  stands_cut limit text before after within e =
      let size : length (before ++ needle) ≡ length before + length needle = length-append before needle in
      let rest = limit - (length before + length needle) in
      let sum : limit ≡ length (before ++ needle) + rest = omega (arith, within, size) in
      ap (take limit) e ∙ ap (λ n. take n ((before ++ needle) ++ after)) sum ∙ take-append-add (before ++ needle) after rest

-- texts of which one is too long say no design
too_long : (lef def : List ℕ) → (TEXT_LIMIT < length lef) ⊎ (TEXT_LIMIT < length def) → DenoteNothing Narrow (lef ∷ []) def
too_long lef def (inl long) library design say = omega (arith, long, say.under.lef.1.1.fits)
too_long lef def (inr long) library design say = omega (arith, long, say.said.fits)

-- what is answered to texts that say nothing is answered to all such texts
answer_to_nothing : (profile : Profile) (lefs : List (List ℕ)) (def other : List ℕ) (status : Status) (text : List ℕ) → DenoteNothing profile lefs def
    → DenoteNothing profile lefs other
    → IsAnswer Check profile lefs def status text → IsAnswer Check profile lefs other status text
answer_to_nothing profile lefs def other Success text none none_too (inl lists) = absurd (none lists.library lists.design lists.say)
answer_to_nothing profile lefs def other Success text none none_too (inr (inl told)) = absurd (none told.library told.design told.say)
answer_to_nothing profile lefs def other Success text none none_too (inr (inr printed)) = absurd (none printed.library printed.design printed.say)
answer_to_nothing profile lefs def other Unsolved text none none_too told = absurd (none told.library told.design told.say)
answer_to_nothing profile lefs def other Violations text none none_too answer = absurd (none answer.library answer.design answer.say)
answer_to_nothing profile lefs def other Memory text none none_too answer = answer
answer_to_nothing profile lefs def other Refused text none none_too (inl refusal) = inl (record { nothing = none_too; reason = refusal.reason })
answer_to_nothing profile lefs def other Refused text none none_too (inr much) = absurd (none much.many.library much.many.design much.many.say)

-- no library is told, where the LEF is too long
long_lef_answer : (lef def : List ℕ) (status : Status) (text : List ℕ) → TEXT_LIMIT < length lef → status ≡ Refused → text ≡ no_library_text
    → IsAnswer Check Narrow (lef ∷ []) def status text
long_lef_answer lef def status text long refused is =
    subst (λ s. IsAnswer Check Narrow (lef ∷ []) def s text) (sym refused)
    (inl (record {
      nothing = too_long lef def (inl long);
      reason =
          inl (record { fault = record { file = 0; line = 1; start = 0; end = 0; kind = kinds.UnexpectedEnd; need = OfKind }; not_memory = λ e. cc; is = is });
    }))

-- a limit of more than two texts
module _ (limit : ℕ) (beyond : 2 * TEXT_LIMIT < limit) (stream : List ℕ) (long : limit < length stream) (status : Status) (text : List ℕ) where
  parts_answered : AnswersParts (take limit stream) status text → AnswersParts stream status text
  parts_answered parts =
      let split = parts.split in
      let size : length (take limit stream) ≡ limit = length-take-le limit stream (omega (arith, long)) in
      let sizes : length (take limit stream) ≡ length parts.lef + length parts.def = ap length split.whole ∙ length-append parts.lef parts.def in
      let lef_size : length parts.lef ≡ length split.text + length end_library = ap length split.ends ∙ length-append split.text end_library in
      let def = parts.def ++ drop limit stream in
      let def_size : length def ≡ length parts.def + length (drop limit stream) = length-append parts.def (drop limit stream) in
      let too : (TEXT_LIMIT < length parts.lef) ⊎ (TEXT_LIMIT < length parts.def) =
      elim (cases_lt TEXT_LIMIT (length parts.lef)) [ inl lef_long ↦ inl lef_long | inr lef_short ↦ inr (omega (arith, beyond, size, sizes, lef_short)) ] in
      let too_whole : (TEXT_LIMIT < length parts.lef) ⊎ (TEXT_LIMIT < length def) =
      elim too [ inl lef_long ↦ inl lef_long | inr def_long ↦ inr (omega (arith, def_long, def_size)) ] in
      record {
        lef = parts.lef;
        def = def;
        split = record {
          whole = sym (take-append-drop limit stream) ∙ ap (λ l. l ++ drop limit stream) split.whole ∙ append_assoc parts.lef parts.def (drop limit stream);
          text = split.text;
          ends = split.ends;
          first = λ before stands.
              elim (cases_lt (length before) (length split.text)) [
                | inr later ↦ later
                | inl earlier ↦
                    split.first before (_, stands_cut end_library limit stream before stands.0 (omega (arith, earlier, lef_size, sizes, size)) stands.1)
              ];
        };
        answer =
            answer_to_nothing Narrow (parts.lef ∷ []) parts.def def status text (too_long parts.lef parts.def too) (too_long parts.lef def too_whole)
            parts.answer;
      }

  no_library_answered : ReportsNoLibrary (take limit stream) status text → IsStreamAnswer stream status text
  no_library_answered told =
      elim (first_or_none end_library stream) [
        | inr nowhere ↦ inr (record { none = λ has. nowhere has.0 has.1.0 has.1.1; refused = told.refused; is = told.is })
        | inl found ↦ (
            let lef_size : length (found.before ++ end_library) ≡ length found.before + length end_library = length-append found.before end_library in
            let ends_late : limit < length found.before + length end_library =
            elim (cases_lt limit (length found.before + length end_library)) [
              | inl late ↦ late
              | inr early ↦ absurd (told.none (found.before, (_, stands_cut end_library limit stream found.before found.after early found.is)))
            ] in
            inl (record {
              lef = found.before ++ end_library;
              def = found.after;
              split = record { whole = found.is; text = found.before; ends = refl; first = λ before stands. found.first before stands.0 stands.1 };
              answer = long_lef_answer (found.before ++ end_library) found.after status text (omega (arith, beyond, ends_late, lef_size)) told.refused told.is;
            }))
      ]

pub cut_stream_answered : (limit : ℕ) → 2 * TEXT_LIMIT < limit → (stream : List ℕ) (status : Status) (text : List ℕ)
    → IsStreamAnswer (take limit stream) status text → IsStreamAnswer stream status text
cut_stream_answered limit beyond stream status text answer =
    elim (cases_lt limit (length stream)) [
      | inr short ↦ subst (λ s. IsStreamAnswer s status text) (take_all limit stream short) answer
      | inl long ↦ elim answer [
        | inl parts ↦ inl (parts_answered limit beyond stream long status text parts)
        | inr told ↦ no_library_answered limit beyond stream long status text told
      ]
    ]
