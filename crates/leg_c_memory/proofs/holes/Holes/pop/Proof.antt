-- `pop` reads the header of the first part. Assumes `Logic`.
use Rattle.leg_c_memory.proofs.Steps.{◌≡◌, ◌+◌, ◌^◌, ◌<◌, List, [], ◌∷◌, ◌++◌, refl, ap, ◌∙◌, arith, lit<, Ok, Err, Fn, Val, vcons, vnil, SProp, emp, ftrue, Env, WpFn, fact, fact_i, tables, ‵, raw, ◌⊛◌, prop, at_ret, ◌$◌, ◌∵◌, !, qed, by, move, drop, use0, use1, use2, split, rewrite, regoal, fsplit, fjoin, fpick, whole, sub, agg, look_in, live, stop, fld, load, lit, bin, of_opd, no_more, and_then, first, blocks, skips, branches, exec, returns, returns_within, enter, alloc_all, pass_all, free_all, look_at, get, get_in, through, sets, sets_last, env, owns, Ptr, block_ptr, null_ptr, tests_null, RattleType, types_at, type_at, nothing, Tuple, alive, Stays, stay_dropped, walk_of, Goes-blank, after, pair_of, pair_val, and_tt, ok_of, err_of, proved_at, leaves, slot_at, by_list}
use Rattle.leg_c_memory.proofs.Units.{dissolved}
use Rattle.leg_c_memory.proofs.Values.{ptr_typed, memory_val, memory_own, memory_made, list_val, list_own, list_told, list_made}
use Rattle.leg_c_memory.specs.Sizes.{Span}
use Rattle.leg_c_memory.specs.Ownership.{bytes_at, first_of, holes}
use Rattle.leg_c_memory.specs.contracts.holes.Holes as list
use Rattle.leg_c_memory.specs.contracts.memory.Memory as memory
use Rattle.leg_c_memory.specs.contracts.holes.Holes.pop.{ended, clauses}
use Rattle.leg_c_memory.specs.contracts.holes.Holes.pop.Key.{name}
use Rattle.leg_c_memory.proofs.holes.Holes.pop.Statement.{statement}
use Rattle.leg_c_memory.proofs.holes.Holes.pop.Code as compiled

abbrev no_spans : List Span
no_spans = []

pub pop_spec : {M : Type 1} → statement M
pop_spec 𝓤 𝓛 𝓜 𝓡 wired =
    let fn : Fn = compiled.function in
    let stays : Stays ended.signature.params ended.kept = (stay_dropped (slot_at 0 ended.signature.params) ended.kept.0, tt) in
    let c = clauses 𝓛 𝓜.mem 𝓡.returns in
    let C = (tables 𝓤 𝓛.H 𝓜 𝓡 𝓡.env).C in
    let Λ = (tables 𝓤 𝓛.H 𝓜 𝓡 𝓡.env).Λ in
    proved_at 𝓛 ended stays c 𝓜 𝓡 (Goes-blank 𝓛 0 (slot_at 0 ended.signature.params) ended.kept.0 (λ κs x f. tt), tt) name fn
    (compiled.unfolded 𝓤 𝓛.H 𝓜 𝓡 wired) (λ z are.
    let Post : Val → SProp 𝓤 = (walk_of 𝓛 ended stays c).post z in
    let a = z.0.3 in
    let vss = z.0.4 in
    let x = a.0 in
    let b = x.object in
    let told = list_told x.first vss.0 are.0.0 in
    let Pair : RattleType = Tuple (memory.the_row ∷ list.the_row ∷ []) in
    let Out : RattleType = type_at ended.signature.result z.0.0 in
    qed 𝓛 ((raw (alive 𝓛 ended.signature z.0.0 z.0.1) ⊛ ‵ (owns (types_at ended.signature.params z.0.0) a vss)) ∷ ‵ ftrue ∷ []) ∵ move ! (1 ∷ []) $ drop ! $
    split ! $ move ! (1 ∷ []) $
    fsplit ! $ fsplit ! $ drop ! $ move ! (1 ∷ []) $ drop ! $
    by_list x.spans (λ none.
    let at : x.first ≡ null_ptr = x.begins ∙ ap (first_of b) none in
    regoal ! (λ (us : List Val). prop (WpFn 𝓤 𝓛.H C Λ fn us Post)) (λ i. (told ∙ ap (λ (u : Ptr). list_val u ∷ []) at) i ++ []) refl $
    enter ! C Λ fn (list_val null_ptr ∷ []) Post $
    alloc_all ! (λ l. pass_all ! refl ((tt, (record { fits = lit< tt }, tt)), tt) $
    sets ! (of_opd ! (get_in ! (fld ! refl (stop !)) (sub ! 0 refl (whole !)))) refl (tt, record { fits = lit< tt }) $
    sets ! (bin ! (get ! refl) (lit ! tt) tt) refl (tt, tt) $
    first ! $ branches ! (get ! refl)
    (λ yes. sets ! (agg ! (and_then ! (get ! refl) (no_more !))) refl (tt, (record { fits = lit< tt }, tt)) $
    sets ! (agg ! (and_then ! (lit ! tt) (and_then ! (get ! refl) (no_more !)))) refl (tt, (record { fits = lit< tt }, ((record { fits = lit< tt }, tt), tt))) $
    returns_within ! Post refl (look_at ! 0 refl) $ free_all ! refl $
    use0 𝓛 (‵ (list_own x.first (list_val x.first ∷ []))) (list_made 𝓛 x.first) $ rewrite ! 0 (λ (u : Ptr). ‵ (list_own x.first (list_val u ∷ []))) at refl $
    fjoin ! $
    use1 𝓛 (‵ (Out.own_val (Err x) (live 1 (vcons (list_val null_ptr) vnil) ∷ []))) (err_of 𝓛 Pair list.the_row x (list_val null_ptr)) $
    use0 𝓛 (raw (fact 𝓤 ((x ≡ x) × (x.spans ≡ no_spans)))) (fact_i 𝓤 ((x ≡ x) × (x.spans ≡ no_spans)) (emp 𝓤) (refl, none)) $
    nothing ! $ nothing ! $ fjoin ! $ move ! (3 ∷ 0 ∷ 2 ∷ 1 ∷ []) $
    by ! (leaves 𝓛 ended stays c z (live 1 (vcons (list_val null_ptr) vnil)) (Err x) (tt, tt) (tt, tt)))
    (λ no. absurd no)))
    (λ h hs more.
    let here : Ptr = block_ptr b h.0 in
    let far : Ptr = first_of b hs in
    let at : x.first ≡ here = x.begins ∙ ap (first_of b) more in
    rewrite ! 0 (λ (s : List Span). ‵ (holes b s)) more refl $ fsplit ! $ fpick ! (λ fits. fsplit ! $
    let top : h.0 + h.1 < 2 ^ 63 = fits.1 in
    regoal ! (λ (us : List Val). prop (WpFn 𝓤 𝓛.H C Λ fn us Post)) (λ i. (told ∙ ap (λ (u : Ptr). list_val u ∷ []) at) i ++ []) refl $
    enter ! C Λ fn (list_val here ∷ []) Post $
    alloc_all ! (λ l. pass_all ! refl ((tt, (tt, tt)), tt) $ let En : Env 𝓤 𝓛.H = env fn.locals l in
    sets ! (of_opd ! (get_in ! (fld ! refl (stop !)) (sub ! 0 refl (whole !)))) refl (tt, tt) $
    sets ! (bin ! (get ! refl) (lit ! tt) (tests_null here (omega arith))) refl (tt, tt) $
    first ! $ branches ! (get ! refl)
    (λ yes. absurd yes)
    (λ no. skips ! $ exec ! C Λ En (after 3 fn.body) (at_ret En Post) $
    first ! $ blocks ! $
    sets ! (of_opd ! (load ! (through ! refl (fld ! refl (stop !))) (look_in ! 0 (sub ! 0 refl (whole !))))) refl (tt, record { fits = omega arith }) $
    sets ! (of_opd ! (load ! (through ! refl (fld ! refl (stop !))) (look_in ! 0 (sub ! 1 refl (whole !))))) refl (ptr_typed far) $
    sets ! (of_opd ! (get ! refl)) refl (tt, tt) $
    sets ! (agg ! (and_then ! (get ! refl) (and_then ! (get ! refl) (no_more !)))) refl (tt, (tt, (record { fits = omega arith }, tt))) $
    sets ! (agg ! (and_then ! (get ! refl) (no_more !))) refl (and_tt _ ((ptr_typed far).0), ((ptr_typed far).1, tt)) $
    sets ! (agg ! (and_then ! (get ! refl) (and_then ! (get ! refl) (no_more !)))) refl
    (and_tt _ (and_tt _ ((ptr_typed far).0)), ((tt, (record { fits = omega arith }, tt)), (((ptr_typed far).1, tt), tt))) $
    sets_last ! (agg ! (and_then ! (lit ! tt) (and_then ! (get ! refl) (no_more !)))) refl (
      and_tt _ (and_tt _ (and_tt _ ((ptr_typed far).0))),
      (
        record { fits = lit< tt },
        (((tt, (record { fits = omega arith }, tt)), (((ptr_typed far).1, tt), tt)), tt),
      ),
    ) $
    exec ! C Λ En (after 4 fn.body) (at_ret En Post) $
    sets ! (of_opd ! (get ! refl)) refl (
      and_tt _ (and_tt _ (and_tt _ ((ptr_typed far).0))),
      (record { fits = lit< tt }, (((tt, (record { fits = omega arith }, tt)), (((ptr_typed far).1, tt), tt)), tt)),
    ) $
    returns ! (look_at ! 0 refl) $ free_all ! refl $
    let w : (memory.the_row).Denot = record { ptr = here; size = h.1; fits = fits } in
    let y : (list.the_row).Denot = record { first = far; object = b; spans = hs; begins = refl } in
    let v : Val = pair_val (memory_val here h.1) (list_val far) in
    use2 𝓛 (‵ (bytes_at here h.1)) (dissolved 𝓛 b h far) $ use0 𝓛 (‵ (memory_own here h.1 (memory_val here h.1 ∷ []))) (memory_made 𝓛 here h.1 (omega arith)) $
    fjoin ! $ move ! (1 ∷ []) $
    use0 𝓛 (‵ (list_own far (list_val far ∷ []))) (list_made 𝓛 far) $ fjoin ! $ move ! (1 ∷ 0 ∷ []) $
    use2 𝓛 (‵ (Pair.own_val (w, y) (v ∷ []))) (pair_of 𝓛 memory.the_row list.the_row w y (memory_val here h.1) (list_val far)) $
    use1 𝓛 (‵ (Out.own_val (Ok (w, y)) (live 0 (vcons v vnil) ∷ []))) (ok_of 𝓛 Pair list.the_row (w, y) v) $
    use0 𝓛 (raw (fact 𝓤 ((b ≡ b) × (b ≡ b) × (x.spans ≡ h ∷ hs)))) (fact_i 𝓤 ((b ≡ b) × (b ≡ b) × (x.spans ≡ h ∷ hs)) (emp 𝓤) (refl, refl, more)) $
    nothing ! $ nothing ! $ fjoin ! $ move ! (3 ∷ 0 ∷ 2 ∷ 1 ∷ []) $
    by ! (leaves 𝓛 ended stays c z (live 0 (vcons v vnil)) (Ok (w, y)) (tt, tt) (tt, tt)))))))
