-- `push` writes the header of the new part. Assumes `Logic`.
use Rattle.leg_c_memory.proofs.Steps.{◌≡◌, ℕ, ◌+◌, ◌^◌, ◌<◌, List, [], ◌∷◌, ◌++◌, refl, sym, ap, subst, ◌∙◌, Ty, Fn, Val, SProp, emp, never, id⊢, fsep, fat, froom, full_share, Env, WpFn, fact, fact_i, tables, ‵, raw, ◌⊛◌, prop, at_ret, ◌$◌, ◌∵◌, !, qed, by, move, drop, use0, use1, split, rewrite, regoal, fsplit, fsplit3, fjoin, fpack, whole, sub, agg, stop, fld, init, of_opd, no_more, and_then, assigns_last, first, blocks, exec, returns, enter, alloc_all, pass_all, free_all, look_at, get, get_in, through, sets, env, lone, owns, Ptr, block_ptr, block_of, count_of, in_a_block, types_at, nothing, heard, alive, Stays, stay_dropped, walk_of, Goes-blank, after, and_tt, proved_at, leaves, slot_at}
use Rattle.leg_c_memory.proofs.Units.{formed}
use Rattle.leg_c_memory.proofs.Values.{ptr_typed, memory_val, memory_told, list_val, list_own, list_told, list_made}
use Rattle.leg_c_memory.specs.Sizes.{Span, IsSpan}
use Rattle.leg_c_memory.specs.Ownership.{bytes_at, hole_type, hole_val, behind, first_of}
use Rattle.leg_c_memory.specs.contracts.holes.Hole as header
use Rattle.leg_c_memory.specs.contracts.holes.Holes as list
use Rattle.leg_c_memory.specs.contracts.holes.Holes.push.{ended, clauses}
use Rattle.leg_c_memory.specs.contracts.holes.Holes.push.Key.{name}
use Rattle.leg_c_memory.proofs.holes.Holes.push.Statement.{statement}
use Rattle.leg_c_memory.proofs.holes.Holes.push.Code as compiled

abbrev named_hole : Ty
named_hole = lone (header.the_row).mir

pub push_spec : {M : Type 1} → statement M
push_spec 𝓤 𝓛 𝓜 𝓡 wired =
    let fn : Fn = compiled.function in
    let stays : Stays ended.signature.params ended.kept =
    (stay_dropped (slot_at 0 ended.signature.params) ended.kept.0, (stay_dropped (slot_at 1 ended.signature.params) ended.kept.1.0, tt)) in
    let c = clauses 𝓛 𝓜.mem 𝓡.returns in
    let C = (tables 𝓤 𝓛.H 𝓜 𝓡 𝓡.env).C in
    let Λ = (tables 𝓤 𝓛.H 𝓜 𝓡 𝓡.env).Λ in
    proved_at 𝓛 ended stays c 𝓜 𝓡 (
      Goes-blank 𝓛 0 (slot_at 0 ended.signature.params) ended.kept.0 (λ κs x f. tt),
      (Goes-blank 𝓛 0 (slot_at 1 ended.signature.params) ended.kept.1.0 (λ κs x f. tt), tt),
    ) name fn (compiled.unfolded 𝓤 𝓛.H 𝓜 𝓡 wired) (λ z are.
    let Post : Val → SProp 𝓤 = (walk_of 𝓛 ended stays c).post z in
    let a = z.0.3 in
    let vss = z.0.4 in
    let x = a.0 in
    let b = x.object in
    let m = a.1.0 in
    let p = m.ptr in
    let n = m.size in
    let next : Ptr = first_of b x.spans in
    let told : vss.0 ≡ list_val next ∷ [] = list_told x.first vss.0 are.0.0 ∙ ap (λ (u : Ptr). list_val u ∷ []) x.begins in
    let told' = memory_told p n vss.1.0 are.1.0.0 in
    let fits = told'.1 in
    let Asked : Type 0 = block_of p ≡ b in
    qed 𝓛 ((raw (alive 𝓛 ended.signature z.0.0 z.0.1) ⊛ ‵ (owns (types_at ended.signature.params z.0.0) a vss)) ∷ raw (fact 𝓤 Asked) ∷ []) ∵ move ! (1 ∷ []) $
    heard ! Asked (λ asked. split ! $ move ! (1 ∷ []) $
    fsplit3 ! $ fsplit ! $ drop ! $ move ! (2 ∷ []) $ drop ! $ move ! (1 ∷ []) $ fsplit ! $ drop ! $
    in_a_block ! p (λ u. bytes_at u n) (id⊢ 𝓤 (never 𝓤)) (λ b' o at.
    let same : b' ≡ b = sym (ap block_of at) ∙ asked in
    let here : Ptr = block_ptr b o in
    let lies : p ≡ here = at ∙ ap (λ (k : ℕ). block_ptr k o) same in
    let h : Span = (o, n) in
    let top : o + n < 2 ^ 63 = subst (λ (u : Ptr). count_of u + n < 2 ^ 63) at m.fits.1 in
    let is : IsSpan h = (m.fits.0, top) in
    rewrite ! 0 (λ (k : ℕ). ‵ (bytes_at (block_ptr k o) n)) same refl $
    use1 𝓛 (‵ (froom hole_type b o) ⊛ ‵ (behind b h)) (formed 𝓛 b h is.0.0 is.0.1) $ split ! $
    use1 𝓛 (‵ (froom named_hole b o)) (𝓛.laws.raw-room named_hole b o) $
    regoal ! (λ (us : List Val). prop (WpFn 𝓤 𝓛.H C Λ fn us Post)) (λ i. told i ++ ((told'.0 ∙ ap (λ (u : Ptr). memory_val u n ∷ []) lies) i ++ [])) refl $
    enter ! C Λ fn (list_val next ∷ memory_val here n ∷ []) Post $
    alloc_all ! (λ l. pass_all ! refl ((and_tt _ ((ptr_typed next).0), ((ptr_typed next).1, tt)), ((tt, (tt, (record { fits = fits }, tt))), tt)) $
    let En : Env 𝓤 𝓛.H = env fn.locals l in
    sets ! (of_opd ! (get_in ! (fld ! refl (stop !)) (sub ! 0 refl (whole !)))) refl (ptr_typed next) $
    sets ! (of_opd ! (get_in ! (fld ! refl (stop !)) (sub ! 0 refl (whole !)))) refl (tt, tt) $
    sets ! (of_opd ! (get_in ! (fld ! refl (stop !)) (sub ! 1 refl (whole !)))) refl (tt, record { fits = fits }) $
    sets ! (of_opd ! (get ! refl)) refl (tt, tt) $
    first ! $ blocks ! $
    sets ! (agg ! (and_then ! (get ! refl) (and_then ! (get ! refl) (no_more !)))) refl
    (and_tt _ ((ptr_typed next).0), (record { fits = fits }, ((ptr_typed next).1, tt))) $
    assigns_last ! (of_opd ! (get ! refl)) (through ! refl (stop !))
    (init ! 0 refl (and_tt _ ((ptr_typed next).0), (record { fits = fits }, ((ptr_typed next).1, tt)))) $
    exec ! C Λ En (after 5 fn.body) (at_ret En Post) $
    sets ! (agg ! (and_then ! (get ! refl) (no_more !))) refl (tt, (tt, tt)) $
    returns ! (look_at ! 0 refl) $ free_all ! refl $
    let y : (list.the_row).Denot = record { first = here; object = b; spans = h ∷ x.spans; begins = refl } in
    use1 𝓛 (‵ (fat full_share hole_type b o (hole_val n next))) (𝓛.laws.at_raw full_share named_hole b o (hole_val n next)) $ fjoin ! $
    fpack ! (IsSpan h) (λ _. fsep (fat full_share hole_type b o (hole_val n next)) (behind b h)) is $ fjoin ! $
    use0 𝓛 (‵ (list_own here (list_val here ∷ []))) (list_made 𝓛 here) $ fjoin ! $
    use0 𝓛 (raw (fact 𝓤 ((b ≡ b) × (h ∷ x.spans ≡ (count_of p, n) ∷ x.spans))))
    (fact_i 𝓤 ((b ≡ b) × (h ∷ x.spans ≡ (count_of p, n) ∷ x.spans)) (emp 𝓤) (refl, ap (λ (k : ℕ). (k, n) ∷ x.spans) (sym (ap count_of at)))) $
    nothing ! $ nothing ! $ fjoin ! $ nothing ! $ fjoin ! $ move ! (3 ∷ 0 ∷ 2 ∷ 1 ∷ []) $
    by ! (leaves 𝓛 ended stays c z (list_val here) y (tt, (tt, tt)) (tt, (tt, tt)))))))
