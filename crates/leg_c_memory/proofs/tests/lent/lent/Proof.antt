-- `lent` takes units of 16 bytes from `Global`, whose blocks are whole objects. Assumes `Logic`.
use Rattle.leg_c_memory.proofs.Steps.{◌≡◌, ℕ, ◌*◌, ◌/◌, ◌^◌, ◌<◌, List, [], ◌∷◌, ◌++◌, refl, sym, ap, subst, ◌∙◌, arith, lit<, w64, None, Some, Ok, Err, Ty, Fn, Val, vint, vptr, vcons, vnil, SProp, ent, emp, never, id⊢, froom, size, align, capped, Env, WpFn, fact, fact_i, tables, Logic, Item, Goal, Seq, ‵, raw, ◌⊛◌, some, later, prop, at_ret, ◌$◌, ◌∵◌, !, qed, by, move, keep, drop, use0, use1, split, join, pick, regoal, fsplit, fsplit3, fjoin, fpick, feq_l, feq_i, flt_i, await, whole, agg, live, vrt, in_variant, stop, fld, lit, of_opd, no_more, and_then, first, switches_on, exec, returns, enter, alloc_all, pass_all, free_all, look_at, get, get_in, get_tag, sets, sets_last, lands_as, env, owns, RattleType, Ptr, block_ptr, ptr_val, count_of, in_a_block, room_for, types_at, type_at, nothing, only, heard, alive, triple_of, calls_from, Lasts, lasts, Stays, stay_dropped, walk_of, Goes-dropped, after, head, proved_at, leaves, slot_at, then_runs}
use seplogic.Ra.Ura.{Ura}
use mir.Val.{of_list, vstruct}
use Rattle.std.proofs.Common.{Global}
use prog.Capped.{capped_is}
use Rattle.core.specs.Allocator.{block_if_ok}
use Rattle.core.proofs.alloc.Calls.{Answer}
use Rattle.core.proofs.alloc.Shapes.{arm_body}
use Rattle.core.proofs.atomic.Steps.{fm}
use Rattle.core.proofs.option.Made.{Some-of, none_of}
use Rattle.std.proofs.GlobalToken.{dealloc_token_start}
use Rattle.std_heap.specs.contracts.GlobalAllocator.allocate as callee
use Rattle.std_heap.specs.contracts.GlobalAllocator.allocate.Key as callee_key
use Rattle.std_heap.specs.contracts.GlobalAllocator.TheImpl.{ghosts}
use Rattle.std_heap.proofs.GlobalAllocator.allocate.Met.{met as takes}
use Rattle.leg_c_memory.proofs.Values.{memory_val, memory_own, memory_made}
use Rattle.leg_c_memory.specs.Sizes.{IsSize}
use Rattle.leg_c_memory.specs.Ownership.{units_of}
use Rattle.leg_c_memory.specs.contracts.memory.Memory as memory
use Rattle.leg_c_memory.specs.contracts.tests.lent.lent.{ended, clauses}
use Rattle.leg_c_memory.specs.contracts.tests.lent.lent.Key.{name}
use Rattle.leg_c_memory.proofs.tests.lent.lent.Statement.{statement}
use Rattle.leg_c_memory.proofs.tests.lent.lent.Code as compiled

abbrev no_error : Val
no_error = live 1 (vcons (vstruct vnil) vnil)

module _ {M : Type 1} {𝓤 : Ura M} {𝓛 : Logic 𝓤} {K : Type 0} {Γ : List (Item 𝓤)} {G : Goal 𝓤 𝓛.H} where
  -- the two answers of `Global`
  by_block : K → (heap : Global) (τ : Ty) (r : Answer.Denot) (v : Val)
      → ((b o : ℕ) → o ≡ 0 → v ≡ live 0 (vcons (vptr b o) vnil) → Seq K 𝓛 (‵ (froom τ b o) ∷ Γ) G) → (v ≡ no_error → Seq K 𝓛 Γ G)
      → Seq K 𝓛 (‵ (Answer.own_val r (v ∷ [])) ∷ ‵ (block_if_ok (ghosts.dealloc_token heap) τ r) ∷ Γ) G
  by_block t heap τ (Ok p) v ok none =
      fpick t (λ us. fsplit t $ feq_l t (λ e. fpick t (λ vss. fsplit t $ feq_l t (λ e'. fsplit t $ feq_l t (λ e''. drop t $
      fsplit t $ move t (1 ∷ []) $ use1 𝓛 (raw (fact 𝓤 (count_of p ≡ 0))) (dealloc_token_start 𝓛 heap τ p) $ heard t (count_of p ≡ 0) (λ start.
      in_a_block t p (room_for τ) (id⊢ 𝓤 (never 𝓤)) (λ b o at.
      ok b o (sym (ap count_of at) ∙ start) (ap only e
      ∙ ap (λ (ws : List Val). live 0 (of_list ws)) (e' ∙ ap (λ (ws : List Val). ws ++ []) (e'' ∙ ap (λ (z : Ptr). ptr_val z ∷ []) at))))))))))
  by_block t heap τ (Err x) v ok none =
      fpick t (λ us. fsplit t $
      feq_l t (λ e. fpick t (λ vss. fsplit t $ feq_l t (λ e'. fsplit t $ fpick t (λ parts. fsplit t $ feq_l t (λ e''. drop t $ drop t $ drop t $
      none (ap only e ∙ ap (λ (ws : List Val). live 1 (of_list ws)) (e' ∙ ap (λ (ws : List Val). ws ++ []) e''))))))))

pub lent_spec : {M : Type 1} → statement M
lent_spec 𝓤 𝓛 𝓜 𝓡 wired =
    let fn : Fn = compiled.function in
    let stays : Stays ended.signature.params ended.kept =
    (stay_dropped (slot_at 0 ended.signature.params) ended.kept.0, (stay_dropped (slot_at 1 ended.signature.params) ended.kept.1.0, tt)) in
    let c = clauses 𝓛 𝓜.mem 𝓡.returns in
    let C = (tables 𝓤 𝓛.H 𝓜 𝓡 𝓡.env).C in
    let Λ = (tables 𝓤 𝓛.H 𝓜 𝓡 𝓡.env).Λ in
    proved_at 𝓛 ended stays c 𝓜 𝓡 (
      Goes-dropped 𝓛 1 (slot_at 0 ended.signature.params) ended.kept.0 (λ κs x f. refl),
      (Goes-dropped 𝓛 1 (slot_at 1 ended.signature.params) ended.kept.1.0 (λ κs x f. refl), tt),
    ) name fn (compiled.unfolded 𝓤 𝓛.H 𝓜 𝓡 wired) (λ z are.
    let Post : Val → SProp 𝓤 = (walk_of 𝓛 ended stays c).post z in
    let a = z.0.3 in
    let vss = z.0.4 in
    let n = a.1.0 in
    let τ : Ty = units_of n in
    let heap : Global = a.0.now in
    let k = triple_of 𝓛 callee.signature (callee.spec 𝓛 𝓜.mem 𝓡.returns) in
    let me : Val = vptr a.0.ref_ptr.0 a.0.ref_ptr.1 in
    let vs : List Val = me ∷ vint w64 n ∷ vint w64 16 ∷ [] in
    let y : k.Ghost = ((z.0.0, z.0.1, z.0.2, (a.0, (n, (16, tt))), (vss.0, (vss.1.0, (vint w64 16 ∷ [], tt)))), τ) in
    let told : k.args y ≡ vs = λ i. are.0.0 i ++ (are.1.0.0 i ++ (vint w64 16 ∷ [])) in
    let Asked : Type 0 = IsSize n × (n < 2 ^ 63) in
    let Laid : Type 0 = (capped (size τ) ≡ n) × (capped (align τ) ≡ 16) in
    let Out : RattleType = type_at ended.signature.result z.0.0 in
    qed 𝓛 ((raw (alive 𝓛 ended.signature z.0.0 z.0.1) ⊛ ‵ (owns (types_at ended.signature.params z.0.0) a vss)) ∷ raw (fact 𝓤 Asked) ∷ []) ∵ move ! (1 ∷ []) $
    heard ! Asked (λ asked. split ! $ move ! (1 ∷ []) $
    let large = asked.0.0 in
    let even = asked.0.1 in
    let small = asked.1 in
    fsplit3 ! $ nothing ! $ flt_i ! 16 (2 ^ 64) (lit< tt) $ feq_i ! (List Val) (vint w64 16 ∷ []) (vint w64 16 ∷ []) refl $ fjoin ! $ fjoin ! $
    move ! (2 ∷ 0 ∷ []) $ fjoin ! $ move ! (1 ∷ 0 ∷ []) $ fjoin ! $
    move ! (2 ∷ 0 ∷ []) $ join ! $ use0 𝓛 (raw (fact 𝓤 Laid)) (fact_i 𝓤 Laid (emp 𝓤) (capped_is (n / 16 * 16) (omega arith) ∙ omega arith, refl)) $
    move ! (1 ∷ 0 ∷ []) $ join ! $ use1 𝓛 (raw (k.pre y)) (id⊢ 𝓤 _) $
    regoal ! (λ (us : List Val). prop (WpFn 𝓤 𝓛.H C Λ fn us Post)) (λ i. are.0.0 i ++ (are.1.0.0 i ++ [])) refl $
    enter ! C Λ fn (me ∷ vint w64 n ∷ []) Post $
    alloc_all ! (λ l. pass_all ! refl ((tt, tt), ((tt, record { fits = are.1.0.1 }), tt)) $ let En : Env 𝓤 𝓛.H = env fn.locals l in
    calls_from ! (fm 𝓛 𝓜 𝓡) (raw (k.pre y)) vs (k.post y) (subst (λ (us : List Val). ent 𝓤 (k.pre y) (C callee_key.name us (k.post y))) told
    (takes 𝓤 𝓛 𝓜 𝓡 (compiled.calls-std_heap::GlobalAllocator::allocate 𝓡.env wired) y))
    (and_then ! (get ! refl) (and_then ! (get ! refl) (and_then ! (lit ! tt) (no_more !)))) (λ v.
    use1 𝓛 (later (some (λ (x : Answer.Denot). (raw (alive 𝓛 ended.signature z.0.0 z.0.1) ⊛ ‵ (Answer.own_val x (v ∷ []))) ⊛ some
    (λ (ls : Lasts callee.ended z.0.0 y.0.3). ‵ (lasts callee.ended z.0.0 y.0.3 ls) ⊛ ‵ (block_if_ok (ghosts.dealloc_token heap) τ x))))) (id⊢ 𝓤 (k.post y v)) $
    await ! tt $ pick ! (λ x. split ! $ move ! (1 ∷ []) $ pick ! (λ _. split ! $ drop ! $ move ! (1 ∷ []) $ split ! $ move ! (1 ∷ 2 ∷ []) $
    by_block ! heap τ x v
    (λ b o start e. let p : Ptr = block_ptr b o in
    lands_as ! e refl (tt, (record { fits = lit< tt }, (tt, tt))) $
    first ! $ switches_on ! (get_tag ! (vrt ! refl (fld ! refl (stop !))) (whole !)) $
    exec ! C Λ En (arm_body 0 (head (after 1 fn.body))) (then_runs 𝓛 C Λ En (after 2 fn.body) (at_ret En Post)) $
    sets ! (of_opd ! (get_in ! (vrt ! refl (fld ! refl (stop !))) (in_variant ! 0 0 refl refl (whole !)))) refl (tt, tt) $
    sets ! (agg ! (and_then ! (get ! refl) (and_then ! (get ! refl) (no_more !)))) refl (tt, (tt, (record { fits = are.1.0.1 }, tt))) $
    sets_last ! (agg ! (and_then ! (lit ! tt) (and_then ! (get ! refl) (no_more !)))) refl
    (tt, (record { fits = lit< tt }, ((tt, (record { fits = are.1.0.1 }, tt)), tt))) $
    exec ! C Λ En (after 2 fn.body) (at_ret En Post) $
    sets ! (of_opd ! (get ! refl)) refl (tt, (record { fits = lit< tt }, ((tt, (record { fits = are.1.0.1 }, tt)), tt))) $
    returns ! (look_at ! 0 refl) $ free_all ! refl $
    let w : (memory.the_row).Denot = record { ptr = p; size = n; fits = (asked.0, omega arith) } in
    use0 𝓛 (‵ (memory_own p n (memory_val p n ∷ []))) (memory_made 𝓛 p n are.1.0.1) $ fjoin ! $
    use1 𝓛 (‵ (Out.own_val (Some w) (live 1 (vcons (memory_val p n) vnil) ∷ []))) (Some-of 𝓛 memory.the_row w (memory_val p n)) $
    nothing ! $ nothing ! $ nothing ! $ fjoin ! $ nothing ! $ fjoin ! $ keep ! (3 ∷ 0 ∷ 2 ∷ 1 ∷ []) $
    by ! (leaves 𝓛 ended stays c z (live 1 (vcons (memory_val p n) vnil)) (Some w) (tt, (tt, tt)) (tt, (tt, tt))))
    (λ e. lands_as ! e refl (tt, (record { fits = lit< tt }, (tt, tt))) $
    first ! $ switches_on ! (get_tag ! (vrt ! refl (fld ! refl (stop !))) (whole !)) $
    exec ! C Λ En (arm_body 1 (head (after 1 fn.body))) (then_runs 𝓛 C Λ En (after 2 fn.body) (at_ret En Post)) $
    sets_last ! (agg ! (and_then ! (lit ! tt) (no_more !))) refl (tt, (record { fits = lit< tt }, tt)) $
    exec ! C Λ En (after 2 fn.body) (at_ret En Post) $
    sets ! (of_opd ! (get ! refl)) refl (tt, (record { fits = lit< tt }, tt)) $
    returns ! (look_at ! 0 refl) $ free_all ! refl $
    use0 𝓛 (‵ (Out.own_val None (live 0 vnil ∷ []))) (none_of 𝓛 memory.the_row) $
    nothing ! $ nothing ! $ nothing ! $ fjoin ! $ nothing ! $ fjoin ! $ keep ! (3 ∷ 0 ∷ 2 ∷ 1 ∷ []) $
    by ! (leaves 𝓛 ended stays c z (live 0 vnil) None (tt, (tt, tt)) (tt, (tt, tt))))))))))
