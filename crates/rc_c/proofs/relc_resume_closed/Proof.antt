-- `relc_resume_closed` lends the place of the closed store to `resume_on` for the call, and has it back after it; the frame is passed on. The store
-- that goes on is lent for good: it is taken out of its loan, whose lifetime never ends, and its pointer is handed out.
use Rattle.std.proofs.Common.{◌≡◌, ◌∙◌, ℕ, List, [], ◌∷◌, ◌++◌, IfOk, IfErr, IsSome, Option, None, Some, refl, sym, ap, lit<, w32, MutBor}
use Rattle.rc_c.proofs.Imports.{proved, ClosedSeen, OpenFrame, KeepsAsked, OpenSeen, IsResumedBy, IsUnresumedBy, IsUnresumedFrom, isnt_done, lies_again, AnswersResumed, hands_out}
use base.Fraction.{full_share}
use base.Logic.{emp, id⊢}
use base.Fml.{ftrue, flft, flent}
use mir.Syntax.{named}
use mir.Val.{Val, vint, vptr, of_list}
use contract.Monad.{fact, fact_i}
use contract.Running.{tables}
use prog.Wp.{Wp, WpFn, after_seq, at_return}
use types.Kit.{‵, raw, ◌⊛◌, some, later, prop, at_ret, any_q, ◌$◌, ◌∵◌, !, qed, done, move, keep, drop, use0, use1, use2, use3, split, join, fsplit, fsplit3, feq_i, feq_l, flt_l, pick, await, regoal, rewrite, suffices, group}
use types.Run.{enter, of_opd, addr, stop, fld, lit, store, no_more, and_then, assigns, first, switches_on, exec, returns}
use types.ByLocal.{alloc_all, pass_all, free_all, look_at, get, get_in, get_tag, through, sets, sets_last, lands_as, env}
use types.Match.{live, vrt, in_variant}
use types.Part.{whole}
use types.SemTy.{Body}
use types.Tokens.{lft_new, lft_end}
use denote.Builtin.{SliceRefOf, u8, u32}
use denote.Exit.{yes}
use denote.Lend.{lends_ref, ref_back}
use denote.Memory.{cell_at, mem}
use denote.Plain.{uint_Makes}
use denote.RattleType.{RattleType, owns}
use denote.RawPtr.{Ptr, RawPtr, block_ptr, lies_at, in_a_block, rawptr_vals, rawptr_Tells}
use denote.Ref.{MutRef, mut_vals, mut_Tells}
use denote.Slice.{ShrSlice, shr_slice_vals, shr_slice_Tells}
use denote.Signature.{plain}
use denote.Steps.{nothing, heard, only, opens, closes, owned}
use denote.Triple.Call.{calls_at}
use denote.Triple.Clauses.{Lasts, lasts}
use denote.Triple.Spec.{triple_of}
use denote.Triple.Walked.{Stays, walk_of, stay_dropped, Goes-dropped, stay_ref, gave_ref, Goes-ref, Goes-gave_ref, ends_at}
use denote.Triple.Table.{framed}
use Rattle.std.specs.contracts.result.Result as results
use Rattle.rc_embed.specs.contracts.open_frame.OpenFrame as frame
use Rattle.rc_embed.specs.contracts.opening.OpenStore as stores
use Rattle.rc_embed.specs.contracts.resume_frame.ClosedPlace.{the_row}
use Rattle.rc_c.proofs.Handing.{hands, hands_none, so_again, takes_out}
use Rattle.rc_c.proofs.Shapes.{arm_body}
use Rattle.rc_c.proofs.Takes.{result_out}
use Rattle.rc_c.specs.contracts.relc_resume_closed as f
use Rattle.rc_c.proofs.relc_resume_closed.Statement.{statement}
use Rattle.rc_c.proofs.relc_resume_closed.Code as code
use Rattle.rc_c.specs.contracts.resume_on as g
use Rattle.rc_c.proofs.resume_on.Met.{met}

-- the store that goes on, lent for the lifetime
abbrev Lent : List ℕ → RattleType
Lent κ = MutRef (named 5) κ stores.the_row

module _ (closed : ClosedSeen) (text shapes plans : List ℕ) (before after : OpenFrame) (asked : KeepsAsked before after) where
  goes_on : (new : Option ClosedSeen) → (new ≡ None) × (after.length ≡ 0) → AnswersResumed closed text shapes plans before new after 0
  goes_on new is = record { asked = asked; resumed = λ _. is; refused = λ not. absurd (not refl) }

  module _ (new : Option ClosedSeen) (code : ℕ) (same : new ≡ Some closed) (refused : IsUnresumedFrom (Some closed) text shapes plans before after code) where
    why : IsUnresumedBy closed text shapes plans before after code
    why = refused closed refl

    not_done : code ≡ 0 → ⊥
    not_done is = isnt_done why.fault (sym why.code_is ∙ is)

    stays : AnswersResumed closed text shapes plans before new after code
    stays = record { asked = asked; resumed = λ is. absurd (not_done is); refused = λ _. (same, why) }

abbrev stayed : Stays f.ended.signature.params f.ended.kept
stayed = (stay_dropped _ yes, (stay_dropped _ yes, (stay_dropped _ yes, (stay_dropped _ yes, (gave_ref (3 ∷ []) tt (plain (λ _. frame.the_row)), (stay_ref (4 ∷ []) tt (plain (λ _. RawPtr)), tt))))))

pub relc_resume_closed_spec : {M : Type 1} → statement M
relc_resume_closed_spec 𝓤 𝓛 𝓜 𝓡 wired =
    let c = f.clauses 𝓛 𝓜.mem 𝓡.returns in let W = walk_of 𝓛 f.ended stayed c in let 𝓣 = tables 𝓤 𝓛.H 𝓜 𝓡 𝓡.env in
    proved 𝓛 f.ended stayed c 𝓜 𝓡 (
      Goes-dropped 𝓛 5 (plain (λ _. RawPtr)) yes (λ κs x w. refl),
      (
        Goes-dropped 𝓛 5 (SliceRefOf (0 ∷ []) tt (plain (λ _. u8)) (λ _. tt)) yes (λ κs x w. refl),
        (
          Goes-dropped 𝓛 5 (SliceRefOf (1 ∷ []) tt (plain (λ _. u8)) (λ _. tt)) yes (λ κs x w. refl),
          (
            Goes-dropped 𝓛 5 (SliceRefOf (2 ∷ []) tt (plain (λ _. u8)) (λ _. tt)) yes (λ κs x w. refl),
            (Goes-gave_ref 𝓛 5 3 tt (plain (λ _. frame.the_row)), (Goes-ref 𝓛 5 4 tt (plain (λ _. RawPtr)), tt)),
          ),
        ),
      ),
    )
    f.Key.name code.function (code.unfolded 𝓤 𝓛.H 𝓜 𝓡 wired)
    (λ κs. (rawptr_vals, (shr_slice_vals, (shr_slice_vals, (shr_slice_vals, (mut_vals, (mut_vals, tt)))))))
    (λ κs. (
      rawptr_Tells,
      (
        shr_slice_Tells (named 0) κs.0 u8,
        (
          shr_slice_Tells (named 1) κs.1.0 u8,
          (
            shr_slice_Tells (named 2) κs.1.1.0 u8,
            (mut_Tells (named 3) κs.1.1.1.0 frame.the_row, (mut_Tells (named 4) κs.1.1.1.1.0 RawPtr, tt)),
          ),
        ),
      ),
    )) (λ κs qs bounds a n are.
    let κt = κs.0 in let qt = qs.0 in let κh = κs.1.0 in let qh = qs.1.0 in let κp = κs.1.1.0 in let qp = qs.1.1.0 in
    let κ = κs.1.1.1.0 in let q = qs.1.1.1.0 in let κ' = κs.1.1.1.1.0 in let q' = qs.1.1.1.1.0 in
    let text = a.1.0 in let shapes = a.1.1.0 in let plans = a.1.1.1.0 in let r = a.1.1.1.1.0 in let r' = a.1.1.1.1.1.0 in let rb = r'.ref_ptr.0 in let ro = r'.ref_ptr.1 in
    let y : Ptr → W.Ghost = λ p. (
      (
        κs,
        qs,
        bounds,
        (p, (text, (shapes, (plans, (r, (r', tt)))))),
        (rawptr_vals p, (shr_slice_vals text, (shr_slice_vals shapes, (shr_slice_vals plans, (mut_vals r, (mut_vals r', tt)))))),
      ),
      n,
    ) in
    qed 𝓛 (((‵ (flft κt qt) ⊛ ‵ (flft κh qh) ⊛ ‵ (flft κp qp) ⊛ ‵ (flft κ q) ⊛ ‵ (flft κ' q') ⊛ ‵ ftrue)
    ⊛ ‵ (owns (RawPtr ∷ ShrSlice (named 0) κt u8 ∷ ShrSlice (named 1) κh u8 ∷ ShrSlice (named 2) κp u8 ∷ MutRef (named 3) κ frame.the_row ∷ MutRef (named 4) κ' RawPtr ∷ [])
    (a.0, (text, (shapes, (plans, (r, (r', tt)))))) (rawptr_vals a.0, (shr_slice_vals text, (shr_slice_vals shapes, (shr_slice_vals plans, (mut_vals r, (mut_vals r', tt)))))))) ∷ ‵ (lies_at the_row full_share a.0 (Some n)) ∷ []) ∵
    split ! $ split ! $ move ! (1 ∷ []) $ split ! $ move ! (1 ∷ []) $ split ! $ move ! (1 ∷ []) $ split ! $ move ! (1 ∷ []) $ split ! $
    move ! (6 ∷ []) $ fsplit ! $ drop ! $ fsplit ! $ move ! (1 ∷ []) $ fsplit ! $ move ! (1 ∷ []) $ fsplit ! $ move ! (1 ∷ []) $ fsplit ! $ move ! (1 ∷ []) $ fsplit ! $
    keep ! (12 ∷ 5 ∷ 4 ∷ 3 ∷ 2 ∷ 0 ∷ 11 ∷ 10 ∷ 9 ∷ 8 ∷ 6 ∷ []) $
    -- [the place; the text; the shapes; the plans; the frame; the pointer's place; their tokens]
    in_a_block ! a.0 (λ p. lies_at the_row full_share p (Some n)) (id⊢ 𝓤 _) (λ b o e.
    regoal ! (λ p. prop (WpFn 𝓤 𝓛.H 𝓣.C 𝓣.Λ code.function (rawptr_vals p ++ (shr_slice_vals text ++ (shr_slice_vals shapes ++ (shr_slice_vals plans ++ (mut_vals r ++ mut_vals r'))))) (W.post (y p)))) e refl $
    enter ! _ _ _ _ _ $ alloc_all ! (λ l. pass_all ! refl ((tt, tt), ((tt, (tt, (record { fits = are.1.0.0.1.0 }, tt))), ((tt, (tt, (record { fits = are.1.1.0.0.1.0 }, tt))), ((tt, (tt, (record { fits = are.1.1.1.0.0.1.0 }, tt))), ((tt, tt), ((tt, tt), tt)))))) $
    sets ! (of_opd ! (get ! refl)) refl (tt, tt) $
    sets ! (addr ! (through ! refl (stop !))) refl (tt, tt) $
    sets ! (addr ! (through ! refl (stop !))) refl (tt, tt) $
    lft_new ! tt (λ α. move ! (1 ∷ 0 ∷ []) $
    let loan : ℕ → MutBor (Option ClosedSeen) = λ δ. record { ref_ptr = (b, o); ghost_name = δ; now = Some n } in
    use1 𝓛 (later (some (λ (δ : ℕ). ‵ ((MutRef (named 0) (α ∷ []) the_row).own_val (loan δ) (mut_vals (loan δ))) ⊛ ‵ (flent (α ∷ []) (Body (mem the_row) b o δ)))))
    (lends_ref 𝓛 the_row (named 0) (α ∷ []) (Some n) b o) $ await ! tt $ pick ! (λ δ. split ! $ lft_new ! tt (λ θ.
    -- [θ; the loan of the place; the lender's part; α; the text; the shapes; the plans; the frame; the pointer's place; their tokens]
    let G = triple_of 𝓛 g.signature (g.spec 𝓛 𝓜.mem 𝓡.returns) in
    let z : G.Ghost = (
      (
        (α ∷ [], (κt, (κh, (κp, (κ, (θ ∷ [], tt)))))),
        (full_share, (qt, (qh, (qp, (q, (full_share, tt)))))),
        tt,
        (loan δ, (text, (shapes, (plans, (r, tt))))),
        (mut_vals (loan δ), (shr_slice_vals text, (shr_slice_vals shapes, (shr_slice_vals plans, (mut_vals r, tt))))),
      ),
      tt,
    ) in
    nothing ! $ move ! (8 ∷ 0 ∷ []) $ join ! $ move ! (7 ∷ 0 ∷ []) $ join ! $ move ! (6 ∷ 0 ∷ []) $ join ! $ move ! (5 ∷ 0 ∷ []) $ join ! $ move ! (2 ∷ 0 ∷ []) $ join ! $
    nothing ! $ move ! (2 ∷ 0 ∷ []) $ join ! $ move ! (8 ∷ 0 ∷ []) $ join ! $ move ! (7 ∷ 0 ∷ []) $ join ! $ move ! (6 ∷ 0 ∷ []) $ join ! $ move ! (5 ∷ 0 ∷ []) $ join ! $ move ! (3 ∷ 0 ∷ []) $ join ! $ join ! $
    use0 𝓛 (raw (fact 𝓤 (IsSome (Some n)))) (fact_i 𝓤 (IsSome (Some n)) (emp 𝓤) refl) $ move ! (1 ∷ 0 ∷ []) $ use2 𝓛 (raw (G.pre z)) (id⊢ 𝓤 _) $
    -- [what the call wants; the lender's part; the pointer's place; its token]
    calls_at ! (framed 𝓤 𝓛.H 𝓜 𝓣) G (met 𝓤 𝓛 𝓜 𝓡 (code.calls-rc_c::resume_on 𝓡.env wired)) z
    (and_then ! (get ! refl) (and_then ! (get ! refl) (and_then ! (get ! refl) (and_then ! (get ! refl) (and_then ! (get ! refl) (no_more !)))))) (λ w.
    let A : RattleType = results.the_row (Lent (θ ∷ [])) u32 in
    use1 𝓛 (later (some (λ (m : A.Denot). ((‵ (flft (α ∷ []) full_share) ⊛ ‵ (flft κt qt) ⊛ ‵ (flft κh qh) ⊛ ‵ (flft κp qp) ⊛ ‵ (flft κ q) ⊛ ‵ (flft (θ ∷ []) full_share) ⊛ ‵ ftrue) ⊛ ‵ (A.own_val m (w ∷ []))) ⊛
    some (λ (ws : Lasts g.ended z.0.0 z.0.3). ‵ (lasts g.ended z.0.0 z.0.3 ws) ⊛
    (raw (fact 𝓤 (IfOk m (λ store. (closed : ClosedSeen) → Some n ≡ Some closed → IsResumedBy closed text.now shapes.now plans.now r.now store.now))) ⊛
    (raw (fact 𝓤 (IfOk m (λ _. (ws.0 ≡ None) × (ws.1.1.1.1.0.length ≡ 0)))) ⊛ (raw (fact 𝓤 (IfErr m (λ _. ws.0 ≡ Some n))) ⊛
    (raw (fact 𝓤 (IfErr m (IsUnresumedFrom (Some n) text.now shapes.now plans.now r.now ws.1.1.1.1.0))) ⊛ raw (fact 𝓤 (KeepsAsked r.now ws.1.1.1.1.0)))))))))) (id⊢ 𝓤 _) $
    await ! tt $ pick ! (λ m. split ! $ split ! $ split ! $ lft_end ! tt $ move ! (1 ∷ []) $ split ! $ move ! (1 ∷ []) $ split ! $ move ! (1 ∷ []) $ split ! $ move ! (1 ∷ []) $ split ! $ move ! (1 ∷ []) $ split ! $
    move ! (8 ∷ []) $ pick ! (λ ws. split ! $ move ! (1 ∷ []) $ split ! $ heard ! _ (λ resumed. split ! $ heard ! _ (λ none. split ! $ heard ! _ (λ same. split ! $ heard ! _ (λ refused. heard ! _ (λ asked.
    fsplit ! $ fsplit ! $
    move ! (9 ∷ 11 ∷ 0 ∷ []) $ use3 𝓛 (later (‵ ((mem the_row).own_at ws.0 b o))) (ref_back 𝓛 the_row (α ∷ []) δ ws.0 b o) $ await ! tt $
    move ! (2 ∷ []) $ fsplit ! $ drop ! $ fsplit ! $ drop ! $ fsplit ! $ drop ! $ fsplit ! $
    move ! (1 ∷ []) $ drop ! $
    move ! (2 ∷ []) $ drop ! $
    move ! (3 ∷ []) $ drop ! $
    -- [what is left of the frame; the place; θ; the texts' tokens; the frame's; what was made; the pointer's place; its token]
    let En = env code.function.locals l in let Post = W.post (y (block_ptr b o)) in let is : ℕ = 0 in
    let Then = any_q (after_seq 𝓤 𝓛.H (Wp 𝓤 𝓛.H 𝓣.C 𝓣.Λ En code.Mir.t-6 (at_return 𝓤 𝓛.H En Post)) (at_return 𝓤 𝓛.H En Post)) in
    let So : A.Denot → Type 0 = λ x. IfOk x (λ store. (closed : ClosedSeen) → Some n ≡ Some closed → IsResumedBy closed text.now shapes.now plans.now r.now store.now) ×
    (IfOk x (λ _. (ws.0 ≡ None) × (ws.1.1.1.1.0.length ≡ 0)) × (IfErr x (λ _. ws.0 ≡ Some n) × IfErr x (IsUnresumedFrom (Some n) text.now shapes.now plans.now r.now ws.1.1.1.1.0))) in
    let Is : OpenSeen → Type 0 = IsResumedBy n text.now shapes.now plans.now r.now in
    move ! (7 ∷ []) $ result_out ! (Lent (θ ∷ [])) u32 So m (w ∷ []) (resumed, (none, (same, refused)))
    (λ t xs so e0. fsplit3 ! $ feq_l ! (λ et.
    let tb = t.ref_ptr.0 in let to = t.ref_ptr.1 in
    lands_as ! (ap only (e0 ∙ (λ i. live 0 (of_list (et i ++ [])) ∷ []))) refl (tt, (record { fits = lit< tt }, (tt, tt))) $
    move ! (0 ∷ 1 ∷ 4 ∷ []) $ takes_out ! tt stores.the_row tb to $
    -- [the store; what is left of the frame; the place; the texts' tokens; the frame's; the pointer's place; its token]
    first ! $ switches_on ! (get_tag ! (vrt ! refl (fld ! refl (stop !))) (whole !)) $ exec ! 𝓣.C 𝓣.Λ En (arm_body 0 code.Mir.s-5) Then $
    sets ! (of_opd ! (get_in ! (vrt ! refl (fld ! refl (stop !))) (in_variant ! 0 0 refl refl (whole !)))) refl (tt, tt) $
    sets ! (addr ! (through ! refl (stop !))) refl (tt, tt) $
    sets ! (of_opd ! (get ! refl)) refl (tt, tt) $
    move ! (7 ∷ 8 ∷ []) $ fsplit3 ! $ move ! (1 ∷ 2 ∷ 3 ∷ []) $ opens ! tt RawPtr rb ro (λ ps. move ! (1 ∷ []) $ feq_l ! (λ en.
    rewrite ! 0 (λ (us : List Val). ‵ (cell_at full_share RawPtr.mir us rb ro)) en refl $
    assigns ! (of_opd ! (get ! refl)) (through ! refl (stop !)) (store ! 0 refl (tt, tt)) $
    feq_i ! (List Val) (vptr tb to ∷ []) (vptr tb to ∷ []) refl $ move ! (1 ∷ 0 ∷ []) $ closes ! tt RawPtr (block_ptr tb to) (vptr tb to ∷ []) rb ro $
    sets_last ! (of_opd ! (lit ! tt)) refl (tt, record { fits = lit< tt }) $
    exec ! 𝓣.C 𝓣.Λ En code.Mir.t-6 (at_ret En Post) $ sets ! (of_opd ! (get ! refl)) refl (tt, record { fits = lit< tt }) $
    returns ! (look_at ! 0 refl) $ free_all ! refl $ keep ! (3 ∷ 0 ∷ 1 ∷ 4 ∷ 6 ∷ 5 ∷ 10 ∷ 9 ∷ 8 ∷ 7 ∷ 2 ∷ []) $
    suffices ! _ (ends_at 𝓛 f.ended stayed c (y (block_ptr b o)) (vint w32 0) 0 (tt, (tt, (tt, (tt, (ws.1.1.1.1.0, (block_ptr tb to, tt)))))) (tt, (tt, (tt, (tt, (tt, (tt, tt))))))) $
    group ! 3 $ nothing ! $ move ! (1 ∷ 0 ∷ []) $ join ! $ move ! (3 ∷ 0 ∷ []) $ join ! $ nothing ! $ join ! $ nothing ! $ join ! $ nothing ! $ join ! $ nothing ! $ join ! $
    nothing ! $ move ! (8 ∷ 0 ∷ []) $ join ! $ move ! (7 ∷ 0 ∷ []) $ join ! $ move ! (6 ∷ 0 ∷ []) $ join ! $ move ! (5 ∷ 0 ∷ []) $ join ! $ move ! (4 ∷ 0 ∷ []) $ join ! $
    move ! (2 ∷ []) $ use1 𝓛 (‵ (hands_out stores.the_row is (block_ptr tb to) Is)) (hands 𝓛 stores.the_row (block_ptr tb to) is Is t.now (so.0 n refl)) $
    move ! (3 ∷ []) $ use1 𝓛 (‵ (lies_again the_row (block_ptr b o) (λ after. AnswersResumed n text.now shapes.now plans.now r.now after ws.1.1.1.1.0 is))) (so_again 𝓛 the_row (block_ptr b o) (λ after. AnswersResumed n text.now shapes.now plans.now r.now after ws.1.1.1.1.0 is) ws.0 (goes_on n text.now shapes.now plans.now r.now ws.1.1.1.1.0 asked ws.0 so.1.0)) $
    owned ! u32 _ (uint_Makes 𝓛 w32) 0 (vint w32 0 ∷ []) (refl, lit< tt) $
    use0 𝓛 (raw (fact 𝓤 ((is ≡ 0 → ⊥) → block_ptr tb to ≡ r'.now))) (fact_i 𝓤 _ (emp 𝓤) (λ not. absurd (not refl))) $
    move ! (4 ∷ 5 ∷ 1 ∷ 0 ∷ 2 ∷ 3 ∷ []) $ group ! 3 $ done !))))
    (λ k ys so e1. fsplit ! $ feq_l ! (λ ek. flt_l ! (λ fk.
    -- [what is left of the frame; the place; θ; the texts' tokens; the frame's; the pointer's place; its token]
    lands_as ! (ap only (e1 ∙ (λ i. live 1 (of_list (ek i ++ [])) ∷ []))) refl (tt, (record { fits = lit< tt }, (record { fits = fk }, tt))) $
    first ! $ switches_on ! (get_tag ! (vrt ! refl (fld ! refl (stop !))) (whole !)) $ exec ! 𝓣.C 𝓣.Λ En (arm_body 1 code.Mir.s-5) Then $
    sets ! (of_opd ! (get_in ! (vrt ! refl (fld ! refl (stop !))) (in_variant ! 1 0 refl refl (whole !)))) refl (tt, record { fits = fk }) $
    sets_last ! (of_opd ! (get ! refl)) refl (tt, record { fits = fk }) $
    exec ! 𝓣.C 𝓣.Λ En code.Mir.t-6 (at_ret En Post) $ sets ! (of_opd ! (get ! refl)) refl (tt, record { fits = fk }) $
    returns ! (look_at ! 0 refl) $ free_all ! refl $ keep ! (7 ∷ 1 ∷ 0 ∷ 6 ∷ 5 ∷ 4 ∷ 3 ∷ 8 ∷ []) $
    suffices ! _ (ends_at 𝓛 f.ended stayed c (y (block_ptr b o)) (vint w32 k) k (tt, (tt, (tt, (tt, (ws.1.1.1.1.0, (r'.now, tt)))))) (tt, (tt, (tt, (tt, (tt, (tt, tt))))))) $
    nothing ! $ move ! (1 ∷ 0 ∷ []) $ join ! $ move ! (2 ∷ 0 ∷ []) $ join ! $ nothing ! $ join ! $ nothing ! $ join ! $ nothing ! $ join ! $ nothing ! $ join ! $
    nothing ! $ move ! (7 ∷ 0 ∷ []) $ join ! $ move ! (6 ∷ 0 ∷ []) $ join ! $ move ! (5 ∷ 0 ∷ []) $ join ! $ move ! (4 ∷ 0 ∷ []) $ join ! $ move ! (3 ∷ 0 ∷ []) $ join ! $
    move ! (2 ∷ []) $ use1 𝓛 (‵ (lies_again the_row (block_ptr b o) (λ after. AnswersResumed n text.now shapes.now plans.now r.now after ws.1.1.1.1.0 k))) (so_again 𝓛 the_row (block_ptr b o) (λ after. AnswersResumed n text.now shapes.now plans.now r.now after ws.1.1.1.1.0 k) ws.0 (stays n text.now shapes.now plans.now r.now ws.1.1.1.1.0 asked ws.0 k so.1.1.0 so.1.1.1)) $
    use0 𝓛 (‵ (hands_out stores.the_row k r'.now Is)) (hands_none 𝓛 stores.the_row r'.now k Is (not_done n text.now shapes.now plans.now r.now ws.1.1.1.1.0 asked ws.0 k so.1.1.0 so.1.1.1)) $
    owned ! u32 _ (uint_Makes 𝓛 w32) k (vint w32 k ∷ []) (refl, fk) $
    use0 𝓛 (raw (fact 𝓤 ((k ≡ 0 → ⊥) → r'.now ≡ r'.now))) (fact_i 𝓤 _ (emp 𝓤) (λ not. refl)) $
    move ! (4 ∷ 5 ∷ 1 ∷ 0 ∷ 3 ∷ 2 ∷ []) $ group ! 3 $ done !)))))))))))))))))
