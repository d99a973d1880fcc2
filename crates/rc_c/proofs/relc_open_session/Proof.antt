-- `relc_open_session` lends the store to `session_on`, and has it back. The session is lent for good: it is taken out of its loan, whose
-- lifetime never ends, and its pointer is handed out.
use Rattle.std.proofs.Common.{◌≡◌, ◌∙◌, ℕ, List, [], ◌∷◌, ◌++◌, IfOk, IfErr, refl, ap, lit<, w32, MutBor}
use Rattle.rc_c.proofs.Imports.{proved, hands_out, HasDealt, OpenSeen, AnswersSession}
use base.Fraction.{full_share}
use base.Logic.{emp, id⊢}
use base.Fml.{fex, fsep, ftrue, flft, flent}
use mir.Syntax.{named}
use mir.Val.{Val, vint, vptr, of_list}
use contract.Monad.{fact, fact_i}
use contract.Running.{tables}
use prog.Wp.{Wp, WpFn, after_seq, at_return}
use types.Kit.{‵, raw, ◌⊛◌, some, later, prop, at_ret, any_q, ◌$◌, ◌∵◌, !, qed, done, move, keep, drop, use0, use1, use2, use3, split, join, fsplit, fsplit3, fjoin, feq_i, feq_l, flt_l, fpack, pick, await, regoal, rewrite, suffices, group}
use types.Run.{enter, of_opd, addr, stop, fld, lit, store, no_more, and_then, assigns, first, switches_on, exec, returns}
use types.ByLocal.{alloc_all, pass_all, free_all, look_at, get, get_in, get_tag, through, sets, sets_last, lands_as, env}
use types.Match.{live, vrt, in_variant}
use types.Part.{whole}
use types.SemTy.{Body}
use types.Tokens.{lft_new, lft_end}
use denote.Builtin.{u32}
use denote.Exit.{yes}
use denote.Lend.{lends_ref, ref_back}
use denote.Memory.{cell_at, mem, part_of}
use denote.Plain.{uint_Makes}
use denote.RattleType.{RattleType, owns}
use denote.RawPtr.{Ptr, RawPtr, block_ptr, lies_at, in_a_block, rawptr_vals, rawptr_Tells}
use denote.Ref.{MutRef, mut_vals, mut_Tells}
use denote.Signature.{plain}
use denote.Steps.{nothing, heard, only, opens, closes, owned}
use denote.Triple.Call.{calls_at}
use denote.Triple.Clauses.{Lasts, lasts}
use denote.Triple.Spec.{triple_of}
use denote.Triple.Walked.{Stays, walk_of, stay_dropped, Goes-dropped, stay_ref, Goes-ref, ends_at}
use denote.Triple.Table.{framed}
use Rattle.std.specs.contracts.result.Result as results
use Rattle.rc_c.proofs.Handing.{hands, hands_none}
use Rattle.rc_c.proofs.Shapes.{arm_body}
use Rattle.rc_c.proofs.Takes.{result_out}
use Rattle.rc_embed.specs.contracts.opening.OpenStore.{the_row}
use Rattle.rc_embed.specs.contracts.session.Session as sessions
use Rattle.rc_c.specs.contracts.relc_open_session as f
use Rattle.rc_c.proofs.relc_open_session.Statement.{statement}
use Rattle.rc_c.proofs.relc_open_session.Code as code
use Rattle.rc_c.specs.contracts.session_on as g
use Rattle.rc_c.proofs.session_on.Met as g_met

-- the session, lent for the lifetime
abbrev Lent : List ℕ → RattleType
Lent κ = MutRef (named 1) κ sessions.the_row

abbrev stayed : Stays f.ended.signature.params f.ended.kept
stayed = (stay_dropped _ yes, (stay_ref (0 ∷ []) tt (plain (λ _. RawPtr)), tt))

pub relc_open_session_spec : {M : Type 1} → statement M
unfolding part_of
relc_open_session_spec 𝓤 𝓛 𝓜 𝓡 wired =
    let c = f.clauses 𝓛 𝓜.mem 𝓡.returns in let W = walk_of 𝓛 f.ended stayed c in let 𝓣 = tables 𝓤 𝓛.H 𝓜 𝓡 𝓡.env in
    let G = triple_of 𝓛 g.signature (g.spec 𝓛 𝓜.mem 𝓡.returns) in
    proved 𝓛 f.ended stayed c 𝓜 𝓡 (Goes-dropped 𝓛 1 (plain (λ _. RawPtr)) yes (λ κs x w. refl), (Goes-ref 𝓛 1 0 tt (plain (λ _. RawPtr)), tt))
    f.Key.name code.function (code.unfolded 𝓤 𝓛.H 𝓜 𝓡 wired)
    (λ κs. (rawptr_vals, (mut_vals, tt))) (λ κs. (rawptr_Tells, (mut_Tells (named 0) κs.0 RawPtr, tt))) (λ κs qs bounds a n are.
    let κ = κs.0 in let q = qs.0 in let r = a.1.0 in let rb = r.ref_ptr.0 in let ro = r.ref_ptr.1 in
    let y : Ptr → W.Ghost = λ p. ((κs, qs, bounds, (p, (r, tt)), (rawptr_vals p, (mut_vals r, tt))), n) in
    qed 𝓛 (((‵ (flft κ q) ⊛ ‵ ftrue) ⊛ ‵ (owns (RawPtr ∷ MutRef (named 0) κ RawPtr ∷ []) (a.0, (r, tt)) (rawptr_vals a.0, (mut_vals r, tt)))) ∷ ‵ (lies_at the_row full_share a.0 n) ∷ []) ∵
    split ! $ split ! $ move ! (2 ∷ []) $ fsplit ! $ drop ! $ fsplit ! $ keep ! (4 ∷ 0 ∷ 2 ∷ []) $
    -- [the store; the place of the pointer; the token of κ]
    in_a_block ! a.0 (λ p. lies_at the_row full_share p n) (id⊢ 𝓤 _) (λ b o e.
    regoal ! (λ p. prop (WpFn 𝓤 𝓛.H 𝓣.C 𝓣.Λ code.function (rawptr_vals p ++ mut_vals r) (W.post (y p)))) e refl $
    enter ! _ _ _ _ _ $ alloc_all ! (λ l. pass_all ! refl ((tt, tt), ((tt, tt), tt)) $
    sets ! (of_opd ! (get ! refl)) refl (tt, tt) $
    sets ! (addr ! (through ! refl (stop !))) refl (tt, tt) $
    lft_new ! tt (λ α. move ! (1 ∷ 0 ∷ []) $
    let loan : ℕ → MutBor OpenSeen = λ δ. record { ref_ptr = (b, o); ghost_name = δ; now = n } in
    use1 𝓛 (later (some (λ (δ : ℕ). ‵ ((MutRef (named 0) (α ∷ []) the_row).own_val (loan δ) (mut_vals (loan δ))) ⊛ ‵ (flent (α ∷ []) (Body (mem the_row) b o δ)))))
    (lends_ref 𝓛 the_row (named 0) (α ∷ []) n b o) $ await ! tt $ pick ! (λ δ. split ! $ lft_new ! tt (λ θ.
    -- [θ; the loan of the store; the lender's part; α; the place of the pointer; its token]
    let z : G.Ghost = (((α ∷ [], (θ ∷ [], tt)), (full_share, (full_share, tt)), tt, (loan δ, tt), (mut_vals (loan δ), tt)), tt) in
    move ! (1 ∷ []) $ nothing ! $ move ! (1 ∷ 0 ∷ []) $ join ! $ nothing ! $ move ! (2 ∷ 0 ∷ []) $ join ! $ move ! (3 ∷ 0 ∷ []) $ join ! $ join ! $
    nothing ! $ move ! (1 ∷ 0 ∷ []) $ use2 𝓛 (raw (G.pre z)) (id⊢ 𝓤 _) $
    -- [what the call wants; the lender's part; the place of the pointer; its token]
    calls_at ! (framed 𝓤 𝓛.H 𝓜 𝓣) G (g_met.met 𝓤 𝓛 𝓜 𝓡 (code.calls-rc_c::session_on 𝓡.env wired)) z (and_then ! (get ! refl) (no_more !)) (λ w.
    let A : RattleType = results.the_row (Lent (θ ∷ [])) u32 in
    use1 𝓛 (later (some (λ (m : A.Denot). ((‵ (flft (α ∷ []) full_share) ⊛ ‵ (flft (θ ∷ []) full_share) ⊛ ‵ ftrue) ⊛ ‵ (A.own_val m (w ∷ []))) ⊛
    some (λ (ws : Lasts g.ended z.0.0 z.0.3). ‵ (lasts g.ended z.0.0 z.0.3 ws) ⊛
    (raw (fact 𝓤 (IfOk m (λ session. HasDealt n ws.0 session.now))) ⊛ (raw (fact 𝓤 (IfOk m (λ _. AnswersSession n ws.0 0))) ⊛
    (raw (fact 𝓤 (IfErr m (λ code. code ≡ 0 → ⊥))) ⊛ raw (fact 𝓤 (IfErr m (AnswersSession n ws.0)))))))))) (id⊢ 𝓤 _) $
    await ! tt $ pick ! (λ m. split ! $ split ! $ split ! $ lft_end ! tt $ move ! (1 ∷ []) $ split ! $ move ! (2 ∷ 1 ∷ 0 ∷ []) $
    -- [α is over; nothing; θ; what was made; what is left; the lender's part; the place of the pointer; its token]
    move ! (4 ∷ []) $ pick ! (λ ws. split ! $ move ! (1 ∷ []) $ split ! $ heard ! _ (λ begun. split ! $ heard ! _ (λ did. split ! $ heard ! _ (λ fault. heard ! _ (λ refused. fsplit ! $ fsplit ! $
    move ! (3 ∷ 7 ∷ 0 ∷ []) $ use3 𝓛 (later (‵ ((mem the_row).own_at ws.0 b o))) (ref_back 𝓛 the_row (α ∷ []) δ ws.0 b o) $ await ! tt $
    -- [the store; its borrow; nothing; nothing; θ; what was made; the place of the pointer; its token]
    let En = env code.function.locals l in let Post = W.post (y (block_ptr b o)) in
    let Then = any_q (after_seq 𝓤 𝓛.H (Wp 𝓤 𝓛.H 𝓣.C 𝓣.Λ En code.Mir.t-5 (at_return 𝓤 𝓛.H En Post)) (at_return 𝓤 𝓛.H En Post)) in
    let So : A.Denot → Type 0 = λ x. IfOk x (λ session. HasDealt n ws.0 session.now) × (IfOk x (λ _. AnswersSession n ws.0 0) × (IfErr x (λ code. code ≡ 0 → ⊥) × IfErr x (AnswersSession n ws.0))) in
    move ! (5 ∷ []) $ result_out ! (Lent (θ ∷ [])) u32 So m (w ∷ []) (begun, (did, (fault, refused)))
    (λ t xs so e0. fsplit3 ! $ feq_l ! (λ et.
    -- [the loan of what was made, in two parts; the store; its borrow; nothing; nothing; θ; the place of the pointer; its token]
    let tb = t.ref_ptr.0 in let to = t.ref_ptr.1 in let is : ℕ = 0 in
    lands_as ! (ap only (e0 ∙ (λ i. live 0 (of_list (et i ++ [])) ∷ []))) refl (tt, (record { fits = lit< tt }, (tt, tt))) $
    first ! $ switches_on ! (get_tag ! (vrt ! refl (fld ! refl (stop !))) (whole !)) $ exec ! 𝓣.C 𝓣.Λ En (arm_body 0 code.Mir.s-4) Then $
    sets ! (of_opd ! (get_in ! (vrt ! refl (fld ! refl (stop !))) (in_variant ! 0 0 refl refl (whole !)))) refl (tt, tt) $
    sets ! (addr ! (through ! refl (stop !))) refl (tt, tt) $
    sets ! (of_opd ! (get ! refl)) refl (tt, tt) $
    move ! (7 ∷ 8 ∷ []) $ fsplit3 ! $ move ! (1 ∷ 2 ∷ 3 ∷ []) $ opens ! tt RawPtr rb ro (λ ps. move ! (1 ∷ []) $ feq_l ! (λ en.
    rewrite ! 0 (λ (us : List Val). ‵ (cell_at full_share RawPtr.mir us rb ro)) en refl $
    assigns ! (of_opd ! (get ! refl)) (through ! refl (stop !)) (store ! 0 refl (tt, tt)) $
    feq_i ! (List Val) (vptr tb to ∷ []) (vptr tb to ∷ []) refl $ move ! (1 ∷ 0 ∷ []) $ closes ! tt RawPtr (block_ptr tb to) (vptr tb to ∷ []) rb ro $
    -- [two parts of the place; its token; its first part; the loan of what was made, in two parts; the store; its borrow; nothing; nothing; θ]
    move ! (4 ∷ 5 ∷ 10 ∷ []) $ opens ! tt sessions.the_row tb to (λ us. fjoin ! $
    fpack ! (List Val) (λ us'. fsep (cell_at full_share sessions.the_row.mir us' tb to) (sessions.the_row.own_val t.now us')) us $
    use1 𝓛 (‵ (lies_at sessions.the_row full_share (block_ptr tb to) t.now)) (id⊢ 𝓤 _) $
    -- [what was made; what would close its loan, in three parts; two parts of the place; its token; its first part; the store; ..]
    sets_last ! (of_opd ! (lit ! tt)) refl (tt, record { fits = lit< tt }) $
    exec ! 𝓣.C 𝓣.Λ En code.Mir.t-5 (at_ret En Post) $ sets ! (of_opd ! (get ! refl)) refl (tt, record { fits = lit< tt }) $
    returns ! (look_at ! 0 refl) $ free_all ! refl $ keep ! (7 ∷ 4 ∷ 5 ∷ 6 ∷ 0 ∷ 8 ∷ []) $
    suffices ! _ (ends_at 𝓛 f.ended stayed c (y (block_ptr b o)) (vint w32 0) 0 (tt, (block_ptr tb to, tt)) (tt, (tt, tt))) $
    group ! 3 $ nothing ! $ move ! (1 ∷ 0 ∷ []) $ join ! $ nothing ! $ join ! $ move ! (1 ∷ []) $ nothing ! $ move ! (1 ∷ 0 ∷ []) $ join ! $
    -- [the tokens; the parameters; what was made; the store]
    move ! (2 ∷ []) $ use1 𝓛 (‵ (hands_out sessions.the_row is (block_ptr tb to) (HasDealt n ws.0))) (hands 𝓛 sessions.the_row (block_ptr tb to) is (HasDealt n ws.0) t.now so.0) $
    move ! (3 ∷ []) $ use1 𝓛 (‵ (lies_at the_row full_share (block_ptr b o) ws.0)) (id⊢ 𝓤 _) $ fjoin ! $
    nothing ! $ fpack ! (AnswersSession n ws.0 is) (λ _. ftrue) so.1.0 $ fjoin ! $
    fpack ! OpenSeen (λ after. fsep (fex (AnswersSession n after is) (λ _. ftrue)) (fsep (lies_at the_row full_share (block_ptr b o) after) (hands_out sessions.the_row is (block_ptr tb to) (HasDealt n after)))) ws.0 $
    owned ! u32 _ (uint_Makes 𝓛 w32) 0 (vint w32 0 ∷ []) (refl, lit< tt) $
    use0 𝓛 (raw (fact 𝓤 ((is ≡ 0 → ⊥) → block_ptr tb to ≡ r.now))) (fact_i 𝓤 _ (emp 𝓤) (λ not. absurd (not refl))) $
    -- [that nothing is said; the result; the store, and the session; the tokens; the parameters]
    move ! (3 ∷ 4 ∷ 1 ∷ 0 ∷ 2 ∷ []) $ group ! 3 $ done !)))))
    (λ k ys so e1. fsplit ! $ feq_l ! (λ ek. flt_l ! (λ fk.
    -- [the store; its borrow; nothing; nothing; θ; the place of the pointer; its token]
    lands_as ! (ap only (e1 ∙ (λ i. live 1 (of_list (ek i ++ [])) ∷ []))) refl (tt, (record { fits = lit< tt }, (record { fits = fk }, tt))) $
    first ! $ switches_on ! (get_tag ! (vrt ! refl (fld ! refl (stop !))) (whole !)) $ exec ! 𝓣.C 𝓣.Λ En (arm_body 1 code.Mir.s-4) Then $
    sets ! (of_opd ! (get_in ! (vrt ! refl (fld ! refl (stop !))) (in_variant ! 1 0 refl refl (whole !)))) refl (tt, record { fits = fk }) $
    sets_last ! (of_opd ! (get ! refl)) refl (tt, record { fits = fk }) $
    exec ! 𝓣.C 𝓣.Λ En code.Mir.t-5 (at_ret En Post) $ sets ! (of_opd ! (get ! refl)) refl (tt, record { fits = fk }) $
    returns ! (look_at ! 0 refl) $ free_all ! refl $ keep ! (5 ∷ 6 ∷ 0 ∷ []) $
    suffices ! _ (ends_at 𝓛 f.ended stayed c (y (block_ptr b o)) (vint w32 k) k (tt, (r.now, tt)) (tt, (tt, tt))) $
    nothing ! $ move ! (1 ∷ 0 ∷ []) $ join ! $ nothing ! $ join ! $ move ! (1 ∷ []) $ nothing ! $ move ! (1 ∷ 0 ∷ []) $ join ! $
    -- [the tokens; the parameters; the store]
    use0 𝓛 (‵ (hands_out sessions.the_row k r.now (HasDealt n ws.0))) (hands_none 𝓛 sessions.the_row r.now k (HasDealt n ws.0) so.1.1.0) $
    move ! (3 ∷ []) $ use1 𝓛 (‵ (lies_at the_row full_share (block_ptr b o) ws.0)) (id⊢ 𝓤 _) $ fjoin ! $
    nothing ! $ fpack ! (AnswersSession n ws.0 k) (λ _. ftrue) so.1.1.1 $ fjoin ! $
    fpack ! OpenSeen (λ after. fsep (fex (AnswersSession n after k) (λ _. ftrue)) (fsep (lies_at the_row full_share (block_ptr b o) after) (hands_out sessions.the_row k r.now (HasDealt n after)))) ws.0 $
    owned ! u32 _ (uint_Makes 𝓛 w32) k (vint w32 k ∷ []) (refl, fk) $
    use0 𝓛 (raw (fact 𝓤 ((k ≡ 0 → ⊥) → r.now ≡ r.now))) (fact_i 𝓤 _ (emp 𝓤) (λ not. refl)) $
    move ! (3 ∷ 4 ∷ 1 ∷ 0 ∷ 2 ∷ []) $ group ! 3 $ done !))))))))))))))))
