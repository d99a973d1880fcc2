-- `relc_open` passes the frame on to `opened`. The store is lent for good: it is taken out of its loan, whose lifetime never ends, and its pointer
-- is handed out.
use Rattle.std.proofs.Common.{◌≡◌, ◌∙◌, ℕ, List, [], ◌∷◌, ◌++◌, IfOk, IfErr, refl, sym, ap, subst, lit<, w32}
use Rattle.rc_c.proofs.Imports.{proved_at, IsRefusedBy, KeepsAsked, open_isnt_done, HasOpenedThis, hands_out}
use base.Fraction.{full_share}
use base.Logic.{SProp, ent, emp, id⊢}
use base.Fml.{ftrue, flft}
use mir.Syntax.{named}
use mir.Val.{Val, vint, vptr, of_list}
use contract.Monad.{fact, fact_i}
use contract.Running.{tables}
use prog.Wp.{Wp, WpFn, after_seq, at_return}
use types.Kit.{‵, raw, ◌⊛◌, some, later, at_ret, any_q, ◌$◌, ◌∵◌, !, qed, done, move, keep, drop, use0, use1, use2, split, join, fsplit, fsplit3, feq_i, feq_l, flt_l, pick, await, rewrite, suffices, group}
use types.Run.{enter, of_opd, addr, stop, fld, lit, store, no_more, and_then, assigns, first, switches_on, exec, returns}
use types.ByLocal.{alloc_all, pass_all, free_all, look_at, get, get_in, get_tag, through, sets, sets_last, lands_as, env}
use types.Match.{live, vrt, in_variant}
use types.Part.{whole}
use types.Tokens.{lft_new}
use denote.Builtin.{SliceRefOf, u8, u32}
use denote.Exit.{yes}
use denote.Memory.{cell_at, lone}
use denote.Plain.{uint_Makes}
use denote.RattleType.{RattleType, owns}
use denote.RawPtr.{RawPtr, block_ptr}
use denote.Ref.{MutRef, mut_vals, mut_Tells}
use denote.Slice.{ShrSlice, shr_slice_vals, shr_slice_Tells}
use denote.Signature.{plain, types_at}
use denote.Steps.{nothing, heard, only, opens, closes, owned}
use denote.Triple.Call.{calls_at}
use denote.Triple.Clauses.{Lasts, lasts}
use denote.Triple.Spec.{triple_of}
use denote.Triple.Table.{framed}
use denote.Triple.Walked.{Stays, walk_of, stay_dropped, Goes-dropped, stay_ref, gave_ref, Goes-ref, Goes-gave_ref, ends_at}
use Rattle.std.specs.contracts.alloc.Global as global
use Rattle.std.specs.contracts.result.Result as results
use Rattle.std.proofs.alloc.Global.TheLaws.{the_row_laws as global_laws}
use Rattle.rc_embed.specs.contracts.open_frame.OpenFrame as frame
use Rattle.rc_embed.specs.contracts.opening.OpenStore as stores
use Rattle.rc_c.proofs.Handing.{hands, hands_none, takes_out}
use Rattle.rc_c.proofs.Shapes.{arm_body}
use Rattle.rc_c.proofs.Takes.{result_out, single}
use Rattle.rc_c.specs.contracts.relc_open as f
use Rattle.rc_c.proofs.relc_open.Statement.{statement}
use Rattle.rc_c.proofs.relc_open.Code as code
use Rattle.rc_c.specs.contracts.opened as g
use Rattle.rc_c.proofs.opened.Met.{met}

-- the store, lent for the lifetime
abbrev Lent : List ℕ → RattleType
Lent κ = MutRef (named 2) κ stores.the_row

abbrev stayed : Stays f.ended.signature.params f.ended.kept
stayed = (stay_dropped _ yes, (stay_dropped _ yes, (gave_ref (1 ∷ []) tt (plain (λ _. frame.the_row)), (stay_ref (2 ∷ []) tt (plain (λ _. RawPtr)), tt))))

pub relc_open_spec : {M : Type 1} → statement M
relc_open_spec 𝓤 𝓛 𝓜 𝓡 wired =
    let H = 𝓛.H in let 𝓣 = tables 𝓤 H 𝓜 𝓡 𝓡.env in let c = f.clauses 𝓛 𝓜.mem 𝓡.returns in let G = triple_of 𝓛 g.signature (g.spec 𝓛 𝓜.mem 𝓡.returns) in
    proved_at 𝓛 f.ended stayed c 𝓜 𝓡 (
      Goes-dropped 𝓛 3 (plain (λ _. global.the_row)) yes (λ κs x w. refl),
      (
        Goes-dropped 𝓛 3 (SliceRefOf (0 ∷ []) tt (plain (λ _. u8)) (λ _. tt)) yes (λ κs x w. refl),
        (
          Goes-gave_ref 𝓛 3 1 tt (plain (λ _. frame.the_row)),
          (
            Goes-ref 𝓛 3 2 tt (plain (λ _. RawPtr)),
            tt,
          ),
        ),
      ),
    )
    f.Key.name code.function (code.unfolded 𝓤 H 𝓜 𝓡 wired) (λ z are.
    let κ0 = z.0.0.0 in let q0 = z.0.1.0 in let κn = z.0.0.1.0 in let qn = z.0.1.1.0 in let κ = z.0.0.1.1.0 in let q = z.0.1.1.1.0 in
    let al = z.0.3.0 in let text = z.0.3.1.0 in let n = z.0.3.1.1.0 in let r = z.0.3.1.1.1.0 in let rb = r.ref_ptr.0 in let ro = r.ref_ptr.1 in
    let va = z.0.4.0 in let v0 = z.0.4.1.0 in let vn = z.0.4.1.1.0 in let vr = z.0.4.1.1.1.0 in
    let Post : Val → SProp 𝓤 = (walk_of 𝓛 f.ended stayed c).post z in let Run : List Val → SProp 𝓤 = λ ws. WpFn 𝓤 H 𝓣.C 𝓣.Λ code.function ws Post in
    let is0 : v0 ≡ shr_slice_vals text = shr_slice_Tells (named 0) κ0 u8 text v0 are.1.0 in
    let is_n : vn ≡ mut_vals n = mut_Tells (named 1) κn frame.the_row n vn are.1.1.0 in
    let is_r : vr ≡ mut_vals r = mut_Tells (named 2) κ RawPtr r vr are.1.1.1.0 in
    qed 𝓛 (((‵ (flft κ0 q0) ⊛ ‵ (flft κn qn) ⊛ ‵ (flft κ q) ⊛ ‵ ftrue) ⊛ ‵ (owns (types_at f.ended.signature.params z.0.0) z.0.3 z.0.4)) ∷ ‵ ftrue ∷ []) ∵
    split ! $ split ! $ move ! (1 ∷ []) $ split ! $ move ! (1 ∷ []) $ split ! $
    move ! (4 ∷ []) $ fsplit ! $ move ! (1 ∷ []) $ fsplit ! $ move ! (1 ∷ []) $ fsplit ! $ move ! (1 ∷ []) $ fsplit ! $ keep ! (4 ∷ 3 ∷ 2 ∷ 0 ∷ 8 ∷ 7 ∷ 5 ∷ []) $
    -- [the allocator; the texts; the frame; the pointer's place; their tokens]
    single (lone global.the_row.mir) va ((global_laws.lawful 𝓛).typed al va are.0) (λ av ea ta.
    rewrite ! 0 (λ (us : List Val). ‵ (global.the_row.own_val al us)) ea refl $
    rewrite ! 1 (λ (us : List Val). ‵ ((ShrSlice (named 0) κ0 u8).own_val text us)) is0 refl $
    rewrite ! 2 (λ (us : List Val). ‵ ((MutRef (named 1) κn frame.the_row).own_val n us)) is_n refl $
    let ins : List Val = (av ∷ []) ++ (shr_slice_vals text ++ (mut_vals n ++ (mut_vals r ++ []))) in
    suffices ! (Run ins) (subst (λ (us : List Val). ent 𝓤 (Run ins) (Run us)) (sym (λ i. ea i ++ (is0 i ++ (is_n i ++ (is_r i ++ []))))) (id⊢ 𝓤 (Run ins))) $
    enter ! 𝓣.C 𝓣.Λ code.function ins Post $ alloc_all ! (λ l. pass_all ! refl (ta, ((tt, (tt, (record { fits = are.1.0.0.1.0 }, tt))), ((tt, tt), ((tt, tt), tt)))) $
    sets ! (addr ! (through ! refl (stop !))) refl (tt, tt) $
    lft_new ! tt (λ θ.
    -- [θ; the allocator; the texts; the frame; the pointer's place; their tokens]
    let y : G.Ghost = (((κ0, (κn, (θ ∷ [], tt))), (q0, (qn, (full_share, tt))), tt, (al, (text, (n, tt))), (av ∷ [], (shr_slice_vals text, (mut_vals n, tt)))), tt) in
    nothing ! $ move ! (4 ∷ 0 ∷ []) $ join ! $ move ! (3 ∷ 0 ∷ []) $ join ! $ move ! (2 ∷ 0 ∷ []) $ join ! $
    nothing ! $ move ! (2 ∷ 0 ∷ []) $ join ! $ move ! (4 ∷ 0 ∷ []) $ join ! $ move ! (3 ∷ 0 ∷ []) $ join ! $ join ! $ nothing ! $ move ! (1 ∷ 0 ∷ []) $ use2 𝓛 (raw (G.pre y)) (id⊢ 𝓤 _) $
    -- [what the call wants; the pointer's place; its token]
    calls_at ! (framed 𝓤 H 𝓜 𝓣) G (met 𝓤 𝓛 𝓜 𝓡 (code.calls-rc_c::opened 𝓡.env wired)) y
    (and_then ! (get ! refl) (and_then ! (get ! refl) (and_then ! (get ! refl) (no_more !)))) (λ w.
    let A : RattleType = results.the_row (Lent (θ ∷ [])) u32 in
    use1 𝓛 (later (some (λ (m : A.Denot). ((‵ (flft κ0 q0) ⊛ ‵ (flft κn qn) ⊛ ‵ (flft (θ ∷ []) full_share) ⊛ ‵ ftrue) ⊛ ‵ (A.own_val m (w ∷ []))) ⊛
    some (λ (ws : Lasts g.ended y.0.0 y.0.3). ‵ (lasts g.ended y.0.0 y.0.3 ws) ⊛
    (raw (fact 𝓤 (IfOk m (λ store. HasOpenedThis text.now [] [] n.now ws.1.1.0 store.now))) ⊛ (raw (fact 𝓤 (IfErr m (IsRefusedBy text.now n.now ws.1.1.0))) ⊛ raw (fact 𝓤 (KeepsAsked n.now ws.1.1.0)))))))) (id⊢ 𝓤 _) $
    await ! tt $ pick ! (λ m. split ! $ split ! $ split ! $ move ! (1 ∷ []) $ split ! $ move ! (1 ∷ []) $ split ! $
    -- [θ; nothing; the tokens; what was made; what is left; the pointer's place; its token]
    move ! (5 ∷ []) $ pick ! (λ ws. split ! $ move ! (1 ∷ []) $ split ! $ heard ! _ (λ made. split ! $ heard ! _ (λ refused. heard ! _ (λ asked.
    fsplit ! $ drop ! $ fsplit ! $ drop ! $ fsplit ! $
    move ! (1 ∷ []) $ drop ! $ move ! (2 ∷ []) $ drop ! $
    -- [what is left of the frame; θ; the tokens; what was made; the pointer's place; its token]
    let En = env code.function.locals l in let is : ℕ = 0 in let Then = any_q (after_seq 𝓤 H (Wp 𝓤 H 𝓣.C 𝓣.Λ En code.Mir.t-4 (at_return 𝓤 H En Post)) (at_return 𝓤 H En Post)) in
    let So : A.Denot → Type 0 = λ x. IfOk x (λ store. HasOpenedThis text.now [] [] n.now ws.1.1.0 store.now) × IfErr x (IsRefusedBy text.now n.now ws.1.1.0) in
    move ! (4 ∷ []) $ result_out ! (Lent (θ ∷ [])) u32 So m (w ∷ []) (made, refused)
    (λ t xs so e0. fsplit3 ! $ feq_l ! (λ et.
    let tb = t.ref_ptr.0 in let to = t.ref_ptr.1 in
    lands_as ! (ap only (e0 ∙ (λ i. live 0 (of_list (et i ++ [])) ∷ []))) refl (tt, (record { fits = lit< tt }, (tt, tt))) $
    move ! (0 ∷ 1 ∷ 3 ∷ []) $ takes_out ! tt stores.the_row tb to $
    -- [the store; what is left of the frame; the tokens; the pointer's place; its token]
    first ! $ switches_on ! (get_tag ! (vrt ! refl (fld ! refl (stop !))) (whole !)) $ exec ! 𝓣.C 𝓣.Λ En (arm_body 0 code.Mir.s-3) Then $
    sets ! (of_opd ! (get_in ! (vrt ! refl (fld ! refl (stop !))) (in_variant ! 0 0 refl refl (whole !)))) refl (tt, tt) $
    sets ! (addr ! (through ! refl (stop !))) refl (tt, tt) $
    sets ! (of_opd ! (get ! refl)) refl (tt, tt) $
    move ! (4 ∷ 5 ∷ []) $ fsplit3 ! $ move ! (1 ∷ 2 ∷ 3 ∷ []) $ opens ! tt RawPtr rb ro (λ ps. move ! (1 ∷ []) $ feq_l ! (λ en.
    rewrite ! 0 (λ (us : List Val). ‵ (cell_at full_share RawPtr.mir us rb ro)) en refl $
    assigns ! (of_opd ! (get ! refl)) (through ! refl (stop !)) (store ! 0 refl (tt, tt)) $
    feq_i ! (List Val) (vptr tb to ∷ []) (vptr tb to ∷ []) refl $ move ! (1 ∷ 0 ∷ []) $ closes ! tt RawPtr (block_ptr tb to) (vptr tb to ∷ []) rb ro $
    sets_last ! (of_opd ! (lit ! tt)) refl (tt, record { fits = lit< tt }) $
    exec ! 𝓣.C 𝓣.Λ En code.Mir.t-4 (at_ret En Post) $ sets ! (of_opd ! (get ! refl)) refl (tt, record { fits = lit< tt }) $
    returns ! (look_at ! 0 refl) $ free_all ! refl $ keep ! (3 ∷ 0 ∷ 1 ∷ 4 ∷ 5 ∷ 7 ∷ 6 ∷ 2 ∷ []) $
    suffices ! _ (ends_at 𝓛 f.ended stayed c z (vint w32 0) 0 (tt, (tt, (ws.1.1.0, (block_ptr tb to, tt)))) (tt, (tt, (tt, (tt, tt))))) $
    group ! 3 $
    nothing ! $ move ! (1 ∷ 0 ∷ []) $ join ! $ move ! (2 ∷ 0 ∷ []) $ join ! $ nothing ! $ join ! $ nothing ! $ join ! $
    nothing ! $ move ! (5 ∷ 0 ∷ []) $ join ! $ move ! (4 ∷ 0 ∷ []) $ join ! $ move ! (3 ∷ 0 ∷ []) $ join ! $
    move ! (2 ∷ []) $ use1 𝓛 (‵ (hands_out stores.the_row is (block_ptr tb to) (HasOpenedThis text.now [] [] n.now ws.1.1.0))) (hands 𝓛 stores.the_row (block_ptr tb to) is (HasOpenedThis text.now [] [] n.now ws.1.1.0) t.now so.0) $
    -- [what was handed out; the tokens; the parameters]
    owned ! u32 _ (uint_Makes 𝓛 w32) 0 (vint w32 0 ∷ []) (refl, lit< tt) $
    use0 𝓛 (raw (fact 𝓤 ((is ≡ 0 → ⊥) → block_ptr tb to ≡ r.now))) (fact_i 𝓤 _ (emp 𝓤) (λ not. absurd (not refl))) $
    use0 𝓛 (raw (fact 𝓤 (KeepsAsked n.now ws.1.1.0))) (fact_i 𝓤 _ (emp 𝓤) asked) $
    use0 𝓛 (raw (fact 𝓤 ((is ≡ 0 → ⊥) → IsRefusedBy text.now n.now ws.1.1.0 is))) (fact_i 𝓤 _ (emp 𝓤) (λ not. absurd (not refl))) $
    move ! (5 ∷ 6 ∷ 3 ∷ 0 ∷ 1 ∷ 2 ∷ 4 ∷ []) $ group ! 3 $ done !))))
    (λ k ys so e1. fsplit ! $ feq_l ! (λ ek. flt_l ! (λ fk.
    lands_as ! (ap only (e1 ∙ (λ i. live 1 (of_list (ek i ++ [])) ∷ []))) refl (tt, (record { fits = lit< tt }, (record { fits = fk }, tt))) $
    first ! $ switches_on ! (get_tag ! (vrt ! refl (fld ! refl (stop !))) (whole !)) $ exec ! 𝓣.C 𝓣.Λ En (arm_body 1 code.Mir.s-3) Then $
    sets ! (of_opd ! (get_in ! (vrt ! refl (fld ! refl (stop !))) (in_variant ! 1 0 refl refl (whole !)))) refl (tt, record { fits = fk }) $
    sets_last ! (of_opd ! (get ! refl)) refl (tt, record { fits = fk }) $
    exec ! 𝓣.C 𝓣.Λ En code.Mir.t-4 (at_ret En Post) $ sets ! (of_opd ! (get ! refl)) refl (tt, record { fits = fk }) $
    returns ! (look_at ! 0 refl) $ free_all ! refl $ keep ! (4 ∷ 0 ∷ 3 ∷ 2 ∷ 5 ∷ []) $
    suffices ! _ (ends_at 𝓛 f.ended stayed c z (vint w32 k) k (tt, (tt, (ws.1.1.0, (r.now, tt)))) (tt, (tt, (tt, (tt, tt))))) $
    nothing ! $ move ! (1 ∷ 0 ∷ []) $ join ! $ move ! (1 ∷ 0 ∷ []) $ join ! $ nothing ! $ join ! $ nothing ! $ join ! $
    nothing ! $ move ! (4 ∷ 0 ∷ []) $ join ! $ move ! (3 ∷ 0 ∷ []) $ join ! $ move ! (2 ∷ 0 ∷ []) $ join ! $
    -- [the tokens; the parameters]
    use0 𝓛 (‵ (hands_out stores.the_row k r.now (HasOpenedThis text.now [] [] n.now ws.1.1.0))) (hands_none 𝓛 stores.the_row r.now k (HasOpenedThis text.now [] [] n.now ws.1.1.0) (λ zero. open_isnt_done so.1.fault (sym so.1.code_is ∙ zero))) $
    owned ! u32 _ (uint_Makes 𝓛 w32) k (vint w32 k ∷ []) (refl, fk) $
    use0 𝓛 (raw (fact 𝓤 ((k ≡ 0 → ⊥) → r.now ≡ r.now))) (fact_i 𝓤 _ (emp 𝓤) (λ not. refl)) $
    use0 𝓛 (raw (fact 𝓤 (KeepsAsked n.now ws.1.1.0))) (fact_i 𝓤 _ (emp 𝓤) asked) $
    use0 𝓛 (raw (fact 𝓤 ((k ≡ 0 → ⊥) → IsRefusedBy text.now n.now ws.1.1.0 k))) (fact_i 𝓤 _ (emp 𝓤) (λ not. so.1)) $
    move ! (5 ∷ 6 ∷ 3 ∷ 0 ∷ 1 ∷ 2 ∷ 4 ∷ []) $ group ! 3 $ done !)))))))))))))
