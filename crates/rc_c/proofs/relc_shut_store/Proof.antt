-- `relc_shut_store` reads the store out of its memory, and closes it. The place of what is left is lent for good: it is taken out of its loan, whose
-- lifetime never ends, its pointer is handed out, and the room of the store stays. Or the store comes back, and is written into its memory again.
use Rattle.std.proofs.Common.{◌≡◌, ◌∙◌, ℕ, Bool, true, false, ◌&&◌, List, [], ◌∷◌, ◌++◌, IfOk, IfErr, ◌⊎◌, Option, None, Some, refl, sym, ap, subst, arith, lit<, w32}
use Rattle.rc_c.proofs.Imports.{proved, same_Some, NotClosed, HasAllPasses, OpenSeen, HasClosedInto, IsUnclosedFor, AnswersClosed, left_behind, hands_out}
use base.Fraction.{full_share}
use base.Logic.{SProp, ent, emp, id⊢, never_e, fst∗, via, never}
use seplogic.Ra.Ura.{Ura}
use base.Fml.{Fml, fex, fsep, ftrue, flft, fat, froom}
use mathlib.Core.Logic.{inl, inr}
use mir.Syntax.{Ty, named}
use lib.Dec.{T}
use mir.Val.{Val, WT, has_ty, vint, vptr, vstruct, of_list}
use contract.Monad.{fact, fact_i}
use contract.Running.{tables}
use prog.Wp.{Wp, WpFn, after_seq, at_return}
use types.Kit.{‵, raw, ◌⊛◌, ⋆, some, later, prop, at_ret, any_q, ◌$◌, ◌∵◌, !, qed, done, by, move, keep, drop, use0, use1, use2, split, join, fsplit, fsplit3, fjoin, feq_i, feq_l, flt_l, fpack, fpick, pick, await, regoal, rewrite, suffices, group}
use types.Run.{enter, of_opd, addr, load, look, stop, fld, lit, no_more, and_then, first, switches_on, exec, assigns, store, returns, well_typed}
use types.ByLocal.{alloc_all, pass_all, free_all, look_at, get, get_in, get_tag, through, sets, sets_last, lands_as, env}
use types.Part.{sub, whole}
use types.Match.{live, vrt, in_variant}
use types.Logic.{Logic}
use types.Tokens.{lft_new}
use denote.Builtin.{u32}
use denote.Exit.{yes}
use denote.Laws.{Is, shows}
use denote.Memory.{part_of, cell_at, lone}
use denote.Plain.{uint_Makes}
use denote.RattleType.{RattleType, owns}
use denote.RawPtr.{Ptr, RawPtr, block_ptr, lies_at, in_a_block, rawptr_vals, rawptr_Tells}
use denote.Ref.{MutRef, mut_vals, mut_Tells}
use denote.Signature.{plain}
use denote.Steps.{nothing, heard, only, opens, closes, owned, peeks}
use denote.Triple.Call.{calls_at}
use denote.Triple.Clauses.{Lasts, lasts}
use denote.Triple.Spec.{triple_of}
use denote.Triple.Walked.{Stays, walk_of, stay_dropped, Goes-dropped, stay_ref, Goes-ref, ends_at}
use denote.Triple.Table.{framed}
use Rattle.std.specs.contracts.result.Result as results
use Rattle.rc_embed.specs.contracts.opening.OpenStore as stores
use Rattle.rc_embed.specs.contracts.resume_frame.ClosedPlace as places
use Rattle.rc_embed.specs.contracts.resume_frame.NotClosed as backs
use Rattle.rc_embed.proofs.opening.OpenStore.TheLaws.{the_row_laws as store_laws}
use Rattle.rc_embed.proofs.resume_frame.NotClosed.TheLaws.{the_row_laws as back_laws}
use Rattle.rc_c.proofs.Handing.{hands, hands_none}
use Rattle.rc_c.proofs.Shapes.{arm_body}
use Rattle.rc_c.proofs.Takes.{result_out, single}
use Rattle.rc_c.specs.contracts.relc_shut_store as f
use Rattle.rc_c.proofs.relc_shut_store.Statement.{statement}
use Rattle.rc_c.proofs.relc_shut_store.Code as code
use Rattle.rc_c.specs.contracts.close_on as g
use Rattle.rc_c.proofs.close_on.Met as g_met

-- the place of the closed store, lent for the lifetime
abbrev Lent : List ℕ → RattleType
Lent κ = MutRef (named 0) κ places.the_row

abbrev stayed : Stays f.ended.signature.params f.ended.kept
stayed = (stay_dropped _ yes, (stay_ref (0 ∷ []) tt (plain (λ _. RawPtr)), tt))

-- what lies in a cell of one type is one value
module _ {M : Type 1} {𝓤 : Ura M} (𝓛 : Logic 𝓤) (τ : Ty) (own : List Val → Fml) (rest : Fml) (b o : ℕ) (G : SProp 𝓤)
    (k : (v : Val) → ent 𝓤 (⋆ 𝓛 (‵ (fat full_share τ b o v) ∷ ‵ (own (v ∷ [])) ∷ ‵ rest ∷ [])) G) where
  each : (us : List Val) → ent 𝓤 (⋆ 𝓛 (‵ (cell_at full_share (τ ∷ []) us b o) ∷ ‵ (own us) ∷ ‵ rest ∷ [])) G
  each [] = via 𝓤 (never 𝓤) (fst∗ 𝓤 (never 𝓤) (⋆ 𝓛 (‵ (own []) ∷ ‵ rest ∷ []))) (never_e 𝓤 G)
  each (v ∷ []) =
      qed 𝓛 (‵ (cell_at full_share (τ ∷ []) (v ∷ []) b o) ∷ ‵ (own (v ∷ [])) ∷ ‵ rest ∷ []) ∵ use1 𝓛 (‵ (fat full_share τ b o v)) (𝓛.laws.raw_at full_share τ b o v) $ by ! (k v)
  each (v ∷ u ∷ vs) = via 𝓤 (never 𝓤) (fst∗ 𝓤 (never 𝓤) (⋆ 𝓛 (‵ (own (v ∷ u ∷ vs)) ∷ ‵ rest ∷ []))) (never_e 𝓤 G)

gone : (n : OpenSeen) → HasAllPasses n → AnswersClosed n None 0
gone n all = record { gone = λ _. (refl, all); same = λ after is. absurd cc }

stays : (n : OpenSeen) (back : NotClosed) → (back.store ≡ n) × IsUnclosedFor n back.code → AnswersClosed n (Some back.store) back.code
stays n back had = record {
  gone = λ is. absurd cc;
  same = λ after is. (same_Some after back.store (sym is) ∙ had.0, had.1);
}

and_true : (x : Bool) → T x → T (x && true)
and_true true is = tt
and_true false is = absurd is

held_isnt_done : (k : ℕ) → (k ≡ 1) ⊎ (k ≡ 26) → k ≡ 0 → ⊥
held_isnt_done k (inl memory) is = omega (arith, memory, is)
held_isnt_done k (inr shared) is = omega (arith, shared, is)

unclosed_isnt_done : (n : OpenSeen) (k : ℕ) → IsUnclosedFor n k → k ≡ 0 → ⊥
unclosed_isnt_done n k (inl out) is = omega (arith, out.0, is)
unclosed_isnt_done n k (inr want) is = held_isnt_done k want.0 is

abbrev Fit : Ty → Val → Type 0
Fit σ x = T (has_ty σ x) × WT x

pub relc_shut_store_spec : {M : Type 1} → statement M
unfolding part_of
relc_shut_store_spec 𝓤 𝓛 𝓜 𝓡 wired =
    let c = f.clauses 𝓛 𝓜.mem 𝓡.returns in let W = walk_of 𝓛 f.ended stayed c in let 𝓣 = tables 𝓤 𝓛.H 𝓜 𝓡 𝓡.env in
    proved 𝓛 f.ended stayed c 𝓜 𝓡 (Goes-dropped 𝓛 1 (plain (λ _. RawPtr)) yes (λ κs x w. refl), (Goes-ref 𝓛 1 0 tt (plain (λ _. RawPtr)), tt))
    f.Key.name code.function (code.unfolded 𝓤 𝓛.H 𝓜 𝓡 wired)
    (λ κs. (rawptr_vals, (mut_vals, tt))) (λ κs. (rawptr_Tells, (mut_Tells (named 0) κs.0 RawPtr, tt))) (λ κs qs bounds a n are.
    let κ = κs.0 in let q = qs.0 in let r = a.1.0 in let rb = r.ref_ptr.0 in let ro = r.ref_ptr.1 in
    let y : Ptr → W.Ghost = λ p. ((κs, qs, bounds, (p, (r, tt)), (rawptr_vals p, (mut_vals r, tt))), n) in
    let τ : Ty = lone stores.the_row.mir in
    let Ref = MutRef (named 0) κ RawPtr in
    let G = triple_of 𝓛 g.signature (g.spec 𝓛 𝓜.mem 𝓡.returns) in
    qed 𝓛 (((‵ (flft κ q) ⊛ ‵ ftrue) ⊛ ‵ (owns (RawPtr ∷ Ref ∷ []) (a.0, (r, tt)) (rawptr_vals a.0, (mut_vals r, tt)))) ∷ ‵ (lies_at stores.the_row full_share a.0 n) ∷ []) ∵
    split ! $ split ! $ move ! (2 ∷ []) $ fsplit ! $ drop ! $ fsplit ! $ keep ! (4 ∷ 0 ∷ 2 ∷ []) $
    -- [the store; the pointer's place; the token of κ]
    in_a_block ! a.0 (λ p. lies_at stores.the_row full_share p n) (id⊢ 𝓤 _) (λ b o e.
    let Goal : SProp 𝓤 = WpFn 𝓤 𝓛.H 𝓣.C 𝓣.Λ code.function (rawptr_vals (block_ptr b o) ++ mut_vals r) (W.post (y (block_ptr b o))) in
    regoal ! (λ p. prop (WpFn 𝓤 𝓛.H 𝓣.C 𝓣.Λ code.function (rawptr_vals p ++ mut_vals r) (W.post (y p)))) e refl $
    move ! (1 ∷ 2 ∷ []) $ fjoin ! $ move ! (1 ∷ []) $
    use1 𝓛 (‵ (fex (List Val) (λ us. fsep (cell_at full_share stores.the_row.mir us b o) (stores.the_row.own_val n us)))) (id⊢ 𝓤 _) $
    fpick ! (λ us. fsplit ! $ by ! (each 𝓛 τ (stores.the_row.own_val n) (fsep (Ref.own_val r (mut_vals r)) (flft κ q)) b o Goal (λ v.
    qed 𝓛 (‵ (fat full_share τ b o v) ∷ ‵ (stores.the_row.own_val n (v ∷ [])) ∷ ‵ (fsep (Ref.own_val r (mut_vals r)) (flft κ q)) ∷ []) ∵
    move ! (2 ∷ []) $ fsplit ! $ move ! (2 ∷ 3 ∷ 0 ∷ 1 ∷ []) $ well_typed ! (λ good.
    enter ! _ _ _ _ _ $ alloc_all ! (λ l. pass_all ! refl ((tt, tt), ((tt, tt), tt)) $
    -- [the cell; the store; the pointer's place; the token of κ]
    sets ! (of_opd ! (get ! refl)) refl (tt, tt) $
    sets ! (of_opd ! (load ! (through ! refl (stop !)) (look ! 0 refl))) refl good $
    lft_new ! tt (λ θ.
    let z : G.Ghost = (((θ ∷ [], tt), (full_share, tt), tt, (n, tt), (v ∷ [], tt)), tt) in
    move ! (2 ∷ []) $ nothing ! $ move ! (1 ∷ 0 ∷ []) $ join ! $ nothing ! $ move ! (2 ∷ 0 ∷ []) $ join ! $ join ! $ nothing ! $ move ! (1 ∷ 0 ∷ []) $ use2 𝓛 (raw (G.pre z)) (id⊢ 𝓤 _) $
    -- [what the call wants; the cell; the pointer's place; the token of κ]
    calls_at ! (framed 𝓤 𝓛.H 𝓜 𝓣) G (g_met.met 𝓤 𝓛 𝓜 𝓡 (code.calls-rc_c::close_on 𝓡.env wired)) z (and_then ! (get ! refl) (no_more !)) (λ w.
    let Shut : RattleType = results.the_row (Lent (θ ∷ [])) backs.the_row in
    use1 𝓛 (later (some (λ (s : Shut.Denot). ((‵ (flft (θ ∷ []) full_share) ⊛ ‵ ftrue) ⊛ ‵ (Shut.own_val s (w ∷ []))) ⊛
    some (λ (ws : Lasts g.ended z.0.0 z.0.3). ‵ (lasts g.ended z.0.0 z.0.3 ws) ⊛
    (raw (fact 𝓤 (IfOk s (λ place. HasAllPasses n × HasClosedInto n place.now))) ⊛ raw (fact 𝓤 (IfErr s (λ back. (back.store ≡ n) × IsUnclosedFor n back.code)))))))) (id⊢ 𝓤 _) $
    await ! tt $ pick ! (λ s. split ! $ split ! $ split ! $ move ! (3 ∷ []) $ pick ! (λ ws. split ! $ drop ! $ split ! $ heard ! _ (λ did. heard ! _ (λ kept. move ! (2 ∷ []) $
    -- [the result; θ; nothing; the cell; the pointer's place; the token of κ]
    let En = env code.function.locals l in let Post = W.post (y (block_ptr b o)) in
    let Then = any_q (after_seq 𝓤 𝓛.H (Wp 𝓤 𝓛.H 𝓣.C 𝓣.Λ En code.Mir.t-5 (at_return 𝓤 𝓛.H En Post)) (at_return 𝓤 𝓛.H En Post)) in
    result_out ! (Lent (θ ∷ [])) backs.the_row (λ (x : Shut.Denot). IfOk x (λ place. HasAllPasses n × HasClosedInto n place.now) × IfErr x (λ back. (back.store ≡ n) × IsUnclosedFor n back.code)) s (w ∷ []) (did, kept)
    (λ t xs so e0. fsplit3 ! $ feq_l ! (λ et.
    -- [the loan of the closed store's place, in two parts; θ; nothing; the cell; the pointer's place; the token of κ]
    let tb = t.ref_ptr.0 in let to = t.ref_ptr.1 in let is : ℕ = 0 in
    lands_as ! (ap only (e0 ∙ (λ i. live 0 (of_list (et i ++ [])) ∷ []))) refl (tt, (record { fits = lit< tt }, (tt, tt))) $
    first ! $ switches_on ! (get_tag ! (vrt ! refl (fld ! refl (stop !))) (whole !)) $ exec ! 𝓣.C 𝓣.Λ En (arm_body 0 code.Mir.s-4) Then $
    sets ! (of_opd ! (get_in ! (vrt ! refl (fld ! refl (stop !))) (in_variant ! 0 0 refl refl (whole !)))) refl (tt, tt) $
    sets ! (addr ! (through ! refl (stop !))) refl (tt, tt) $
    sets ! (of_opd ! (get ! refl)) refl (tt, tt) $
    move ! (5 ∷ 6 ∷ []) $ fsplit3 ! $ move ! (1 ∷ 2 ∷ 3 ∷ []) $ opens ! tt RawPtr rb ro (λ ps. move ! (1 ∷ []) $ feq_l ! (λ en.
    rewrite ! 0 (λ (us' : List Val). ‵ (cell_at full_share RawPtr.mir us' rb ro)) en refl $
    assigns ! (of_opd ! (get ! refl)) (through ! refl (stop !)) (store ! 0 refl (tt, tt)) $
    feq_i ! (List Val) (vptr tb to ∷ []) (vptr tb to ∷ []) refl $ move ! (1 ∷ 0 ∷ []) $ closes ! tt RawPtr (block_ptr tb to) (vptr tb to ∷ []) rb ro $
    -- [two parts of the pointer's place; its token; its first part; the loan of the closed store's place, in two parts; θ; nothing; the cell]
    move ! (4 ∷ 5 ∷ 6 ∷ []) $ opens ! tt places.the_row tb to (λ ps'. fjoin ! $
    fpack ! (List Val) (λ us'. fsep (cell_at full_share places.the_row.mir us' tb to) (places.the_row.own_val t.now us')) ps' $
    use1 𝓛 (‵ (lies_at places.the_row full_share (block_ptr tb to) t.now)) (id⊢ 𝓤 _) $
    -- [the closed store's place; what would close its loan, in three parts; two parts of the pointer's place; its token; its first part; nothing; the cell]
    sets_last ! (of_opd ! (lit ! tt)) refl (tt, record { fits = lit< tt }) $
    exec ! 𝓣.C 𝓣.Λ En code.Mir.t-5 (at_ret En Post) $ sets ! (of_opd ! (get ! refl)) refl (tt, record { fits = lit< tt }) $
    returns ! (look_at ! 0 refl) $ free_all ! refl $ keep ! (7 ∷ 4 ∷ 5 ∷ 6 ∷ 0 ∷ 9 ∷ []) $
    suffices ! _ (ends_at 𝓛 f.ended stayed c (y (block_ptr b o)) (vint w32 0) 0 (tt, (block_ptr tb to, tt)) (tt, (tt, tt))) $
    group ! 3 $ nothing ! $ move ! (1 ∷ 0 ∷ []) $ join ! $ nothing ! $ join ! $ move ! (1 ∷ []) $ nothing ! $ move ! (1 ∷ 0 ∷ []) $ join ! $
    -- [the tokens; the parameters; the closed store's place; the cell]
    move ! (2 ∷ []) $ use1 𝓛 (‵ (hands_out places.the_row is (block_ptr tb to) (HasClosedInto n))) (hands 𝓛 places.the_row (block_ptr tb to) is (HasClosedInto n) t.now so.0.1) $
    move ! (3 ∷ []) $ use1 𝓛 (‵ (froom τ b o)) (𝓛.laws.at_room τ b o v) $ use1 𝓛 (‵ (left_behind stores.the_row (block_ptr b o) None)) (id⊢ 𝓤 _) $
    nothing ! $ fpack ! (AnswersClosed n None is) (λ _. ftrue) (gone n so.0.0) $ fjoin ! $
    fpack ! (Option stores.the_row.Denot) (λ after. fsep (fex (AnswersClosed n after is) (λ _. ftrue)) (left_behind stores.the_row (block_ptr b o) after)) None $
    owned ! u32 _ (uint_Makes 𝓛 w32) 0 (vint w32 0 ∷ []) (refl, lit< tt) $
    use0 𝓛 (raw (fact 𝓤 ((is ≡ 0 → ⊥) → block_ptr tb to ≡ r.now))) (fact_i 𝓤 _ (emp 𝓤) (λ not. absurd (not refl))) $
    -- [that nothing is said; the result; what is left at the store's pointer; what was handed out; the tokens; the parameters]
    move ! (4 ∷ 5 ∷ 1 ∷ 0 ∷ 2 ∷ 3 ∷ []) $ group ! 3 $ done !)))))
    (λ back xs so e1. peeks ! backs.the_row (Is backs.the_row) (shows 𝓛 backs.the_row) back xs (λ isx.
    single (lone backs.the_row.mir) xs ((back_laws.lawful 𝓛).typed back xs isx) (λ x3 ex t3.
    fpick ! (λ vss. fsplit ! $ feq_l ! (λ e2. fsplit ! $ peeks ! stores.the_row (Is stores.the_row) (shows 𝓛 stores.the_row) back.store vss.0 (λ isu.
    single τ vss.0 ((store_laws.lawful 𝓛).typed back.store vss.0 isu) (λ u eu t4. move ! (1 ∷ []) $ fsplit ! $ fsplit ! $ feq_l ! (λ e5. flt_l ! (λ f5.
    -- [nothing; the store; θ; nothing; the cell; the pointer's place; the token of κ]
    let k : ℕ = back.code in let inner : Val = vstruct (of_list (u ∷ vint w32 k ∷ [])) in
    let is_inner : x3 ≡ inner = ap only (sym ex ∙ e2) ∙ (λ i. vstruct (of_list (eu i ++ (e5 i ++ [])))) in
    let is_outer : w ≡ live 1 (of_list (inner ∷ [])) = ap only e1 ∙ (λ i. live 1 (of_list (ex i ++ []))) ∙ (λ i. live 1 (of_list (is_inner i ∷ []))) in
    let t3' = subst (λ (x : Val). Fit (lone backs.the_row.mir) x) is_inner t3 in
    let t6 : Fit (lone Shut.mir) (live 1 (of_list (inner ∷ []))) = (and_true _ t3'.0, (record { fits = lit< tt }, (t3'.1, tt))) in
    drop ! $ rewrite ! 0 (λ (us' : List Val). ‵ (stores.the_row.own_val back.store us')) eu refl $
    lands_as ! is_outer refl t6 $
    first ! $ switches_on ! (get_tag ! (vrt ! refl (fld ! refl (stop !))) (whole !)) $ exec ! 𝓣.C 𝓣.Λ En (arm_body 1 code.Mir.s-4) Then $
    sets ! (of_opd ! (get_in ! (vrt ! refl (fld ! refl (stop !))) (in_variant ! 1 0 refl refl (whole !)))) refl t3' $
    sets ! (of_opd ! (get_in ! (fld ! refl (stop !)) (sub ! 0 refl (whole !)))) refl t4 $
    sets ! (of_opd ! (get_in ! (fld ! refl (stop !)) (sub ! 1 refl (whole !)))) refl (tt, record { fits = f5 }) $
    sets ! (of_opd ! (get ! refl)) refl (tt, tt) $
    sets ! (of_opd ! (get ! refl)) refl t4 $
    assigns ! (of_opd ! (get ! refl)) (through ! refl (stop !)) (store ! 3 refl t4) $
    sets_last ! (of_opd ! (get ! refl)) refl (tt, record { fits = f5 }) $
    exec ! 𝓣.C 𝓣.Λ En code.Mir.t-5 (at_ret En Post) $ sets ! (of_opd ! (get ! refl)) refl (tt, record { fits = f5 }) $
    returns ! (look_at ! 0 refl) $ free_all ! refl $ keep ! (3 ∷ 0 ∷ 4 ∷ 5 ∷ []) $
    suffices ! _ (ends_at 𝓛 f.ended stayed c (y (block_ptr b o)) (vint w32 k) k (tt, (r.now, tt)) (tt, (tt, tt))) $
    -- [the cell; the store; the pointer's place; the token of κ]
    use1 𝓛 (‵ (cell_at full_share stores.the_row.mir (u ∷ []) b o)) (𝓛.laws.at_raw full_share τ b o u) $ fjoin ! $
    fpack ! (List Val) (λ us'. fsep (cell_at full_share stores.the_row.mir us' b o) (stores.the_row.own_val back.store us')) (u ∷ []) $
    use1 𝓛 (‵ (left_behind stores.the_row (block_ptr b o) (Some back.store))) (id⊢ 𝓤 _) $
    nothing ! $ fpack ! (AnswersClosed n (Some back.store) k) (λ _. ftrue) (stays n back so.1) $ fjoin ! $
    fpack ! (Option stores.the_row.Denot) (λ after. fsep (fex (AnswersClosed n after k) (λ _. ftrue)) (left_behind stores.the_row (block_ptr b o) after)) (Some back.store) $
    -- [what is left at the pointer; the pointer's place; the token of κ]
    move ! (1 ∷ []) $ nothing ! $ move ! (1 ∷ 0 ∷ []) $ join ! $ nothing ! $ join ! $ move ! (2 ∷ []) $ nothing ! $ move ! (1 ∷ 0 ∷ []) $ join ! $
    -- [the tokens; the parameters; what is left at the pointer]
    use0 𝓛 (‵ (hands_out places.the_row k r.now (HasClosedInto n))) (hands_none 𝓛 places.the_row r.now k (HasClosedInto n) (unclosed_isnt_done n k so.1.1)) $
    owned ! u32 _ (uint_Makes 𝓛 w32) k (vint w32 k ∷ []) (refl, f5) $
    use0 𝓛 (raw (fact 𝓤 ((k ≡ 0 → ⊥) → r.now ≡ r.now))) (fact_i 𝓤 _ (emp 𝓤) (λ not. refl)) $
    move ! (3 ∷ 4 ∷ 1 ∷ 0 ∷ 5 ∷ 2 ∷ []) $ group ! 3 $ done !)))))))))))))))))) us))))
