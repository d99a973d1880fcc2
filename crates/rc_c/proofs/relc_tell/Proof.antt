-- `relc_tell` lends both sessions to `tell_on` for the call, and has both back after it.
use Rattle.std.proofs.Common.{◌≡◌, ℕ, [], ◌∷◌, ◌++◌, refl, subst, w32, MutBor}
use Rattle.rc_c.proofs.Imports.{proved, SessionSeen, the_row, AnswersTold, IsTold}
use base.Fraction.{full_share}
use base.Logic.{SProp, emp, id⊢}
use base.Fml.{fex, fsep, ftrue, flft, flent}
use mir.Syntax.{named}
use contract.Running.{tables}
use prog.Wp.{WpFn}
use contract.Monad.{fact, fact_i}
use types.Kit.{fjoin, ‵, raw, ◌⊛◌, some, later, prop, ◌$◌, ◌∵◌, !, qed, done, move, keep, drop, use0, use1, use2, use3, split, join, fsplit, fpack, pick, await, regoal, suffices, group}
use types.Run.{enter, of_opd, addr, stop, no_more, and_then, returns}
use types.ByLocal.{alloc_all, pass_all, free_all, look_at, get, through, sets, lands_as}
use types.SemTy.{Body}
use types.Tokens.{lft_new, lft_end}
use denote.Builtin.{u32}
use denote.Exit.{yes}
use denote.Laws.{Is, shows}
use denote.Lend.{lends_ref, ref_back}
use denote.Memory.{mem}
use denote.Plain.{uint_Lawful}
use denote.RawPtr.{Ptr, RawPtr, block_ptr, lies_at, in_a_block, rawptr_vals, rawptr_Tells}
use denote.Ref.{MutRef, mut_vals}
use denote.Signature.{plain}
use denote.Steps.{nothing, heard, peeks}
use denote.Triple.Call.{calls_at}
use denote.Triple.Clauses.{lasts}
use denote.Triple.Entry.{on_entry}
use denote.Triple.Spec.{triple_of}
use denote.Triple.Walked.{Stays, walk_of, stay_dropped, Goes-dropped, ends_at}
use denote.Triple.Table.{framed}
use Rattle.rc_c.specs.contracts.relc_tell as f
use Rattle.rc_c.proofs.relc_tell.Statement.{statement}
use Rattle.rc_c.proofs.relc_tell.Code as code
use Rattle.rc_c.specs.contracts.tell_on as g
use Rattle.rc_c.proofs.tell_on.Met.{met}

abbrev stayed : Stays f.ended.signature.params f.ended.kept
stayed = (stay_dropped _ yes, (stay_dropped _ yes, tt))

pub relc_tell_spec : {M : Type 1} → statement M
relc_tell_spec 𝓤 𝓛 𝓜 𝓡 wired =
    let c = f.clauses 𝓛 𝓜.mem 𝓡.returns in let W = walk_of 𝓛 f.ended stayed c in let 𝓣 = tables 𝓤 𝓛.H 𝓜 𝓡 𝓡.env in
    let goes = Goes-dropped 𝓛 0 (plain (λ _. RawPtr)) yes (λ κs x w. refl) in
    proved 𝓛 f.ended stayed c 𝓜 𝓡 (goes, (goes, tt))
    f.Key.name code.function (code.unfolded 𝓤 𝓛.H 𝓜 𝓡 wired)
    (λ κs. (rawptr_vals, (rawptr_vals, tt))) (λ κs. (rawptr_Tells, (rawptr_Tells, tt))) (λ κs qs bounds a n are.
    let y : Ptr → Ptr → W.Ghost = λ p r. ((κs, qs, bounds, (p, (r, tt)), (rawptr_vals p, (rawptr_vals r, tt))), n) in
    let One : Type 0 = n.to.store ≡ n.from.store in
    let Goal : Ptr → Ptr → SProp 𝓤 = λ p r. WpFn 𝓤 𝓛.H 𝓣.C 𝓣.Λ code.function (rawptr_vals p ++ rawptr_vals r) (W.post (y p r)) in
    let G = triple_of 𝓛 g.signature (g.spec 𝓛 𝓜.mem 𝓡.returns) in
    qed 𝓛 (raw (on_entry 𝓛 f.signature κs qs a (y a.0 a.1.0).0.4) ∷ raw (fact 𝓤 One) ∷ ‵ (lies_at the_row full_share a.0 n.from) ∷ ‵ (lies_at the_row full_share a.1.0 n.to) ∷ []) ∵
    drop ! $ heard ! One (λ one.
    in_a_block ! a.0 (λ p. lies_at the_row full_share p n.from) (id⊢ 𝓤 _) (λ b o e.
    regoal ! (λ p. prop (Goal p a.1.0)) e refl $ move ! (1 ∷ 0 ∷ []) $
    in_a_block ! a.1.0 (λ r. lies_at the_row full_share r n.to) (id⊢ 𝓤 _) (λ d i e'.
    regoal ! (λ r. prop (Goal (block_ptr b o) r)) e' refl $
    -- [the second session; the first]
    enter ! _ _ _ _ _ $ alloc_all ! (λ l. pass_all ! refl ((tt, tt), ((tt, tt), tt)) $
    sets ! (of_opd ! (get ! refl)) refl (tt, tt) $
    sets ! (addr ! (through ! refl (stop !))) refl (tt, tt) $
    sets ! (of_opd ! (get ! refl)) refl (tt, tt) $
    sets ! (addr ! (through ! refl (stop !))) refl (tt, tt) $
    lft_new ! tt (λ α. move ! (2 ∷ 0 ∷ []) $
    let loan : ℕ → MutBor SessionSeen = λ δ. record { ref_ptr = (b, o); ghost_name = δ; now = n.from } in
    use1 𝓛 (later (some (λ (δ : ℕ). ‵ ((MutRef (named 0) (α ∷ []) the_row).own_val (loan δ) (mut_vals (loan δ))) ⊛ ‵ (flent (α ∷ []) (Body (mem the_row) b o δ)))))
    (lends_ref 𝓛 the_row (named 0) (α ∷ []) n.from b o) $ await ! tt $ pick ! (λ δ. split ! $
    -- [the loan of the first; its lender's part; α; the second]
    lft_new ! tt (λ β. move ! (4 ∷ 0 ∷ []) $
    let other : ℕ → MutBor SessionSeen = λ ε. record { ref_ptr = (d, i); ghost_name = ε; now = n.to } in
    use1 𝓛 (later (some (λ (ε : ℕ). ‵ ((MutRef (named 1) (β ∷ []) the_row).own_val (other ε) (mut_vals (other ε))) ⊛ ‵ (flent (β ∷ []) (Body (mem the_row) d i ε)))))
    (lends_ref 𝓛 the_row (named 1) (β ∷ []) n.to d i) $ await ! tt $ pick ! (λ ε. split ! $
    -- [the loan of the second; its lender's part; β; the loan of the first; its lender's part; α]
    let z : G.Ghost = (((α ∷ [], (β ∷ [], tt)), (full_share, (full_share, tt)), tt, (loan δ, (other ε, tt)), (mut_vals (loan δ), (mut_vals (other ε), tt))), tt) in
    nothing ! $ move ! (1 ∷ 0 ∷ []) $ join ! $ move ! (3 ∷ 0 ∷ []) $ join ! $
    nothing ! $ move ! (3 ∷ 0 ∷ []) $ join ! $ move ! (4 ∷ 0 ∷ []) $ join ! $ join ! $
    use0 𝓛 (raw (fact 𝓤 One)) (fact_i 𝓤 One (emp 𝓤) one) $ move ! (1 ∷ 0 ∷ []) $ use2 𝓛 (raw (G.pre z)) (id⊢ 𝓤 _) $
    calls_at ! (framed 𝓤 𝓛.H 𝓜 𝓣) G (met 𝓤 𝓛 𝓜 𝓡 (code.calls-rc_c::tell_on 𝓡.env wired)) z
    (and_then ! (get ! refl) (and_then ! (get ! refl) (no_more !))) (λ v.
    use1 𝓛 (later (some (λ (s : ℕ). ((‵ (flft (α ∷ []) full_share) ⊛ ‵ (flft (β ∷ []) full_share) ⊛ ‵ ftrue) ⊛ ‵ (u32.own_val s (v ∷ []))) ⊛
    some (λ (ws : SessionSeen × (SessionSeen × Unit {0})). ‵ (lasts g.ended z.0.0 z.0.3 ws) ⊛ raw (fact 𝓤 (AnswersTold n.from n.to ws.0 ws.1.0 s)))))) (id⊢ 𝓤 _) $
    await ! tt $ pick ! (λ s. split ! $ split ! $ split ! $ lft_end ! tt $ move ! (1 ∷ []) $ split ! $ lft_end ! tt $
    -- [β is over; nothing; α is over; the result; what is left; the lenders' parts, of the second and of the first]
    move ! (4 ∷ []) $ pick ! (λ ws. split ! $ move ! (1 ∷ []) $ heard ! _ (λ told. fsplit ! $ fsplit ! $
    move ! (5 ∷ 8 ∷ 0 ∷ []) $ use3 𝓛 (later (‵ ((mem the_row).own_at ws.0 b o))) (ref_back 𝓛 the_row (α ∷ []) δ ws.0 b o) $ await ! tt $
    -- [the first; its borrow; the second's rest; β is over; nothing; the result; the second's lender's part]
    move ! (2 ∷ []) $ fsplit ! $ fsplit ! $
    move ! (5 ∷ 8 ∷ 0 ∷ []) $ use3 𝓛 (later (‵ ((mem the_row).own_at ws.1.0 d i))) (ref_back 𝓛 the_row (β ∷ []) ε ws.1.0 d i) $ await ! tt $
    -- [the second; its borrow; nothing; the first; its borrow; nothing; the result]
    move ! (6 ∷ []) $ peeks ! u32 (Is u32) (shows 𝓛 u32) s (v ∷ []) (λ is. lands_as ! refl refl ((uint_Lawful 𝓛 w32).typed s _ is).0 $
    returns ! (look_at ! 0 refl) $ free_all ! refl $ keep ! (1 ∷ 4 ∷ 0 ∷ []) $
    suffices ! _ (ends_at 𝓛 f.ended stayed c (y (block_ptr b o) (block_ptr d i)) v s (tt, (tt, tt)) (tt, (tt, tt))) $
    -- [the second; the first; the result]
    let is_told : IsTold n ws.1.0 s = subst (λ (from : SessionSeen). AnswersTold n.from n.to from ws.1.0 s) told.same told in
    use1 𝓛 (‵ (lies_at the_row full_share (block_ptr d i) ws.1.0)) (id⊢ 𝓤 _) $
    nothing ! $ fpack ! (IsTold n ws.1.0 s) (λ _. ftrue) is_told $ fjoin ! $
    fpack ! SessionSeen (λ after. fsep (fex (IsTold n after s) (λ _. ftrue)) (lies_at the_row full_share (block_ptr d i) after)) ws.1.0 $
    move ! (1 ∷ []) $ use1 𝓛 (‵ (lies_at the_row full_share (block_ptr b o) ws.0)) (id⊢ 𝓤 _) $
    nothing ! $ fpack ! (ws.0 ≡ n.from) (λ _. ftrue) told.same $ fjoin ! $
    fpack ! SessionSeen (λ after. fsep (fex (after ≡ n.from) (λ _. ftrue)) (lies_at the_row full_share (block_ptr b o) after)) ws.0 $
    -- [the first; the second; the result]
    nothing ! $ nothing ! $ join ! $ nothing ! $ join ! $ nothing ! $ move ! (0 ∷ 1 ∷ 4 ∷ 2 ∷ 3 ∷ []) $ group ! 3 $ done !))))))))))))))
