-- `relc_plans` lends the store and the page to `plans_on` for the call, and has both back after it.
use Rattle.std.proofs.Common.{ℕ, [], ◌∷◌, ◌++◌, refl, w32, MutBor}
use Rattle.rc_c.proofs.Imports.{proved, AnswersSamePlans, OpenSeen, TextPage}
use base.Fraction.{full_share}
use base.Logic.{id⊢}
use base.Fml.{fex, fsep, ftrue, flft, flent}
use mir.Syntax.{named}
use contract.Running.{tables}
use prog.Wp.{WpFn}
use contract.Monad.{fact}
use types.Kit.{fjoin, ‵, raw, ◌⊛◌, some, later, prop, ◌$◌, ◌∵◌, !, qed, done, move, keep, drop, use1, use2, use3, split, join, fsplit, fpack, pick, await, regoal, suffices, group}
use types.Run.{enter, of_opd, addr, stop, no_more, and_then, returns}
use types.ByLocal.{alloc_all, pass_all, free_all, look_at, get, through, sets, lands_as}
use types.SemTy.{Body}
use types.Tokens.{lft_new, lft_end}
use denote.Builtin.{u32}
use denote.Exit.{yes}
use denote.Laws.{Is, shows}
use denote.Lend.{lends_ref, ref_back, lends_again, comes_back, LentAgain}
use denote.Memory.{mem}
use denote.Plain.{uint_Lawful}
use denote.RattleType.{owns}
use denote.RawPtr.{Ptr, RawPtr, block_ptr, lies_at, in_a_block, rawptr_vals, rawptr_Tells}
use denote.Ref.{MutRef, mut_vals, mut_Tells}
use denote.Signature.{plain}
use denote.Steps.{nothing, heard, peeks}
use denote.Triple.Call.{calls_at}
use denote.Triple.Clauses.{lasts}
use denote.Triple.Spec.{triple_of}
use denote.Triple.Walked.{Stays, walk_of, stay_dropped, Goes-dropped, stay_ref, Goes-ref, ends_at}
use denote.Triple.Table.{framed}
use Rattle.rc_embed.specs.contracts.opening.OpenStore.{the_row}
use Rattle.rc_embed.specs.contracts.text_page.TextPage as page
use Rattle.rc_c.specs.contracts.relc_plans as f
use Rattle.rc_c.proofs.relc_plans.Statement.{statement}
use Rattle.rc_c.proofs.relc_plans.Code as code
use Rattle.rc_c.specs.contracts.plans_on as g
use Rattle.rc_c.proofs.plans_on.Met.{met}

abbrev stayed : Stays f.ended.signature.params f.ended.kept
stayed = (stay_dropped _ yes, (stay_ref (0 ∷ []) tt (plain (λ _. page.the_row)), tt))

pub relc_plans_spec : {M : Type 1} → statement M
relc_plans_spec 𝓤 𝓛 𝓜 𝓡 wired =
    let c = f.clauses 𝓛 𝓜.mem 𝓡.returns in let W = walk_of 𝓛 f.ended stayed c in let 𝓣 = tables 𝓤 𝓛.H 𝓜 𝓡 𝓡.env in
    proved 𝓛 f.ended stayed c 𝓜 𝓡 (Goes-dropped 𝓛 1 (plain (λ _. RawPtr)) yes (λ κs x w. refl), (Goes-ref 𝓛 1 0 tt (plain (λ _. page.the_row)), tt))
    f.Key.name code.function (code.unfolded 𝓤 𝓛.H 𝓜 𝓡 wired)
    (λ κs. (rawptr_vals, (mut_vals, tt))) (λ κs. (rawptr_Tells, (mut_Tells (named 0) κs.0 page.the_row, tt))) (λ κs qs bounds a n are.
    let κ = κs.0 in let q = qs.0 in let r = a.1.0 in
    let y : Ptr → W.Ghost = λ p. ((κs, qs, bounds, (p, (r, tt)), (rawptr_vals p, (mut_vals r, tt))), n) in
    qed 𝓛 (((‵ (flft κ q) ⊛ ‵ ftrue) ⊛ ‵ (owns (RawPtr ∷ MutRef (named 0) κ page.the_row ∷ []) (a.0, (r, tt)) (rawptr_vals a.0, (mut_vals r, tt)))) ∷ ‵ (lies_at the_row full_share a.0 n) ∷ []) ∵
    split ! $ split ! $ move ! (2 ∷ []) $ fsplit ! $ drop ! $ fsplit ! $ keep ! (4 ∷ 0 ∷ 2 ∷ []) $
    -- [the store; the page; the token of κ]
    in_a_block ! a.0 (λ p. lies_at the_row full_share p n) (id⊢ 𝓤 _) (λ b o e.
    regoal ! (λ p. prop (WpFn 𝓤 𝓛.H 𝓣.C 𝓣.Λ code.function (rawptr_vals p ++ mut_vals r) (W.post (y p)))) e refl $
    enter ! _ _ _ _ _ $ alloc_all ! (λ l. pass_all ! refl ((tt, tt), ((tt, tt), tt)) $
    sets ! (of_opd ! (get ! refl)) refl (tt, tt) $
    sets ! (addr ! (through ! refl (stop !))) refl (tt, tt) $
    sets ! (addr ! (through ! refl (stop !))) refl (tt, tt) $
    lft_new ! tt (λ α. move ! (1 ∷ 0 ∷ []) $
    let loan : ℕ → MutBor OpenSeen = λ δ. record { ref_ptr = (b, o); ghost_name = δ; now = n } in
    use1 𝓛 (later (some (λ (δ : ℕ). ‵ ((MutRef (named 0) (α ∷ []) the_row).own_val (loan δ) (mut_vals (loan δ))) ⊛ ‵ (flent (α ∷ []) (Body (mem the_row) b o δ)))))
    (lends_ref 𝓛 the_row (named 0) (α ∷ []) n b o) $ await ! tt $ pick ! (λ δ. split ! $
    -- [the loan of the store; the lender's part; α; the page; the token of κ]
    lft_new ! tt (λ β. move ! (4 ∷ 5 ∷ []) $
    use2 𝓛 (later (some (λ (ε : ℕ). ‵ ((MutRef (named 1) (β ∷ []) page.the_row).own_val (record r { ghost_name = ε }) (mut_vals r)) ⊛ ‵ (LentAgain page.the_row κ (β ∷ []) q r.ghost_name r.ref_ptr.0 r.ref_ptr.1 ε r.now))))
    (lends_again 𝓛 page.the_row (named 0) κ (β ∷ []) q r.ghost_name r.ref_ptr.0 r.ref_ptr.1 (named 1) r.now) $ await ! tt $ pick ! (λ ε. split ! $
    -- [the loan of the page; what its lender keeps; β; the loan of the store; the lender's part; α]
    let G = triple_of 𝓛 g.signature (g.spec 𝓛 𝓜.mem 𝓡.returns) in
    let z : G.Ghost = (((α ∷ [], (β ∷ [], tt)), (full_share, (full_share, tt)), tt, (loan δ, (record r { ghost_name = ε }, tt)), (mut_vals (loan δ), (mut_vals r, tt))), tt) in
    nothing ! $ move ! (1 ∷ 0 ∷ []) $ join ! $ move ! (3 ∷ 0 ∷ []) $ join ! $
    nothing ! $ move ! (3 ∷ 0 ∷ []) $ join ! $ move ! (4 ∷ 0 ∷ []) $ join ! $ join ! $ nothing ! $ move ! (1 ∷ 0 ∷ []) $ use2 𝓛 (raw (G.pre z)) (id⊢ 𝓤 _) $
    calls_at ! (framed 𝓤 𝓛.H 𝓜 𝓣) G (met 𝓤 𝓛 𝓜 𝓡 (code.calls-rc_c::plans_on 𝓡.env wired)) z
    (and_then ! (get ! refl) (and_then ! (get ! refl) (no_more !))) (λ v.
    use1 𝓛 (later (some (λ (s : ℕ). ((‵ (flft (α ∷ []) full_share) ⊛ ‵ (flft (β ∷ []) full_share) ⊛ ‵ ftrue) ⊛ ‵ (u32.own_val s (v ∷ []))) ⊛
    some (λ (ws : OpenSeen × (TextPage × Unit {0})). ‵ (lasts g.ended z.0.0 z.0.3 ws) ⊛ raw (fact 𝓤 (AnswersSamePlans n r.now ws.0 ws.1.0 s)))))) (id⊢ 𝓤 _) $
    await ! tt $ pick ! (λ s. split ! $ split ! $ split ! $ lft_end ! tt $ move ! (1 ∷ []) $ split ! $ lft_end ! tt $
    -- [β is over; nothing; α is over; the result; what is left; what the page's lender keeps; the lender's part]
    move ! (4 ∷ []) $ pick ! (λ ws. split ! $ move ! (1 ∷ []) $ heard ! _ (λ same. fsplit ! $ fsplit ! $
    move ! (5 ∷ 8 ∷ 0 ∷ []) $ use3 𝓛 (later (‵ ((mem the_row).own_at ws.0 b o))) (ref_back 𝓛 the_row (α ∷ []) δ ws.0 b o) $ await ! tt $
    -- [the store; its borrow; the page's rest; nothing; β is over; nothing; the result; what the page's lender keeps]
    move ! (2 ∷ []) $ fsplit ! $ fsplit ! $
    move ! (5 ∷ 8 ∷ 0 ∷ []) $ use3 𝓛 (later (‵ ((MutRef (named 0) κ page.the_row).own_val (record r { now = ws.1.0 }) (mut_vals r)) ⊛ ‵ (flft κ q)))
    (comes_back 𝓛 page.the_row (named 0) κ (β ∷ []) q r.ghost_name r.ref_ptr.0 r.ref_ptr.1 ε r.now ws.1.0) $ await ! tt $ split ! $
    -- [the page; the token of κ; its borrow; nothing; the store; the store's borrow; nothing; nothing; the result]
    move ! (7 ∷ []) $ peeks ! u32 (Is u32) (shows 𝓛 u32) s (v ∷ []) (λ is. lands_as ! refl refl ((uint_Lawful 𝓛 w32).typed s _ is).0 $
    returns ! (look_at ! 0 refl) $ free_all ! refl $ keep ! (5 ∷ 0 ∷ 1 ∷ 2 ∷ []) $
    suffices ! _ (ends_at 𝓛 f.ended stayed c (y (block_ptr b o)) v s (tt, (ws.1.0, tt)) (tt, (tt, tt))) $
    use1 𝓛 (‵ (lies_at the_row full_share (block_ptr b o) ws.0)) (id⊢ 𝓤 _) $
    nothing ! $ fpack ! (AnswersSamePlans n r.now ws.0 ws.1.0 s) (λ _. ftrue) same $ fjoin ! $
    fpack ! OpenSeen (λ after. fsep (fex (AnswersSamePlans n r.now after ws.1.0 s) (λ _. ftrue)) (lies_at the_row full_share (block_ptr b o) after)) ws.0 $
    -- [the store; the result; the page; the token of κ]
    move ! (2 ∷ []) $ nothing ! $ move ! (1 ∷ 0 ∷ []) $ join ! $ nothing ! $ join ! $ move ! (3 ∷ []) $ nothing ! $ move ! (1 ∷ 0 ∷ []) $ join ! $
    move ! (0 ∷ 1 ∷ 3 ∷ 2 ∷ []) $ group ! 3 $ done !))))))))))))
