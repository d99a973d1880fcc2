-- `relc_try_group` lends the session and the frames to `try_group_on` for the call, and has both back after it.
use Rattle.std.proofs.Common.{ℕ, List, [], ◌∷◌, ◌++◌, ◌≡◌, length, refl, sym, ap, w32, MutBor}
use Rattle.rc_c.proofs.Imports.{proved, AnswersGroup, SessionSeen, the_row, Frame}
use base.Fraction.{full_share}
use base.Logic.{id⊢}
use base.Fml.{fex, fsep, ftrue, flft, flent}
use mir.Syntax.{named}
use mir.Val.{Val}
use contract.Running.{tables}
use prog.Wp.{WpFn}
use contract.Monad.{fact}
use types.Kit.{feq_i, given, learn, fjoin, ‵, raw, ◌⊛◌, some, later, prop, ◌$◌, ◌∵◌, !, qed, done, move, keep, drop, use1, use2, use3, split, join, fsplit, fpack, pick, await, regoal, suffices, group}
use types.Part.{agg, whole, sub}
use types.Run.{enter, of_opd, addr, fld, from, hop, stop, no_more, and_then, returns}
use types.ByLocal.{alloc_all, pass_all, free_all, look_at, look_in_at, get, get_in, through, sets, lands_as}
use types.SemTy.{Body}
use types.Tokens.{lft_new, lft_end}
use denote.Builtin.{u32}
use denote.Exit.{yes}
use denote.Laws.{Is, shows}
use denote.Lend.{lends_ref, ref_back}
use denote.Memory.{mem}
use denote.Plain.{uint_Lawful}
use denote.RattleType.{owns}
use denote.RawPtr.{Ptr, RawPtr, block_ptr, lies_at, in_a_block, rawptr_vals, rawptr_Tells}
use denote.Ref.{MutRef, mut_vals}
use denote.Slice.{MutSlice, mut_slice_vals, mut_slice_Tells, slice_val}
use borrow.Rule.Slice.Lend.{kept_f, sl_relend, sl_relent_backˡ}
use borrow.Table.Owned.{MutSlice as Owned}
use denote.Signature.{plain}
use denote.Steps.{nothing, heard, peeks}
use denote.Triple.Call.{calls_at}
use denote.Triple.Clauses.{lasts}
use denote.Triple.Spec.{triple_of}
use denote.Triple.Walked.{Stays, walk_of, stay_dropped, Goes-dropped, stay_slice, Goes-slice, ends_at}
use denote.Triple.Table.{framed}
use Rattle.rc_embed.specs.contracts.frame.Frame as frame
use Rattle.rc_c.specs.contracts.relc_try_group as f
use Rattle.rc_c.proofs.relc_try_group.Statement.{statement}
use Rattle.rc_c.proofs.relc_try_group.Code as code
use Rattle.rc_c.specs.contracts.try_group_on as g
use Rattle.rc_c.proofs.try_group_on.Met.{met}

abbrev stayed : Stays f.ended.signature.params f.ended.kept
stayed = (stay_dropped _ yes, (stay_slice (0 ∷ []) tt (plain (λ _. frame.the_row)), tt))

pub relc_try_group_spec : {M : Type 1} → statement M
relc_try_group_spec 𝓤 𝓛 𝓜 𝓡 wired =
    let c = f.clauses 𝓛 𝓜.mem 𝓡.returns in let W = walk_of 𝓛 f.ended stayed c in let 𝓣 = tables 𝓤 𝓛.H 𝓜 𝓡 𝓡.env in
    proved 𝓛 f.ended stayed c 𝓜 𝓡 (Goes-dropped 𝓛 1 (plain (λ _. RawPtr)) yes (λ κs x w. refl), (Goes-slice 𝓛 1 0 tt (plain (λ _. frame.the_row)), tt))
    f.Key.name code.function (code.unfolded 𝓤 𝓛.H 𝓜 𝓡 wired)
    (λ κs. (rawptr_vals, (mut_slice_vals, tt))) (λ κs. (rawptr_Tells, (mut_slice_Tells (named 0) κs.0 frame.the_row, tt))) (λ κs qs bounds a n are.
    let κ = κs.0 in let q = qs.0 in let r = a.1.0 in
    let y : Ptr → W.Ghost = λ p. ((κs, qs, bounds, (p, (r, tt)), (rawptr_vals p, (mut_slice_vals r, tt))), n) in
    qed 𝓛 (((‵ (flft κ q) ⊛ ‵ ftrue) ⊛ ‵ (owns (RawPtr ∷ MutSlice (named 0) κ frame.the_row ∷ []) (a.0, (r, tt)) (rawptr_vals a.0, (mut_slice_vals r, tt)))) ∷ ‵ (lies_at the_row full_share a.0 n) ∷ []) ∵
    split ! $ split ! $ move ! (2 ∷ []) $ fsplit ! $ drop ! $ fsplit ! $ keep ! (4 ∷ 0 ∷ 2 ∷ []) $
    -- [the session; the frames; the token of κ]
    in_a_block ! a.0 (λ p. lies_at the_row full_share p n) (id⊢ 𝓤 _) (λ b o e.
    regoal ! (λ p. prop (WpFn 𝓤 𝓛.H 𝓣.C 𝓣.Λ code.function (rawptr_vals p ++ mut_slice_vals r) (W.post (y p)))) e refl $
    enter ! _ _ _ _ _ $ alloc_all ! (λ l. pass_all ! refl ((tt, tt), ((tt, (tt, (record { fits = are.1.0.0.1.0 }, tt))), tt)) $
    sets ! (of_opd ! (get ! refl)) refl (tt, tt) $
    sets ! (addr ! (through ! refl (stop !))) refl (tt, tt) $
    sets ! (addr ! (from ! (fld ! refl (hop ! (look_in_at ! 2 (sub ! 0 refl (whole !))) (stop !))))) refl (tt, tt) $
    sets ! (agg ! (and_then ! (get ! refl) (and_then ! (get_in ! (fld ! refl (stop !)) (sub ! 1 refl (whole !))) (no_more !)))) refl (tt, (tt, (record { fits = are.1.0.0.1.0 }, tt))) $
    lft_new ! tt (λ α. move ! (1 ∷ 0 ∷ []) $
    let loan : ℕ → MutBor SessionSeen = λ δ. record { ref_ptr = (b, o); ghost_name = δ; now = n } in
    use1 𝓛 (later (some (λ (δ : ℕ). ‵ ((MutRef (named 0) (α ∷ []) the_row).own_val (loan δ) (mut_vals (loan δ))) ⊛ ‵ (flent (α ∷ []) (Body (mem the_row) b o δ)))))
    (lends_ref 𝓛 the_row (named 0) (α ∷ []) n b o) $ await ! tt $ pick ! (λ δ. split ! $
    -- [the loan of the session; the lender's part; α; the frames; the token of κ]
    move ! (3 ∷ []) $ fsplit ! $ fsplit ! $ drop ! $ fjoin ! $ move ! (1 ∷ 2 ∷ 3 ∷ 0 ∷ 4 ∷ []) $
    lft_new ! tt (λ β. move ! (4 ∷ 5 ∷ []) $
    use2 𝓛 (later (some (λ (ε : ℕ). ‵ ((Owned (named 0) (β ∷ []) frame.the_row).own_val (record r { ghost_name = ε })) ⊛ kept_f 𝓛 frame.the_row κ q (β ∷ []) r.ghost_name ε r.now r.ref_ptr.0 r.ref_ptr.1)))
    (sl_relend 𝓛 frame.the_row κ q (β ∷ []) r.ref_ptr.0 r.ref_ptr.1 r.ghost_name r.now) $ await ! tt $ pick ! (λ ε. split ! $
    -- [the loan of the frames; what their lender keeps; β; the loan of the session; the lender's part; α]
    fsplit ! $ feq_i ! (List Val) (mut_slice_vals r) (mut_slice_vals r) refl $ fjoin ! $ fjoin ! $
    let G = triple_of 𝓛 g.signature (g.spec 𝓛 𝓜.mem 𝓡.returns) in
    let z : G.Ghost = (((α ∷ [], (β ∷ [], tt)), (full_share, (full_share, tt)), tt, (loan δ, (record r { ghost_name = ε }, tt)), (mut_vals (loan δ), (mut_slice_vals r, tt))), tt) in
    nothing ! $ move ! (1 ∷ 0 ∷ []) $ join ! $ move ! (3 ∷ 0 ∷ []) $ join ! $
    nothing ! $ move ! (3 ∷ 0 ∷ []) $ join ! $ move ! (4 ∷ 0 ∷ []) $ join ! $ join ! $ nothing ! $ move ! (1 ∷ 0 ∷ []) $ use2 𝓛 (raw (G.pre z)) (id⊢ 𝓤 _) $
    calls_at ! (framed 𝓤 𝓛.H 𝓜 𝓣) G (met 𝓤 𝓛 𝓜 𝓡 (code.calls-rc_c::try_group_on 𝓡.env wired)) z
    (and_then ! (get ! refl) (and_then ! (get ! refl) (no_more !))) (λ v.
    use1 𝓛 (later (some (λ (s : ℕ). ((‵ (flft (α ∷ []) full_share) ⊛ ‵ (flft (β ∷ []) full_share) ⊛ ‵ ftrue) ⊛ ‵ (u32.own_val s (v ∷ []))) ⊛
    some (λ (ws : SessionSeen × (List Frame × Unit {0})). ‵ (lasts g.ended z.0.0 z.0.3 ws) ⊛ raw (fact 𝓤 (AnswersGroup n r.now ws.0 ws.1.0 s)))))) (id⊢ 𝓤 _) $
    await ! tt $ pick ! (λ s. split ! $ split ! $ split ! $ lft_end ! tt $ move ! (1 ∷ []) $ split ! $ lft_end ! tt $
    -- [β is over; nothing; α is over; the result; what is left; what the frames' lender keeps; the lender's part]
    move ! (4 ∷ []) $ pick ! (λ ws. split ! $ move ! (1 ∷ []) $ heard ! _ (λ same. fsplit ! $ fsplit ! $
    move ! (5 ∷ 8 ∷ 0 ∷ []) $ use3 𝓛 (later (‵ ((mem the_row).own_at ws.0 b o))) (ref_back 𝓛 the_row (α ∷ []) δ ws.0 b o) $ await ! tt $
    -- [the session; its borrow; the frames' rest; β is over; nothing; the result; what the frames' lender keeps]
    move ! (2 ∷ []) $ fsplit ! $ fsplit ! $ fsplit ! $
    -- [the frames' last values; their count; their borrow; nothing; the session; its borrow; β is over; ..]
    move ! (6 ∷ 9 ∷ 0 ∷ []) $
    use3 𝓛 (later (given (length ws.1.0 ≡ length r.now) (‵ ((Owned (named 0) κ frame.the_row).own_val (record r { now = ws.1.0 })) ⊛ ‵ (flft κ q))))
    (sl_relent_backˡ 𝓛 frame.the_row κ q (β ∷ []) r.ref_ptr.0 r.ref_ptr.1 r.ghost_name ε r.now ws.1.0) $ await ! tt $ learn ! (λ many. split ! $
    fsplit ! $ feq_i ! (List Val) (mut_slice_vals r) (mut_slice_vals (record r { now = ws.1.0 })) (ap (λ (k : ℕ). slice_val r.ref_ptr k ∷ []) (sym many)) $ fjoin ! $ fjoin ! $
    move ! (2 ∷ []) $ drop ! $
    -- [the frames; the token of κ; their borrow; nothing; the session; the session's borrow; nothing; the result]
    move ! (7 ∷ []) $ peeks ! u32 (Is u32) (shows 𝓛 u32) s (v ∷ []) (λ is. lands_as ! refl refl ((uint_Lawful 𝓛 w32).typed s _ is).0 $
    returns ! (look_at ! 0 refl) $ free_all ! refl $ keep ! (5 ∷ 0 ∷ 1 ∷ 2 ∷ []) $
    suffices ! _ (ends_at 𝓛 f.ended stayed c (y (block_ptr b o)) v s (tt, (ws.1.0, tt)) (tt, (many, tt))) $
    use1 𝓛 (‵ (lies_at the_row full_share (block_ptr b o) ws.0)) (id⊢ 𝓤 _) $
    nothing ! $ fpack ! (AnswersGroup n r.now ws.0 ws.1.0 s) (λ _. ftrue) same $ fjoin ! $
    fpack ! SessionSeen (λ after. fsep (fex (AnswersGroup n r.now after ws.1.0 s) (λ _. ftrue)) (lies_at the_row full_share (block_ptr b o) after)) ws.0 $
    -- [the session; the result; the frames; the token of κ]
    move ! (2 ∷ []) $ nothing ! $ move ! (1 ∷ 0 ∷ []) $ join ! $ nothing ! $ join ! $ move ! (3 ∷ []) $ nothing ! $ move ! (1 ∷ 0 ∷ []) $ join ! $
    move ! (0 ∷ 1 ∷ 3 ∷ 2 ∷ []) $ group ! 3 $ done !)))))))))))))
