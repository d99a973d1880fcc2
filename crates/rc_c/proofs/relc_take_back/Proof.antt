-- `relc_take_back` reads the session out of its memory, and lends the store to `take_back_on` for the call: it has the store back
-- after it, and leaves the room of the session.
use Rattle.std.proofs.Common.{◌≡◌, ℕ, List, [], ◌∷◌, ◌++◌, refl, w32, MutBor}
use Rattle.rc_c.proofs.Imports.{proved, OpenSeen, AnswersGivenBack}
use base.Fraction.{full_share}
use base.Logic.{SProp, emp, ent, id⊢, never_e, fst∗, via, never}
use seplogic.Ra.Ura.{Ura}
use base.Fml.{Fml, fex, fsep, ftrue, flft, flent, fat, froom}
use mir.Syntax.{Ty, named}
use mir.Val.{Val}
use contract.Running.{tables}
use contract.Monad.{fact, fact_i}
use prog.Wp.{WpFn}
use types.Kit.{fjoin, ‵, raw, ◌⊛◌, ⋆, some, later, prop, ◌$◌, ◌∵◌, !, qed, done, by, move, keep, drop, use0, use1, use2, use3, split, join, fsplit, fpack, fpick, pick, await, regoal, suffices, group}
use types.Run.{enter, of_opd, addr, load, look, stop, no_more, and_then, returns, well_typed}
use types.ByLocal.{alloc_all, pass_all, free_all, look_at, get, through, sets, lands_as}
use types.Logic.{Logic}
use types.SemTy.{Body}
use types.Tokens.{lft_new, lft_end}
use denote.Builtin.{u32}
use denote.Exit.{yes}
use denote.Laws.{Is, shows}
use denote.Lend.{lends_ref, ref_back}
use denote.Memory.{mem, part_of, cell_at, lone}
use denote.Plain.{uint_Lawful}
use denote.RawPtr.{Ptr, RawPtr, block_ptr, lies_at, room_at, in_a_block, rawptr_vals, rawptr_Tells}
use denote.Ref.{MutRef, mut_vals}
use denote.Signature.{plain}
use denote.Steps.{nothing, heard, peeks}
use denote.Triple.Call.{calls_at}
use denote.Triple.Clauses.{Lasts, lasts}
use denote.Triple.Entry.{on_entry}
use denote.Triple.Spec.{triple_of}
use denote.Triple.Walked.{Stays, walk_of, stay_dropped, Goes-dropped, ends_at}
use denote.Triple.Table.{framed}
use Rattle.rc_embed.specs.contracts.opening.OpenStore as stores
use Rattle.rc_embed.specs.contracts.session.Session as sessions
use Rattle.rc_c.specs.contracts.relc_take_back as f
use Rattle.rc_c.proofs.relc_take_back.Statement.{statement}
use Rattle.rc_c.proofs.relc_take_back.Code as code
use Rattle.rc_c.specs.contracts.take_back_on as g
use Rattle.rc_c.proofs.take_back_on.Met.{met}

abbrev stayed : Stays f.ended.signature.params f.ended.kept
stayed = (stay_dropped _ yes, (stay_dropped _ yes, tt))

-- what lies in a cell of one type is one value
module _ {M : Type 1} {𝓤 : Ura M} (𝓛 : Logic 𝓤) (τ : Ty) (own : List Val → Fml) (rest : Fml) (b o : ℕ) (G : SProp 𝓤)
    (k : (v : Val) → ent 𝓤 (⋆ 𝓛 (‵ (fat full_share τ b o v) ∷ ‵ (own (v ∷ [])) ∷ ‵ rest ∷ [])) G) where
  each : (us : List Val) → ent 𝓤 (⋆ 𝓛 (‵ (cell_at full_share (τ ∷ []) us b o) ∷ ‵ (own us) ∷ ‵ rest ∷ [])) G
  each [] = via 𝓤 (never 𝓤) (fst∗ 𝓤 (never 𝓤) (⋆ 𝓛 (‵ (own []) ∷ ‵ rest ∷ []))) (never_e 𝓤 G)
  each (v ∷ []) =
      qed 𝓛 (‵ (cell_at full_share (τ ∷ []) (v ∷ []) b o) ∷ ‵ (own (v ∷ [])) ∷ ‵ rest ∷ []) ∵ use1 𝓛 (‵ (fat full_share τ b o v)) (𝓛.laws.raw_at full_share τ b o v) $ by ! (k v)
  each (v ∷ u ∷ vs) = via 𝓤 (never 𝓤) (fst∗ 𝓤 (never 𝓤) (⋆ 𝓛 (‵ (own (v ∷ u ∷ vs)) ∷ ‵ rest ∷ []))) (never_e 𝓤 G)

pub relc_take_back_spec : {M : Type 1} → statement M
unfolding part_of
relc_take_back_spec 𝓤 𝓛 𝓜 𝓡 wired =
    let c = f.clauses 𝓛 𝓜.mem 𝓡.returns in let W = walk_of 𝓛 f.ended stayed c in let 𝓣 = tables 𝓤 𝓛.H 𝓜 𝓡 𝓡.env in
    let goes = Goes-dropped 𝓛 0 (plain (λ _. RawPtr)) yes (λ κs x w. refl) in
    proved 𝓛 f.ended stayed c 𝓜 𝓡 (goes, (goes, tt))
    f.Key.name code.function (code.unfolded 𝓤 𝓛.H 𝓜 𝓡 wired)
    (λ κs. (rawptr_vals, (rawptr_vals, tt))) (λ κs. (rawptr_Tells, (rawptr_Tells, tt))) (λ κs qs bounds a n are.
    let y : Ptr → Ptr → W.Ghost = λ p r. ((κs, qs, bounds, (p, (r, tt)), (rawptr_vals p, (rawptr_vals r, tt))), n) in
    let τ : Ty = lone sessions.the_row.mir in
    let Own : Type 0 = n.session.store ≡ n.store.store in
    let Goal : Ptr → Ptr → SProp 𝓤 = λ p r. WpFn 𝓤 𝓛.H 𝓣.C 𝓣.Λ code.function (rawptr_vals p ++ rawptr_vals r) (W.post (y p r)) in
    let G = triple_of 𝓛 g.signature (g.spec 𝓛 𝓜.mem 𝓡.returns) in
    qed 𝓛 (raw (on_entry 𝓛 f.signature κs qs a (y a.0 a.1.0).0.4) ∷ raw (fact 𝓤 Own) ∷ ‵ (lies_at stores.the_row full_share a.0 n.store) ∷ ‵ (lies_at sessions.the_row full_share a.1.0 n.session) ∷ []) ∵
    drop ! $ heard ! Own (λ its_own.
    in_a_block ! a.0 (λ p. lies_at stores.the_row full_share p n.store) (id⊢ 𝓤 _) (λ b o e.
    regoal ! (λ p. prop (Goal p a.1.0)) e refl $ move ! (1 ∷ 0 ∷ []) $
    in_a_block ! a.1.0 (λ r. lies_at sessions.the_row full_share r n.session) (id⊢ 𝓤 _) (λ d i e'.
    regoal ! (λ r. prop (Goal (block_ptr b o) r)) e' refl $
    use1 𝓛 (‵ (fex (List Val) (λ us. fsep (cell_at full_share sessions.the_row.mir us d i) (sessions.the_row.own_val n.session us)))) (id⊢ 𝓤 _) $
    fpick ! (λ us. fsplit ! $ by ! (each 𝓛 τ (sessions.the_row.own_val n.session) (lies_at stores.the_row full_share (block_ptr b o) n.store) d i (Goal (block_ptr b o) (block_ptr d i)) (λ v.
    qed 𝓛 (‵ (fat full_share τ d i v) ∷ ‵ (sessions.the_row.own_val n.session (v ∷ [])) ∷ ‵ (lies_at stores.the_row full_share (block_ptr b o) n.store) ∷ []) ∵ well_typed ! (λ good.
    enter ! _ _ _ _ _ $ alloc_all ! (λ l. pass_all ! refl ((tt, tt), ((tt, tt), tt)) $
    sets ! (of_opd ! (get ! refl)) refl (tt, tt) $
    sets ! (addr ! (through ! refl (stop !))) refl (tt, tt) $
    sets ! (of_opd ! (get ! refl)) refl (tt, tt) $
    sets ! (of_opd ! (load ! (through ! refl (stop !)) (look ! 0 refl))) refl good $
    -- [the cell; the session; the store]
    lft_new ! tt (λ α. move ! (3 ∷ 0 ∷ []) $
    let loan : ℕ → MutBor OpenSeen = λ δ. record { ref_ptr = (b, o); ghost_name = δ; now = n.store } in
    use1 𝓛 (later (some (λ (δ : ℕ). ‵ ((MutRef (named 0) (α ∷ []) stores.the_row).own_val (loan δ) (mut_vals (loan δ))) ⊛ ‵ (flent (α ∷ []) (Body (mem stores.the_row) b o δ)))))
    (lends_ref 𝓛 stores.the_row (named 0) (α ∷ []) n.store b o) $ await ! tt $ pick ! (λ δ. split ! $
    -- [the loan of the store; the lender's part; α; the cell; the session]
    let z : G.Ghost = (((α ∷ [], tt), (full_share, tt), tt, (loan δ, (n.session, tt)), (mut_vals (loan δ), (v ∷ [], tt))), tt) in
    nothing ! $ move ! (5 ∷ 0 ∷ []) $ join ! $ move ! (1 ∷ 0 ∷ []) $ join ! $
    nothing ! $ move ! (3 ∷ 0 ∷ []) $ join ! $ join ! $
    use0 𝓛 (raw (fact 𝓤 Own)) (fact_i 𝓤 Own (emp 𝓤) its_own) $ move ! (1 ∷ 0 ∷ []) $ use2 𝓛 (raw (G.pre z)) (id⊢ 𝓤 _) $
    -- [what the call wants; the lender's part; the cell]
    calls_at ! (framed 𝓤 𝓛.H 𝓜 𝓣) G (met 𝓤 𝓛 𝓜 𝓡 (code.calls-rc_c::take_back_on 𝓡.env wired)) z
    (and_then ! (get ! refl) (and_then ! (get ! refl) (no_more !))) (λ w.
    use1 𝓛 (later (some (λ (s : ℕ). ((‵ (flft (α ∷ []) full_share) ⊛ ‵ ftrue) ⊛ ‵ (u32.own_val s (w ∷ []))) ⊛
    some (λ (ws : Lasts g.ended z.0.0 z.0.3). ‵ (lasts g.ended z.0.0 z.0.3 ws) ⊛ raw (fact 𝓤 (AnswersGivenBack n.store n.session ws.0 s)))))) (id⊢ 𝓤 _) $
    await ! tt $ pick ! (λ s. split ! $ split ! $ split ! $ lft_end ! tt $
    -- [α is over; nothing; the result; what is left; the lender's part; the cell]
    move ! (3 ∷ []) $ pick ! (λ ws. split ! $ move ! (1 ∷ []) $ heard ! _ (λ back. fsplit ! $ fsplit ! $
    -- [the loan's last value; its borrow; the session's rest; α is over; nothing; the result; the lender's part; the cell]
    move ! (3 ∷ 6 ∷ 0 ∷ []) $ use3 𝓛 (later (‵ ((mem stores.the_row).own_at ws.0 b o))) (ref_back 𝓛 stores.the_row (α ∷ []) δ ws.0 b o) $ await ! tt $
    -- [the store; its borrow; the session's rest; nothing; the result; the cell]
    move ! (4 ∷ []) $ peeks ! u32 (Is u32) (shows 𝓛 u32) s (w ∷ []) (λ is. lands_as ! refl refl ((uint_Lawful 𝓛 w32).typed s _ is).0 $
    returns ! (look_at ! 0 refl) $ free_all ! refl $ keep ! (5 ∷ 1 ∷ 0 ∷ []) $
    suffices ! _ (ends_at 𝓛 f.ended stayed c (y (block_ptr b o) (block_ptr d i)) w s (tt, (tt, tt)) (tt, (tt, tt))) $
    -- [the cell; the store; the result]
    use1 𝓛 (‵ (froom τ d i)) (𝓛.laws.at_room τ d i v) $ use1 𝓛 (‵ (room_at sessions.the_row (block_ptr d i))) (id⊢ 𝓤 _) $
    move ! (1 ∷ []) $ use1 𝓛 (‵ (lies_at stores.the_row full_share (block_ptr b o) ws.0)) (id⊢ 𝓤 _) $
    nothing ! $ fpack ! (AnswersGivenBack n.store n.session ws.0 s) (λ _. ftrue) back $ fjoin ! $
    fpack ! OpenSeen (λ after. fsep (fex (AnswersGivenBack n.store n.session after s) (λ _. ftrue)) (lies_at stores.the_row full_share (block_ptr b o) after)) ws.0 $
    -- [the store; the room; the result]
    nothing ! $ nothing ! $ join ! $ nothing ! $ join ! $ nothing ! $ move ! (0 ∷ 1 ∷ 4 ∷ 2 ∷ 3 ∷ []) $ group ! 3 $ done !))))))))))
    us))))))
