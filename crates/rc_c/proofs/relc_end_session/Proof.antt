-- `relc_end_session` reads the session out of its memory, lets it go, and leaves the room.
use Rattle.std.proofs.Common.{ℕ, List, [], ◌∷◌, refl, ap}
use Rattle.rc_c.proofs.Imports.{proved, the_row}
use base.Fraction.{full_share}
use base.Logic.{SProp, ent, id⊢, never_e, fst∗, via, never}
use seplogic.Ra.Ura.{Ura}
use base.Fml.{Fml, fex, fsep, ftrue, fat, froom}
use mir.Syntax.{Ty}
use mir.Val.{Val, vunit}
use contract.Running.{tables}
use prog.Wp.{WpFn}
use types.Kit.{‵, raw, ◌⊛◌, ⋆, some, later, prop, ◌$◌, ◌∵◌, !, qed, done, by, move, keep, drop, use1, use2, split, join, fsplit, fpick, pick, await, regoal, suffices, group, feq_i, feq_l}
use types.Run.{enter, of_opd, load, look, stop, no_more, and_then, unit_lit, returns, well_typed}
use types.ByLocal.{alloc_all, pass_all, free_all, look_at, get, through, sets, lands_as}
use types.Logic.{Logic, sem}
use denote.Builtin.{unit}
use denote.Exit.{yes}
use denote.Memory.{part_of, cell_at, lone}
use denote.RawPtr.{Ptr, RawPtr, block_ptr, lies_at, room_at, in_a_block, rawptr_vals, rawptr_Tells}
use denote.Signature.{plain}
use denote.Steps.{nothing, only}
use denote.Triple.Call.{calls_at}
use denote.Triple.Clauses.{Lasts, lasts}
use denote.Triple.Entry.{on_entry}
use denote.Triple.Spec.{triple_of}
use denote.Triple.Walked.{Stays, walk_of, stay_dropped, Goes-dropped, ends_at}
use denote.Triple.Table.{framed}
use Rattle.rc_c.specs.contracts.relc_end_session as f
use Rattle.rc_c.proofs.relc_end_session.Statement.{statement}
use Rattle.rc_c.proofs.relc_end_session.Code as code
use Rattle.rc_c.specs.contracts.let_session_go as g
use Rattle.rc_c.proofs.let_session_go.Met.{met}

abbrev stayed : Stays f.ended.signature.params f.ended.kept
stayed = (stay_dropped _ yes, tt)

-- what lies in a cell of one type is one value
module _ {M : Type 1} {𝓤 : Ura M} (𝓛 : Logic 𝓤) (τ : Ty) (own : List Val → Fml) (b o : ℕ) (G : SProp 𝓤)
    (k : (v : Val) → ent 𝓤 (⋆ 𝓛 (‵ (fat full_share τ b o v) ∷ ‵ (own (v ∷ [])) ∷ [])) G) where
  each : (us : List Val) → ent 𝓤 (⋆ 𝓛 (‵ (cell_at full_share (τ ∷ []) us b o) ∷ ‵ (own us) ∷ [])) G
  each [] = via 𝓤 (never 𝓤) (fst∗ 𝓤 (never 𝓤) (sem 𝓛 (own []))) (never_e 𝓤 G)
  each (v ∷ []) =
      qed 𝓛 (‵ (cell_at full_share (τ ∷ []) (v ∷ []) b o) ∷ ‵ (own (v ∷ [])) ∷ []) ∵ use1 𝓛 (‵ (fat full_share τ b o v)) (𝓛.laws.raw_at full_share τ b o v) $ by ! (k v)
  each (v ∷ u ∷ vs) = via 𝓤 (never 𝓤) (fst∗ 𝓤 (never 𝓤) (sem 𝓛 (own (v ∷ u ∷ vs)))) (never_e 𝓤 G)

pub relc_end_session_spec : {M : Type 1} → statement M
unfolding part_of
relc_end_session_spec 𝓤 𝓛 𝓜 𝓡 wired =
    let c = f.clauses 𝓛 𝓜.mem 𝓡.returns in let W = walk_of 𝓛 f.ended stayed c in let 𝓣 = tables 𝓤 𝓛.H 𝓜 𝓡 𝓡.env in
    proved 𝓛 f.ended stayed c 𝓜 𝓡 (Goes-dropped 𝓛 0 (plain (λ _. RawPtr)) yes (λ κs x w. refl), tt)
    f.Key.name code.function (code.unfolded 𝓤 𝓛.H 𝓜 𝓡 wired)
    (λ κs. (rawptr_vals, tt)) (λ κs. (rawptr_Tells, tt)) (λ κs qs bounds a n are.
    let y : Ptr → W.Ghost = λ p. ((κs, qs, bounds, (p, tt), (rawptr_vals p, tt)), n) in
    let τ : Ty = lone the_row.mir in
    let G = triple_of 𝓛 g.signature (g.spec 𝓛 𝓜.mem 𝓡.returns) in
    qed 𝓛 (raw (on_entry 𝓛 f.signature κs qs a (y a.0).0.4) ∷ ‵ (lies_at the_row full_share a.0 n) ∷ []) ∵ drop ! $
    in_a_block ! a.0 (λ p. lies_at the_row full_share p n) (id⊢ 𝓤 _) (λ b o e.
    regoal ! (λ p. prop (WpFn 𝓤 𝓛.H 𝓣.C 𝓣.Λ code.function (rawptr_vals p) (W.post (y p)))) e refl $
    use1 𝓛 (‵ (fex (List Val) (λ us. fsep (cell_at full_share the_row.mir us b o) (the_row.own_val n us)))) (id⊢ 𝓤 _) $
    fpick ! (λ us. fsplit ! $ by ! (each 𝓛 τ (the_row.own_val n) b o (WpFn 𝓤 𝓛.H 𝓣.C 𝓣.Λ code.function (rawptr_vals (block_ptr b o)) (W.post (y (block_ptr b o)))) (λ v.
    let z : G.Ghost = ((tt, tt, tt, (n, tt), (v ∷ [], tt)), tt) in
    qed 𝓛 (‵ (fat full_share τ b o v) ∷ ‵ (the_row.own_val n (v ∷ [])) ∷ []) ∵ well_typed ! (λ good.
    enter ! _ _ _ _ _ $ alloc_all ! (λ l. pass_all ! refl ((tt, tt), tt) $
    sets ! (of_opd ! (get ! refl)) refl (tt, tt) $
    sets ! (of_opd ! (load ! (through ! refl (stop !)) (look ! 0 refl))) refl good $
    -- [the cell; the session]
    move ! (1 ∷ []) $ nothing ! $ move ! (1 ∷ 0 ∷ []) $ join ! $ nothing ! $ join ! $ nothing ! $ move ! (1 ∷ 0 ∷ []) $ use2 𝓛 (raw (G.pre z)) (id⊢ 𝓤 _) $
    calls_at ! (framed 𝓤 𝓛.H 𝓜 𝓣) G (met 𝓤 𝓛 𝓜 𝓡 (code.calls-rc_c::let_session_go 𝓡.env wired)) z (and_then ! (get ! refl) (no_more !)) (λ u.
    use1 𝓛 (later (some (λ (r : Unit {0}). (‵ ftrue ⊛ ‵ (unit.own_val r (u ∷ []))) ⊛
    some (λ (ws : Lasts g.ended z.0.0 z.0.3). ‵ (lasts g.ended z.0.0 z.0.3 ws) ⊛ ‵ ftrue)))) (id⊢ 𝓤 _) $
    await ! tt $ pick ! (λ r. split ! $ split ! $ drop ! $ feq_l ! (λ is_unit. pick ! (λ ws. split ! $ drop ! $
    lands_as ! (ap only is_unit) refl (tt, tt) $
    sets ! (of_opd ! (unit_lit !)) refl (tt, tt) $
    returns ! (look_at ! 0 refl) $ free_all ! refl $ keep ! (1 ∷ []) $
    suffices ! _ (ends_at 𝓛 f.ended stayed c (y (block_ptr b o)) vunit tt (tt, tt) (tt, tt)) $
    use1 𝓛 (‵ (froom τ b o)) (𝓛.laws.at_room τ b o v) $ use1 𝓛 (‵ (room_at the_row (block_ptr b o))) (id⊢ 𝓤 _) $
    feq_i ! _ (vunit ∷ []) _ refl $ nothing ! $ nothing ! $ join ! $ nothing ! $ group ! 3 $ done !)))))))
    us))))
