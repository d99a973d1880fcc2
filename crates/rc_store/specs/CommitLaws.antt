-- What a run of a plan leaves is what the commit of its entry asks for. (PLDI 2012, two-phase locks.)
use Rattle.std.specs.Prelude.{◌≡◌, ℕ, ◌<◌, ◌^◌, List, [], ◌∷◌, ◌++◌, Option, map, length}
use Rattle.rc_store.specs.Imports.{flat_map, nat_cmp, ordering_then, Ordering, Less, In, IsRising, gather, gather-rising, in_map, map_in, nat_order, not_below_itself, Pairs, Call, Reply, Mode, Exclusive, Shared, Spec, Fits, edge_row_cmp, fragment_of, on_stripes, rows_on, parts_law, pieces_law, plain, AreOfRelation, HeldStripe, Statement, SpecWithPlans, plan_at, eval, StripeLock, Suffices, AreHeld, mode_number, stripe_lock_cmp, stripes_of, stripe_lock_order, stripes_of_in, Hold, PassState, MayCommit, committed, renewed, renewed_as, hold, rows_held, HasEvaluated, HasServed, rows_taken, stripes_held, next_entry, all_now, all_taken, hold_now, hold_taken}
use Rattle.std.proofs.Common.{refl, sym, ap, subst, ◌∙◌, inl, inr, arith}
use Rattle.std.proofs.lemmas.List.Folds.{flat_map-map}
use Rattle.std.proofs.lemmas.Simd.{map-map}
use Rattle.rc_core.specs.State.{locks_of}
use Rattle.rc_machine.specs.Machine.{locks_of as locks_held}
use Rattle.rc_store.specs.Store.{HoldsExactly, one_step}

-- ---- rows and locks of what is held

pub rows_held-taken : (u : PassState) (held : List HeldStripe) → u.held ≡ all_taken held → rows_held u ≡ rows_taken held
rows_held-taken u held e =
    ap (λ (holds : List Hold). gather edge_row_cmp (flat_map (λ (h : Hold). h.rows) holds)) e
    ∙ ap (gather edge_row_cmp) (flat_map-map (λ (h : Hold). h.rows) hold_taken held)

pub locks_of-taken : (u : PassState) (held : List HeldStripe) → u.held ≡ all_taken held → locks_of u ≡ locks_held held
locks_of-taken u held e =
    ap (λ (holds : List Hold). map (λ (h : Hold). let l : StripeLock = (h.stripe, h.mode) in l) holds) e
    ∙ map-map (λ (h : Hold). let l : StripeLock = (h.stripe, h.mode) in l) hold_taken held

-- rising stripes are rising locks
rising_locks : (held : List HeldStripe) → IsRising nat_cmp (stripes_held held) → IsRising stripe_lock_cmp (locks_held held)
rising_locks [] r = tt
rising_locks (h ∷ held) r = (
  λ y m.
      let w : (x : HeldStripe) × In x held × (y ≡ (x.stripe, x.mode)) = in_map (λ (x : HeldStripe). let l : StripeLock = (x.stripe, x.mode) in l) y held m in
      let below : nat_cmp h.stripe w.0.stripe ≡ Less = r.0 w.0.stripe (map_in (λ (x : HeldStripe). x.stripe) w.0 held w.1) in
      subst (λ (z : StripeLock). stripe_lock_cmp (h.stripe, h.mode) z ≡ Less) (sym w.2) (first w.0.stripe w.0.mode below),
  rising_locks held r.1,
)
  where
    first : (p : ℕ) (mode : Mode) → nat_cmp h.stripe p ≡ Less → stripe_lock_cmp (h.stripe, h.mode) (p, mode) ≡ Less
    first p mode e = ap (λ (o : Ordering). ordering_then o (nat_cmp (mode_number h.mode) (mode_number mode))) e

-- a stripe is held once
above_first : (held : List HeldStripe) (x z : HeldStripe) → IsRising nat_cmp (stripes_held (x ∷ held)) → In z held → z.stripe ≡ x.stripe → ⊥
above_first held x z r m e =
    let below : nat_cmp x.stripe z.stripe ≡ Less = r.0 z.stripe (map_in (λ (y : HeldStripe). y.stripe) z held m) in
    let itself : nat_cmp x.stripe x.stripe ≡ Less = subst (λ n. nat_cmp x.stripe n ≡ Less) e below in
    not_below_itself nat_cmp nat_order x.stripe x.stripe itself itself

one_held : (held : List HeldStripe) → IsRising nat_cmp (stripes_held held) → (g h : HeldStripe) → In g held → In h held → g.stripe ≡ h.stripe → g ≡ h
one_held [] r g h m n e = absurd m
one_held (x ∷ held) r g h (inl p) (inl q) e = p ∙ sym q
one_held (x ∷ held) r g h (inl p) (inr n) e = absurd (above_first held x h r n (sym e ∙ ap (λ (z : HeldStripe). z.stripe) p))
one_held (x ∷ held) r g h (inr m) (inl q) e = absurd (above_first held x g r m (e ∙ ap (λ (z : HeldStripe). z.stripe) q))
one_held (x ∷ held) r g h (inr m) (inr n) e = one_held held r.1 g h m n e

two_modes : Exclusive ≡ Shared → ⊥
two_modes e = cc

suffices_itself : (mode : Mode) → Suffices mode mode
suffices_itself Exclusive = tt
suffices_itself Shared = tt

module _ (compiled : SpecWithPlans) (u : PassState) (call : Call) (held : List HeldStripe) (answer : Reply) (same : u.held ≡ all_taken held) where
  abbrev spec : Spec
  spec = compiled.spec

  abbrev plan : List Statement
  plan = plan_at compiled.plans call.op

  -- ---- the commit is allowed

  module _ (done : HasEvaluated spec plan call held answer) where
    rows : rows_held u ≡ rows_taken held
    rows = rows_held-taken u held same

    locks : locks_of u ≡ locks_held held
    locks = locks_of-taken u held same

    named : (eval spec plan call (rows_held u)).named ≡ locks_of u
    named = ap (λ rows. (eval spec plan call rows).named) rows ∙ done.named ∙ sym locks

    -- Where evaluation over what a pass holds, as taken, gives the answer and names what is held, the pass may commit the call with the answer as
    -- its next entry.
    pub may_commit : Fits spec call → length u.own < 2 ^ 48 → MayCommit compiled u (next_entry u call answer)
    may_commit fits few = record {
      pass = refl;
      nth = refl;
      room = few;
      some = omega arith;
      few = omega arith;
      fit = (fits, tt);
      replies = ap (λ (o : Option Reply). o ∷ []) (ap (λ rows. (eval spec plan call rows).reply) rows ∙ done.reply);
      held = (subst (λ locks. AreHeld locks (locks_of u)) (sym named) (λ lock m. (lock.1, m, suffices_itself lock.1)), tt);
      no_more = record { each = λ lock m. subst (λ (ls : List StripeLock). In lock.0 (stripes_of ls)) (sym named) (stripes_of_in lock (locks_of u) m) };
    }

    -- And it holds exactly what evaluation names.
    pub holds_what_is_named : HoldsExactly compiled u (one_step call answer)
    holds_what_is_named =
        gather-rising stripe_lock_cmp stripe_lock_order (locks_of u) (subst (IsRising stripe_lock_cmp) (sym locks) (rising_locks held done.rising)) ∙ sym named

  -- ---- what it leaves

  module _ (r : List Pairs) (of : AreOfRelation spec held r) (done : HasEvaluated spec plan call held answer) (served : HasServed spec plan call held answer r) where
    abbrev then : List Pairs
    then = (plain spec r call).relation

    fragments : (hs : List HeldStripe) → ((h : HeldStripe) → In h hs → In h held) → flat_map (λ (h : HeldStripe). h.now) hs ≡ flat_map (fragment_of spec then) (stripes_held hs)
    fragments [] inside = refl
    fragments (h ∷ hs) inside =
        let first : h.now ≡ fragment_of spec then h.stripe = served.rows h (inside h (inl refl)) in
        let rest : flat_map (λ (h : HeldStripe). h.now) hs ≡ flat_map (fragment_of spec then) (stripes_held hs) = fragments hs (λ x m. inside x (inr m)) in
        λ i. first i ++ rest i

    -- the rows after the call are those now of what is held
    rows_after_call : (eval spec plan call (rows_held u)).rows ≡ rows_on spec then (stripes_held held)
    rows_after_call =
        ap (λ rows. (eval spec plan call rows).rows) (rows_held-taken u held same)
        ∙ done.rows
        ∙ ap (gather edge_row_cmp) (fragments held (λ h m. m))
        ∙ parts_law spec then (stripes_held held)

    not_exclusive : (h : HeldStripe) → In h held → h.mode ≡ Shared → In (h.stripe, Exclusive) (locks_held held) → ⊥
    not_exclusive h m e n =
        let w : (x : HeldStripe) × In x held × ((h.stripe, Exclusive) ≡ (x.stripe, x.mode)) = in_map (λ (x : HeldStripe). let l : StripeLock = (x.stripe, x.mode) in l) (h.stripe, Exclusive) held n in
        let x : w.0 ≡ h = one_held held done.rising w.0 h w.1 m (sym (ap (λ (l : StripeLock). l.0) w.2)) in
        two_modes (ap (λ (l : StripeLock). l.1) w.2 ∙ ap (λ (z : HeldStripe). z.mode) x ∙ e)

    -- each hold with the rows after the call has the rows now
    renewed-now : (h : HeldStripe) → In h held → hold_now h ≡ renewed spec (eval spec plan call (rows_held u)).rows (hold_taken h)
    renewed-now h m = go h.mode refl
      where
        now : h.now ≡ fragment_of spec then h.stripe
        now = served.rows h m

        go : (mode : Mode) → h.mode ≡ mode → hold h.stripe mode h.now ≡ renewed_as mode spec (eval spec plan call (rows_held u)).rows (hold h.stripe mode h.taken)
        go Exclusive e =
            ap (hold h.stripe Exclusive)
            (now
            ∙ sym (pieces_law spec then (stripes_held held) h.stripe (map_in (λ (x : HeldStripe). x.stripe) h held m))
            ∙ ap (on_stripes spec (h.stripe ∷ [])) (sym rows_after_call))
        go Shared e =
            ap (hold h.stripe Shared) (now ∙ served.others h.stripe (not_exclusive h m e) ∙ sym (of.rows h m))

    all_renewed : (hs : List HeldStripe) → ((h : HeldStripe) → In h hs → In h held) → all_now hs ≡ map (renewed spec (eval spec plan call (rows_held u)).rows) (all_taken hs)
    all_renewed [] inside = refl
    all_renewed (h ∷ hs) inside =
        let first : hold_now h ≡ renewed spec (eval spec plan call (rows_held u)).rows (hold_taken h) = renewed-now h (inside h (inl refl)) in
        let rest : all_now hs ≡ map (renewed spec (eval spec plan call (rows_held u)).rows) (all_taken hs) = all_renewed hs (λ x m. inside x (inr m)) in
        λ i. first i ∷ rest i

    pub now_committed : (place : ℕ) → all_now held ≡ (committed compiled u place (next_entry u call answer)).held
    now_committed place =
        all_renewed held (λ h m. m)
        ∙ ap (map (renewed spec (eval spec plan call (rows_held u)).rows)) (sym same)
