-- What takes in turn make of a pass: a group's locks, before the first of its plans.
use Rattle.std.specs.Prelude.{◌≡◌, ℕ, zero, suc, ◌<◌, Bool, false, List, [], ◌∷◌, ◌++◌, length, take, get_or, None, Option, Some}
use Rattle.rc_store.specs.Imports.{nat_cmp, Less, In, IsRising, get_or_in, map_in, Found, Mode, StripeLock, stripes_of, PassState, IsAbove, took, hold, stripes_in, locks_of, Standing, HeldRows, HasWaited, PassSeen, RowSeen, core_of, holds_taken, spec_of, waited_so, with_standing, HaveOneRelation, KeepsOut, KeepsRefusals, turned_away, refusals_first, refusals_more, refusals_on}
use Rattle.std.proofs.lemmas.Cmp.{ranked}
use Rattle.std.proofs.Common.{refl, sym, ap, subst, ◌∙◌, inl, inr, arith}
use Rattle.rc_store.specs.Busy.{IsLockBusy}
use Rattle.rc_store.specs.Lending.{IsOnTheWay, held_stripes}
use Rattle.rc_store.specs.Locking.{HasTakenLocks}
use Rattle.rc_store.specs.Taking.{HasTakenStripe}

-- ---- a pass that waited, or was refused, or gave up

module _ (row : RowSeen) (begun old new : PassSeen) (way : IsOnTheWay row begun old) where
  -- what it wants and its refused steps changed
  pub stays_on : (s : Standing) → new ≡ with_standing s old → s.core ≡ record (core_of old) { wish = s.core.wish } → KeepsRefusals old.standing s → s.known ≡ old.standing.known
      → IsOnTheWay row begun new
  stays_on s e core refusals known =
      let core_is : core_of new ≡ s.core = ap core_of e in
      let core_held : (core_of new).held ≡ (core_of old).held = ap (λ (u : PassState). u.held) (core_is ∙ core) in
      let held : new.held ≡ old.held = ap (λ (q : PassSeen). q.held) e in
      record {
        ran = record {
          core = core_is ∙ core
              ∙ ap (λ (u : PassState). record u { wish = s.core.wish }) way.ran.core
              ∙ (λ i. record (core_of begun) { held = sym core_held i; wish = sym (ap (λ (u : PassState). u.wish) core_is) i });
          table = ap (λ (q : PassSeen). q.table) e ∙ way.ran.table;
          kept = ap (λ (q : PassSeen). q.kept) e ∙ way.ran.kept;
          refusals = refusals_on begun.standing old.standing new.standing way.ran.refusals (subst (KeepsRefusals old.standing) (sym (ap (λ (q : PassSeen). q.standing) e)) refusals);
          known = ap (λ (q : PassSeen). q.standing.known) e ∙ known ∙ way.ran.known;
        };
        agrees = ap holds_taken held ∙ way.agrees ∙ sym core_held;
        one = subst (HaveOneRelation (spec_of row)) (sym core_held) way.one;
      }

  pub waited_way : (mode : Mode) (passes p : ℕ) → HasWaited mode passes p old new → IsOnTheWay row begun new
  waited_way mode passes p w = go w.steps w.is
    where
      go : (steps : Option (ℕ × Found)) → new ≡ with_standing (waited_so mode old.standing p steps) old → IsOnTheWay row begun new
      go None e = stays_on old.standing e refl (refusals_first old.standing) refl
      go (Some (n, found)) e =
          stays_on (waited_so mode old.standing p (Some (n, found))) e refl (refusals_more old.standing (waited_so mode old.standing p (Some (n, found))) (omega arith)) refl

-- ---- a take

module _ (waits : Bool) (row : RowSeen) (begun old new : PassSeen) (taken : List StripeLock) (at : HasTakenLocks waits row begun old taken) (mode : Mode) (stripe : ℕ) where
  module _ (t : HasTakenStripe waits row mode stripe old new) (one : HaveOneRelation (spec_of row) (core_of new).held) (agrees : holds_taken new.held ≡ (core_of new).held) where
    mid : IsOnTheWay row begun t.before
    mid = waited_way row begun old t.before at.way mode row.key.passes stripe t.waits_so.waited

    core_held : (core_of new).held ≡ (core_of t.before).held ++ hold stripe mode t.rows ∷ []
    core_held = ap (λ (q : PassSeen). (core_of q).held) t.is

    core_wish : (core_of new).wish ≡ None
    core_wish = ap (λ (q : PassSeen). (core_of q).wish) t.is

    way : IsOnTheWay row begun new
    way = record {
      ran = record {
        core =
            ap core_of t.is
            ∙ ap (λ (u : PassState). took mode u stripe t.rows) mid.ran.core
            ∙ (λ i. record (core_of begun) { held = sym core_held i; wish = sym core_wish i });
        table = ap (λ (q : PassSeen). q.table) t.is ∙ mid.ran.table;
        kept = ap (λ (q : PassSeen). q.kept) t.is ∙ mid.ran.kept;
        refusals = subst (λ (q : PassSeen). KeepsRefusals begun.standing q.standing) (sym t.is) mid.ran.refusals;
        known = ap (λ (q : PassSeen). q.standing.known) t.is ∙ mid.ran.known;
      };
      agrees = agrees;
      one = one;
    }

  -- a refused one is the cause
  pub busy_there : (locks : List StripeLock) (found : Found) → waits ≡ false → new ≡ with_standing (turned_away mode old.standing stripe found) old
      → KeepsOut mode row.key.passes (core_of old).number found → In (stripe, mode) locks → IsLockBusy row locks begun new stripe found
  busy_there locks found at_once e out m = record {
    mode = mode;
    held = (core_of old).held;
    risen = (let same : old.standing.refusals ≡ begun.standing.refusals = at.unrefused.at_once at_once in
        let more : new.standing.refusals ≡ suc old.standing.refusals = ap (λ (q : PassSeen). q.standing.refusals) e in omega (arith, same, more));
    last = ap (λ (q : PassSeen). q.standing.last_refusal) e;
    found = subst (λ n. KeepsOut mode row.key.passes n found) (ap (λ (u : PassState). u.number) at.way.ran.core) out;
    wanted = m;
  }

-- ---- the locks rise

nat_cmp_less : (x y : ℕ) → nat_cmp x y ≡ Less → x < y
nat_cmp_less x y e = ranked x y Less (sym e)

below_next : (locks : List StripeLock) (n : ℕ) (d : StripeLock) → IsRising nat_cmp (stripes_of locks) → n < length locks → (q : ℕ) → In q (stripes_of (take n locks)) → q < (get_or locks n d).0
below_next [] n d r l q m = absurd (omega (arith, l))
below_next (x ∷ locks) zero d r l q m = absurd m
below_next (x ∷ locks) (suc n) d r l q (inl e) =
    let there : In (get_or locks n d) locks = get_or_in locks n d (omega (arith, l)) in
    let less : x.0 < (get_or locks n d).0 = nat_cmp_less x.0 (get_or locks n d).0 (r.0 (get_or locks n d).0 (map_in (λ (k : StripeLock). k.0) (get_or locks n d) locks there)) in
    subst (λ (k : ℕ). k < (get_or locks n d).0) (sym e) less
below_next (x ∷ locks) (suc n) d r l q (inr m) = below_next locks n d r.1 (omega (arith, l)) q m

stripes_held_in : (hs : List HeldRows) → stripes_in (holds_taken hs) ≡ stripes_of (locks_of (held_stripes hs))
stripes_held_in [] = refl
stripes_held_in (h ∷ hs) = ap (λ (l : List ℕ). h.stripe ∷ l) (stripes_held_in hs)

-- the next lock is above all that is held
pub next_above : (waits : Bool) (row : RowSeen) (begun now : PassSeen) (locks : List StripeLock) (n : ℕ) (d : StripeLock) → HasTakenLocks waits row begun now (take n locks)
    → IsRising nat_cmp (stripes_of locks) → n < length locks → IsAbove (core_of now) (get_or locks n d).0
next_above waits row begun now locks n d at rising l q m =
    let same : stripes_in (core_of now).held ≡ stripes_of (locks_of (held_stripes now.held)) = ap stripes_in (sym at.way.agrees) ∙ stripes_held_in now.held in
    below_next locks n d rising l q (subst (λ (xs : List ℕ). In q xs) (same ∙ ap stripes_of at.locks) m)
