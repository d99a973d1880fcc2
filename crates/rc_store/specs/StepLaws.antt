-- What the steps of a call make of a pass.
use Rattle.std.specs.Prelude.{◌≡◌, ℕ, ◌+◌, ◌<◌, ◌≤◌, ◌^◌, Bool, List, [], ◌∷◌, ◌++◌, length, Option, None, Some, IsSome, All}
use Rattle.std.proofs.Common.{refl, sym, ap, subst, ◌∙◌, arith}
use Rattle.std.proofs.lemmas.Bool.{false≢true}
use Rattle.std.proofs.lemmas.List.{length-append}
use Rattle.std.proofs.lemmas.List.Elements.{All-cons, All-map, All-nil}
use Rattle.rc_store.specs.Imports.{Call, Found, Reply, Fits, AreOfOneRelation, StripeLock, group_locks, plan_at, with_plans, Stop, Memory, HasReplied, Entry, Placed, Step, IsPrefix, placed, with_replies, IsOfHistory, MayCommit, committed, next_of, FragmentRows, rolled_back, settled, IsAtRest, PassState, PartEntries, Keeping, Counts, Entries, Standing, HeldRows, AreAtRest, HasReserved, HasSpare, IsMoreRoom, IsPassOf, KeepsAs, PassSeen, RowSeen, all_with, compiled_of, core_of, holds_taken, idle, reverted, spec_of, with_entry, with_fragment, HaveOneRelation, KeepsOut, KeepsRefusals, all_taken}
use Rattle.rc_machine.specs.declared.stop.Stop.TheVariants.{Held}
use Rattle.rc_store.specs.Busy.{AreBusy, IsBusy, IsLockBusy}
use Rattle.rc_store.specs.CommitLaws.{holds_what_is_named, may_commit, now_committed}
use Rattle.rc_store.specs.Lending.{IsOnTheWay, IsUnrefused, held_stripes}
use Rattle.rc_store.specs.LendingLaws.{all_now-held, all_taken-held, none_refused, none_refused_then, one_relation, still_of_row}
use Rattle.rc_store.specs.Prepared.{HasGoneOn, IsPrepared, IsReady}
use Rattle.rc_store.specs.Runs.{IsStoppedBy, IsStoppedFor}
use Rattle.rc_store.specs.Store.{HasMade, HasMadeEntry, HasMadeGroup, HoldsExactly, IsAsBefore, IsCallFinished, IsFinished, IsFree, IsGroupFinished, IsReplyFor, StoreSeen, one_step}
use Rattle.rc_store.specs.declared.receipt.GroupReceipt.{GroupReceipt}
use Rattle.rc_store.specs.declared.receipt.Receipt.{Receipt}

-- ---- giving back

each_at_rest : (change : FragmentRows → FragmentRows) → ((f : FragmentRows) → IsAtRest (change f)) → (held : List HeldRows) → AreAtRest (all_with change held)
each_at_rest change rest held = All-map (λ (h : HeldRows). IsAtRest h.fragment) (with_fragment (λ h. change h.fragment)) held (go held)
  where
    go : (hs : List HeldRows) → All (λ (h : HeldRows). IsAtRest (change h.fragment)) hs
    go [] = All-nil (λ (h : HeldRows). IsAtRest (change h.fragment))
    go (h ∷ hs) = All-cons (λ (h : HeldRows). IsAtRest (change h.fragment)) h hs (rest h.fragment) (go hs)

-- what is taken back, and what is committed, has no change pending
pub reverted_at_rest : (pass new : PassSeen) → new ≡ reverted pass → AreAtRest new.held
reverted_at_rest pass new e = subst (λ (q : PassSeen). AreAtRest q.held) (sym e) (each_at_rest rolled_back (λ f. record { taken = refl; changes = refl }) pass.held)

pub settled_at_rest : (held new : List HeldRows) → new ≡ all_with settled held → AreAtRest new
settled_at_rest held new e = subst AreAtRest (sym e) (each_at_rest settled (λ f. record { taken = refl; changes = refl }) held)

pub reverted_of_row : (row other : RowSeen) (pass new : PassSeen) → other ≡ row → new ≡ reverted pass → IsPassOf row pass → IsPassOf other new
reverted_of_row row other pass new same e of =
    subst (λ (x : RowSeen × PassSeen). IsPassOf x.0 x.1) (λ i. (sym same i, sym e i)) (still_of_row row pass None 0 (λ (h : HeldRows). rolled_back h.fragment) (λ h. refl) of)

-- a pass that holds nothing is idle
pub idle_already : (pass : PassSeen) → pass.held ≡ [] → holds_taken pass.held ≡ (core_of pass).held → pass ≡ idle pass
idle_already pass free agrees = λ i. record pass {
  standing = record pass.standing { core = record (core_of pass) { held = (sym agrees ∙ ap holds_taken free) i } };
  held = free i;
}

-- ---- a call that stopped

module _ (waits : Bool) (row : RowSeen) (old reserved ran new : PassSeen) (room : HasReserved old reserved) (way : IsOnTheWay row reserved ran) where
  ran_core : core_of ran ≡ record (core_of old) { held = (core_of ran).held; wish = (core_of ran).wish }
  ran_core = way.ran.core ∙ (λ i. record (core_of (room.is i)) { held = (core_of ran).held; wish = (core_of ran).wish })

  ran_kept : ran.kept ≡ room.kept
  ran_kept = way.ran.kept ∙ ap (λ (q : PassSeen). q.kept) room.is

  ran_refusals : KeepsRefusals old.standing ran.standing
  ran_refusals = subst (λ (s : Standing). KeepsRefusals s ran.standing) (ap (λ (q : PassSeen). q.standing) room.is) way.ran.refusals

  ran_known : ran.standing.known ≡ old.standing.known
  ran_known = way.ran.known ∙ ap (λ (q : PassSeen). q.standing.known) room.is

  pub as_before : new ≡ idle ran → old.held ≡ [] → holds_taken old.held ≡ (core_of old).held → IsAsBefore old new
  as_before e free agrees = record {
    core =
        ap core_of e
        ∙ ap (λ (u : PassState). record u { held = [] }) ran_core
        ∙ (λ i. record (core_of old) { held = (sym (ap holds_taken free) ∙ agrees) i; wish = sym (ap (λ (q : PassSeen). (core_of q).wish) e) i });
    table = ap (λ (q : PassSeen). q.table) e ∙ way.ran.table ∙ ap (λ (q : PassSeen). q.table) room.is;
    held = ap (λ (q : PassSeen). q.held) e ∙ sym free;
    kept = subst (IsMoreRoom old.kept) (sym ran_kept ∙ sym (ap (λ (q : PassSeen). q.kept) e)) room.more;
    refusals = subst (KeepsRefusals old.standing) (sym (ap (λ (q : PassSeen). q.standing) e)) ran_refusals;
    known = ap (λ (q : PassSeen). q.standing.known) e ∙ ran_known;
  }

  busy_before : (call : Call) (stripe : ℕ) (what : Found) → new ≡ idle ran → IsBusy row call reserved ran stripe what → IsBusy row call old new stripe what
  busy_before call stripe what e b = record {
    mode = b.mode;
    held = b.held;
    risen = subst (λ (x : ℕ × ℕ). x.0 < x.1) (λ i. ((room.is i).standing.refusals, (sym e i).standing.refusals)) b.risen;
    last = ap (λ (q : PassSeen). q.standing.last_refusal) e ∙ b.last;
    found = subst (λ n. KeepsOut b.mode row.key.passes n what) (ap (λ (q : PassSeen). (core_of q).number) room.is) b.found;
    named = b.named;
    by_plan = b.by_plan;
  }

  lock_busy_before : (locks : List StripeLock) (stripe : ℕ) (what : Found) → new ≡ idle ran → IsLockBusy row locks reserved ran stripe what → IsLockBusy row locks old new stripe what
  lock_busy_before locks stripe what e b = record {
    mode = b.mode;
    held = b.held;
    risen = subst (λ (x : ℕ × ℕ). x.0 < x.1) (λ i. ((room.is i).standing.refusals, (sym e i).standing.refusals)) b.risen;
    last = ap (λ (q : PassSeen). q.standing.last_refusal) e ∙ b.last;
    found = subst (λ n. KeepsOut b.mode row.key.passes n what) (ap (λ (q : PassSeen). (core_of q).number) room.is) b.found;
    wanted = b.wanted;
  }

  are_busy_before : (calls : List Call) (stripe : ℕ) (what : Found) → new ≡ idle ran → AreBusy row calls reserved ran stripe what → AreBusy row calls old new stripe what
  are_busy_before [] stripe what e b = b
  are_busy_before (call ∷ []) stripe what e b = busy_before call stripe what e b
  are_busy_before (call ∷ (other ∷ calls)) stripe what e b = lock_busy_before (group_locks (spec_of row) (with_plans (compiled_of row).plans (call ∷ (other ∷ calls)))) stripe what e b

  -- a run that was not refused, and the memory that was reserved before it
  pub unrefused_so : IsUnrefused waits reserved ran → IsUnrefused waits old ran
  unrefused_so u = none_refused_then waits old reserved ran
      (none_refused waits old reserved (ap (λ (q : PassSeen). q.standing.refusals) room.is) (ap (λ (q : PassSeen). (core_of q).wish) room.is)) u

  unrefused_before : new ≡ idle ran → IsUnrefused waits reserved ran → IsUnrefused waits old new
  unrefused_before e u = none_refused_then waits old ran new (unrefused_so u)
      (none_refused waits ran new (ap (λ (q : PassSeen). q.standing.refusals) e) (ap (λ (q : PassSeen). (core_of q).wish) e))

  pub cause_before : (calls : List Call) (s : Stop) → new ≡ idle ran → IsStoppedFor waits row calls reserved ran s → IsStoppedFor waits row calls old new s
  cause_before calls Memory e cause = unrefused_before e cause
  cause_before calls (Held h) e cause = (cause.0, are_busy_before calls h.stripe h.found e cause.1)

  -- the same of locks that are taken for calls to come
  pub stopped_before : (locks : List StripeLock) (s : Stop) → new ≡ idle ran → IsStoppedBy waits (IsLockBusy row locks reserved ran) reserved ran s
      → IsStoppedBy waits (IsLockBusy row locks old new) old new s
  stopped_before locks Memory e cause = unrefused_before e cause
  stopped_before locks (Held h) e cause = (cause.0, lock_busy_before locks h.stripe h.found e cause.1)

  -- one that is ready was prepared
  pub since_so : HasGoneOn old ran
  since_so = record {
    core = ran_core;
    table = way.ran.table ∙ ap (λ (q : PassSeen). q.table) room.is;
    more = subst (IsMoreRoom old.kept) (sym ran_kept) room.more;
    refusals = ran_refusals;
    known = ran_known;
  }

  pub prepared_so : (steps : List Step) → IsReady row steps ran → IsPrepared row steps old ran
  prepared_so steps ready = record { since = since_so; ready = ready }

  -- it has as many entries, and as much room
  pub few_so : length (core_of old).own < 2 ^ 48 → length (core_of ran).own < 2 ^ 48
  few_so few = subst (λ (u : PassState). length u.own < 2 ^ 48) (sym ran_core) few

  pub spare_so : HasSpare reserved.kept → HasSpare ran.kept
  spare_so spare = subst HasSpare (sym way.ran.kept) spare

-- ---- what is free

-- one that had fewer entries than the limit is free after one more
pub free_made : (store : StoreSeen) (steps : List Step) (old new : PassSeen) (place nth : ℕ) → length (core_of old).own < store.limit
    → IsPassOf store.row new → HasMadeEntry store steps old new place nth → IsFree store new
free_made store steps old new place nth left of made =
    let entry : Placed = placed place (next_of (core_of old) steps) in
    let one_more : length (core_of new).own ≡ length (core_of old).own + 1 = ap (λ (l : List Placed). length l) made.own ∙ length-append (core_of old).own (entry ∷ []) in
    record { of_row = of; idle = made.held; few = omega (arith, left, one_more) }

-- ---- the commit

-- A call that ran is ready, and the pass holds exactly what it names.
module _ (row : RowSeen) (call : Call) (pass : PassSeen) (reply : Reply) (fits : Fits (spec_of row) call)
    (agrees : holds_taken pass.held ≡ (core_of pass).held) (one : HaveOneRelation (spec_of row) (core_of pass).held)
    (replied : HasReplied (spec_of row) (plan_at (compiled_of row).plans call.op) call (held_stripes pass.held) reply) where
  as_taken : (core_of pass).held ≡ all_taken (held_stripes pass.held)
  as_taken = sym agrees ∙ all_taken-held pass.held

  pub ready_so : length (core_of pass).own < 2 ^ 48 → HasSpare pass.kept → IsReady row (one_step call reply) pass
  ready_so few room =
      let of : AreOfOneRelation (spec_of row) (held_stripes pass.held) = one_relation (spec_of row) pass.held (core_of pass).held agrees one in
      record {
        room = room;
        agrees = agrees;
        one = one;
        may = may_commit (compiled_of row) (core_of pass) call (held_stripes pass.held) reply as_taken replied.evaluated fits few;
        left =
            all_now-held pass.held
            ∙ now_committed (compiled_of row) (core_of pass) call (held_stripes pass.held) reply as_taken of.0 of.1 replied.evaluated (replied.served of.0 of.1) 0;
      }

  pub exact_so : HoldsExactly (compiled_of row) (core_of pass) (one_step call reply)
  exact_so = holds_what_is_named (compiled_of row) (core_of pass) call (held_stripes pass.held) reply as_taken replied.evaluated

module _ (store : StoreSeen) (steps : List Step) (old mid new : PassSeen) (prepared : IsPrepared store.row steps old mid) where
  same_entry : next_of (core_of mid) steps ≡ next_of (core_of old) steps
  same_entry = ap (λ (u : PassState). next_of u steps) prepared.since.core

  -- a commit of what was prepared is an entry that was made
  pub made_so : (place nth : ℕ) → IsFinished store.row steps mid new place nth → HasMadeEntry store steps old new place nth
  made_so place nth f = record {
    at_commit = core_of mid;
    was = prepared.since.core;
    allowed = subst (MayCommit (compiled_of store.row) (core_of mid)) same_entry prepared.ready.may;
    one = prepared.ready.one;
    before = f.before;
    place_is = f.place_is;
    at = record {
      goes_on = subst (λ (known : List (List Entry)). All (λ earlier. IsPrefix earlier f.before) known) prepared.since.known f.at.goes_on;
      seen = f.at.seen;
      of = f.at.of;
    };
    after = subst (λ (x : Entry). IsOfHistory (spec_of store.row) store.row.key.passes (f.before ++ x ∷ []) (core_of new)) same_entry f.after;
    known =
        ap (λ (q : PassSeen). q.standing.known) f.is
        ∙ (λ i. prepared.since.known i ++ (f.before ++ same_entry i ∷ []) ∷ []);
    core =
        ap core_of f.is
        ∙ (λ i. record (committed (compiled_of store.row) (core_of mid) (sym f.place_is i) (same_entry i)) {
          held = [];
          wish = sym (ap (λ (q : PassSeen). (core_of q).wish) f.is) i;
        });
    own = ap (λ (q : PassSeen). (core_of q).own) f.is ∙ (λ i. (prepared.since.core i).own ++ placed (sym f.place_is i) (same_entry i) ∷ []);
    nth_is = f.nth_is ∙ ap (λ (u : PassState). length u.own) prepared.since.core;
    seen = subst (λ (x : PassState × ℕ). x.0.seen ≤ x.1) (λ i. (prepared.since.core i, sym f.place_is i)) f.at.seen;
    small = f.small;
    table = ap (λ (q : PassSeen). q.table) f.is ∙ prepared.since.table;
    held = ap (λ (q : PassSeen). q.held) f.is;
    kept = mid.kept;
    more = prepared.since.more;
    keeps = ap (λ (q : PassSeen). q.kept) f.is ∙ (λ i. with_entry mid.kept (placed (sym f.place_is i) (same_entry i)));
    refusals = subst (KeepsRefusals old.standing) (sym (ap (λ (q : PassSeen). q.standing) f.is)) prepared.since.refusals;
  }

  -- its commit was that of the pass as it was prepared
  pub made_commits : (place nth : ℕ) (f : IsFinished store.row steps mid new place nth) → (made_so place nth f).at_commit ≡ core_of mid
  unfolding made_so
  made_commits place nth f = refl

-- what was prepared, or has gone on without a commit, and is taken back is as before
pub undone : (old mid new : PassSeen) → HasGoneOn old mid → old.held ≡ [] → (core_of old).held ≡ [] → new ≡ idle mid → IsAsBefore old new
undone old mid new since free idle_core e = record {
  core =
      ap core_of e
      ∙ ap (λ (u : PassState). record u { held = [] }) since.core
      ∙ (λ i. record (core_of old) { held = sym idle_core i; wish = sym (ap (λ q. (core_of q).wish) e) i });
  table = ap (λ (q : PassSeen). q.table) e ∙ since.table;
  held = ap (λ (q : PassSeen). q.held) e ∙ sym free;
  kept = subst (IsMoreRoom old.kept) (sym (ap (λ (q : PassSeen). q.kept) e)) since.more;
  refusals = subst (KeepsRefusals old.standing) (sym (ap (λ (q : PassSeen). q.standing) e)) since.refusals;
  known = ap (λ (q : PassSeen). q.standing.known) e ∙ since.known;
}

-- a call that was prepared, and is finished, was made
pub call_made : (store : StoreSeen) (call : Call) (old mid new : PassSeen) (reply : Reply) → IsPrepared store.row (one_step call reply) old mid
    → HoldsExactly (compiled_of store.row) (core_of mid) (one_step call reply)
    → (receipt : Receipt) → IsCallFinished store.row call mid new reply receipt → HasMade store call reply old new receipt
unfolding made_so
call_made store call old mid new reply prepared exact receipt f = record {
  entry = made_so store (one_step call reply) old mid new prepared receipt.place receipt.nth f.entry;
  exact = exact;
  given = f.given;
}

-- and so a group
pub group_made : (store : StoreSeen) (calls : List Call) (replies : List Reply) (old mid new : PassSeen) → length replies ≡ length calls
    → IsPrepared store.row (with_replies calls replies) old mid → HoldsExactly (compiled_of store.row) (core_of mid) (with_replies calls replies)
    → (receipt : GroupReceipt) → IsGroupFinished store.row calls replies mid new receipt → HasMadeGroup store calls replies old new receipt
unfolding made_so
group_made store calls replies old mid new count prepared exact receipt f = record {
  count = count;
  entry = made_so store (with_replies calls replies) old mid new prepared receipt.place receipt.nth f.entry;
  exact = exact;
  given = f.given;
}

-- ---- replies that come with receipts

pub is_kept : (keeping : Keeping) (kept : Option PartEntries) → KeepsAs keeping kept → IsSome kept → keeping ≡ Entries
is_kept Entries kept keeps some = refl
is_kept Counts None keeps some = absurd (false≢true some)
is_kept Counts (Some part) keeps some = absurd keeps

pub no_reply_given : (keeping : Keeping) (reply : Reply) → keeping ≡ Entries → IsReplyFor keeping reply None
no_reply_given keeping reply e = subst (λ (k : Keeping). IsReplyFor k reply None) (sym e) refl

pub reply_given : (keeping : Keeping) (reply : Reply) → keeping ≡ Counts → IsReplyFor keeping reply (Some reply)
reply_given keeping reply e = subst (λ (k : Keeping). IsReplyFor k reply (Some reply)) (sym e) refl
