-- A run of a plan that was refused gives the cause.
use Rattle.std.specs.Prelude.{◌≡◌, ℕ, suc, ◌^◌, Bool, List, Option, None, Some, false}
use Rattle.std.proofs.Common.{sym, ap, subst, ◌∙◌, inl, inr, arith}
use Rattle.std.proofs.lemmas.List.Folds.{flat_map-map}
use Rattle.rc_store.specs.Imports.{In, gather, Call, Found, Mode, Fits, EdgeRow, edge_row_cmp, Held, HasRisen, IsCompiled, plan_at, eval, Hold, HasRefusedCall, rows_taken, HeldRows, PassSeen, RowSeen, compiled_of, core_of, holds_taken, spec_of, KeepsOut, hold_taken}
use Rattle.rc_store.specs.declared.lender.Refused.{Refused}
use Rattle.rc_store.specs.Busy.{IsBusy, rows_of}
use Rattle.rc_store.specs.Lending.{IsToldOf, IsUnrefused, held_stripes, lending}
use Rattle.rc_store.specs.LendingLaws.{all_taken-held}
use Rattle.rc_store.specs.NamedLaws.{compiled_named_law}

rows_of-taken : (held : List HeldRows) → rows_of (holds_taken held) ≡ rows_taken (held_stripes held)
rows_of-taken held = ap rows_of (all_taken-held held) ∙ ap (gather edge_row_cmp) (flat_map-map (λ (h : Hold). h.rows) hold_taken (held_stripes held))

none_risen : HasRisen 0 0 → ⊥
none_risen (inl l) = omega (arith, l)
none_risen (inr e) = let one : 1 ≡ 2 ^ 64 = e.1 in omega (arith, one)

pub busy : (row : RowSeen) (call : Call) (begun now : PassSeen) (n m : ℕ) (waits : Bool) → IsCompiled (spec_of row) (compiled_of row).plans → Fits (spec_of row) call
    → (refused : Option Refused) → IsToldOf waits row begun now refused
    → (h : Held) → HasRefusedCall (compiled_of row) call (lending row begun None n) (lending row now refused m) h
    → IsBusy row call begun now h.stripe h.found
busy row call begun now n m waits ok fits None told h is = absurd (none_risen is.risen)
busy row call begun now n m waits ok fits (Some at) told h is = record {
  mode = is.mode;
  held = holds_taken at.pass.value.held;
  risen = told.1.risen;
  last = told.1.last ∙ (λ i. Some (record { stripe = (is.last.0 i).stripe; mode = is.last.2 i; found = (is.last.0 i).found; held = holds_taken at.pass.value.held }));
  found = subst (λ (z : Mode × Found). KeepsOut z.0 row.key.passes (core_of begun).number z.1) (λ i. (is.last.2 i, (is.last.0 i).found)) told.1.found;
  named = named;
  by_plan = compiled_named_law (compiled_of row) ok call fits (rows_of (holds_taken at.pass.value.held)) (h.stripe, is.mode) named;
}
  where
    named : In (h.stripe, is.mode) (eval (spec_of row) (plan_at (compiled_of row).plans call.op) call (rows_of (holds_taken at.pass.value.held))).named
    named = subst (λ (rows : List EdgeRow). In (h.stripe, is.mode) (eval (spec_of row) (plan_at (compiled_of row).plans call.op) call rows).named)
        (ap rows_taken (sym is.last.3) ∙ sym (rows_of-taken at.pass.value.held))
        is.named

-- and so comes only where nothing waits
pub none_waits : (row : RowSeen) (call : Call) (begun now : PassSeen) (n m : ℕ) (waits : Bool) (refused : Option Refused) → IsToldOf waits row begun now refused
    → (h : Held) → HasRefusedCall (compiled_of row) call (lending row begun None n) (lending row now refused m) h → waits ≡ false
none_waits row call begun now n m waits None told h is = absurd (none_risen is.risen)
none_waits row call begun now n m waits (Some at) told h is = told.0

-- a run after which no refused take is told had none
pub unrefused : (row other : RowSeen) (begun now : PassSeen) (n m : ℕ) (waits : Bool) (refused : Option Refused) → IsToldOf waits row begun now refused
    → (lending other now refused m).refusals ≡ (lending row begun None n).refusals → IsUnrefused waits begun now
unrefused row other begun now n m waits None told same = told
unrefused row other begun now n m waits (Some at) told same = absurd (some_counted now.standing.refusals same)
  where
    some_counted : (k : ℕ) → suc k ≡ 0 → ⊥
    some_counted k e = omega (arith, e)
