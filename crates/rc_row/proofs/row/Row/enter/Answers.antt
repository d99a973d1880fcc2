use Rattle.std.proofs.Common.{◌≡◌, Some, None, true, sym, ap, ◌∙◌, subst}
use Rattle.rc_row.proofs.Imports.{Latch, released, rest, Standing, View, Empty, IsOwn, kept_of, own_place, pass_view, standing_of, view_of, RowSeen, spec_of, latched_out, with_core, lacking}
use Rattle.rc_row.proofs.FoundLemmas.{has_entered, none_of, some_of}
use Rattle.rc_row.proofs.GiveLemmas.{front_of}
use Rattle.rc_row.proofs.OwnRuleLemmas.{own_pointer}
use Rattle.rc_row.proofs.ShareLemmas.{one_entered, out_for_latch, out_for_memory, own_is, own_there, rows_got, shares_it, slots_after, view_after}
use Rattle.rc_row.proofs.row.Row.enter.Goals as goal

pub exchange-requires : goal.exchange-requires
exchange-requires c =
    (c.enter_step-found.ensures.seat.0 ∙ c.requires.row ∙ sym (ap (λ (r : RowSeen). r.table) c.self.view_is), own_there c.args.self.now.key c.args.seat.now.me c.enter_step-found.new.seat.me c.args.stripe c.args.number c.requires.number.0 (has_entered c.args.self.now.key c.args.seat.now.me c.enter_step-found.new.seat.me c.args.stripe c.enter_step-found.result c.if-found-ne0.false c.enter_step-found.ensures.told) c.own_place-own.result c.own_place-own.ensures)

-- ---- its own slot had a pointer

pub returns-in-Handed-clause-ok : goal.returns-in-Handed-clause-ok
returns-in-Handed-clause-ok c =
    let told = (has_entered c.args.self.now.key c.args.seat.now.me c.enter_step-found.new.seat.me c.args.stripe c.enter_step-found.result c.if-found-ne0.false c.enter_step-found.ensures.told) in (
      told.rows,
      view_after c.args.self.now.key c.args.seat.now.me c.enter_step-found.new.seat.me c.args.stripe c.args.number c.requires.number.0 (has_entered c.args.self.now.key c.args.seat.now.me c.enter_step-found.new.seat.me c.args.stripe c.enter_step-found.result c.if-found-ne0.false c.enter_step-found.ensures.told) c.own_place-own.result c.own_place-own.ensures c.exchange.result c.exchange.ensures.2 c.exchange.new.seat.me c.exchange.ensures.3 None (ap (lacking c.args.stripe) c.in-Handed.is),
      slots_after c.args.self.now.key c.args.seat.now.me c.enter_step-found.new.seat.me c.args.stripe c.args.number c.requires.number.0 (has_entered c.args.self.now.key c.args.seat.now.me c.enter_step-found.new.seat.me c.args.stripe c.enter_step-found.result c.if-found-ne0.false c.enter_step-found.ensures.told) c.own_place-own.result c.own_place-own.ensures c.exchange.result c.exchange.ensures.2 c.exchange.new.seat.me c.exchange.ensures.3,
      (own_pointer (spec_of c.args.self.now) told.rows true c.exchange.result c.in-Handed.keep c.in-Handed.is (own_is c.args.self.now.key c.args.seat.now.me c.enter_step-found.new.seat.me c.args.stripe c.args.number c.requires.number.0 (has_entered c.args.self.now.key c.args.seat.now.me c.enter_step-found.new.seat.me c.args.stripe c.enter_step-found.result c.if-found-ne0.false c.enter_step-found.ensures.told) c.own_place-own.result c.own_place-own.ensures c.exchange.result c.exchange.ensures.2)).1,
    )

pub returns-in-Handed-clause-one : goal.returns-in-Handed-clause-one
returns-in-Handed-clause-one c = one_entered c.args.self.now.key c.args.seat.now.me c.enter_step-found.new.seat.me c.args.stripe c.args.number c.requires.number.0 (has_entered c.args.self.now.key c.args.seat.now.me c.enter_step-found.new.seat.me c.args.stripe c.enter_step-found.result c.if-found-ne0.false c.enter_step-found.ensures.told) c.own_place-own.result c.own_place-own.ensures None c.exchange.new.seat.me.0 (view_after c.args.self.now.key c.args.seat.now.me c.enter_step-found.new.seat.me c.args.stripe c.args.number c.requires.number.0 (has_entered c.args.self.now.key c.args.seat.now.me c.enter_step-found.new.seat.me c.args.stripe c.enter_step-found.result c.if-found-ne0.false c.enter_step-found.ensures.told) c.own_place-own.result c.own_place-own.ensures c.exchange.result c.exchange.ensures.2 c.exchange.new.seat.me c.exchange.ensures.3 None (ap (lacking c.args.stripe) c.in-Handed.is))

pub unreachable-requires : goal.unreachable-requires
unreachable-requires c =
    let told = (has_entered c.args.self.now.key c.args.seat.now.me c.enter_step-found.new.seat.me c.args.stripe c.enter_step-found.result c.if-found-ne0.false c.enter_step-found.ensures.told) in
    subst (IsOwn (spec_of c.args.self.now) true told.rows) c.in-Apart.is (own_is c.args.self.now.key c.args.seat.now.me c.enter_step-found.new.seat.me c.args.stripe c.args.number c.requires.number.0 (has_entered c.args.self.now.key c.args.seat.now.me c.enter_step-found.new.seat.me c.args.stripe c.enter_step-found.result c.if-found-ne0.false c.enter_step-found.ensures.told) c.own_place-own.result c.own_place-own.ensures c.exchange.result c.exchange.ensures.2)

-- ---- it had none

pub latch_out-requires-clause-pass : goal.latch_out-requires-clause-pass
latch_out-requires-clause-pass c =
    let bare = (view_after c.args.self.now.key c.args.seat.now.me c.enter_step-found.new.seat.me c.args.stripe c.args.number c.requires.number.0 (has_entered c.args.self.now.key c.args.seat.now.me c.enter_step-found.new.seat.me c.args.stripe c.enter_step-found.result c.if-found-ne0.false c.enter_step-found.ensures.told) c.own_place-own.result c.own_place-own.ensures c.exchange.result c.exchange.ensures.2 c.exchange.new.seat.me c.exchange.ensures.3 (Some c.args.stripe) (ap (lacking c.args.stripe) c.in-Empty.is)) in
    bare ∙ ap (λ (s : Standing). view_of s None (Some c.args.stripe)) (sym (ap standing_of bare))

pub latch_out-requires-clause-number : goal.latch_out-requires-clause-number
latch_out-requires-clause-number c = c.requires.number.0 ∙ sym (ap (λ (v : View). (standing_of v).core.number) (view_after c.args.self.now.key c.args.seat.now.me c.enter_step-found.new.seat.me c.args.stripe c.args.number c.requires.number.0 (has_entered c.args.self.now.key c.args.seat.now.me c.enter_step-found.new.seat.me c.args.stripe c.enter_step-found.result c.if-found-ne0.false c.enter_step-found.ensures.told) c.own_place-own.result c.own_place-own.ensures c.exchange.result c.exchange.ensures.2 c.exchange.new.seat.me c.exchange.ensures.3 (Some c.args.stripe) (ap (lacking c.args.stripe) c.in-Empty.is)))

pub latch_out-requires-clause-held : goal.latch_out-requires-clause-held
latch_out-requires-clause-held c =
    let told = (has_entered c.args.self.now.key c.args.seat.now.me c.enter_step-found.new.seat.me c.args.stripe c.enter_step-found.result c.if-found-ne0.false c.enter_step-found.ensures.told) in
    let bare = (view_after c.args.self.now.key c.args.seat.now.me c.enter_step-found.new.seat.me c.args.stripe c.args.number c.requires.number.0 (has_entered c.args.self.now.key c.args.seat.now.me c.enter_step-found.new.seat.me c.args.stripe c.enter_step-found.result c.if-found-ne0.false c.enter_step-found.ensures.told) c.own_place-own.result c.own_place-own.ensures c.exchange.result c.exchange.ensures.2 c.exchange.new.seat.me c.exchange.ensures.3 (Some c.args.stripe) (ap (lacking c.args.stripe) c.in-Empty.is)) in
    shares_it (standing_of c.args.seat.now.me.0) c.args.stripe told.rows c.requires.high.above c.exchange.new.seat.me.0 (Some c.args.stripe) bare

pub latch_out-requires-clause-content : goal.latch_out-requires-clause-content
latch_out-requires-clause-content c = ap (λ (v : View). (standing_of v).core.wish) (view_after c.args.self.now.key c.args.seat.now.me c.enter_step-found.new.seat.me c.args.stripe c.args.number c.requires.number.0 (has_entered c.args.self.now.key c.args.seat.now.me c.enter_step-found.new.seat.me c.args.stripe c.enter_step-found.result c.if-found-ne0.false c.enter_step-found.ensures.told) c.own_place-own.result c.own_place-own.ensures c.exchange.result c.exchange.ensures.2 c.exchange.new.seat.me c.exchange.ensures.3 (Some c.args.stripe) (ap (lacking c.args.stripe) c.in-Empty.is))

pub latch_out-requires-clause-own : goal.latch_out-requires-clause-own
latch_out-requires-clause-own c = front_of c.exchange.new.seat.me.1 c.args.seat.now.me.1 (own_place c.args.number c.args.stripe, Empty) (slots_after c.args.self.now.key c.args.seat.now.me c.enter_step-found.new.seat.me c.args.stripe c.args.number c.requires.number.0 (has_entered c.args.self.now.key c.args.seat.now.me c.enter_step-found.new.seat.me c.args.stripe c.enter_step-found.result c.if-found-ne0.false c.enter_step-found.ensures.told) c.own_place-own.result c.own_place-own.ensures c.exchange.result c.exchange.ensures.2 c.exchange.new.seat.me c.exchange.ensures.3)

pub returns-in-Ok-clause-ok : goal.returns-in-Ok-clause-ok
returns-in-Ok-clause-ok c =
    let told = (has_entered c.args.self.now.key c.args.seat.now.me c.enter_step-found.new.seat.me c.args.stripe c.enter_step-found.result c.if-found-ne0.false c.enter_step-found.ensures.told) in
    let bare = (view_after c.args.self.now.key c.args.seat.now.me c.enter_step-found.new.seat.me c.args.stripe c.args.number c.requires.number.0 (has_entered c.args.self.now.key c.args.seat.now.me c.enter_step-found.new.seat.me c.args.stripe c.enter_step-found.result c.if-found-ne0.false c.enter_step-found.ensures.told) c.own_place-own.result c.own_place-own.ensures c.exchange.result c.exchange.ensures.2 c.exchange.new.seat.me c.exchange.ensures.3 (Some c.args.stripe) (ap (lacking c.args.stripe) c.in-Empty.is)) in (
      told.rows,
      c.in-Ok.ensures.ok.0 ∙ ap (λ (v : View). pass_view (standing_of v)) bare,
      c.in-Ok.ensures.ok.1 ∙ slots_after c.args.self.now.key c.args.seat.now.me c.enter_step-found.new.seat.me c.args.stripe c.args.number c.requires.number.0 (has_entered c.args.self.now.key c.args.seat.now.me c.enter_step-found.new.seat.me c.args.stripe c.enter_step-found.result c.if-found-ne0.false c.enter_step-found.ensures.told) c.own_place-own.result c.own_place-own.ensures c.exchange.result c.exchange.ensures.2 c.exchange.new.seat.me c.exchange.ensures.3,
      c.in-Ok.ensures.ok.2 ∙ ap (kept_of (spec_of c.args.self.now)) (rows_got (standing_of c.args.seat.now.me.0) c.args.stripe told.rows c.requires.high.above c.exchange.new.seat.me.0 (Some c.args.stripe) bare),
    )

pub returns-in-Ok-clause-one : goal.returns-in-Ok-clause-one
returns-in-Ok-clause-one c = one_entered c.args.self.now.key c.args.seat.now.me c.enter_step-found.new.seat.me c.args.stripe c.args.number c.requires.number.0 (has_entered c.args.self.now.key c.args.seat.now.me c.enter_step-found.new.seat.me c.args.stripe c.enter_step-found.result c.if-found-ne0.false c.enter_step-found.ensures.told) c.own_place-own.result c.own_place-own.ensures None c.latch_out.new.seat.me.0 (c.in-Ok.ensures.ok.0 ∙ ap (λ (v : View). pass_view (standing_of v)) (view_after c.args.self.now.key c.args.seat.now.me c.enter_step-found.new.seat.me c.args.stripe c.args.number c.requires.number.0 (has_entered c.args.self.now.key c.args.seat.now.me c.enter_step-found.new.seat.me c.args.stripe c.enter_step-found.result c.if-found-ne0.false c.enter_step-found.ensures.told) c.own_place-own.result c.own_place-own.ensures c.exchange.result c.exchange.ensures.2 c.exchange.new.seat.me c.exchange.ensures.3 (Some c.args.stripe) (ap (lacking c.args.stripe) c.in-Empty.is)))

pub returns-in-Err-Some-clause-refused : goal.returns-in-Err-Some-clause-refused
returns-in-Err-Some-clause-refused c =
    let told = (has_entered c.args.self.now.key c.args.seat.now.me c.enter_step-found.new.seat.me c.args.stripe c.enter_step-found.result c.if-found-ne0.false c.enter_step-found.ensures.told) in
    let bare = (view_after c.args.self.now.key c.args.seat.now.me c.enter_step-found.new.seat.me c.args.stripe c.args.number c.requires.number.0 (has_entered c.args.self.now.key c.args.seat.now.me c.enter_step-found.new.seat.me c.args.stripe c.enter_step-found.result c.if-found-ne0.false c.enter_step-found.ensures.told) c.own_place-own.result c.own_place-own.ensures c.exchange.result c.exchange.ensures.2 c.exchange.new.seat.me c.exchange.ensures.3 (Some c.args.stripe) (ap (lacking c.args.stripe) c.in-Empty.is)) in
    let s = standing_of c.exchange.new.seat.me.0 in
    let left = some_of c.in-Err-Some.field-0 c.in-Err-Some.owner
    (λ k. (c.latch_out.new.seat.me.0 ≡ pass_view (with_core (latched_out s c.args.stripe (Latch k)) (released s.core c.args.stripe))) × (c.latch_out.new.seat.me.1 ≡ rest c.exchange.new.seat.me.1)) c.in-Err-Some.field-0-is c.in-Err-Some.ensures.missed in
    (left.0 ∙ out_for_latch (standing_of c.args.seat.now.me.0) c.args.stripe told.rows c.requires.high.above c.exchange.new.seat.me.0 (Some c.args.stripe) bare c.in-Err-Some.owner, left.1 ∙ ap rest (slots_after c.args.self.now.key c.args.seat.now.me c.enter_step-found.new.seat.me c.args.stripe c.args.number c.requires.number.0 (has_entered c.args.self.now.key c.args.seat.now.me c.enter_step-found.new.seat.me c.args.stripe c.enter_step-found.result c.if-found-ne0.false c.enter_step-found.ensures.told) c.own_place-own.result c.own_place-own.ensures c.exchange.result c.exchange.ensures.2 c.exchange.new.seat.me c.exchange.ensures.3))

pub returns-in-Err-None-clause-memory : goal.returns-in-Err-None-clause-memory
returns-in-Err-None-clause-memory c =
    let told = (has_entered c.args.self.now.key c.args.seat.now.me c.enter_step-found.new.seat.me c.args.stripe c.enter_step-found.result c.if-found-ne0.false c.enter_step-found.ensures.told) in
    let bare = (view_after c.args.self.now.key c.args.seat.now.me c.enter_step-found.new.seat.me c.args.stripe c.args.number c.requires.number.0 (has_entered c.args.self.now.key c.args.seat.now.me c.enter_step-found.new.seat.me c.args.stripe c.enter_step-found.result c.if-found-ne0.false c.enter_step-found.ensures.told) c.own_place-own.result c.own_place-own.ensures c.exchange.result c.exchange.ensures.2 c.exchange.new.seat.me c.exchange.ensures.3 (Some c.args.stripe) (ap (lacking c.args.stripe) c.in-Empty.is)) in
    let s = standing_of c.exchange.new.seat.me.0 in
    let left = none_of c.in-Err-None.field-0 ((c.latch_out.new.seat.me.0 ≡ pass_view (with_core s (released s.core c.args.stripe))) × (c.latch_out.new.seat.me.1 ≡ rest c.exchange.new.seat.me.1)) c.in-Err-None.field-0-is c.in-Err-None.ensures.memory in
    (left.0 ∙ out_for_memory (standing_of c.args.seat.now.me.0) c.args.stripe told.rows c.requires.high.above c.exchange.new.seat.me.0 (Some c.args.stripe) bare, left.1 ∙ ap rest (slots_after c.args.self.now.key c.args.seat.now.me c.enter_step-found.new.seat.me c.args.stripe c.args.number c.requires.number.0 (has_entered c.args.self.now.key c.args.seat.now.me c.enter_step-found.new.seat.me c.args.stripe c.enter_step-found.result c.if-found-ne0.false c.enter_step-found.ensures.told) c.own_place-own.result c.own_place-own.ensures c.exchange.result c.exchange.ensures.2 c.exchange.new.seat.me c.exchange.ensures.3))
