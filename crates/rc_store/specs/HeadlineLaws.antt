-- The headline of a store, from its laws.
use Rattle.std.specs.Prelude.{◌≡◌, ℕ, List, [], ◌∷◌, ◌++◌, Some}
use Rattle.rc_store.specs.Imports.{slice_get, In, in_contains, Entry, Step, IsPrefix, own_placed, states_satisfy, PassState, next_of, PassSeen, core_of, spec_of, with_replies}
use Rattle.std.proofs.Common.{sym, ap, ◌∙◌}
use Rattle.std.proofs.lemmas.List.Elements.{All-contains}
use Rattle.rc_store.specs.Closed.{ClosedSeen, HasClosed}
use Rattle.rc_store.specs.Headline.{IsInHistory, IsReceipt, ReceiptsMeanOneHistory, history_of}
use Rattle.rc_store.specs.ReceiptLaws.{begins_closed, entries_are_plain, telling_goes_on, there_within}
use Rattle.rc_store.specs.Store.{HasMadeEntry, StoreSeen, one_step}

receipt_is : (store : StoreSeen) (steps : List Step) (old new : PassSeen) (place nth : ℕ) → HasMadeEntry store steps old new place nth → IsReceipt store steps old new place
receipt_is store steps old new place nth made = record {
  at = record {
    before = made.before;
    place_is = made.place_is;
    good = made.after.good;
    goes_on = made.at.goes_on;
    own = ap (λ (u : PassState). u.own) (sym made.was) ∙ made.at.of.own ∙ ap (λ (u : PassState). own_placed made.before u.number) made.was;
    replies = (entries_are_plain store steps old new place nth made).0;
    relation = (entries_are_plain store steps old new place nth made).1;
    satisfies = states_satisfy (spec_of store.row) (made.before ++ next_of (core_of old) steps ∷ []);
  };
  told = made.known;
}

goes_on : (store : StoreSeen)
    → (steps : List Step) (old new : PassSeen) (place : ℕ) (first : IsReceipt store steps old new place)
    → (later_steps : List Step) (later_old later_new : PassSeen) (later_place : ℕ) (later : IsReceipt store later_steps later_old later_new later_place)
    → In (history_of first.at) later_old.standing.known → IsPrefix (history_of first.at) later.at.before
goes_on store steps old new place first later_steps later_old later_new later_place later m =
    All-contains (λ (earlier : List Entry). IsPrefix earlier later.at.before) later_old.standing.known (history_of first.at) later.at.goes_on
    (in_contains (history_of first.at) later_old.standing.known m)

in_closed : (store : StoreSeen) (passes : List PassSeen) (closed : ClosedSeen) (h : HasClosed store passes closed)
    → (k : ℕ) (pass : PassSeen) → slice_get passes k ≡ Some pass
    → (steps : List Step) (old new : PassSeen) (place : ℕ) (r : IsReceipt store steps old new place) → In (history_of r.at) pass.standing.known
    → IsInHistory h.history (history_of r.at) (next_of (core_of old) steps) place
in_closed store passes closed h k pass is steps old new place r m =
    let begins : IsPrefix (history_of r.at) h.history = begins_closed store passes closed h k pass is (history_of r.at) m in
    record { begins = begins; there = there_within h.history r.at.before (next_of (core_of old) steps) place r.at.place_is begins }

pub receipts_mean_one_history : ReceiptsMeanOneHistory
receipts_mean_one_history = record {
  receipts = receipt_is;
  later = goes_on;
  closed = in_closed;
  telling = telling_goes_on;
  calls = λ store call reply old new receipt made. receipt_is store (one_step call reply) old new receipt.place receipt.nth made.entry;
  groups = λ store calls replies old new receipt made. receipt_is store (with_replies calls replies) old new receipt.place receipt.nth made.entry;
}
