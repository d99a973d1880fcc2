-- The one history goes on where a closed store does, by the specification of the later texts. (PLDI 2012, serializable
-- transactions.)
use Rattle.std.proofs.Common.{◌≡◌, ℕ, List, [], ◌∷◌, ◌++◌, Some, sym, ap, ◌∙◌, subst}
use Rattle.rc_embed.specs.Imports.{slice_get, Entry, Step, IsPrefix, own_placed, states_satisfy, PassState, next_of, PassSeen, core_of, spec_of, ClosedSeen, HasClosed, IsReceipt, entries_are_plain, KnowsAll, resumed_histories_are_one, HasMadeEntry, StoreSeen}
use Rattle.rc_embed.specs.declared.opening.Options as asked
use Rattle.rc_embed.specs.OfText.{IsBehind, IsHistoryOfText}
use Rattle.rc_embed.specs.Opened.{OpenSeen}
use Rattle.rc_embed.specs.ReceiptsOfText.{receipts_are_of_the_text}
use Rattle.rc_embed.specs.Resuming.{IsResumedWith}
use Rattle.rc_embed.specs.ToldLaws.{closed_is_of_the_text}

-- a receipt as the store's laws speak of one
abbrev receipt_of : (store : StoreSeen) (steps : List Step) (old new : PassSeen) (place nth : ℕ) → HasMadeEntry store steps old new place nth
    → IsReceipt store steps old new place
receipt_of store steps old new place nth made = record {
  at = record {
    before = made.before;
    place_is = made.place_is;
    good = made.after.good;
    goes_on = made.at.goes_on;
    own = ap (λ (u : PassState). u.own) (sym made.was) ∙ made.at.of.own ∙ ap (λ (u : PassState). own_placed made.before u.number) made.was;
    replies = (entries_are_plain store steps old new place nth made).0;
    relation = (entries_are_plain store steps old new place nth made).1;
    satisfies = states_satisfy (spec_of store.row) (made.before ++ next_of (core_of old) steps ∷ []);
  };
  told = made.known;
}

-- Each receipt of a store that goes on, of a call or of a group, whose pass knows what one of the passes knew that it began
-- with: the history behind it begins with that which was closed, and is good for the specification of the texts.
abbrev pub ReceiptsGoOnFromClosed : Type 0
ReceiptsGoOnFromClosed = (closed : ClosedSeen) (text shapes plans : List ℕ) (options : asked.Options) (opened : OpenSeen)
    (is : IsResumedWith closed text shapes plans options opened)
    → (k : ℕ) (first : PassSeen) → slice_get opened.passes k ≡ Some first
    → (steps : List Step) (old new : PassSeen) (place nth : ℕ) (made : HasMadeEntry opened.store steps old new place nth) → KnowsAll first old
    → IsPrefix closed.history made.before × IsBehind is.texts.spec opened.store.row.key.passes old steps place made.before

pub receipts_go_on_from_closed : ReceiptsGoOnFromClosed
receipts_go_on_from_closed closed text shapes plans options opened is k first at steps old new place nth made knows = (
  resumed_histories_are_one.receipts closed opened.store opened.passes is.resumed k first at steps old new place
      (receipt_of opened.store steps old new place nth made) knows,
  receipts_are_of_the_text text shapes plans options opened is.texts steps old new place nth made,
)

-- And where it is closed too, the one history that it leaves begins with that which was closed before, and is one of the
-- specification of the texts.
abbrev pub ClosedHistoriesGoOn : Type 0
ClosedHistoriesGoOn = (closed : ClosedSeen) (text shapes plans : List ℕ) (options : asked.Options) (opened : OpenSeen)
    (is : IsResumedWith closed text shapes plans options opened)
    → (passes : List PassSeen) (later : ClosedSeen) (has : HasClosed opened.store passes later)
    → IsPrefix closed.history has.history × IsHistoryOfText is.texts.spec opened.store passes later has.history

pub closed_histories_go_on : ClosedHistoriesGoOn
closed_histories_go_on closed text shapes plans options opened is passes later has = (
  subst (λ (l : List Entry). IsPrefix closed.history l) has.is
      (resumed_histories_are_one.closed closed opened.store opened.passes is.resumed passes later has),
  closed_is_of_the_text text shapes plans options opened is.texts passes later has,
)
