-- A receipt means one history of the specification that the store's text gives. (PLDI 2012, serializable transactions.)
use Rattle.std.proofs.Common.{◌≡◌, ℕ, List, subst}
use Rattle.rc_embed.specs.Imports.{Step, own_placed, legal_last, PassState, IsGoodHistory, next_of, PassSeen, core_of, history_with, HasMadeEntry}
use Rattle.rc_embed.specs.declared.opening.Options as asked
use Rattle.rc_embed.specs.OfText.{IsBehind}
use Rattle.rc_embed.specs.Opened.{IsStoreOfTexts, OpenSeen}
use Rattle.rc_embed.specs.OpenedLaws.{histories_are_of_the_text}

-- Of each receipt of a store that a text opened, of a call or a group: behind its calls stands one history, good for the
-- specification of the text, and the replies are the plain relation's in turn after it.
abbrev pub ReceiptsAreOfTheText : Type 0
ReceiptsAreOfTheText = (text shapes plans : List ℕ) (options : asked.Options) (opened : OpenSeen) (is : IsStoreOfTexts text shapes plans options opened)
    → (steps : List Step) (old new : PassSeen) (place nth : ℕ)
    → (made : HasMadeEntry opened.store steps old new place nth)
    → IsBehind is.spec opened.store.row.key.passes old steps place made.before

pub receipts_are_of_the_text : ReceiptsAreOfTheText
receipts_are_of_the_text text shapes plans options opened is steps old new place nth made =
    let good : IsGoodHistory is.spec opened.store.row.key.passes (history_with made.before old steps) =
    (histories_are_of_the_text text shapes plans options opened is opened.store.row.key.passes
    (history_with made.before old steps) made.after.good).0 in
    let plainly = legal_last is.spec made.before (next_of (core_of old) steps) good.legal in
    record {
      place_is = made.place_is;
      good = good;
      goes_on = made.at.goes_on;
      own = subst (λ (u : PassState). u.own ≡ own_placed made.before u.number) made.was made.at.of.own;
      answers = plainly.0;
      relation = plainly.1;
    }
