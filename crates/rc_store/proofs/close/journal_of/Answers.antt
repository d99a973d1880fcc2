use Rattle.std.proofs.Common.{◌≡◌, ℕ, List, Option, Some, length, sym, ap, subst}
use Rattle.rc_store.proofs.Imports.{IfSome, Entry, AreNumbersBelow, ArePartsOf, places_of, PartEntries, AreKeptOf, parts_are_placed, parts_of_history}
use Rattle.rc_store.proofs.close.journal_of.Goals as goal

pub merge-requires : goal.merge-requires
merge-requires c =
    let kept = subst (λ (o : Option ℕ). IfSome o (λ n. (history : List Entry) × AreKeptOf history c.args.ended.items × (length history ≡ n))) c.in-Some.is c.requires.room in record {
      places = subst (λ (parts : List PartEntries). AreNumbersBelow c.in-Some.room (places_of parts)) (sym c.kept_parts.ensures)
          (parts_are_placed kept.0 c.in-Some.room c.args.ended.items kept.1 kept.2);
    }

pub returns-in-Some-clause-some : goal.returns-in-Some-clause-some
returns-in-Some-clause-some c =
    subst (λ (o : Option ℕ). IfSome o (λ _. (history : List Entry) → AreKeptOf history c.args.ended.items → Some c.merge.result ≡ Some history)) (sym c.in-Some.is)
    (λ history kept. ap Some (c.merge.ensures.history history
    (subst (λ (parts : List PartEntries). ArePartsOf parts history) (sym c.kept_parts.ensures) (parts_of_history history c.args.ended.items kept))))
