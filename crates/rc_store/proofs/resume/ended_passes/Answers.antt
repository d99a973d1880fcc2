use Rattle.std.proofs.Common.{◌≡◌, ◌<◌, ℕ, List, Option, Some, sym, subst, ◌∙◌}
use Rattle.rc_store.proofs.Imports.{IfSome, Entry, PartEntries, AreKeptParts, HavePasses, HaveRoomFor, kept_parts}
use Rattle.rc_store.proofs.resume.ended_passes.Goals as goal

rooms : (made : List ℕ) (passes : ℕ) (parts : List PartEntries) (journal : Option (List Entry)) (history : List Entry) → journal ≡ Some history
    → IfSome journal (λ _. HaveRoomFor made passes parts) → HaveRoomFor made passes parts
rooms made passes parts journal history is = subst (λ (o : Option (List Entry)). IfSome o (λ _. HaveRoomFor made passes parts)) is

pub part_again-requires-clause-passes : goal.part_again-requires-clause-passes
part_again-requires-clause-passes c =
    let of = subst (λ (o : Option (List Entry)). IfSome o (HavePasses c.args.made.now c.args.passes)) c.in-Some.is c.requires.made in
    λ e m. subst (λ n. e.pass < n) (sym (rooms c.args.made.now c.args.passes c.args.parts.items c.args.journal c.in-Some.journal c.in-Some.is c.requires.parts).count) (of.passes_are e m)

pub returns-in-Some-clause-kept : goal.returns-in-Some-clause-kept
returns-in-Some-clause-kept c =
    let room = rooms c.args.made.now c.args.passes c.args.parts.items c.args.journal c.in-Some.journal c.in-Some.is c.requires.parts in
    subst (λ (o : Option (List Entry)). IfSome o (λ history. AreKeptParts history c.args.passes c.with_entries.result.items)) (sym c.in-Some.is)
    (subst (AreKeptParts c.in-Some.journal c.args.passes) (sym c.with_entries.ensures)
    (kept_parts c.in-Some.journal c.args.passes c.part_again.result.items (c.part_again.ensures.count ∙ room.count) c.part_again.ensures.own))
