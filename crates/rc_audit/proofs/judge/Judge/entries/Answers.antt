use Rattle.std.proofs.Common.{inl, inr, sym, subst}
use Rattle.rc_audit.proofs.JudgeLemmas.{IsNotClosing, passed_none}
use Rattle.rc_audit.proofs.judge.Judge.entries.Goals as goal

pub returns-in-Opening : goal.returns-in-Opening
returns-in-Opening c = λ front passed.
    passed_none c.args.self.now front (elim c.in-Opening.is [ inl w ↦ subst IsNotClosing (sym w.1) tt | inr w ↦ subst IsNotClosing (sym w.1) tt ]) passed

pub returns-in-Opening-2 : goal.returns-in-Opening-2
returns-in-Opening-2 c = λ front passed.
    passed_none c.args.self.now front (elim c.in-Opening.is [ inl w ↦ subst IsNotClosing (sym w.1) tt | inr w ↦ subst IsNotClosing (sym w.1) tt ]) passed
