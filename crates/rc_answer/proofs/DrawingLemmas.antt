-- Drawings that were written.
use Rattle.std.proofs.Common.{◌≡◌, ℕ, List, Option, Result, ◌∙◌, sym, ap, subst}
use Rattle.rc_answer.proofs.Imports.{IsErr, Adds, AddsPrefix, Op, Spec, op_names, Statement, plan_drawing_text, number_among, op_number, IsPlanDrawingNamed, IsPlanDrawingOrRefusal, Writes, WritesWhole, Status, Done, Stop}
use Rattle.rc_answer.proofs.PlanLemmas.{part_writes}

-- a writer that stopped within a printed text left a part of it
pub text_begun : (A : List ℕ → Status → Type 0) (text bytes : List ℕ) (old new : Option (List ℕ)) (r : Result Status Stop) → IsErr r → A text Done → bytes ≡ text
    → AddsPrefix old bytes new → Writes A old new r
text_begun A text bytes old new r stopped is same part = part_writes A old new r stopped (text, Done, is, subst (λ (t : List ℕ). AddsPrefix old t new) same part)

-- and one that went on to its end all of it
pub text_written : (A : List ℕ → Status → Type 0) (text bytes : List ℕ) (old new : Option (List ℕ)) → A text Done → bytes ≡ text → Adds old bytes new → WritesWhole A old new Done
text_written A text bytes old new is same all = (text, is, subst (λ (t : List ℕ). Adds old t new) same all)

-- what is printed of a compiled specification is the drawing of the accepted one
pub drawing_printed : (accepted given : Spec) (op : ℕ) (plan here : List Statement) (text bytes : List ℕ) → given ≡ accepted → here ≡ plan → text ≡ plan_drawing_text given op here → bytes ≡ text
    → bytes ≡ plan_drawing_text accepted op plan
drawing_printed accepted given op plan here text bytes same is printed all =
    all ∙ printed ∙ ap (λ (s : Spec). plan_drawing_text s op here) same ∙ ap (plan_drawing_text accepted op) is

-- where an operation stands among those of a specification
pub operation_found : (accepted here : Spec) (ops : List Op) (name : List ℕ) (found op : Option ℕ) → here ≡ accepted → ops ≡ here.ops → found ≡ number_among (op_names ops) name → found ≡ op
    → op_number accepted name ≡ op
operation_found accepted here ops name found op same all is by =
    ap (λ (items : List Op). number_among (op_names items) name) (sym (all ∙ ap (λ (s : Spec). s.ops) same)) ∙ sym is ∙ by

-- what is written of it is what is written of its name
pub drawn_by_name : (spec : Spec) (name : List ℕ) (op : Option ℕ) (old new : Option (List ℕ)) (r : Result Status Stop) → op_number spec name ≡ op → Writes (IsPlanDrawingOrRefusal spec op) old new r
    → Writes (IsPlanDrawingNamed name spec) old new r
drawn_by_name spec name op old new r found writes = subst (λ (o : Option ℕ). Writes (IsPlanDrawingOrRefusal spec o) old new r) (sym found) writes
