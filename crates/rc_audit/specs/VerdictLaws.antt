-- There is one verdict on a list of content lines.
use Rattle.std.proofs.Common.{◌≡◌, ◌⊎◌, ℕ, List, [], ◌∷◌, ◌++◌, sym, ap, ◌∙◌, inl, inr, subst}
use Rattle.std.proofs.lemmas.List.{append_assoc, map-append}
use Rattle.rc_audit.specs.Imports.{ContentLine, bytes_of_content, SpecWithPlans, Work, HasThreads, runs_have_all_turns}
use Rattle.rc_audit.specs.declared.form.Form.{Form}
use Rattle.rc_audit.specs.declared.verdict.Verdict.{Verdict}
use Rattle.rc_audit.specs.declared.verdict.Verdict.TheVariants.{Legal, Bad}
use Rattle.rc_audit.specs.GoodReports.{BeginsGood, IsFirstBadLine, IsVerdict}
use Rattle.rc_audit.specs.WantedLaws.{begins_shorter, good_begins}

-- two verdicts on the same lines are the same
abbrev pub OneVerdict : Type 0
OneVerdict = (form : Form) (compiled : SpecWithPlans) (work : Work) (past_end : ℕ) (lines : List ContentLine) (verdict other : Verdict) → HasThreads work
    → IsVerdict form compiled work past_end lines verdict → IsVerdict form compiled work past_end lines other → verdict ≡ other

-- of two places in a list one is before the other, or they are one
abbrev Apart : List ContentLine → ContentLine → List ContentLine → ContentLine → Type 0
Apart xs x ys y =
    (x ≡ y) ⊎ (((zs : List ContentLine) × (ys ≡ xs ++ x ∷ zs)) ⊎ ((zs : List ContentLine) × (xs ≡ ys ++ y ∷ zs)))

apart : (xs ys us vs : List ContentLine) (x y : ContentLine) → xs ++ x ∷ us ≡ ys ++ y ∷ vs → Apart xs x ys y
apart [] [] us vs x y e = let same : x ≡ y = cc in inl same
apart [] (b ∷ ys) us vs x y e = let same : b ∷ ys ≡ x ∷ ys = cc in inr (inl (ys, same))
apart (a ∷ xs) [] us vs x y e = let same : a ∷ xs ≡ y ∷ xs = cc in inr (inr (xs, same))
apart (a ∷ xs) (b ∷ ys) us vs x y e =
    let first : a ≡ b = cc in
    elim (apart xs ys us vs x y (let rest : xs ++ x ∷ us ≡ ys ++ y ∷ vs = cc in rest)) [
      | inl same ↦ inl same
      | inr (inl h) ↦ inr (inl (h.0, λ i. sym first i ∷ h.1 i))
      | inr (inr h) ↦ inr (inr (h.0, λ i. first i ∷ h.1 i))
    ]

module _ (form : Form) (compiled : SpecWithPlans) (work : Work) where
  begins_front : (front others : List ContentLine) (line : ContentLine) → BeginsGood form compiled work (bytes_of_content (front ++ line ∷ others))
      → BeginsGood form compiled work (bytes_of_content front ++ line.bytes ∷ [])
  begins_front front others line h =
      begins_shorter form compiled work (bytes_of_content front ++ line.bytes ∷ []) (bytes_of_content others)
      (subst (BeginsGood form compiled work)
      (map-append (λ (l : ContentLine). l.bytes) front (line ∷ others)
      ∙ sym (append_assoc (bytes_of_content front) (line.bytes ∷ []) (bytes_of_content others))) h)

  moved : (lines others : List ContentLine) → lines ≡ others → BeginsGood form compiled work (bytes_of_content lines) → BeginsGood form compiled work (bytes_of_content others)
  moved lines others e h = subst (λ (l : List ContentLine). BeginsGood form compiled work (bytes_of_content l)) e h

  first_bad : (lines : List ContentLine) (n m : ℕ) → IsFirstBadLine form compiled work lines n → IsFirstBadLine form compiled work lines m → n ≡ m
  first_bad lines n m h k = go (apart h.front k.front h.others k.others h.line k.line (sym h.whole ∙ k.whole))
    where
      go : Apart h.front h.line k.front k.line → n ≡ m
      go (inl same) = sym h.number_is ∙ ap (λ (l : ContentLine). l.number) same ∙ k.number_is
      go (inr (inl w)) = absurd (h.bad (begins_front h.front w.0 h.line (moved k.front (h.front ++ h.line ∷ w.0) w.1 k.before)))
      go (inr (inr w)) = absurd (k.bad (begins_front k.front w.0 k.line (moved h.front (k.front ++ k.line ∷ w.0) w.1 h.before)))

  not_both : (lines : List ContentLine) (n : ℕ) → BeginsGood form compiled work (bytes_of_content lines) → IsFirstBadLine form compiled work lines n → ⊥
  not_both lines n begins h = h.bad (begins_front h.front h.others h.line (moved lines (h.front ++ h.line ∷ h.others) h.whole begins))

pub one_verdict : OneVerdict
one_verdict form compiled work past_end lines (Legal n) (Legal m) threads h k =
    ap Legal (sym h.count ∙ runs_have_all_turns compiled.spec work h.history threads h.run
    ∙ sym (runs_have_all_turns compiled.spec work k.history threads k.run) ∙ k.count)
one_verdict form compiled work past_end lines (Legal n) (Bad m) threads h (inl k) = absurd (not_both form compiled work lines m (good_begins form compiled work (bytes_of_content lines) n h) k)
one_verdict form compiled work past_end lines (Legal n) (Bad m) threads h (inr k) = absurd (k.none n h)
one_verdict form compiled work past_end lines (Bad n) (Legal m) threads (inl h) k = absurd (not_both form compiled work lines n (good_begins form compiled work (bytes_of_content lines) m k) h)
one_verdict form compiled work past_end lines (Bad n) (Legal m) threads (inr h) k = absurd (h.none m k)
one_verdict form compiled work past_end lines (Bad n) (Bad m) threads (inl h) (inl k) = ap Bad (first_bad form compiled work lines n m h k)
one_verdict form compiled work past_end lines (Bad n) (Bad m) threads (inl h) (inr k) = absurd (not_both form compiled work lines n k.begin h)
one_verdict form compiled work past_end lines (Bad n) (Bad m) threads (inr h) (inl k) = absurd (not_both form compiled work lines m h.begin k)
one_verdict form compiled work past_end lines (Bad n) (Bad m) threads (inr h) (inr k) = ap Bad (sym h.number_is ∙ k.number_is)
