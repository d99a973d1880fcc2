-- Lines that each good report has next.
use Rattle.std.proofs.Common.{◌≡◌, ℕ, List, [], ◌∷◌, ◌++◌, length, sym, ap, ◌∙◌, subst, refl}
use Rattle.std.proofs.lemmas.List.{append-nil, append_assoc, append_cancel_left}
use Rattle.rc_audit.specs.Imports.{Call, SpecWithPlans, Entry, Turn, Work, Runs}
use Rattle.rc_audit.specs.declared.form.Form.{Form}
use Rattle.rc_audit.specs.GoodReports.{BeginsGood, IsGoodReport, good_lines}
use Rattle.rc_audit.specs.Judged.{IsJudgeable, IsJudged, IsWhole, closing_lines, lines_behind, opening_lines}
use Rattle.rc_audit.specs.JudgedLaws.{judged_begins, judged_goes_on, judged_start, run_begins}
use Rattle.rc_audit.specs.Standing.{no_turns}

module _ (form : Form) (compiled : SpecWithPlans) (work : Work) where
  -- ---- lines that begin a good report

  pub begins_shorter : (xs ys : List (List ℕ)) → BeginsGood form compiled work (xs ++ ys) → BeginsGood form compiled work xs
  begins_shorter xs ys h = record {
    others = ys ++ h.others;
    entries = h.entries;
    good = record {
      history = h.good.history;
      run = h.good.run;
      printed = sym (append_assoc xs ys h.others) ∙ h.good.printed;
      count = h.good.count;
    };
  }

  pub good_begins : (lines : List (List ℕ)) (entries : ℕ) → IsGoodReport form compiled work lines entries → BeginsGood form compiled work lines
  good_begins lines entries good = record {
    others = [];
    entries = entries;
    good = record { history = good.history; run = good.run; printed = append-nil lines ∙ good.printed; count = good.count };
  }

  -- ---- wanted lines

  -- The lines so far begin a good report, and each that begins with them has this line next.
  pub record IsWanted (front : List (List ℕ)) (wanted : List ℕ) : Type 0 where
    pub begins : BeginsGood form compiled work front
    pub next : (history : List Entry) (others : List (List ℕ)) → Runs compiled.spec work history
        → good_lines form compiled work history ≡ front ++ others → (later : List (List ℕ)) × (others ≡ wanted ∷ later)

  same_line : (x y : List ℕ) (xs ys : List (List ℕ)) → x ∷ xs ≡ y ∷ ys → x ≡ y
  same_line x y xs ys e = cc

  no_line : (x : List ℕ) (xs : List (List ℕ)) → [] ≡ x ∷ xs → ⊥
  no_line x xs e = absurd cc

  -- with another line no good report begins
  pub other_is_bad : (front : List (List ℕ)) (wanted line : List ℕ) → IsWanted front wanted → BeginsGood form compiled work (front ++ line ∷ []) → line ≡ wanted
  other_is_bad front wanted line h begins =
      let good = begins.good in
      let next = h.next good.history (line ∷ begins.others) good.run (sym good.printed ∙ append_assoc front (line ∷ []) begins.others) in
      same_line line wanted begins.others next.0 next.1

  -- and the lines so far are none
  pub wanted_is_not_all : (front : List (List ℕ)) (wanted : List ℕ) → IsWanted front wanted → (entries : ℕ) → IsGoodReport form compiled work front entries → ⊥
  wanted_is_not_all front wanted h entries good =
      let next = h.next good.history [] good.run (sym good.printed ∙ sym (append-nil front)) in
      no_line wanted next.0 next.1

  -- the plans and the number of entries
  pub opening_is_wanted : IsJudgeable compiled.spec work → (front later : List (List ℕ)) (wanted : List ℕ)
      → opening_lines form compiled work ≡ front ++ wanted ∷ later → IsWanted front wanted
  opening_is_wanted can front later wanted opening = record {
    begins = begins_shorter front (wanted ∷ later) (subst (BeginsGood form compiled work) opening
        (judged_begins form compiled work can [] no_turns work.rounds (opening_lines form compiled work) [] (judged_start form compiled work can)));
    next = λ history others run printed.
        let behind = lines_behind form compiled work [] history in
        let whole : front ++ others ≡ front ++ (wanted ∷ later ++ behind) =
        sym printed ∙ run_begins form compiled work can history run ∙ ap (λ l. l ++ behind) opening ∙ append_assoc front (wanted ∷ later) behind in
        (later ++ behind, append_cancel_left front others (wanted ∷ later ++ behind) whole);
  }

  -- a line that is pending
  pub pending_is_wanted : (can : IsJudgeable compiled.spec work) (done : List Entry) (left : ℕ → List (List Call)) (rounds : List (List Turn)) (front later : List (List ℕ)) (wanted : List ℕ)
      → IsJudged form compiled work done left rounds front (wanted ∷ later) → IsWanted front wanted
  pending_is_wanted can done left rounds front later wanted judged = record {
    begins = judged_begins form compiled work can done left rounds front (wanted ∷ later) judged;
    next = λ history others run printed.
        let goes = judged_goes_on form compiled work can done left rounds front (wanted ∷ later) judged history others run printed in
        (later ++ goes.0, goes.1);
  }

  -- ---- the final relation

  module _ (done : List Entry) (front : List (List ℕ)) (whole : IsWhole form compiled work done front) where
    pub whole_is_good : IsGoodReport form compiled work (front ++ closing_lines form compiled work done) (length done)
    whole_is_good = record { history = done; run = whole.run; printed = sym whole.printed; count = refl }

    pub closing_is_wanted : (before later : List (List ℕ)) (wanted : List ℕ) → closing_lines form compiled work done ≡ before ++ wanted ∷ later
        → IsWanted (front ++ before) wanted
    closing_is_wanted before later wanted parts = record {
      begins = begins_shorter (front ++ before) (wanted ∷ later) (good_begins ((front ++ before) ++ wanted ∷ later) (length done)
          (subst (λ l. IsGoodReport form compiled work l (length done)) (ap (λ l. front ++ l) parts ∙ sym (append_assoc front before (wanted ∷ later))) whole_is_good));
      next = λ history others run printed.
          let only = whole.only history (before ++ others) run (printed ∙ append_assoc front before others) in
          (later, append_cancel_left before others (wanted ∷ later) (only.1 ∙ parts));
    }

    -- no line may follow
    pub more_is_bad : (line : List ℕ) → BeginsGood form compiled work ((front ++ closing_lines form compiled work done) ++ line ∷ []) → ⊥
    more_is_bad line begins =
        let good = begins.good in
        let all = closing_lines form compiled work done in
        let only = whole.only good.history (all ++ (line ∷ begins.others)) good.run
        (sym good.printed ∙ append_assoc (front ++ all) (line ∷ []) begins.others ∙ append_assoc front all (line ∷ begins.others)) in
        no_line line begins.others (sym (append_cancel_left all (line ∷ begins.others) [] (only.1 ∙ sym (append-nil all))))
