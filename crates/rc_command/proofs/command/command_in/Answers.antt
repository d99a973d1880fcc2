use Rattle.std.proofs.Common.{◌≡◌, ◌∙◌, false, sym, ap, map, string_bytes, [], drop, ⊎_elim}
use Rattle.rc_command.proofs.Imports.{drop-map, take_rest, IfOk-weaker, list_any, app_of, is_simple, fault_of, is_simple_and_free, kind_of, grammar, is_flag}
use Rattle.rc_command.proofs.WordLemmas.{taken_by, refused_by}
use Rattle.rc_command.proofs.command.command_in.Goals as goal

pub returns-in-Ok : goal.returns-in-Ok
returns-in-Ok c =
    let words = map string_bytes c.args.words.now in
    let same : app_of c.in_ok-reader.reader ≡ grammar = c.in_ok-reader.ensures in
    let plain : list_any is_flag (drop 1 words) ≡ false = rw (drop-map, ← take_rest c.args.words.now 1) (sym c.has_flag.ensures ∙ c.if-has_flag.false) in
    let none : fault_of (app_of c.in_ok-reader.reader) words ≡ [] = c.in-Ok.ensures.kinds (ap is_simple_and_free same) in
    let rows = (c.in-Ok.ensures.matches (ap is_simple same)).1 in
    record {
      value = IfOk-weaker c.command_met.result _ _ (λ r h. h ∙ taken_by _ words _ same plain none rows) c.command_met.ensures.value;
      limits = c.command_met.ensures.limits;
    }

pub returns : goal.returns
returns c =
    let words = map string_bytes c.args.words.now in
    let same : app_of c.in_ok-reader.reader ≡ grammar = c.in_ok-reader.ensures in
    let plain : list_any is_flag (drop 1 words) ≡ false = rw (drop-map, ← take_rest c.args.words.now 1) (sym c.has_flag.ensures ∙ c.if-has_flag.false) in
    let kinds = c.in-Err.ensures.kinds (ap is_simple_and_free same) in
    record {
      value = refused_by _ words (kind_of c.in-Err.error) same plain (⊎_elim (λ memory. absurd (c.in_default-kind.not-OutOfMemory (c.kind.ensures ∙ memory))) (λ among. among) kinds);
      limits = tt;
    }
