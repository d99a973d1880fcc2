-- The text of the sample, which is read as the sample.
use Rattle.std.specs.Prelude.{◌≡◌, ℕ, List, [], ◌∷◌, Ok, codes}
use Rattle.std.proofs.Common.{refl}
use Rattle.rc_text.specs.Lines.{printed_lines}
use Rattle.rc_text.specs.Words.{next_word_of, words_of}
use Rattle.rc_reader.specs.Forms.{form_of}
use Rattle.rc_reader.specs.Grammar.{spec_of, after_bytes, reading_from}
use Rattle.rc_generate.specs.Sample.{sample_graph}

abbrev pub sample_lines : List (List ℕ)
sample_lines =
    codes "relc 1" ∷ codes "col src num" ∷ codes "col dst num" ∷ codes "col weight num" ∷ codes "fd src dst -> weight"
    ∷ codes "node root" ∷ codes "node u src" ∷ codes "node w src dst" ∷ codes "node z src dst weight"
    ∷ codes "edge e1 root u hash src" ∷ codes "edge e2 u w ordered dst" ∷ codes "edge e3 w z singleton weight"
    ∷ codes "lock k1 8 src" ∷ codes "lock k2 4 src" ∷ codes "place e1 k1" ∷ codes "place e2 k2" ∷ codes "place e3 k2"
    ∷ codes "op ins insert src dst" ∷ codes "op del remove src dst" ∷ codes "op succ query src -> dst weight"
    ∷ codes "op find query src dst -> weight" ∷ codes "end" ∷ []

pub sample_is_read : spec_of (printed_lines sample_lines) ≡ Ok sample_graph
unfolding after_bytes reading_from form_of next_word_of words_of
sample_is_read = refl
