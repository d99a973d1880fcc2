-- Pages by which a store's plans are read.
use Rattle.std.specs.Prelude.{◌≡◌, ◌⊎◌, ℕ, List, length, take, drop, Some}
use Rattle.rc_embed.specs.Imports.{plans_text, compiled_of, spec_of}
use Rattle.rc_embed.specs.declared.text_page.TextPage.{TextPage}
use Rattle.rc_embed.specs.Codes as codes
use Rattle.rc_embed.specs.Opened.{OpenSeen}
use Rattle.rc_embed.specs.Replies.{IsCopied}

-- the bytes of a text from one on, as many as a page has room for
abbrev pub part_from : List ℕ → ℕ → List ℕ
part_from text at = take 4096 (drop at text)

-- the page tells how many bytes the text has, and those from the one on that it asks for
pub record TellsText (text : List ℕ) (before after : TextPage) : Type 0 where
  pub at : after.at ≡ before.at
  pub length : after.length ≡ length text
  pub bytes : IsCopied (part_from text before.at) before.bytes after.bytes (Some after.count)

-- the text of a store's plans
abbrev pub text_of_plans : OpenSeen → List ℕ
text_of_plans store = plans_text (spec_of store.store.row) (compiled_of store.store.row).plans

-- the page tells of the plans; or memory was wanted, and it is as before
pub record AnswersPlans (store : OpenSeen) (before after : TextPage) (code : ℕ) : Type 0 where
  pub done : code ≡ codes.done → TellsText (text_of_plans store) before after
  pub memory : code ≡ codes.memory → after ≡ before
  pub one_of : (code ≡ codes.done) ⊎ (code ≡ codes.memory)
