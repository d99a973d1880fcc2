-- The names of the rules.
use Rattle.std.specs.Prelude.{ℕ, List, codes}
use Rattle.rc_reader.specs.declared.refusal.LineRule.{LineRule}
use Rattle.rc_reader.specs.declared.refusal.LineRule.TheVariants.{S1, S2, S3, S4, S5, S6, S7, S8, W1, W2, W3, W4, W5}

abbrev pub line_rule_text : LineRule → List ℕ
line_rule_text S1 = codes "S1"
line_rule_text S2 = codes "S2"
line_rule_text S3 = codes "S3"
line_rule_text S4 = codes "S4"
line_rule_text S5 = codes "S5"
line_rule_text S6 = codes "S6"
line_rule_text S7 = codes "S7"
line_rule_text S8 = codes "S8"
line_rule_text W1 = codes "W1"
line_rule_text W2 = codes "W2"
line_rule_text W3 = codes "W3"
line_rule_text W4 = codes "W4"
line_rule_text W5 = codes "W5"
