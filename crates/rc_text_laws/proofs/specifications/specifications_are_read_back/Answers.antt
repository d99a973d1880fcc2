use Rattle.rc_text_laws.specs.SpecLaws.{reading_can_be_written, reading_keeps_version, version_is_read, spec_is_read, some_text_gives, same_text}
use Rattle.rc_text_laws.proofs.specifications.specifications_are_read_back.Goals as goal

pub returns-clause-read_back : goal.returns-clause-read_back
returns-clause-read_back c = λ version spec in_range well_named populated limits keeps.
    spec_is_read version spec (record { in_range = in_range; well_named = well_named; populated = populated; limits = limits }) keeps

pub returns-clause-some_text : goal.returns-clause-some_text
returns-clause-some_text c = some_text_gives

pub returns-clause-readings : goal.returns-clause-readings
returns-clause-readings c = λ text reading e. (reading_can_be_written text reading e, reading_keeps_version text reading e)

pub returns-clause-told_apart : goal.returns-clause-told_apart
returns-clause-told_apart c = same_text

pub returns-clause-version : goal.returns-clause-version
returns-clause-version c = version_is_read
