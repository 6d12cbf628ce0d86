-- What contracts see of the reader's draft.
use Rattle.scenario.specs.declared.draft.Draft.{Draft}
use Rattle.scenario.specs.Reading.{Progress}

-- What was read so far.
abbrev pub seen : Draft → Progress
seen d = record { scenario = d.scenario; last = d.last; needs = d.needs }
