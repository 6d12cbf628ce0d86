-- What a row shows, as a list of events, the newest first.
use Rattle.std.specs.Prelude.{List}
use Rattle.bus_base.specs.declared.Event.{Event}
use Rattle.due_model.specs.dialogue_model.specs.Events.{newest_with, event_if}
use Rattle.target_course.specs.declared.events.Shown.{Shown}

abbrev pub shown_list : Shown → List Event
shown_list s = newest_with (event_if s.second) (event_if s.event)
