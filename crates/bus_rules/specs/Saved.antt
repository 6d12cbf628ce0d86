-- The terms of the rules as plain words, and what such words say. Any words say some terms.
use Rattle.bus_trace.specs.Saved.{is_yes, id_or_none_in, arbitration_in, call_in, connection_in, view_in}
use Rattle.bus_phases.specs.Saved.{pulses_in, duty_in, dialogue_in}
use Rattle.bus_rules.specs.declared.course.Course.{Course}
use Rattle.bus_rules.specs.Judging.{Running}
use Rattle.bus_rules.specs.declared.saved.SavedCourse.{SavedCourse}
use Rattle.bus_rules.specs.declared.saved_terms.SavedTerms.{SavedTerms}

abbrev pub course_in : SavedCourse → Course
course_in s = record {
  bsy_raised = s.bsy_raised;
  rst_raised = s.rst_raised;
  arbitration = arbitration_in s.arbitration;
  call = call_in s.call;
  connection = connection_in s.connection;
  receiver = id_or_none_in s.receiver;
  pulses = pulses_in s.pulses;
  turned = is_yes s.turned;
  duty = duty_in s.duty;
  agreed = s.agreed;
  dialogue = dialogue_in s.dialogue;
}

abbrev pub terms_in : SavedTerms → Running
terms_in s = record { view = view_in s.view; course = course_in s.course }
