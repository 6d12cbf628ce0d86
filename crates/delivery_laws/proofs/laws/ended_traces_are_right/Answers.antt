use Rattle.delivery_laws.proofs.laws.ended_traces_are_right.Goals as goal

pub returns : goal.returns
returns c = λ s rows o prompt end. record {
  lawful = c.ended_traces_are_quiet.ensures.lawful s rows o prompt end;
  quiet = c.ended_traces_are_quiet.ensures.quiet s rows o prompt end;
  told = c.prompt_traces_are_right.ensures.right s rows o prompt;
  answered = c.ended_traces_have_outcomes.ensures.answered s rows o prompt end;
  faults = c.fault_rows_are_of_the_scenario.ensures.struck s rows o prompt end;
}
