use Rattle.bus_engine.proofs.Seams.{seams_hold}
use Rattle.bus_engine.proofs.laws.prompt_traces_tie_devices.Goals as goal

pub returns : goal.returns
returns c = λ s obeys.
    seams_hold s
    (record {
      faithful_are = λ rows p. c.prompt_traces_keep_the_books.ensures.faithful s rows obeys p;
      telling_are = λ rows p. c.ends_know_what_rows_tell.ensures.telling s rows obeys p;
      allowed_are = λ rows p. c.ends_know_what_rows_tell.ensures.allowed s rows obeys p;
      ends_are = λ rows p. c.connections_are_of_the_scenario.ensures.ends s rows obeys p;
      heard_are = λ rows p. c.ends_know_what_rows_tell.ensures.heard s rows obeys p;
      written_are = λ rows p. c.ends_know_what_rows_tell.ensures.written s rows obeys p;
      attended_are = λ rows row p. c.ends_know_what_rows_tell.ensures.attended s rows row obeys p;
    })
