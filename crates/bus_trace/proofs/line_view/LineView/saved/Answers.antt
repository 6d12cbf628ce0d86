use Rattle.std.proofs.Common.{◌∙◌}
use Rattle.bus_trace.proofs.Eight.{is_of_eight, view_with}
use Rattle.bus_trace.specs.View.{View}
use Rattle.bus_trace.proofs.line_view.LineView.saved.Goals as goal

pub returns : goal.returns
returns c =
    let now : View = record {
      driven = c.self.inside.driven;
      present = c.self.inside.present;
      data_lines = c.self.inside.data_lines;
      data_changed = c.self.inside.data_changed;
      times = c.self.inside.times;
      last = c.self.inside.last;
    } in
    let driven = is_of_eight now.driven c.self.told _ _ _ _ _ _ _ _ _ _ _ _ _ _ _ _
    c.lines_word.ensures c.lines_word-2.ensures c.lines_word-3.ensures c.lines_word-4.ensures
    c.lines_word-5.ensures c.lines_word-6.ensures c.lines_word-7.ensures c.lines_word-8.ensures in
    view_with now _ _ driven c.lines_word-9.ensures ∙ c.self.view_is
