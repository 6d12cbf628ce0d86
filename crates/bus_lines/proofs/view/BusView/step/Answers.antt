use Rattle.std.proofs.Common.{◌≡◌, sym, subst}
use Rattle.bus_lines.specs.BusView.{BusViewValue, IsBusViewOf}
use Rattle.bus_trace.specs.Changes.{change_of}
use Rattle.bus_lines.proofs.Stands.{stands, one_connection, goes_on}
use Rattle.bus_lines.proofs.view.BusView.step.Goals as goal

pub returns : goal.returns
returns c = record {
  trace = λ rows h.
      let v : BusViewValue = record {
        lines = c.self.inside.lines;
        arbitration = c.self.inside.arbitration;
        call = c.self.inside.call;
        connection = c.self.inside.connection;
        effect = c.self.inside.effect;
        handshakes = c.self.inside.handshakes;
      } in
      let hv : IsBusViewOf rows v = subst (λ (x : BusViewValue). IsBusViewOf rows x) (sym c.self.view_is) h in
      let ec : c.change_by-change.result ≡ change_of rows c.args.row.now = c.change_by-change.ensures
      rows hv.lines_are in
      let en = c.see_connection.ensures in
      let row = c.args.row.now in
      goes_on rows row v c.step_to.new.self c.change_by-change.result c.see_arbitration.new.arbitration
      c.see_call.new.call c.see_connection.new.connection c.step-2.new.self c.step.new.self hv
      (c.step_to.ensures.trace rows hv.lines_are (λ i. (ec i).after)) ec
      (c.see_arbitration.ensures rows hv.lines_are) c.see_call.ensures en
      (c.step-2.ensures (one_connection rows row v c.change_by-change.result c.see_connection.new.connection hv ec en))
      (c.step.ensures.trace rows hv.handshakes_are
      (stands rows row v c.change_by-change.result c.see_connection.new.connection hv ec en) ec);
}
