-- The device is the same in each state to which a row leads.
use Rattle.std.proofs.Common.{◌≡◌, Bool, true, false, ◌==◌, is_some, refl, if◌then◌else◌}
use Rattle.bus_trace.specs.LineSet.{none, same_set}
use Rattle.bus_lines.specs.declared.Stage.{Stage}
use Rattle.bus_lines.specs.declared.Stage.TheVariants.{OnFreeBus, InArbitration, InCalling, InAnswer, InConnection}
use Rattle.bus_lines.specs.declared.Stage.TheVariants.{InReset}
use Rattle.connect.specs.DeviceValue.{DeviceValue}
use Rattle.connect.specs.Links.{device_of, released_link, driving_link, link_by_row, link_after_row}
use Rattle.connect.specs.declared.states.Link.{Link}
use Rattle.connect.specs.declared.states.Link.TheVariants as in_state

either : (b : Bool) (x y : Link) (d : DeviceValue) → device_of x ≡ d → device_of y ≡ d
    → device_of (if b then x else y) ≡ d
either true x y d p q = p
either false x y d p q = q

released : (d : DeviceValue) → device_of (released_link d) ≡ d
released d = either (is_some d.want.since) _ _ d refl refl

driving : (contends : Bool) (d : DeviceValue) (s : Stage) → device_of (driving_link contends d s) ≡ d
driving contends d (OnFreeBus free) = refl
driving contends d (InArbitration a) = either contends _ _ d refl refl
driving contends d (InCalling c) = either (c.caller == d.me.dev) _ _ d refl refl
driving contends d (InAnswer c k answered) = refl
driving contends d (InConnection n) = refl
driving contends d (InReset since) = refl

by_row : (contends : Bool) (d : DeviceValue) (s : Stage) → device_of (link_by_row contends d s) ≡ d
by_row contends d s = either (same_set d.me.own none) _ _ d (released d) (driving contends d s)

pub device_after_row : (link : Link) (d : DeviceValue) (s : Stage) → device_of (link_after_row link d s) ≡ d
device_after_row (in_state.Idle l) d s = by_row l.device.me.own.bsy d s
device_after_row (in_state.Waiting l) d s = by_row l.device.me.own.bsy d s
device_after_row (in_state.Contending l) d s = by_row l.device.me.own.bsy d s
device_after_row (in_state.Won l) d s = by_row l.device.me.own.bsy d s
device_after_row (in_state.Calling l) d s = by_row l.device.me.own.bsy d s
device_after_row (in_state.Answering l) d s = by_row l.device.me.own.bsy d s
device_after_row (in_state.Linked l) d s = refl
