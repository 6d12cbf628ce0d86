-- What changes of a device.
use Rattle.std.specs.Prelude.{ℕ, Bool, false, Some, None}
use Rattle.bus_trace.specs.LineSet.{LineSet, none}
use Rattle.reaction_model.specs.declared.due.Myself.{Myself}
use Rattle.reaction_model.specs.declared.due.Want.{Want}
use Rattle.connect.specs.DeviceValue.{DeviceValue}

-- It wants nothing of the bus.
abbrev pub no_want : Want
no_want = record { since = None; callee = None; reselects = false; first = 0 }

-- It wants the bus since this time, to call this device.
abbrev pub new_want : ℕ → Bool → ℕ → Want
new_want callee reselects now = record { since = Some now; callee = Some callee; reselects = reselects; first = 0 }

abbrev pub new_device : ℕ → ℕ → DeviceValue
new_device dev latency = record { me = record { dev = dev; latency = latency; own = none; since = 0 }; want = no_want }

abbrev pub device_wanting : DeviceValue → ℕ → Bool → ℕ → DeviceValue
device_wanting d callee reselects now = record d { want = new_want callee reselects now }

-- It wants the bus since when it wanted it before, to call this device.
abbrev pub device_calling : DeviceValue → ℕ → DeviceValue
device_calling d callee = record d { want = record d.want { callee = Some callee } }

abbrev pub device_without_want : DeviceValue → DeviceValue
device_without_want d = record d { want = no_want }

-- It drives these lines; and it does so since this time.
abbrev pub myself_at : Myself → LineSet → ℕ → Myself
myself_at me lines now = record me { own = lines; since = now }

abbrev pub device_driving : DeviceValue → LineSet → DeviceValue
device_driving d lines = record d { me = record d.me { own = lines } }

abbrev pub device_at : DeviceValue → LineSet → ℕ → DeviceValue
device_at d lines now = record d { me = myself_at d.me lines now }

-- It has released all its lines, and wants nothing.
abbrev pub freed_device : DeviceValue → DeviceValue
freed_device d = device_driving (device_without_want d) none
