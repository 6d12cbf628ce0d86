use Rattle.std.proofs.Common.{subst, ℕ, ◌≡◌, ◌<◌, ◌≤◌, ◌+◌, ◌-◌, ◌^◌, ◌∷◌, ◌∙◌, List, Option, Some, length, reverse}
use Rattle.std.proofs.Common.{sym, ap, arith}
use Rattle.std.specs.Prelude.{IfSome}
use Rattle.std.proofs.lemmas.List.{length-reverse}
use Rattle.bus_trace.specs.declared.Row.{Row}
use Rattle.scenario.specs.declared.value.FaultDef.{FaultDef}
use Rattle.due_model.specs.story_model.specs.Story.{Story}
use Rattle.due_model.specs.Next.{next}
use Rattle.bus_laws.specs.scsi_device.specs.Told.{first_fault}
use Rattle.bus_run.proofs.Going.{seen, goes_on, observed_on, devices_on, early_on, too_late}
use Rattle.bus_run.proofs.running.run.Goals as goal

pub next-requires-clause-timely : goal.next-requires-clause-timely
next-requires-clause-timely g c =
    c.observers_are_timely.ensures (reverse c.loop.trace.rows) c.loop.invariant.observed c.loop.invariant.early

pub returns-in_default-clause-ended : goal.returns-in_default-clause-ended
returns-in_default-clause-ended g c = λ h p fewer.
    let s = c.args.scenario.now in
    let rows : List Row = reverse c.loop.trace.rows in
    let i = c.loop.invariant in
    let going = i.going h p in
    let few : length rows < 2 ^ 32 = omega (arith, length-reverse c.loop.trace.rows, i.count, c.loop-test.true) in
    sym (c.next.ensures.exact s rows (seen s rows c.loop.observer
    (c.scenarios_fit_the_bus.ensures.lines s c.requires.lawful) h going.prompt i.observed i.devices few i.early)
    going.devices (c.first.ensures ∙ ap (λ (xs : List FaultDef). first_fault xs) going.pending) going.known)
    ∙ c.in_default.is

pub returns-in_default-clause-history : goal.returns-in_default-clause-history
returns-in_default-clause-history g c = λ h p.
    let rows : List Row = reverse c.loop.trace.rows in
    (c.loop.invariant.going h p).told ∙ ap (λ (b : Story). b.history)
    (c.kept_is_plain.ensures.rows c.args.scenario.now rows c.loop.invariant.devices).story

pub returns-in_default-clause-places : goal.returns-in_default-clause-places
returns-in_default-clause-places g c = λ h p. (c.loop.invariant.going h p).devices

pub returns-in_default-clause-within : goal.returns-in_default-clause-within
returns-in_default-clause-within g c = λ most h p less.
    let items = c.loop.trace.rows in
    let i = c.loop.invariant in
    let fewer : length (reverse items) < most = less (reverse items) (i.going h p).prompt in
    omega (arith, fewer, length-reverse items, i.count, i.steps, c.next.ensures.steps)

pub returns-then-row-ge-END-clause-ended : goal.returns-then-row-ge-END-clause-ended
returns-then-row-ge-END-clause-ended g c = λ h p fewer.
    let s = c.args.scenario.now in
    let rows : List Row = reverse c.loop.trace.rows in
    let i = c.loop.invariant in
    let going = i.going h p in
    let row : Row = c.in-Some.row in
    let few : length rows < 2 ^ 32 = omega (arith, length-reverse c.loop.trace.rows, i.count, c.loop-test.true) in
    let few_with : length (row ∷ rows) ≤ 2 ^ 32 = omega (arith, few) in
    absurd (too_late s rows row (c.rows_come_in_time.ensures.far s (row ∷ rows) c.requires.lawful (
      going.prompt,
      sym (c.next.ensures.exact s rows (seen s rows c.loop.observer
          (c.scenarios_fit_the_bus.ensures.lines s c.requires.lawful) h going.prompt i.observed i.devices few i.early)
          going.devices (c.first.ensures ∙ ap (λ (xs : List FaultDef). first_fault xs) going.pending) going.known)
          ∙ c.in-Some.is,
    ) few_with) c.if-row-ge-END.true)

pub returns-then-row-ge-END-clause-history : goal.returns-then-row-ge-END-clause-history
returns-then-row-ge-END-clause-history g c = λ h p.
    let rows : List Row = reverse c.loop.trace.rows in
    (c.loop.invariant.going h p).told ∙ ap (λ (b : Story). b.history)
    (c.kept_is_plain.ensures.rows c.args.scenario.now rows c.loop.invariant.devices).story

pub returns-then-row-ge-END-clause-places : goal.returns-then-row-ge-END-clause-places
returns-then-row-ge-END-clause-places g c = λ h p. (c.loop.invariant.going h p).devices

pub returns-then-row-ge-END-clause-within : goal.returns-then-row-ge-END-clause-within
returns-then-row-ge-END-clause-within g c = λ most h p less.
    let items = c.loop.trace.rows in
    let i = c.loop.invariant in
    let fewer : length (reverse items) < most = less (reverse items) (i.going h p).prompt in
    omega (arith, fewer, length-reverse items, i.count, i.steps, c.next.ensures.steps)

pub loop-preserved : goal.loop-preserved
loop-preserved g c =
    let s = c.args.scenario.now in
    let rows : List Row = reverse c.loop.trace.rows in
    let row : Row = c.in-Some.row in
    let i = c.loop.invariant in
    let new : reverse c.add.new.self.rows ≡ row ∷ rows = c.in_ok-add.ensures.rows in
    let early : row.time < 2 ^ 62 = c.if-row-ge-END.false in
    let device : row.dev < 8 = subst
    (λ (o : Option Row). IfSome o (λ (r : Row). r.dev < 8)) c.in-Some.is c.next.ensures.device in
    let observed = c.tell-shown.ensures.observer rows i.observed in
    let few : length rows < 2 ^ 32 = omega (arith, length-reverse c.loop.trace.rows, i.count, c.loop-test.true) in
    let few_with : length (row ∷ rows) < 2 ^ 32 = omega
    (arith, length-reverse c.loop.trace.rows, i.count, c.loop-test.true) in
    record {
      observed = observed_on rows _ row _ new observed;
      devices = devices_on rows _ row new device i.devices;
      early = early_on rows _ row new early i.early;
      count = c.in_ok-add.ensures.count ∙ ap (λ (n : ℕ). n + 1) i.count;
      steps = omega (arith, c.next.ensures.steps, i.steps);
      going = λ h p.
          let going = i.going h p in
          let fits = c.scenarios_fit_the_bus.ensures.lines s c.requires.lawful in
          let now = seen s rows c.loop.observer fits h going.prompt i.observed i.devices few i.early in
          let fault = c.first.ensures ∙ ap (λ (xs : List FaultDef). first_fault xs) going.pending in
          let is : next s rows ≡ Some row = sym (c.next.ensures.exact s rows now going.devices fault going.known)
          ∙ c.in-Some.is in
          let all = seen s (row ∷ rows) c.tell-shown.new.observer fits h
          (going.prompt, is) observed (device, i.devices) few_with (early, i.early) in
          let known = c.next.ensures.away s rows now going.devices fault going.known in
          goes_on g.D.Device.IsOf s rows _ row c.loop.places c.loop.faults (reverse c.loop.trace.history.items)
          c.tell-shown.new.places c.see.new.self _ (reverse c.add.new.self.history.items) c.loop.away
          c.tell-shown.new.away new going is (c.tell-shown.ensures.places s rows all going.devices) c.see.ensures
          (c.tell-shown.ensures.shown s rows all going.devices) c.in_ok-add.ensures.history
          (c.tell-shown.ensures.away s rows all known);
    }

pub returns-in_err-add-clause-within : goal.returns-in_err-add-clause-within
returns-in_err-add-clause-within g c = λ most h p less.
    let items = c.loop.trace.rows in
    let i = c.loop.invariant in
    let fewer : length (reverse items) < most = less (reverse items) (i.going h p).prompt in
    omega (arith, fewer, length-reverse items, i.count, i.steps, c.next.ensures.steps)

pub returns-clause-ended : goal.returns-clause-ended
returns-clause-ended g c = λ h p fewer.
    let all : length c.loop.trace.rows < 2 ^ 32 - 1 = fewer in
    absurd (omega (arith, all, c.loop.invariant.count, c.loop-test.false))

pub returns-clause-history : goal.returns-clause-history
returns-clause-history g c = λ h p.
    let rows : List Row = reverse c.loop.trace.rows in
    (c.loop.invariant.going h p).told ∙ ap (λ (b : Story). b.history)
    (c.kept_is_plain.ensures.rows c.args.scenario.now rows c.loop.invariant.devices).story

pub returns-clause-places : goal.returns-clause-places
returns-clause-places g c = λ h p. (c.loop.invariant.going h p).devices

pub returns-clause-within : goal.returns-clause-within
returns-clause-within g c = λ most h p less.
    let items = c.loop.trace.rows in
    let i = c.loop.invariant in
    let fewer : length (reverse items) < most = less (reverse items) (i.going h p).prompt in
    omega (arith, fewer, length-reverse items, i.count, i.steps)
