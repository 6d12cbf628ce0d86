-- What is known before a row of a prompt trace and after it, and what follows of the samples.
use Rattle.right_laws.proofs
use proofs.Names.{ℕ, ◌≡◌, ◌⊎◌, inl, inr, ◌≤◌, ◌+◌, true, false, not, ◌&&◌, ◌∙◌, List, ◌∷◌, Option, Some, None, refl}
use proofs.Names.{sym, ap, subst, arith, same_Some, is_some, wrong, wrong', none_number, LineSet, call, connection}
use proofs.Names.{receiver, is_fault, bus, last_time, line_times, phase_time, since_line, Row, Connection}
use proofs.Names.{BUS_SETTLE_DELAY, broken_rule, ScenarioValue, HostDef, TargetDef, Sample, host_latency, latency_of}
use proofs.Names.{target_latency, begun, host_of, target_def_of, IsLeast, due, from_stage, unreset_due}
use proofs.Names.{HasShortLatencies, BusStage, CalmStanding, Standing, NextRow, sides_are, link_calm, LinkStage}
use proofs.Names.{when_selected, when_settling, when_turning, when_offering, when_shaking, when_pulsing, AnyStage}
use proofs.Names.{linked, none_some, some_none, by_option, under_rst, link_connection, ends_apart, HasEnds, AreEnds}
use proofs.{Names.{awaited, awaited_by, awaited_ids, byte_at}, Samples.Bytes.{Crossed, into_initiator, into_target}}
use proofs.Samples.{Bytes.{byte_awaits, byte_none}, Called.{apart_awaits}, Directions.{IsDirected, directed_on}}
use proofs.Samples.{Directions.{sampler}, InTurn.{Precedes, same_precedes, sooner_precedes}, NoFaults.{no_fault}}
use proofs.Samples.{Resets.{kept_new, kept_on}, Taken.{IsPast}, Takes.{Awaits, IsNoLater}}
use Rattle.trace_laws.specs.link_laws.specs.LinkStages.{apart}
use Rattle.trace_laws.specs.row_laws.proofs.Lines.First.{begins_now}

pub record Moment (s : ScenarioValue) (p : List Row) (row : Row) : Type 0 where
  pub fits : HasShortLatencies s
  pub standing : Standing s p
  pub here : AnyStage s p
  pub ends : AreEnds s p
  pub least : IsLeast (due s p) 8 row
  pub obeys : broken_rule p row ≡ None
  pub next : AnyStage s (row ∷ p)

-- ---- the stage

pub apart_of : (s : ScenarioValue) (p : List Row) → AnyStage s p → connection p ≡ None → BusStage s p
apart_of s p (apart h alone) e = h
apart_of s p (linked n h) e = some_none n (sym (link_connection s p n h) ∙ e)

pub reset_of : (s : ScenarioValue) (p : List Row) → AnyStage s p → (bus p).rst ≡ true → BusStage s p
reset_of s p (apart h alone) e = h
reset_of s p (linked n h) e = wrong (sym e ∙ link_calm s p n h)

pub linked_of : (s : ScenarioValue) (p : List Row) (n : Connection) → AnyStage s p → (bus p).rst ≡ false
    → connection p ≡ Some n → LinkStage s p n
linked_of s p n (apart h alone) calm e = wrong' (sym alone ∙ (λ i. is_some (e i) && not (calm i)))
linked_of s p n (linked m h) calm e = subst (LinkStage s p) (same_Some m n (sym (link_connection s p m h) ∙ e)) h

-- ---- the devices that sample are there

there : (o : Option TargetDef) (lat : Option ℕ) → (is_some o ≡ true) ⊎ (is_some lat ≡ true)
    → (x : ℕ) × (target_latency o lat ≡ Some x)
there (Some t) lat w = (t.latency, refl)
there None (Some l) w = (l, refl)
there None None (inl e) = wrong' e
there None None (inr e) = wrong' e

host_there : (o : Option HostDef) → is_some o ≡ true → is_some (host_latency o) ≡ true
host_there (Some h) e = refl
host_there None e = wrong' e

end_there : (s : ScenarioValue) (n : Connection) (p : List Row) (d : ℕ) → HasEnds s n → Crossed p n d
    → (x : ℕ) × (latency_of s d ≡ Some x)
end_there s n p d e (into_initiator f h b here io req ack since) =
    let w = there (target_def_of s n.initiator) (host_latency (host_of s n.initiator))
    (inr (host_there (host_of s n.initiator) e.initiator)) in
    (w.0, ap (latency_of s) here ∙ w.1)
end_there s n p d e (into_target f h b here io bsy ack req since) =
    let w = there (target_def_of s n.target) (host_latency (host_of s n.target)) (inl e.target) in
    (w.0, ap (latency_of s) here ∙ w.1)

-- ---- the sample that is awaited

sampler_is : (p : List Row) (n : Connection) (d : ℕ) → Crossed p n d → d ≡ sampler n (bus p).io
sampler_is p n d (into_initiator f h b here io req ack since) =
    here ∙ (λ i. sampler n (sym (ap (λ (l : LineSet). l.io) h.stands.bus_is ∙ io) i))
sampler_is p n d (into_target f h b here io bsy ack req since) =
    here ∙ (λ i. sampler n (sym (ap (λ (l : LineSet). l.io) h.stands.bus_is ∙ io) i))

begun_is : (p : List Row) (n : Connection) (d : ℕ) → Crossed p n d → begun p ≡ true
begun_is p n d (into_initiator f h b here io req ack since) = b
begun_is p n d (into_target f h b here io bsy ack req since) = b

-- It comes of a byte, or of the IDs.
pub data Awaited (s : ScenarioValue) (p : List Row) (a : Sample) : Type 0 where
  of_byte : (n : Connection) (d : ℕ) → connection p ≡ Some n → receiver p ≡ Some d
      → a ≡ record { time = last_time p; dev = d } → Awaited s p a
  of_ids : connection p ≡ None → awaited_ids s (since_line (λ z. z.bsy) p) (call p) ≡ Some a → Awaited s p a

pub awaited_of : (s : ScenarioValue) (p : List Row) (a : Sample) → (bus p).rst ≡ false → awaited s p ≡ Some a
    → Awaited s p a
awaited_of s p a calm e =
    by_option (connection p)
    (λ en. of_ids en ((λ i. awaited_by s p (sym calm i) (sym en i)) ∙ e))
    (λ n en. by_receiver n en (receiver p) refl ((λ i. awaited_by s p (sym calm i) (sym en i)) ∙ e))
  where
    by_receiver : (n : Connection) → connection p ≡ Some n → (o : Option ℕ) → receiver p ≡ o
        → byte_at (last_time p) o ≡ Some a → Awaited s p a
    by_receiver n en None er z = none_some a z
    by_receiver n en (Some d) er z = of_byte n d en er (sym (same_Some _ a z))

abbrev pub HasCrossed : List Row → Type 0
HasCrossed p =
    (n : Connection) (d : ℕ) → connection p ≡ Some n → (bus p).rst ≡ false → receiver p ≡ Some d → Crossed p n d

pub awaits_here : (s : ScenarioValue) (p : List Row) (a : Sample) → HasShortLatencies s → AnyStage s p → AreEnds s p
    → HasCrossed p → (bus p).rst ≡ false → CalmStanding s p → awaited s p ≡ Some a → Awaits s p a
awaits_here s p a fits here ends crossed calm always e = go (awaited_of s p a calm e)
  where
    go : Awaited s p a → Awaits s p a
    go (of_byte n d en er same) =
        let x = crossed n d en calm er in
        let w = end_there s n p d (ends n en) x in
        subst (Awaits s p) (sym same) (byte_awaits s p n d w.0 always er w.1 x)
    go (of_ids en z) = apart_awaits s p a fits always (apart_of s p here en) en calm z

pub directed_here : (s : ScenarioValue) (p : List Row) (a : Sample) → HasCrossed p → (bus p).rst ≡ false
    → awaited s p ≡ Some a → IsDirected p a
directed_here s p a crossed calm e n en c g = go (awaited_of s p a calm e)
  where
    go : Awaited s p a → (a.time ≤ phase_time (line_times p)) ⊎ (a.dev ≡ sampler n (bus p).io)
    go (of_byte m d em er same) = inr (ap (λ (x : Sample). x.dev) same ∙ sampler_is p m d (crossed m d em calm er)
        ∙ (λ i. sampler (same_Some m n (sym em ∙ en) i) (bus p).io))
    go (of_ids none z) = some_none n (sym en ∙ none)

-- Where none is awaited the next row is no fault row.
pub none_here : (s : ScenarioValue) (p : List Row) (row : Row) → AnyStage s p → (bus p).rst ≡ false → CalmStanding s p
    → awaited s p ≡ None → IsLeast (unreset_due s p) 8 row → is_fault row.kind ≡ false
none_here s p row here calm always e least = by_option (connection p) (λ en. no_fault s p row.dev (record {
  time = row.time;
  kind = row.kind;
}) always.devices least.inside calm en ((λ i. awaited_by s p (sym calm i) (sym en i)) ∙ e) least.is_due)
    (λ n en. let w = sides_are s p n (linked_of s p n here calm en) in byte_none s p n w.0 row always.devices w.1
    (no_byte (receiver p) ((λ i. awaited_by s p (sym calm i) (sym en i)) ∙ e)) least)
  where
    no_byte : (o : Option ℕ) → byte_at (last_time p) o ≡ None → o ≡ None
    no_byte None z = refl
    no_byte (Some d) z = absurd (some_sample _ z)
      where
        some_sample : (a : Sample) → Some a ≡ None → ⊥
        some_sample a y = absurd cc

-- ---- the samples before it

-- As a byte crosses a bus settle delay has gone since the phase lines (6.1.10).
settled : (s : ScenarioValue) (q : List Row) (n : Connection) (d : ℕ) → LinkStage s q n → receiver q ≡ Some d
    → phase_time (line_times q) + BUS_SETTLE_DELAY ≤ last_time q
settled s q n d (when_selected h) e = absurd (none_number d (sym h.receiver_is ∙ e))
settled s q n d (when_settling bsy atn msg cd io y h) e = absurd (none_number d (sym h.receiver_is ∙ e))
settled s q n d (when_turning atn x msg cd h) e = absurd (none_number d (sym h.receiver_is ∙ e))
settled s q n d (when_offering atn msg cd y h) e = absurd (none_number d (sym h.receiver_is ∙ e))
settled s q n d (when_shaking msg cd io req ack atn x y h) e = h.settled
settled s q n d (when_pulsing io req ack atn x y h a) e = h.settled

pub precedes_byte : (s : ScenarioValue) (q : List Row) (n : Connection) (d : ℕ) (b : Sample) → LinkStage s q n
    → connection q ≡ Some n → (bus q).rst ≡ false → receiver q ≡ Some d → Crossed q n d → IsPast s q b
    → Precedes b (record { time = last_time q; dev = d })
precedes_byte s q n d b h en calm er x w = go (w.directed n en calm (begun_is q n d x))
  where
    go : (b.time ≤ phase_time (line_times q)) ⊎ (b.dev ≡ sampler n (bus q).io)
        → Precedes b (record { time = last_time q; dev = d })
    go (inl t) =
        let z = settled s q n d h er in
        sooner_precedes (record { time = last_time q; dev = d }) b (omega (arith, t, z))
    go (inr e) = same_precedes (record { time = last_time q; dev = d }) b w.time (e ∙ sym (sampler_is q n d x))

-- ---- a sample in the past

order_of : (s : ScenarioValue) (p : List Row) (row : Row) → Moment s p row → last_time p ≤ row.time
order_of s p row m =
    m.standing.ahead row.dev m.least.inside (record { time = row.time; kind = row.kind }) m.least.is_due

directed_next : (s : ScenarioValue) (p : List Row) (row : Row) (b : Sample) → Moment s p row → b.time ≤ row.time
    → IsDirected p b → IsDirected (row ∷ p) b
directed_next s p row b m le w = directed_on p row b
    (λ on off. ends_apart s p row m.least.inside m.obeys (under_rst s p (reset_of s p m.here on) on) off)
    (λ n none off en. let st = apart_of s p m.here none in let g : NextRow s p row = from_stage s p row m.fits
    m.standing st (λ i. is_some (none i) && not (bus p).rst) m.least in begins_now s (row ∷ p) n g.here en off) le w

pub past_next : (s : ScenarioValue) (p : List Row) (row : Row) (b : Sample) → Moment s p row → IsPast s p b
    → IsPast s (row ∷ p) b
past_next s p row b m w =
    let o = order_of s p row m in
    let t = w.time in
    let le : b.time ≤ row.time = omega (arith, o, t) in
    record {
      time = le;
      kept = kept_on s p row b m.standing.devices m.least le w.kept;
      directed = directed_next s p row b m le w.directed;
    }

no_later : (a : Sample) (row : Row) → IsNoLater a row → a.time ≤ row.time
no_later a row (inl h) = omega (arith, h)
no_later a row (inr h) = let z = h.0 in omega (arith, z)

pub past_new : (s : ScenarioValue) (p : List Row) (row : Row) (a : Sample) → Moment s p row → IsNoLater a row
    → IsDirected p a → IsPast s (row ∷ p) a
past_new s p row a m order w = record {
  time = no_later a row order;
  kept = kept_new s p row a m.standing.devices m.least order;
  directed = directed_next s p row a m (no_later a row order) w;
}
