-- ATN, and what it asks of the target, from row to row.
use Rattle.link_laws.proofs
use proofs.Names.{◌≡◌, Bool, true, false, not, ◌&&◌, ◌||◌, ◌∙◌, refl, ap, if◌then◌else◌, and_false, falls, implies}
use proofs.Names.{duty_if_held, duty_left, Duty, is_owed, EndLines, connected_bus, fits_duty, is_owed_out}

-- Whatever a row does in a phase.
pub duty_goes_on : (d : Duty) (e : EndLines) (atn rise fall held : Bool) → fits_duty d e.atn e.msg ≡ true
    → fits_duty (if falls e.atn atn || rise then Duty.Nothing
    else if fall && (e.atn && atn && held) then duty_if_held d (connected_bus e) else d) atn e.msg ≡ true
duty_goes_on d e atn rise fall held h = go e.atn atn rise h
  where
    held_in : (msg cd io : Bool) → fits_duty d true msg ≡ true
        → fits_duty (if msg && cd && io then Duty.Owed else if msg && cd && not io then d else Duty.Asked) true msg
        ≡ true
    held_in true true false h = h
    held_in _ _ _ h = refl

    more : (d : Duty) (atn : Bool) → fits_duty d false e.msg ≡ true → fits_duty d atn e.msg ≡ true
    more Duty.Nothing atn h = refl
    more Duty.Asked atn h = absurd cc
    more Duty.Owed atn h = absurd cc

    by_fall : (w : Bool) → fits_duty d true e.msg ≡ true
        → fits_duty (if w then duty_if_held d (connected_bus e) else d) true e.msg ≡ true
    by_fall true h = held_in e.msg e.cd e.io h
    by_fall false h = h

    go : (a b r : Bool) → fits_duty d a e.msg ≡ true → fits_duty (if falls a b || r then Duty.Nothing
        else if fall && (a && b && held) then duty_if_held d (connected_bus e) else d) b e.msg ≡ true
    go true false r h = refl
    go true true true h = refl
    go true true false h = by_fall (fall && held) h
    go false b true h = refl
    go false b false h =
        ap (λ (w : Bool). fits_duty (if w then duty_if_held d (connected_bus e) else d) b e.msg) (and_false fall)
        ∙ more d b h

-- A phase begins, in which ATN is true only where it is MESSAGE OUT.
pub duty_at_phase : (d : Duty) (atn msg msg' io' : Bool)
    → fits_duty d atn msg ≡ true → implies atn (msg' && not io') ≡ true
    → (fits_duty (duty_left d) atn msg' ≡ true) × (is_owed_out (duty_left d) io' ≡ true)
duty_at_phase Duty.Nothing atn msg msg' io' h a = (refl, refl)
duty_at_phase Duty.Asked true msg true false h a = (refl, refl)
duty_at_phase Duty.Owed true msg true false h a = (refl, refl)
duty_at_phase _ _ msg _ _ h a = absurd cc

-- REQ may rise: where MESSAGE OUT is owed this is MESSAGE OUT.
pub may_ask : (d : Duty) (atn msg cd io : Bool) → (msg && not cd) ≡ false → fits_duty d atn msg ≡ true
    → is_owed_out d io ≡ true → implies (is_owed d) (msg && cd && not io) ≡ true
may_ask Duty.Nothing atn msg cd io k f o = refl
may_ask Duty.Asked atn msg cd io k f o = refl
may_ask Duty.Owed true true true false k f o = refl
may_ask Duty.Owed _ _ _ _ k f o = absurd cc
