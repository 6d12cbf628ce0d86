-- A step does not depend on the first byte of a reselecting target: it is no part of the row that it makes, and the
-- time of that row is the same.
use Rattle.std.proofs.Common.{ℕ, ◌≡◌, Bool, true, false, not, ◌&&◌, ◌==◌, Option, Some, None, is_some, is_none, refl}
use Rattle.std.proofs.Common.{if◌then◌else◌}
use Rattle.bus_trace.specs.LineSet.{LineSet}
use Rattle.bus_lines.specs.declared.Stage.{Stage}
use Rattle.bus_lines.specs.declared.Stage.TheVariants.{OnFreeBus, InArbitration, InCalling, InAnswer, InConnection}
use Rattle.bus_lines.specs.declared.Stage.TheVariants.{InReset}
use Rattle.reaction_model.specs.declared.due.Due.{Due}
use Rattle.reaction_model.specs.declared.due.Myself.{Myself}
use Rattle.reaction_model.specs.declared.due.Want.{Want}
use Rattle.reaction_model.specs.Reactions.{earlier_due, due_where}
use Rattle.reaction_model.specs.Calling.{reselection_end}
use Rattle.reaction_model.specs.Linking.{link_due_by}
use Rattle.connect.specs.Steps.{still_drives_bsy, ends_reselection, lines_now, time_later}

abbrev answered : Bool → Bool → Option ℕ → Option Due → Option Due → Option Due → Myself → ℕ → Option Due
answered caller reselects resumed selects takes loses me first = earlier_due
    (if caller then (if not reselects then selects else if is_none resumed then takes else reselection_end me first)
    else loses) None

answered_lines :
    (caller reselects : Bool) (resumed : Option ℕ) (selects takes loses : Option Due) (me : Myself) (now a b : ℕ)
    → lines_now (caller && (reselects && is_some resumed)) now
    (answered caller reselects resumed selects takes loses me a)
    ≡ lines_now (caller && (reselects && is_some resumed)) now
    (answered caller reselects resumed selects takes loses me b)
answered_lines false reselects resumed selects takes loses me now a b = refl
answered_lines true false resumed selects takes loses me now a b = refl
answered_lines true true None selects takes loses me now a b = refl
answered_lines true true (Some at) selects takes loses me now a b = refl

answered_time :
    (caller reselects : Bool) (resumed : Option ℕ) (selects takes loses : Option Due) (me : Myself) (now a b : ℕ)
    → time_later now (answered caller reselects resumed selects takes loses me a)
    ≡ time_later now (answered caller reselects resumed selects takes loses me b)
answered_time false reselects resumed selects takes loses me now a b = refl
answered_time true false resumed selects takes loses me now a b = refl
answered_time true true None selects takes loses me now a b = refl
answered_time true true (Some at) selects takes loses me now a b = refl

-- What is due by the stage, whatever is due of the release of BSY.
abbrev due_by : LineSet → ℕ → ℕ → Myself → Want → Option ℕ → Option Due → Stage → ℕ → Option Due
due_by bus bsy sel me w flip release s first = earlier_due
    (link_due_by bus bsy sel me (record w { first = first }) flip s) (due_where (still_drives_bsy me s) release)

pub lines_by_first : (s : Stage) (bus : LineSet) (bsy sel : ℕ) (me : Myself)
    (w : Want) (flip : Option ℕ) (release : Option Due) (now a b : ℕ)
    → lines_now (ends_reselection me s) now (due_by bus bsy sel me w flip release s a)
    ≡ lines_now (ends_reselection me s) now (due_by bus bsy sel me w flip release s b)
lines_by_first (OnFreeBus free) bus bsy sel me w flip release now a b = refl
lines_by_first (InArbitration x) bus bsy sel me w flip release now a b = refl
lines_by_first (InCalling c) bus bsy sel me w flip release now a b = refl
lines_by_first (InAnswer c k at) bus bsy sel me w flip release now a b =
    answered_lines (c.caller == me.dev) k.reselects k.resumed _ _ _ me now a b
lines_by_first (InConnection n) bus bsy sel me w flip release now a b = refl
lines_by_first (InReset since) bus bsy sel me w flip release now a b = refl

pub time_by_first : (s : Stage) (bus : LineSet) (bsy sel : ℕ) (me : Myself)
    (w : Want) (flip : Option ℕ) (release : Option Due) (now a b : ℕ)
    → time_later now (due_by bus bsy sel me w flip release s a)
    ≡ time_later now (due_by bus bsy sel me w flip release s b)
time_by_first (OnFreeBus free) bus bsy sel me w flip release now a b = refl
time_by_first (InArbitration x) bus bsy sel me w flip release now a b = refl
time_by_first (InCalling c) bus bsy sel me w flip release now a b = refl
time_by_first (InAnswer c k at) bus bsy sel me w flip release now a b =
    answered_time (c.caller == me.dev) k.reselects k.resumed _ _ _ me now a b
time_by_first (InConnection n) bus bsy sel me w flip release now a b = refl
time_by_first (InReset since) bus bsy sel me w flip release now a b = refl
