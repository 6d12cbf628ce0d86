use Rattle.trace_laws.proofs
use proofs.{Names.{obeys_fits, units_are, trace_faithful}, Whole.{whole}}
use Rattle.trace_laws.proofs.laws.limits_are_kept.Goals as goal

pub returns-clause-failures : goal.returns-clause-failures
returns-clause-failures c = λ s rows p code o prompt is failed.
    let w = whole s rows o prompt in
    let true_so = trace_faithful s rows (units_are s (obeys_fits s o)) w.rows_are in
    c.limits_are_passed.ensures.faults s rows p w.complains
    (c.limits_are_passed.ensures.failures s rows p code true_so w.told is failed)

pub returns-clause-losses : goal.returns-clause-losses
returns-clause-losses c = λ s rows p o prompt is lost.
    let w = whole s rows o prompt in
    let true_so = trace_faithful s rows (units_are s (obeys_fits s o)) w.rows_are in
    c.limits_are_passed.ensures.faults s rows p w.complains
    (c.limits_are_passed.ensures.losses s rows p true_so w.told w.left is lost)

pub returns-clause-complains : goal.returns-clause-complains
returns-clause-complains c = λ s rows o prompt. (whole s rows o prompt).complains
