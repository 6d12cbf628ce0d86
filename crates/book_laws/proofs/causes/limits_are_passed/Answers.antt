use Rattle.book_laws.proofs.Failures.Faults.{faults_are, faults_pass}
use Rattle.book_laws.proofs.Failures.Facts.{failures_are, losses_are}
use Rattle.book_laws.proofs.causes.limits_are_passed.Goals as goal

pub returns-clause-failures : goal.returns-clause-failures
returns-clause-failures c = λ s rows p code f t own h. failures_are s rows p code f t own h

pub returns-clause-losses : goal.returns-clause-losses
returns-clause-losses c = λ s rows p f t l own h. losses_are s rows p f t l own h

pub returns-clause-counted : goal.returns-clause-counted
returns-clause-counted c = λ s rows id h. faults_are s rows id h

pub returns-clause-faults : goal.returns-clause-faults
returns-clause-faults c = λ s rows p h e. faults_pass s rows p h e
