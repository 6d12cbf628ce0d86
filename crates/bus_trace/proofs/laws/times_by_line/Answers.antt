use Rattle.bus_trace.proofs.Ages.{since_line_of, line_bsy, line_sel, line_cd, line_io, line_msg, line_req, line_ack}
use Rattle.bus_trace.proofs.Ages.{line_atn, line_rst}
use Rattle.bus_trace.proofs.laws.times_by_line.Goals as goal

pub returns-clause-bsy : goal.returns-clause-bsy
returns-clause-bsy c = since_line_of 9 (λ s. s.bsy) line_bsy

pub returns-clause-sel : goal.returns-clause-sel
returns-clause-sel c = since_line_of 10 (λ s. s.sel) line_sel

pub returns-clause-cd : goal.returns-clause-cd
returns-clause-cd c = since_line_of 11 (λ s. s.cd) line_cd

pub returns-clause-io : goal.returns-clause-io
returns-clause-io c = since_line_of 12 (λ s. s.io) line_io

pub returns-clause-msg : goal.returns-clause-msg
returns-clause-msg c = since_line_of 13 (λ s. s.msg) line_msg

pub returns-clause-req : goal.returns-clause-req
returns-clause-req c = since_line_of 14 (λ s. s.req) line_req

pub returns-clause-ack : goal.returns-clause-ack
returns-clause-ack c = since_line_of 15 (λ s. s.ack) line_ack

pub returns-clause-atn : goal.returns-clause-atn
returns-clause-atn c = since_line_of 16 (λ s. s.atn) line_atn

pub returns-clause-rst : goal.returns-clause-rst
returns-clause-rst c = since_line_of 17 (λ s. s.rst) line_rst
