use Rattle.bus_trace.proofs.Bits.{line_low}
use Rattle.bus_trace.proofs.Ages.{line_bsy, line_sel, line_cd, line_io, line_msg, line_req, line_ack, line_atn}
use Rattle.bus_trace.proofs.Ages.{line_rst}
use Rattle.bus_trace.proofs.laws.lines_by_number.Goals as goal

pub returns-clause-data_lines : goal.returns-clause-data_lines
returns-clause-data_lines c = line_low

pub returns-clause-bsy : goal.returns-clause-bsy
returns-clause-bsy c = line_bsy

pub returns-clause-sel : goal.returns-clause-sel
returns-clause-sel c = line_sel

pub returns-clause-cd : goal.returns-clause-cd
returns-clause-cd c = line_cd

pub returns-clause-io : goal.returns-clause-io
returns-clause-io c = line_io

pub returns-clause-msg : goal.returns-clause-msg
returns-clause-msg c = line_msg

pub returns-clause-req : goal.returns-clause-req
returns-clause-req c = line_req

pub returns-clause-ack : goal.returns-clause-ack
returns-clause-ack c = line_ack

pub returns-clause-atn : goal.returns-clause-atn
returns-clause-atn c = line_atn

pub returns-clause-rst : goal.returns-clause-rst
returns-clause-rst c = line_rst
