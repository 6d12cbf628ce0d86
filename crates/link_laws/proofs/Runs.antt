-- The runs of data are far shorter than the counts of REQ and ACK reach, after any rows.
pub mod Contents
pub mod Lengths
