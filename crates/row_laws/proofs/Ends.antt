-- Who the two ends of a connection are, and when a target goes to BUS FREE (`ends`, `left`).
pub mod Facts
