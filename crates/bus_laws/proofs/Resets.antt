-- RST: the rows that raise it, those under it, and the row that releases it (6.2.2).
pub mod Obeys
pub mod Dues
pub mod Rows
pub mod Steps
