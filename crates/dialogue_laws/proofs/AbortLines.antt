-- Each abort line is sent, dropped or still to be sent; one that was sent is told, or RST cuts its connection.
pub mod Facts
pub mod Told
