-- What is read and written: by sources and sinks, as lines of ids, and by hashing, sealing and checking.
pub mod Streams
pub mod Devices
