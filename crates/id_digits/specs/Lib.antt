-- Digits of bytes, and how they are spelled, read and compared.
pub mod Digits
pub mod Letters
