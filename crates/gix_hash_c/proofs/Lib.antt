-- Lemmas of several proofs.
mod CommonPlace
mod Feeding
mod PackKinds
mod Reading
mod Recast
mod Runs
