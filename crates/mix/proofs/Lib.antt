pub mod Mixing
mod Stretching
mod Staged
mod StagedByEnvelope
