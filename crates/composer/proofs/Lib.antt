-- The laws of flattening. `Promises` has demand 3 at a glance, `Demand` says it of the call.
pub mod Promises
pub mod Demand
pub mod Lengths
pub mod Characters
pub mod Table
pub mod Verdicts
pub mod Printed
pub mod ByNumber
pub mod Fields
pub mod Surviving
pub mod Writing
pub mod Room
pub mod Joining
pub mod Handed
