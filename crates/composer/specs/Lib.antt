-- What flattening promises: prefixes and flat records, the verdict and the output, what is printed; what its writer is given, the sites that it names, and the survivors that it goes over.
pub mod Flat
pub mod FlatRecords
pub mod Verdicts
pub mod Printed
pub mod Writing
pub mod Fates
pub mod Surviving
