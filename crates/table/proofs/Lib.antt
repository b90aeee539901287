pub mod Bytes
pub mod Columning
pub mod Faults
pub mod Scales
pub mod Order
pub mod Padding
pub mod Admitted
