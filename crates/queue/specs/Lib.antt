pub mod Below
pub mod Heap
pub mod Queues
pub mod Lent
