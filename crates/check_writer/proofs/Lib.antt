pub mod Laced
pub mod Packets
pub mod Steps
pub mod Clean
pub mod Instances
