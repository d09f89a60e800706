pub mod Next
pub mod There
pub mod Walking
pub mod Collecting
pub mod Same
pub mod Collected
pub mod Cut
pub mod Known
