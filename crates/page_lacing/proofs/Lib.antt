pub mod Bodies
