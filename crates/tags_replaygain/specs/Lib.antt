pub mod ReplayGain
