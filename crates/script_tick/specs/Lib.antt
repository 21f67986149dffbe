pub mod Tick
