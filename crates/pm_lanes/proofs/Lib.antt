mod Closed
mod BusyCalls
mod MissedCalls
mod Names
mod Recovered
mod Causes
mod Stops
mod CountedCalls
pub mod Turns
mod Numbers
mod Headers
mod SoloOpened
