mod Jobs
mod Flags
mod Runs
